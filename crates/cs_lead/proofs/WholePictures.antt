-- The leader's view is a well-formed picture.
use Rattle.std.proofs.Common.{sym, subst}
use Rattle.cs_group.specs.Rows.{regions}
use Rattle.cs_item.specs.PictureField.{IsPicture}
use Rattle.cs_projection.proofs.Pictures.{IsPicture-projection}
use Rattle.cs_lead.specs.Kept.{IsLeading}
use Rattle.cs_lead.specs.Leading.{Leading}

pub IsPicture-view : (leader : Leading) → IsLeading leader → IsPicture leader.view
IsPicture-view leader is =
    subst IsPicture (sym is.view)
    (IsPicture-projection leader.group leader.view.epoch (regions leader.group.rows) is.group is.epoch)
