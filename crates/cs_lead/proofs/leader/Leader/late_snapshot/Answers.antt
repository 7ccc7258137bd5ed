use Rattle.std.proofs.Common.{Option, sym, subst}
use Rattle.std.specs.Option.{IfSome}
use Rattle.cs_item.specs.PictureField.{IsPicture}
use Rattle.cs_item.specs.declared.picture.Picture.{Picture}
use Rattle.cs_lead.proofs.WholePictures.{IsPicture-view}
use Rattle.cs_lead.proofs.leader.Leader.late_snapshot.Goals as goal

-- what the view shows is well formed, as the view is
pub returns-in-Some-clause-allowed : goal.returns-in-Some-clause-allowed
returns-in-Some-clause-allowed c =
    let view = subst IsPicture (sym c.view-2.ensures.value) (IsPicture-view c.args.self.now c.view-2.ensures.keeps) in
    subst (λ (shown : Option Picture). IfSome shown IsPicture) c.in-Some.is (c.in_ok-picture.ensures.well_formed view)
