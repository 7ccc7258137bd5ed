use Rattle.std.proofs.Common.{◌∙◌, ap}
use Rattle.cs_item.specs.declared.picture.Picture.{Picture}
use Rattle.cs_tree.specs.Kept.{kept_trees}
use Rattle.cs_lead.specs.Leading.{Leading}
use Rattle.cs_lead.proofs.leader.Leader.kept.Goals as goal

-- the trees are those of the leader's view
pub returns : goal.returns
returns c =
    c.kept.ensures
    ∙ ap (λ (p : Picture). kept_trees p.summaries p.rolls) (c.deref.ensures ∙ ap (λ (leader : Leading). leader.view) c.self.view_is)
