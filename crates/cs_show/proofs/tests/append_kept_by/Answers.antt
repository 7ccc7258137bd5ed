use Rattle.std.proofs.Common.{sym, ap, ◌∙◌}
use Rattle.cs_item.specs.declared.picture.Picture.{Picture}
use Rattle.cs_tree.specs.Kept.{kept_trees}
use Rattle.cs_show.proofs.tests.append_kept_by.Goals as goal

pub show_kept_by-requires : goal.show_kept_by-requires
show_kept_by-requires c = c.kept.ensures ∙ ap (λ (view : Picture). kept_trees view.summaries view.rolls) (sym c.sight.ensures)
