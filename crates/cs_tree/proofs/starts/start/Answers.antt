use Rattle.std.proofs.Common.{◌≡◌, ◌∙◌, ap}
use Rattle.cs_base.specs.Ascending.{placed_by}
use Rattle.cs_tree.proofs.EachOnce.{each_once-route}
use Rattle.cs_tree.proofs.Starting.{each_once-none, each_once-put}
use Rattle.cs_tree.specs.Route.{route, target_id}
use Rattle.cs_tree.specs.Start.{root_representative, to_inter_root}
use Rattle.cs_tree.proofs.starts.start.Goals as goal
use Rattle.cs_tree.proofs.starts.start.Goals.{in-Some+in_ok-put, in_default}

-- the root's representative comes first, where there is one
pub returns : goal.returns
returns g c =
    let me = c.args.me in
    let summaries = g.V.Sight.summaries c.args.sight.now in
    let rolls = g.V.Sight.rolls c.args.sight.now in
    let root = to_inter_root me (root_representative c.args.colour summaries) in
    let along = route me summaries rolls c.args.region c.args.colour in
    let once = each_once-route me summaries rolls c.args.region c.args.colour in
    elim c.match-inter_root.branch [
      | in-Some+in_ok-put w ↦
          let put : c.match-inter_root.targets ≡ placed_by target_id w.in-Some.root along =
          w.targets-is ∙ (w.in_ok-put.ensures ∙ ap (placed_by target_id w.in-Some.root) c.in_ok-targets.ensures) in
          each_once-put c.inter_root.result w.in-Some.root root along c.match-inter_root.targets c.inter_root.ensures w.in-Some.is once put
      | in_default w ↦
          each_once-none c.inter_root.result root along c.match-inter_root.targets c.inter_root.ensures w.in_default.is once
          (w.targets-is ∙ c.in_ok-targets.ensures)
    ]
