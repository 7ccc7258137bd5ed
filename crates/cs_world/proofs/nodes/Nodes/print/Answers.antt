-- what the node prints
use Rattle.std.proofs.Common.{◌++◌, codes, sym, ap, ◌∙◌}
use Rattle.std.specs.Option.{option_copied}
use Rattle.cs_show.specs.Text.{ended, text_of}
use Rattle.cs_world.specs.AloneEvents.{printed}
use Rattle.cs_world.proofs.AlonePrints.{nobody-printed, one-printed}
use Rattle.cs_world.proofs.Prints.{node-prints, none-prints}
use Rattle.cs_world.proofs.nodes.Nodes.print.Goals.{in-Some+in_ok-put_process-in-Some, in-None+in_ok-extend_from_slice-in-None}
use Rattle.cs_world.proofs.nodes.Nodes.print.Goals as goal

pub returns-clause-answers : goal.returns-clause-answers
returns-clause-answers g c = λ world stands.
    let code = c.args.self.now in
    elim c.match-get.branch [
      | in-Some+in_ok-put_process-in-Some w ↦ (
        node-prints g.L.Link g.G.Log code world stands c.args.id w.in-Some.process.now
            (sym c.get.ensures ∙ ap option_copied w.in-Some.is) c.match-get.text.items
            (ap (λ text. text.items) w.text-is ∙ w.in_ok-put_process-in-Some.ensures
            ∙ ap (λ front. front ++ text_of (printed w.in-Some.process.now.node)) c.new-text.ensures.items),
        tt,
      )
      | in-None+in_ok-extend_from_slice-in-None w ↦ (
        none-prints g.L.Link g.G.Log code world stands c.args.id (sym c.get.ensures ∙ ap option_copied w.in-None.is)
            c.new-text.result.items w.extend_from_slice.new.self.items c.match-get.text.items c.new-text.ensures.items
            w.in_ok-extend_from_slice-in-None.ensures.items (ap (λ text. text.items) w.text-is),
        tt,
      )
    ]

pub returns-clause-alone : goal.returns-clause-alone
returns-clause-alone g c = λ alone are.
    let code = c.args.self.now in
    elim c.match-get.branch [
      | in-Some+in_ok-put_process-in-Some w ↦
          one-printed g.L.Link g.G.Log code alone are c.args.id w.in-Some.process.now
          (sym c.get.ensures ∙ ap option_copied w.in-Some.is) c.match-get.text.items
          (ap (λ text. text.items) w.text-is ∙ w.in_ok-put_process-in-Some.ensures
          ∙ ap (λ front. front ++ text_of (printed w.in-Some.process.now.node)) c.new-text.ensures.items)
      | in-None+in_ok-extend_from_slice-in-None w ↦
          nobody-printed g.L.Link g.G.Log code alone are c.args.id (sym c.get.ensures ∙ ap option_copied w.in-None.is) c.match-get.text.items
          (ap (λ text. text.items) w.text-is ∙ w.in_ok-extend_from_slice-in-None.ensures.items
          ∙ ap (λ front. front ++ ended (codes "no node")) c.new-text.ensures.items)
    ]
