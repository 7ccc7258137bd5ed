-- A step that was told answers what the machine's step leads to, or more would be sent than a run may send.
use Rattle.std.proofs.Common.{◌≡◌, ◌<◌, [], Some, Result, Ok, Err, IfOk, IfErr, refl, sym, subst}
use Rattle.std.specs.String.{string_bytes}
use Rattle.std.specs.declared.string.String.{String}
use Rattle.cs_base.specs.Limits.{most_sent}
use Rattle.cs_link.specs.declared.link.Link.{Ghosts as LinkGhosts}
use Rattle.cs_log.specs.declared.log.Log.{Ghosts as LogGhosts}
use Rattle.cs_node.specs.Calls.{Ends, GoesOn}
use Rattle.cs_node.specs.Posting.{AreSent, datagrams_of}
use Rattle.cs_node.specs.declared.effects.Effects.{Effects}
use Rattle.cs_show.specs.Text.{text_of}
use Rattle.cs_machine.specs.Contents.{contents_of}
use Rattle.cs_machine.specs.Lines.{note_lines}
use Rattle.cs_machine.specs.Names.{Node, State, World, node_of}
use Rattle.cs_machine.specs.Outcome.{committed, took}
use Rattle.cs_machine.specs.Reached.{IsReached}
use Rattle.cs_machine.specs.Squares.{StandsForStep}
use Rattle.cs_machine.specs.Step.{Step}
use Rattle.cs_machine.specs.Values.{node_for}
use Rattle.cs_world.specs.Posting.{IsPostFault, Posts}
use Rattle.cs_world.specs.Processes.{Parts, parts_of}
use Rattle.cs_world.specs.Stands.{Answers, IsLimitOf, NodeStands, Stands}
use Rattle.cs_world.specs.declared.fault.WorldFault.{WorldFault}
use Rattle.cs_world.specs.declared.fault.WorldFault.TheVariants.{Limit, Link, Log, Memory}
use Rattle.cs_world.specs.declared.nodes.Nodes.{Nodes}
use Rattle.cs_world.specs.declared.telling.Telling.TheVariants.{Names}
use Rattle.cs_world.proofs.Changed.{HasPut}
use Rattle.cs_world.proofs.Stepped.{stepped-stands}
use Rattle.cs_world.proofs.Told.{step-bytes, step-text, step-traffic}

module _ {L G : Type 0} (link : LinkGhosts L) (log : LogGhosts G) (code later : Nodes L G) (world : World) (node : Node) (state : State)
    (step : Step) (effects : Effects) (stands : Stands link log code world) (found : node_of world node.own.id ≡ Some node)
    (whole : node.tail ≡ []) (for_step : StandsForStep world node state step effects) (reached : IsReached (committed world node step))
    (old : Parts) (ends : Ends) (stood : NodeStands world node old) (put : HasPut link log code later node.own.id (parts_of ends))
    (goes : GoesOn (node_for (contents_of world) node.own state) effects old.log ends)
    (sent : AreSent (datagrams_of effects.sends) old.link ends.link) where
  -- a fault of posting for the limit is one of the event
  limit : (fault : WorldFault) → IsPostFault code.traffic effects.sends fault → IsLimitOf (committed world node step) fault
  limit Limit beyond =
      subst (λ n. most_sent < n)
      (sym (step-bytes world node state step effects code.traffic stands.traffic stands.reached found for_step reached)) beyond
  limit Link none = absurd none
  limit Log none = absurd none
  limit Memory any = tt

  -- so what was told answers
  pub step-answers : {A : Type 0} (result : Result (String A) WorldFault)
      → IfOk result (λ text. Posts Names effects.sends code.traffic later.traffic (text_of (note_lines effects.note)) (string_bytes text))
      → IfErr result (IsPostFault code.traffic effects.sends) → Answers link log later (took world node step) result
  step-answers (Ok text) posts fault = (
    let traffic = code.traffic in
        record {
          text = step-text world node state step effects traffic stands.traffic stands.reached found for_step reached later.traffic []
              (text_of (note_lines effects.note)) (string_bytes text) refl posts;
          stands = stepped-stands link log code later world node state step effects stands found whole for_step reached old ends stood put
              goes sent
              (step-traffic world node state step effects traffic stands.traffic stands.reached found for_step reached later.traffic
              (text_of (note_lines effects.note)) (string_bytes text) posts);
        },
    tt,
  )
  step-answers (Err fault) posts is = (tt, limit fault is)
