-- a node has acted: it isn't there, it refuses, something fails, or it does what the machine does
use Rattle.std.proofs.Common.{◌≡◌, ◌∙◌, ℕ, Option, inr, codes, decimal, ◌++◌, IfOk, refl, ap, subst}
use Rattle.std.specs.String.{string_bytes}
use Rattle.cs_link.specs.declared.link.Link.{Ghosts as LinkGhosts}
use Rattle.cs_log.specs.declared.log.Log.{Ghosts as LogGhosts}
use Rattle.cs_node.specs.Placed.{Placed}
use Rattle.cs_show.specs.Text.{ended}
use Rattle.cs_world.specs.Acting.{ActsAt}
use Rattle.cs_world.specs.Answered.{seated_so}
use Rattle.cs_world.specs.Seats.{seats_of}
use Rattle.cs_world.specs.declared.acting.Acted.{Acted}
use Rattle.cs_world.specs.declared.action.Action.{Action}
use Rattle.cs_world.specs.declared.call.Answer.TheVariants.{Noted}
use Rattle.cs_world.specs.declared.seats.Seats.{Seats}
use Rattle.cs_world.proofs.AloneAnswers as alone
use Rattle.cs_world.proofs.Answering.{line-answers, others-count}
use Rattle.cs_world.proofs.Failed.{fine}
use Rattle.cs_world.proofs.Performed.{nobody-acted}
use Rattle.cs_world.proofs.Replies.{TellsNote, armed-answers, back-answers, down-answers, link-counted, log-counted, noted-answers, refused-answers}
use Rattle.cs_world.proofs.Replies.{stop-counted, stopped-answers, torn-answers}
use Rattle.cs_world.proofs.nodes.Nodes.tell_acted.Goals as goal

-- what was answered is what the action was answered
answered : {L G : Type 0} (link : LinkGhosts L) (log : LogGhosts G) (id : ℕ) (action : Action) (before now : Seats (Placed L G))
    (acted said : Option Acted) → acted ≡ said → ActsAt link log id action acted before now → ActsAt link log id action said before now
answered link log id action before now acted said is acts = subst (λ a. ActsAt link log id action a before now) is acts

pub returns-in_default-clause-answers : goal.returns-in_default-clause-answers
returns-in_default-clause-answers g c = λ names before action acts world after stands can happens.
    let now = c.args.self.now in
    let nobody = answered g.L.Link g.G.Log c.args.id action before now.seats c.args.acted _ c.in_default.is acts in
    let was = nobody-acted g.L.Link g.G.Log (seated_so now before) now world c.args.id action after stands refl refl happens nobody refl in
    line-answers g.L.Link g.G.Log now world (codes "no node") c.line.result after was.0 c.line.ensures.text c.line.ensures.memory was.1

pub returns-in-LinkFault-clause-counted : goal.returns-in-LinkFault-clause-counted
returns-in-LinkFault-clause-counted g c = λ before action acts.
    let now = c.args.self.now in
    let done = answered g.L.Link g.G.Log c.args.id action before now.seats c.args.acted _ c.in-Some.is acts in
    inr (link-counted g.L.Link g.G.Log c.args.id action c.in-Some.field-0 before now.seats done c.in-LinkFault.sent
    (c.in-Noted.is ∙ ap Noted c.in-LinkFault.is))

pub returns-in-LogFault-clause-counted : goal.returns-in-LogFault-clause-counted
returns-in-LogFault-clause-counted g c = λ before action acts.
    let now = c.args.self.now in
    let done = answered g.L.Link g.G.Log c.args.id action before now.seats c.args.acted _ c.in-Some.is acts in
    log-counted g.L.Link g.G.Log c.args.id action c.in-Some.field-0 before now.seats done (c.in-Noted.is ∙ ap Noted c.in-LogFault.is)

pub returns-in_default-note-clause-answers : goal.returns-in_default-note-clause-answers
returns-in_default-note-clause-answers g c = λ names before action acts.
    let now = c.args.self.now in
    let done = answered g.L.Link g.G.Log c.args.id action before now.seats c.args.acted _ c.in-Some.is acts in
    noted-answers g.L.Link g.G.Log (seated_so now before) c.tell.new.self now.seats c.args.id action c.in-Some.field-0 done
    c.tell.ensures.seats c.tell.ensures.leader c.tell.ensures.addresses c.tell.result c.in-Noted.note c.in-Noted.is
    (fine c.in-Noted.note c.in_default-note.not-LinkFault c.in_default-note.not-LogFault c.in_default-note.not-Memory)
    (subst (λ t. TellsNote g.L.Link g.G.Log (seated_so now before) c.tell.new.self now.seats t c.args.id c.in-Some.field-0.earlier
    c.in-Noted.note c.tell.result) names (record { text = c.tell.ensures.told; fault = c.tell.ensures.fault }))

pub returns-in_default-note-clause-counted : goal.returns-in_default-note-clause-counted
returns-in_default-note-clause-counted g c = λ before action acts.
    others-count ⊥ (seats_of g.L.Link g.G.Log c.tell.new.self.seats) c.tell.result c.tell.ensures.kind

pub returns-in-Refused-clause-answers : goal.returns-in-Refused-clause-answers
returns-in-Refused-clause-answers g c = λ names before action acts.
    let now = c.args.self.now in
    let done = answered g.L.Link g.G.Log c.args.id action before now.seats c.args.acted _ c.in-Some.is acts in
    refused-answers g.L.Link g.G.Log (seated_so now before) now now.seats c.args.id action c.in-Some.field-0 done refl refl refl c.line-in-Refused.result
    c.in-Refused.refusal c.in-Refused.is refl (c.line-in-Refused.ensures.text, c.line-in-Refused.ensures.memory)

pub returns-in-Torn-clause-answers : goal.returns-in-Torn-clause-answers
returns-in-Torn-clause-answers g c = λ names before action acts.
    let now = c.args.self.now in
    let done = answered g.L.Link g.G.Log c.args.id action before now.seats c.args.acted _ c.in-Some.is acts in
    torn-answers g.L.Link g.G.Log (seated_so now before) now now.seats c.args.id action c.in-Some.field-0 done refl refl refl c.line-in-Torn.result
    c.in-Torn.is refl (c.line-in-Torn.ensures.text, c.line-in-Torn.ensures.memory)

pub returns-in-Down-clause-answers : goal.returns-in-Down-clause-answers
returns-in-Down-clause-answers g c = λ names before action acts.
    let now = c.args.self.now in
    let done = answered g.L.Link g.G.Log c.args.id action before now.seats c.args.acted _ c.in-Some.is acts in
    down-answers g.L.Link g.G.Log (seated_so now before) now now.seats c.args.id action c.in-Some.field-0 done refl refl refl c.number_line.result c.in-Down.is
    refl (
      subst (λ n. IfOk c.number_line.result (λ text. string_bytes text ≡ ended (codes "down " ++ decimal n))) (c.from.ensures ∙ c.get.ensures.value)
          c.number_line.ensures.text,
      c.number_line.ensures.memory,
    )

pub returns-in-Back-clause-answers : goal.returns-in-Back-clause-answers
returns-in-Back-clause-answers g c = λ names before action acts.
    let now = c.args.self.now in
    let done = answered g.L.Link g.G.Log c.args.id action before now.seats c.args.acted _ c.in-Some.is acts in
    back-answers g.L.Link g.G.Log (seated_so now before) now now.seats c.args.id action c.in-Some.field-0 done refl refl refl c.tell_back.result c.in-Back.is
    refl c.tell_back.ensures.word c.tell_back.ensures.memory

pub returns-in-Stopped-clause-answers : goal.returns-in-Stopped-clause-answers
returns-in-Stopped-clause-answers g c = λ names before action acts.
    let now = c.args.self.now in
    let done = answered g.L.Link g.G.Log c.args.id action before now.seats c.args.acted _ c.in-Some.is acts in
    stopped-answers g.L.Link g.G.Log (seated_so now before) now now.seats c.args.id action c.in-Some.field-0 done refl refl refl c.stopped_line.result
    c.in-Stopped.why c.in-Stopped.is c.stopped_line.ensures.log c.stopped_line.ensures.wanting

pub returns-in-Stopped-clause-counted : goal.returns-in-Stopped-clause-counted
returns-in-Stopped-clause-counted g c = λ before action acts.
    let now = c.args.self.now in
    let done = answered g.L.Link g.G.Log c.args.id action before now.seats c.args.acted _ c.in-Some.is acts in
    stop-counted g.L.Link g.G.Log c.args.id action c.in-Some.field-0 before now.seats done c.in-Stopped.why c.stopped_line.result
    c.in-Stopped.is c.stopped_line.ensures.memory c.stopped_line.ensures.log

pub returns-in-Armed-clause-answers : goal.returns-in-Armed-clause-answers
returns-in-Armed-clause-answers g c = λ names before action acts.
    let now = c.args.self.now in
    let done = answered g.L.Link g.G.Log c.args.id action before now.seats c.args.acted _ c.in-Some.is acts in
    armed-answers g.L.Link g.G.Log (seated_so now before) now now.seats c.args.id action c.in-Some.field-0 done refl refl refl c.number_line-in-Armed.result
    c.in-Armed.b c.in-Armed.is refl (c.number_line-in-Armed.ensures.text, c.number_line-in-Armed.ensures.memory)

pub returns-in_default-clause-alone : goal.returns-in_default-clause-alone
returns-in_default-clause-alone g c = λ bytes before action acts.
    let now = c.args.self.now in
    let nobody = answered g.L.Link g.G.Log c.args.id action before now.seats c.args.acted _ c.in_default.is acts in
    alone.nobody-answers g.L.Link g.G.Log (seated_so now before) now now.seats c.args.id action refl c.line.result nobody refl
    (c.line.ensures.text, c.line.ensures.memory)

pub returns-in_default-note-clause-alone : goal.returns-in_default-note-clause-alone
returns-in_default-note-clause-alone g c = λ bytes before action acts.
    let now = c.args.self.now in
    let done = answered g.L.Link g.G.Log c.args.id action before now.seats c.args.acted _ c.in-Some.is acts in
    alone.noted-answers g.L.Link g.G.Log (seated_so now before) c.tell.new.self now.seats c.args.id action c.tell.ensures.seats
    c.tell.result c.in-Some.field-0 done c.in-Noted.note c.in-Noted.is
    (fine c.in-Noted.note c.in_default-note.not-LinkFault c.in_default-note.not-LogFault c.in_default-note.not-Memory)
    (subst (λ t. TellsNote g.L.Link g.G.Log (seated_so now before) c.tell.new.self now.seats t c.args.id c.in-Some.field-0.earlier
    c.in-Noted.note c.tell.result) bytes (record { text = c.tell.ensures.told; fault = c.tell.ensures.fault }))

pub returns-in-Refused-clause-alone : goal.returns-in-Refused-clause-alone
returns-in-Refused-clause-alone g c = λ bytes before action acts.
    let now = c.args.self.now in
    let done = answered g.L.Link g.G.Log c.args.id action before now.seats c.args.acted _ c.in-Some.is acts in
    alone.refused-answers g.L.Link g.G.Log (seated_so now before) now now.seats c.args.id action refl c.line-in-Refused.result
    c.in-Some.field-0 done c.in-Refused.refusal c.in-Refused.is refl (c.line-in-Refused.ensures.text, c.line-in-Refused.ensures.memory)

pub returns-in-Torn-clause-alone : goal.returns-in-Torn-clause-alone
returns-in-Torn-clause-alone g c = λ bytes before action acts.
    let now = c.args.self.now in
    let done = answered g.L.Link g.G.Log c.args.id action before now.seats c.args.acted _ c.in-Some.is acts in
    alone.torn-answers g.L.Link g.G.Log (seated_so now before) now now.seats c.args.id action refl c.line-in-Torn.result
    c.in-Some.field-0 done c.in-Torn.is refl (c.line-in-Torn.ensures.text, c.line-in-Torn.ensures.memory)

pub returns-in-Down-clause-alone : goal.returns-in-Down-clause-alone
returns-in-Down-clause-alone g c = λ bytes before action acts.
    let now = c.args.self.now in
    let done = answered g.L.Link g.G.Log c.args.id action before now.seats c.args.acted _ c.in-Some.is acts in
    alone.down-answers g.L.Link g.G.Log (seated_so now before) now now.seats c.args.id action refl c.number_line.result
    c.in-Some.field-0 done c.in-Down.is refl (
      subst (λ n. IfOk c.number_line.result (λ text. string_bytes text ≡ ended (codes "down " ++ decimal n))) (c.from.ensures ∙ c.get.ensures.value)
          c.number_line.ensures.text,
      c.number_line.ensures.memory,
    )

pub returns-in-Back-clause-alone : goal.returns-in-Back-clause-alone
returns-in-Back-clause-alone g c = λ bytes before action acts.
    let now = c.args.self.now in
    let done = answered g.L.Link g.G.Log c.args.id action before now.seats c.args.acted _ c.in-Some.is acts in
    alone.back-answers g.L.Link g.G.Log (seated_so now before) now now.seats c.args.id action refl c.tell_back.result
    c.in-Some.field-0 done c.in-Back.is refl c.tell_back.ensures.word c.tell_back.ensures.memory

pub returns-in-Stopped-clause-alone : goal.returns-in-Stopped-clause-alone
returns-in-Stopped-clause-alone g c = λ bytes before action acts.
    let now = c.args.self.now in
    let done = answered g.L.Link g.G.Log c.args.id action before now.seats c.args.acted _ c.in-Some.is acts in
    alone.stopped-answers g.L.Link g.G.Log (seated_so now before) now now.seats c.args.id action refl c.stopped_line.result
    c.in-Some.field-0 done c.in-Stopped.why c.in-Stopped.is refl c.stopped_line.ensures.text c.stopped_line.ensures.memory
    c.stopped_line.ensures.log c.stopped_line.ensures.wanting

pub returns-in-Armed-clause-alone : goal.returns-in-Armed-clause-alone
returns-in-Armed-clause-alone g c = λ bytes before action acts.
    let now = c.args.self.now in
    let done = answered g.L.Link g.G.Log c.args.id action before now.seats c.args.acted _ c.in-Some.is acts in
    alone.armed-answers g.L.Link g.G.Log (seated_so now before) now now.seats c.args.id action refl c.number_line-in-Armed.result
    c.in-Some.field-0 done c.in-Armed.b c.in-Armed.is refl (c.number_line-in-Armed.ensures.text, c.number_line-in-Armed.ensures.memory)
