use Rattle.std.proofs.Common.{◌≡◌, IfOk, sym, ap, ◌∙◌, subst}
use Rattle.std.specs.String.{string_bytes}
use Rattle.cs_script.specs.Spelling.{spelling}
use Rattle.cs_script.proofs.Texts.{lead-text, boot-text, move-text}
use Rattle.cs_script.proofs.printing.event_text.Goals as goal

pub returns-in-Lead : goal.returns-in-Lead
returns-in-Lead c =
    let arm = c.in-Lead in
    subst (λ t. IfOk c.format.result (λ text. string_bytes text ≡ t)) (lead-text arm.id arm.addr arm.at ∙ ap spelling (sym arm.is))
    c.format.ensures.ok

pub returns-in-Boot : goal.returns-in-Boot
returns-in-Boot c =
    let arm = c.in-Boot in
    let text = boot-text arm.id arm.addr arm.at arm.mode c.mode_word-mode.result.now c.mode_word-mode.ensures in
    subst (λ t. IfOk c.format-in-Boot.result (λ text. string_bytes text ≡ t)) (text ∙ ap spelling (sym arm.is)) c.format-in-Boot.ensures.ok

pub returns-in-Move : goal.returns-in-Move
returns-in-Move c =
    let arm = c.in-Move in
    subst (λ t. IfOk c.format-in-Move.result (λ text. string_bytes text ≡ t)) (move-text arm.id arm.at ∙ ap spelling (sym arm.is))
    c.format-in-Move.ensures.ok
