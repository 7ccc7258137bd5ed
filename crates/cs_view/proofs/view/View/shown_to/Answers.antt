use Rattle.std.proofs.Common.{◌≡◌, ◌∙◌, ℕ, List, Option, Some, IsSome, MatchOption, sym, ap, subst}
use Rattle.std.specs.Prelude.{⊤}
use Rattle.std.specs.Option.{option_copied}
use Rattle.cs_base.specs.declared.member.Member.{Member}
use Rattle.cs_roll.specs.Sight.{at_region}
use Rattle.cs_view.specs.View.{holder}
use Rattle.cs_view.proofs.Holders.{known-rolls_for}
use Rattle.cs_view.proofs.view.View.shown_to.Goals as goal

-- the region is that of a known roll
pub picture-requires : goal.picture-requires
picture-requires c =
    let id = c.args.id in
    let rolls = c.args.self.now.rolls in
    let pair : ℕ × List Member = c.in-Some.field-0.now in
    let found : holder id rolls ≡ Some pair = sym c.holder.ensures ∙ ap option_copied c.in-Some.is in
    subst (λ (only : Option ℕ). MatchOption only ⊤ (λ region. IsSome (at_region region rolls))) (sym c.rolls_for.ensures)
    (known-rolls_for id c.args.mode rolls pair found)
