use Rattle.std.proofs.Common.{◌≡◌, ◌∙◌, ℕ, Option, IfSome, sym, ap, subst}
use Rattle.cs_base.specs.Ranges.{IsMember}
use Rattle.cs_base.specs.declared.member.Member.{Member}
use Rattle.cs_view.specs.Place.{place_in_globals, place_in_rolls}
use Rattle.cs_view.proofs.Placed.{allowed-in_globals, allowed-in_rolls, id-in_globals, id-in_rolls, is_there}
use Rattle.cs_view.proofs.view.View.place.Goals as goal

-- it stands in a known roll
pub returns-in-Some-clause-id : goal.returns-in-Some-clause-id
returns-in-Some-clause-id c =
    let rolls = c.as_slice-rolls.result.now in
    is_there (λ (place : ℕ × Member). place.1.id ≡ c.args.id) (place_in_rolls c.args.id rolls) c.in-Some.place (id-in_rolls c.args.id rolls)
    (sym c.in-Some.ensures)

pub returns-in-Some-clause-allowed : goal.returns-in-Some-clause-allowed
returns-in-Some-clause-allowed c =
    let rolls = c.self.inside.picture.rolls in
    is_there (λ (place : ℕ × Member). IsMember place.1) (place_in_rolls c.args.id rolls) c.in-Some.place
    (allowed-in_rolls c.args.id rolls c.as_slice-rolls.ensures.allowed)
    (sym (c.in-Some.ensures ∙ ap (place_in_rolls c.args.id) c.as_slice-rolls.ensures.value))

-- it stands among globals
pub returns-in-None-clause-id : goal.returns-in-None-clause-id
returns-in-None-clause-id c =
    subst (λ (found : Option (ℕ × Member)). IfSome found (λ (place : ℕ × Member). place.1.id ≡ c.args.id)) (sym c.place_in_globals.ensures)
    (id-in_globals c.args.id c.as_slice-summaries.result.now)

pub returns-in-None-clause-allowed : goal.returns-in-None-clause-allowed
returns-in-None-clause-allowed c =
    let summaries = c.self.inside.picture.summaries in
    subst (λ (found : Option (ℕ × Member)). IfSome found (λ (place : ℕ × Member). IsMember place.1))
    (sym (c.place_in_globals.ensures ∙ ap (place_in_globals c.args.id) c.as_slice-summaries.ensures.value))
    (allowed-in_globals c.args.id summaries c.as_slice-summaries.ensures.allowed)
