use Rattle.std.proofs.Common.{◌≡◌, ℕ}
use Rattle.cs_base.specs.Ranges.{IsMember}
use Rattle.cs_base.specs.declared.member.Member.{Member}
use Rattle.cs_view.specs.Place.{place_in}
use Rattle.cs_view.proofs.Placed.{is_there, place-id}
use Rattle.cs_view.proofs.WellFormed.{place-well_formed}
use Rattle.cs_view.proofs.laws.place_is_a_member.Goals as goal

-- it was found by its id
pub returns-clause-id : goal.returns-clause-id
returns-clause-id c = λ id view place. is_there (λ (p : ℕ × Member). p.1.id ≡ id) (place_in id view) place (place-id id view)

-- among members that are allowed
pub returns-clause-allowed : goal.returns-clause-allowed
returns-clause-allowed c = λ id view place is. is_there (λ (p : ℕ × Member). IsMember p.1) (place_in id view) place (place-well_formed id view is)
