-- What is told to one that asks, by whether it left and whether it is a member.
use Rattle.std.proofs.Common.{◌≡◌, ◌==◌, ℕ, Bool, true, false, IsTrue, ◌↔◌, List, Contains, Option, Some, None, refl, ◌∙◌}
use Rattle.std.specs.Option.{is_some, option_map}
use Rattle.cs_group.specs.Rows.{has_member, row_of}
use Rattle.cs_group.specs.declared.row.Row.{Row}
use Rattle.cs_group.proofs.Known.{not_among}
use Rattle.cs_packet.specs.declared.packet.Body.{Body}
use Rattle.cs_view.proofs.Finding.{is_some-find}
use Rattle.cs_lead.specs.Answers.{to_member}
use Rattle.cs_lead.specs.Leading.{Leading}

-- what a test fails to find isn't there
pub not_found : (found : Bool) (there : Type 0) → (IsTrue found ↔ there) → found ≡ false → ¬ there
not_found found there test failed = λ is. let yes : IsTrue found = test.1 is in cc

-- something is there before a function of it is taken and after
is_some-mapped : {A B : Type 0} (f : A → B) (o : Option A) → is_some (option_map f o) ≡ is_some o
is_some-mapped f None = refl
is_some-mapped f (Some x) = refl

-- members are those that have a region
pub is_some-region : (id : ℕ) (rows : List Row) → is_some (option_map (λ (r : Row). r.region) (row_of id rows)) ≡ has_member id rows
is_some-region id rows =
    is_some-mapped (λ (r : Row). r.region) (row_of id rows) ∙ is_some-find (λ (r : Row). r.member.id == id) rows

module _ (leader : Leading) (asker : ℕ) (body : Option Body) (stays : ¬ (Contains leader.group.retired asker)) where
  -- one that is no member and didn't leave is told nothing
  pub to_member-none : has_member asker leader.group.rows ≡ false → to_member leader asker body ≡ None
  to_member-none absent = rw (not_among leader.group.retired asker stays, absent) refl

  -- a member gets its answer
  pub to_member-body : has_member asker leader.group.rows ≡ true → to_member leader asker body ≡ body
  to_member-body there = rw (not_among leader.group.retired asker stays, there) refl
