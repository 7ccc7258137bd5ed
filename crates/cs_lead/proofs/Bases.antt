-- A base of a group that a leader leads: it can be logged, and gives that group again.
use Rattle.std.proofs.Common.{◌≡◌, ℕ, ◌≤◌, ◌==◌, ◌||◌, Bool, true, false, not, List, [], ◌∷◌, length, refl, sym, ap, arith}
use Rattle.std.specs.List.{AllByRecursion, list_all}
use Rattle.std.proofs.lemmas.Bool.{and_parts, eqb-false, eqb-true}
use Rattle.cs_base.specs.declared.change.Change.{Change}
use Rattle.cs_base.specs.declared.member.Member.{Member}
use Rattle.cs_fields.specs.Changes.{IsChanges}
use Rattle.cs_fields.specs.Fields.{IsLaterEpoch}
use Rattle.cs_group.specs.Group.{GroupState, IsGroup, state_of}
use Rattle.cs_group.specs.Led.{HasAsItIs, IsLedBy}
use Rattle.cs_group.specs.Rows.{has_member}
use Rattle.cs_group.specs.declared.row.Row.{Row}
use Rattle.cs_packet.specs.EntryField.{IsEntry}
use Rattle.cs_packet.specs.declared.entry.Entry.TheVariants.{Base}
use Rattle.cs_roll.specs.Same.{is_same_member}
use Rattle.cs_roll.proofs.Same.{Decides-member}
use Rattle.cs_lead.specs.Resume.{has_as_it_is}

-- a group has a row
some_row : (leader : ℕ) (rows : List Row) → has_member leader rows ≡ true → 1 ≤ length rows
some_row leader [] some = absurd (let e = some in cc)
some_row leader (r ∷ rs) some = omega arith

-- the test of a row says what it has
pub has-from_test : (me : Member) (r : Row) → has_as_it_is me r ≡ true → HasAsItIs me r
has-from_test me r passes same = by (r.member.id == me.id) refl passes
  where
    by : (b : Bool) → (r.member.id == me.id) ≡ b → (not b || is_same_member r.member me) ≡ true → r.member ≡ me
    by true is e = (Decides-member r.member me).0 e
    by false is e = absurd (let other = eqb-false r.member.id me.id is in other same)

test-from_has : (me : Member) (r : Row) → HasAsItIs me r → has_as_it_is me r ≡ true
test-from_has me r has = by (r.member.id == me.id) refl
  where
    by : (b : Bool) → (r.member.id == me.id) ≡ b → (not b || is_same_member r.member me) ≡ true
    by true is = (Decides-member r.member me).1 (has (eqb-true r.member.id me.id is))
    by false is = refl

-- and so of all rows
pub all-from_test : (me : Member) (rows : List Row) → list_all (has_as_it_is me) rows ≡ true → AllByRecursion (HasAsItIs me) rows
all-from_test me [] passes = tt
all-from_test me (r ∷ rs) passes =
    let parts = and_parts (has_as_it_is me r) (list_all (has_as_it_is me) rs) passes in
    (has-from_test me r parts.0, all-from_test me rs parts.1)

pub test-from_all : (me : Member) (rows : List Row) → AllByRecursion (HasAsItIs me) rows → list_all (has_as_it_is me) rows ≡ true
test-from_all me [] all = refl
test-from_all me (r ∷ rs) all = rw (test-from_has me r all.0) (test-from_all me rs all.1)

-- the parts of the group are the group
pub group-again : (me : Member) (g : GroupState) → IsLedBy me g → state_of me.id g.rows g.next_region g.retired ≡ g
group-again me g led = ap (λ (leader : ℕ). state_of leader g.rows g.next_region g.retired) (sym led.leader)

-- a base of it is well formed
pub IsEntry-base : (me : Member) (g : GroupState) (epoch : ℕ) (changes : List Change) → IsGroup g → IsLedBy me g → IsLaterEpoch epoch → IsChanges 0 changes
    → IsEntry (Base epoch g.next_region g.retired g.rows changes)
IsEntry-base me g epoch changes is led later are =
    let staffed = is.staffed in (
      later,
      (omega arith, omega (arith, is.next_number)),
      record {
        enough = omega arith;
        few = omega (arith, staffed.few_together);
        allowed = led.retired;
        ascending = staffed.retired_ascend;
      },
      record {
        some = some_row g.leader g.rows staffed.leader_there;
        few = staffed.few_members;
        allowed = staffed.allowed;
        in_order = staffed.in_order;
      },
      are,
    )
