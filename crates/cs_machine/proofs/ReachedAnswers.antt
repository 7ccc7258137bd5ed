-- A request and a bye that come to a node keep what every reached world has: what the node answers stands, is well formed,
-- and goes to a node that is there.
use Rattle.std.proofs.Common.{◌≡◌, ℕ, ◌-◌, ◌≤◌, ◌<◌, ◌==◌, ◌&&◌, nat_le, true, cond, List, [], length, Option, Some, None, IfSome}
use Rattle.std.proofs.Common.{refl, sym, ap, subst, ◌∙◌, arith}
use Rattle.std.proofs.lemmas.Bool.{and_parts, cond_both, eqb-false, eqb-true, false≢true}
use Rattle.cs_base.specs.declared.change.Mode.{Mode}
use Rattle.cs_group.specs.Group.{GroupState, is_among}
use Rattle.cs_group.specs.Rows.{has_member, regions}
use Rattle.cs_group.proofs.Known.{among-holds}
use Rattle.cs_node.specs.declared.note.Note.TheVariants as notes
use Rattle.cs_packet.specs.BodyField.{IsBody}
use Rattle.cs_packet.specs.declared.own.Own.{Own}
use Rattle.cs_slicer.specs.Projection.{known_by}
use Rattle.cs_machine.specs.Answers.{ForSlice, ForSnapshot, Wish, answers, granted, has_node, late_snapshot, leader_grants, or_else}
use Rattle.cs_machine.specs.Answers.{slices_of_leader, used_slice, wish_step}
use Rattle.cs_machine.specs.Contents.{Contents, contents_of, group_of, items}
use Rattle.cs_machine.specs.Machine.{bye_comes, leaves_at}
use Rattle.cs_machine.specs.Names.{Name, Slice, Snap, Bye, State, Joining, Following, Leading, Left, Node, World, leader_of, node_of}
use Rattle.cs_machine.specs.Packets.{body_for}
use Rattle.cs_machine.specs.Reached.{AreRegionsOf, AreUsed, IsReached, IsStarted, NameStands, StateFits}
use Rattle.cs_machine.proofs.Groups.{AreRegionsOf-known_by, AreRegionsOf-regions, has_node-known_by}
use Rattle.cs_machine.proofs.ReachedSlices.{IsPicture-there, IsSlice-there}
use Rattle.cs_machine.proofs.ReachedSteps.{IsQuiet, IsQuiet-stays}
use Rattle.cs_machine.proofs.ReachedTargets.{IsSent-to}

-- a name can be the answer to one that asks: it stands, and its body is well formed
pub record IsAnswer (world : World) (from asker : ℕ) (name : Name) : Type 0 where
  pub stands : NameStands world from asker name
  pub body : IsBody (body_for (contents_of world) name)

-- what holds of two names that may be there holds of the first of them that is
or_else-holds : (P : Name → Type 0) (first rest : Option Name) → IfSome first P → IfSome rest P → IfSome (or_else first rest) P
or_else-holds P None rest holds later = later
or_else-holds P (Some name) rest holds later = holds

module _ (world : World) (reached : IsReached world) (leader : Node) (leads : leader_of world ≡ Some leader) (from asker : ℕ) where
  abbrev c : Contents
  c = contents_of world

  -- what may be answered can be
  abbrev CanBe : Option Name → Type 0
  CanBe o = IfSome o (IsAnswer world from asker)

  -- a snapshot of a group's regions can, where one of these has the asker
  IsAnswer-snapshot : (epoch : ℕ) (known : List ℕ) (mode : Mode) → epoch ≤ length (items world) → AreRegionsOf (group_of world epoch) known
      → has_node (group_of world epoch) asker known ≡ true
      → IsAnswer world from asker (Snap epoch (known_by asker mode (group_of world epoch).rows known))
  IsAnswer-snapshot epoch known mode so_far are there =
      let group : GroupState = group_of world epoch in
      record {
        stands = record {
          begun = so_far;
          regions = AreRegionsOf-known_by group asker mode known are;
          there = has_node-known_by asker group mode known there;
        };
        body = IsPicture-there world reached leader leads epoch (known_by asker mode group.rows known) so_far;
      }

  -- so can one that is late enough
  CanBe-late : (epoch : ℕ) (known : List ℕ) (mode : Mode) (least : ℕ) → epoch ≤ length (items world) → AreRegionsOf (group_of world epoch) known
      → CanBe (late_snapshot c epoch known asker mode least)
  CanBe-late epoch known mode least so_far are =
      let group : GroupState = group_of world epoch in
      cond_both (nat_le least epoch && has_node group asker known) (Some (Snap epoch (known_by asker mode group.rows known))) None CanBe
      (λ both. IsAnswer-snapshot epoch known mode so_far are (and_parts (nat_le least epoch) (has_node group asker known) both).1) (λ _. tt)

  -- a slice by which nodes came to an epoch can
  IsAnswer-slice : (epoch : ℕ) (used : List ℕ) (region : ℕ) → epoch ≤ length (items world) → AreUsed world epoch used → is_among used region ≡ true
      → IsAnswer world from asker (Slice epoch region)
  IsAnswer-slice epoch used region so_far are there =
      let later : 0 < epoch = are.later (λ none. false≢true (ap (λ ns. is_among ns region) (sym none) ∙ there)) in
      let of_group = among-holds (λ n. is_among (regions (group_of world (epoch - 1)).rows) n ≡ true) region used are.regions.there there in
      record {
        stands = record { later = later; begun = so_far; there = of_group };
        body = IsSlice-there world reached leader leads epoch region later so_far of_group;
      }

  -- so can one that is asked for
  CanBe-used : (epoch : ℕ) (used : List ℕ) (wanted region : ℕ) → epoch ≤ length (items world) → AreUsed world epoch used
      → CanBe (used_slice epoch used wanted region)
  CanBe-used epoch used wanted region so_far are =
      cond_both ((wanted == epoch) && is_among used region) (Some (Slice wanted region)) None CanBe
      (λ both.
      let parts = and_parts (wanted == epoch) (is_among used region) both in
      subst (λ e. IsAnswer world from asker (Slice e region)) (sym (eqb-true wanted epoch parts.0))
      (IsAnswer-slice epoch used region so_far are parts.1)) (λ _. tt)

  -- what is granted by known regions and used slices can
  CanBe-granted : (epoch : ℕ) (known used : List ℕ) (wish : Wish) → epoch ≤ length (items world) → AreRegionsOf (group_of world epoch) known
      → AreUsed world epoch used → CanBe (granted c epoch known used asker wish)
  CanBe-granted epoch known used (ForSnapshot mode least) so_far are are_used = CanBe-late epoch known mode least so_far are
  CanBe-granted epoch known used (ForSlice mode wanted region) so_far are are_used =
      or_else-holds (IsAnswer world from asker) (used_slice epoch used wanted region) (late_snapshot c epoch known asker mode wanted)
      (CanBe-used epoch used wanted region so_far are_used) (CanBe-late epoch known mode wanted so_far are)

  -- the slices of the leader are of regions of the group before
  AreUsed-leader : (epoch : ℕ) → AreUsed world epoch (slices_of_leader c epoch)
  AreUsed-leader epoch =
      let before : GroupState = group_of world (epoch - 1) in
      cond_both (epoch == 0) [] (regions before.rows) (AreUsed world epoch)
      (λ _. record { later = λ some. absurd (some refl); regions = record { ascending = tt; there = tt } })
      (λ other. (let later = eqb-false epoch 0 other in record { later = λ some. omega (arith, later); regions = AreRegionsOf-regions before }))

  -- so what the leader grants can be answered
  CanBe-leader : (epoch : ℕ) (wish : Wish) → epoch ≤ length (items world) → CanBe (leader_grants c epoch asker wish)
  CanBe-leader epoch wish so_far =
      let group : GroupState = group_of world epoch in
      let told : Option Name = granted c epoch (regions group.rows) (slices_of_leader c epoch) asker wish in
      cond_both (is_among group.retired asker) (Some (Bye epoch)) (cond (has_member asker group.rows) told None) CanBe
      (λ _. record { stands = so_far; body = (omega arith, omega (arith, so_far, reached.epochs)) })
      (λ _. cond_both (has_member asker group.rows) told None CanBe
      (λ _. CanBe-granted epoch (regions group.rows) (slices_of_leader c epoch) wish so_far (AreRegionsOf-regions group) (AreUsed-leader epoch))
      (λ _. tt))

module _ (world : World) (reached : IsReached world) where
  -- ---- byes

  -- a node that is told so leaves
  IsQuiet-leaves_at : (own : Own) (state : State) (epoch : ℕ) → epoch ≤ length (items world) → IsQuiet world own state (leaves_at epoch)
  IsQuiet-leaves_at own state epoch so_far = record {
    no_items = refl;
    state = tt;
    entry = (record { fits = tt; formed = (omega arith, omega (arith, so_far, reached.epochs)) }, tt);
    lasts = refl;
    rises = λ n at. tt;
    sends = tt;
  }

  -- a bye comes to a node in a state
  pub IsQuiet-bye : (own : Own) (state : State) (epoch : ℕ) → epoch ≤ length (items world) → StateFits world own state
      → IsQuiet world own state (bye_comes state epoch)
  IsQuiet-bye own Joining epoch so_far fits = IsQuiet-leaves_at own Joining epoch so_far
  IsQuiet-bye own (Following m) epoch so_far fits = IsQuiet-leaves_at own (Following m) epoch so_far
  IsQuiet-bye own (Leading have pending) epoch so_far fits = IsQuiet-stays world own (Leading have pending) notes.Idle fits
  IsQuiet-bye own Left epoch so_far fits = IsQuiet-stays world own Left notes.Departed tt

  -- ---- requests

  module _ (node : Node) (is : IsStarted world node) (asker : ℕ) (there : Node) (found : node_of world asker ≡ Some there) where
    -- a node answers what can be answered
    IsQuiet-answers : (state : State) (o : Option Name) → StateFits world node.own state → IfSome o (IsAnswer world node.own.id asker)
        → IsQuiet world node.own state (answers state asker o)
    IsQuiet-answers state None fits can = IsQuiet-stays world node.own state notes.Silent fits
    IsQuiet-answers state (Some name) fits can = record {
      no_items = refl;
      state = fits;
      entry = tt;
      lasts = refl;
      rises = λ n at. at;
      sends = (IsSent-to world reached node.own.id asker name there is.allowed.id found can.stands can.body, tt);
    }

    -- a request comes to it in a state, from another that is there
    pub IsQuiet-wish : (state : State) (wish : Wish) → StateFits world node.own state
        → IsQuiet world node.own state (wish_step (contents_of world) state asker wish)
    IsQuiet-wish Joining wish fits = IsQuiet-stays world node.own Joining notes.Idle tt
    IsQuiet-wish (Following m) wish fits =
        IsQuiet-answers (Following m) (granted (contents_of world) m.epoch m.known m.used asker wish) fits
        (CanBe-granted world reached is.leader is.led node.own.id asker m.epoch m.known m.used wish fits.epoch fits.known fits.used)
    IsQuiet-wish (Leading epoch pending) wish fits =
        let last = fits.last in
        IsQuiet-answers (Leading epoch pending) (leader_grants (contents_of world) epoch asker wish) fits
        (CanBe-leader world reached is.leader is.led node.own.id asker epoch wish (omega (arith, last)))
    IsQuiet-wish Left wish fits = IsQuiet-stays world node.own Left notes.Departed tt
