-- The squares of answers: what a node tells one that asks for a snapshot or for a slice; and the square of a bye.
use Rattle.std.proofs.Common.{◌≡◌, ◌≤◌, ◌==◌, ◌&&◌, ◌∙◌, ℕ, nat_le, Bool, true, false, cond, List, [], ◌∷◌, length, map, Option, Some, None}
use Rattle.std.proofs.Common.{refl, sym, ap, subst, arith, if◌then◌else◌}
use Rattle.std.specs.Option.{option_map, option_or}
use Rattle.std.proofs.lemmas.Bool.{eqb-true}
use Rattle.cs_base.specs.Address.{Address}
use Rattle.cs_base.specs.Ascending.{at_key}
use Rattle.cs_base.specs.declared.change.Change.{Change}
use Rattle.cs_base.specs.declared.change.Mode.{Mode}
use Rattle.cs_core.specs.Asking.{answer as member_answer, late_snapshot as late_values}
use Rattle.cs_core.specs.declared.plan.FollowNote.TheVariants as follow_notes
use Rattle.cs_group.specs.Group.{is_among}
use Rattle.cs_group.specs.Rows.{HasDistinctIds, has_member, regions}
use Rattle.cs_item.specs.declared.picture.Picture.{Picture}
use Rattle.cs_item.specs.declared.slice.Slice.{Slice as SliceValue}
use Rattle.cs_lead.specs.Answers.{answer as leader_answer, to_member}
use Rattle.cs_lead.specs.declared.plan.LeadNote.TheVariants as lead_notes
use Rattle.cs_node.specs.Effects.{effects_of_follower, effects_of_leader}
use Rattle.cs_packet.specs.declared.own.Own.{Own}
use Rattle.cs_packet.specs.declared.packet.Body.{Body}
use Rattle.cs_packet.specs.declared.packet.Body.TheVariants as bodies
use Rattle.cs_slicer.specs.Projection.{known_by}
use Rattle.cs_machine.specs.Answers.{ForSlice, ForSnapshot, Wish, answers, granted, has_node, late_snapshot, leader_grants, or_else}
use Rattle.cs_machine.specs.Answers.{slices_of_leader, used_slice, wish_step}
use Rattle.cs_machine.specs.Contents.{Contents, contents_of, items, slice_at, view_at}
use Rattle.cs_machine.specs.Machine.{bye_comes}
use Rattle.cs_machine.specs.Names.{Name, Slice, Snap, Bye, State, Joining, Following, Leading, Left, Membership, Node, World}
use Rattle.cs_machine.specs.Packets.{body_for}
use Rattle.cs_machine.specs.Reached.{AreRegionsOf, IsReached, IsStarted, StateFits}
use Rattle.cs_machine.specs.Squares.{address_in}
use Rattle.cs_machine.specs.Values.{leader_for, node_for}
use Rattle.cs_machine.proofs.Groups.{AreRegionsOf-regions}
use Rattle.cs_machine.proofs.Projections.{shown-known}
use Rattle.cs_machine.proofs.ReachedGroups.{group_of-there}
use Rattle.cs_machine.proofs.SquareParts.{SquareAt, on_body, quiet-follower, quiet-leader}

-- at a number stands its image, where the key of each image is its number
at_key-images : {T : Type 0} (key : T → ℕ) (f : ℕ → T) → ((n : ℕ) → key (f n) ≡ n) → (k : ℕ) (ns : List ℕ)
    → at_key key k (map f ns) ≡ (if is_among ns k then Some (f k) else None)
at_key-images key f keyed k [] = refl
at_key-images key f keyed k (n ∷ ns) = by_key (n == k) refl (at_key-images key f keyed k ns)
  where
    by_key : (same : Bool) → (n == k) ≡ same → at_key key k (map f ns) ≡ (if is_among ns k then Some (f k) else None)
        → at_key key k (map f (n ∷ ns)) ≡ (if is_among (n ∷ ns) k then Some (f k) else None)
    by_key true e rest = (let same : n ≡ k = eqb-true n k e in rw (keyed n, e) (ap (λ m. Some (f m)) same))
    by_key false e rest = rw (keyed n, e) rest

-- ---- what is told

-- the slice of a region among those that were used, where their epoch is asked for
abbrev slice_values : Contents → ℕ → List ℕ → ℕ → ℕ → Option Body
slice_values c epoch used wanted region =
    if wanted == epoch
    then option_map bodies.Slice (at_key (λ (s : SliceValue). s.part.region) region (map (slice_at c epoch) used)) else None

-- what a node with these known regions and used slices tells, in values
abbrev told : Contents → ℕ → List ℕ → List ℕ → ℕ → Wish → Option Body
told c epoch known used asker (ForSnapshot mode least) = late_values (view_at c epoch known) asker mode least
told c epoch known used asker (ForSlice mode wanted region) =
    option_or (slice_values c epoch used wanted region) (late_values (view_at c epoch known) asker mode wanted)

module _ (c : Contents) (epoch : ℕ) (known used : List ℕ) (are : AreRegionsOf (c.group epoch) known) (distinct : HasDistinctIds (c.group epoch).rows)
    (asker : ℕ) where
  -- a snapshot that is late enough
  late-is : (mode : Mode) (least : ℕ)
      → late_values (view_at c epoch known) asker mode least ≡ option_map (body_for c) (late_snapshot c epoch known asker mode least)
  late-is mode least =
      ap (λ (o : Option Picture). cond (nat_le least epoch) (option_map bodies.Snap o) None) (shown-known (c.group epoch) epoch known are distinct asker mode)
      ∙ go (nat_le least epoch) (has_node (c.group epoch) asker known)
    where
      its : List ℕ
      its = known_by asker mode (c.group epoch).rows known

      go : (late there : Bool)
          → cond late (option_map bodies.Snap (cond there (Some (view_at c epoch its)) None)) None
          ≡ option_map (body_for c) (cond (late && there) (Some (Snap epoch its)) None)
      go true true = refl
      go true false = refl
      go false there = refl

  -- a slice that was used
  slice-is : (wanted region : ℕ) → slice_values c epoch used wanted region ≡ option_map (body_for c) (used_slice epoch used wanted region)
  slice-is wanted region =
      ap (λ (o : Option SliceValue). cond (wanted == epoch) (option_map bodies.Slice o) None)
      (at_key-images (λ (s : SliceValue). s.part.region) (slice_at c epoch) (λ n. refl) region used)
      ∙ go (wanted == epoch) refl (is_among used region)
    where
      go : (same : Bool) → (wanted == epoch) ≡ same → (there : Bool)
          → cond same (option_map bodies.Slice (cond there (Some (slice_at c epoch region)) None)) None
          ≡ option_map (body_for c) (cond (same && there) (Some (Slice wanted region)) None)
      go true e true = ap (λ n. Some (bodies.Slice (slice_at c n region))) (sym (eqb-true wanted epoch e))
      go true e false = refl
      go false e there = refl

  -- so it is with what is granted
  granted-is : (wish : Wish) → told c epoch known used asker wish ≡ option_map (body_for c) (granted c epoch known used asker wish)
  granted-is (ForSnapshot mode least) = late-is mode least
  granted-is (ForSlice mode wanted region) =
      (λ i. option_or (slice-is wanted region i) (late-is mode wanted i)) ∙ go (used_slice epoch used wanted region)
    where
      late : Option Name
      late = late_snapshot c epoch known asker mode wanted

      go : (o : Option Name) → option_or (option_map (body_for c) o) (option_map (body_for c) late) ≡ option_map (body_for c) (or_else o late)
      go None = refl
      go (Some name) = refl

-- what the leader tells, by what it would tell a member
leader-told : (c : Contents) (own : Own) (epoch : ℕ) (pending : List Change) → HasDistinctIds (c.group epoch).rows → (asker : ℕ) (wish : Wish)
    → to_member (leader_for c own epoch pending) asker (told c epoch (regions (c.group epoch).rows) (slices_of_leader c epoch) asker wish)
    ≡ option_map (body_for c) (leader_grants c epoch asker wish)
leader-told c own epoch pending distinct asker wish =
    ap (to_member (leader_for c own epoch pending) asker)
    (granted-is c epoch (regions (c.group epoch).rows) (slices_of_leader c epoch) (AreRegionsOf-regions (c.group epoch)) distinct asker wish)
    ∙ go (is_among (c.group epoch).retired asker) (has_member asker (c.group epoch).rows)
  where
    grants : Option Name
    grants = granted c epoch (regions (c.group epoch).rows) (slices_of_leader c epoch) asker wish

    go : (left here : Bool)
        → cond left (Some (bodies.Bye epoch)) (cond here (option_map (body_for c) grants) None)
        ≡ option_map (body_for c) (cond left (Some (Bye epoch)) (cond here grants None))
    go true here = refl
    go false true = refl
    go false false = refl

-- ---- squares

-- what one says that wants something
abbrev pub asking : Address → Wish → Body
asking addr (ForSnapshot mode least) = bodies.Ask addr mode least
asking addr (ForSlice mode epoch region) = bodies.Need addr mode epoch region

module _ (world : World) (c : Contents) (own : Own) (asker : ℕ) (addr : Address) (there : address_in world asker ≡ Some addr) where
  -- a member tells a name, or nothing
  member-answers : (state : State) (o : Option Name)
      → SquareAt world c own state (answers state asker o) (effects_of_follower (member_answer own addr asker (option_map (body_for c) o)))
  member-answers state None = quiet-follower world c own state follow_notes.Silent
  member-answers state (Some name) = record { note = refl; entry = refl; after = refl; sends = (record { address = there; packet = refl }, tt) }

  -- and so does the leader
  leader-answers : (epoch : ℕ) (pending : List Change) (o : Option Name)
      → SquareAt world c own (Leading epoch pending) (answers (Leading epoch pending) asker o)
      (effects_of_leader (leader_answer (leader_for c own epoch pending) addr asker (option_map (body_for c) o)))
  leader-answers epoch pending None = quiet-leader world c own (Leading epoch pending) lead_notes.Silent
  leader-answers epoch pending (Some name) =
      record { note = refl; entry = refl; after = refl; sends = (record { address = there; packet = refl }, tt) }

  -- what a member answers
  member-wish : (m : Membership) → AreRegionsOf (c.group m.epoch) m.known → HasDistinctIds (c.group m.epoch).rows → (wish : Wish)
      → SquareAt world c own (Following m) (wish_step c (Following m) asker wish)
      (effects_of_follower (member_answer own addr asker (told c m.epoch m.known m.used asker wish)))
  member-wish m are distinct wish =
      subst (λ (o : Option Body). SquareAt world c own (Following m) (wish_step c (Following m) asker wish)
      (effects_of_follower (member_answer own addr asker o)))
      (sym (granted-is c m.epoch m.known m.used are distinct asker wish))
      (member-answers (Following m) (granted c m.epoch m.known m.used asker wish))

  -- what the leader answers
  leader-wish : (epoch : ℕ) (pending : List Change) → HasDistinctIds (c.group epoch).rows → (wish : Wish)
      → SquareAt world c own (Leading epoch pending) (wish_step c (Leading epoch pending) asker wish)
      (effects_of_leader (leader_answer (leader_for c own epoch pending) addr asker
      (to_member (leader_for c own epoch pending) asker (told c epoch (regions (c.group epoch).rows) (slices_of_leader c epoch) asker wish))))
  leader-wish epoch pending distinct wish =
      subst (λ (o : Option Body). SquareAt world c own (Leading epoch pending) (wish_step c (Leading epoch pending) asker wish)
      (effects_of_leader (leader_answer (leader_for c own epoch pending) addr asker o)))
      (sym (leader-told c own epoch pending distinct asker wish)) (leader-answers epoch pending (leader_grants c epoch asker wish))

-- a bye
pub bye-square : (world : World) (c : Contents) (own : Own) (state : State) (from epoch : ℕ)
    → SquareAt world c own state (bye_comes state epoch) (on_body (node_for c own state) from (bodies.Bye epoch))
bye-square world c own Joining from epoch = record { note = refl; entry = refl; after = refl; sends = tt }
bye-square world c own (Following m) from epoch = record { note = refl; entry = refl; after = refl; sends = tt }
bye-square world c own (Leading have pending) from epoch = quiet-leader world c own (Leading have pending) lead_notes.Idle
bye-square world c own Left from epoch = record { note = refl; entry = refl; after = refl; sends = tt }

module _ (world : World) (reached : IsReached world) (node : Node) (is : IsStarted world node) (asker : ℕ) (addr : Address)
    (there : address_in world asker ≡ Some addr) where
  abbrev own : Own
  own = node.own

  abbrev c : Contents
  c = contents_of world

  -- the members of a group so far are distinct
  distinct : (epoch : ℕ) → epoch ≤ length (items world) → HasDistinctIds (c.group epoch).rows
  distinct epoch so_far = (group_of-there world reached is.leader epoch is.led so_far).1.group.staffed.distinct

  -- a request that comes to a node in a state
  pub wish-square : (state : State) → StateFits world own state → (wish : Wish)
      → SquareAt world c own state (wish_step c state asker wish) (on_body (node_for c own state) asker (asking addr wish))
  wish-square Joining fits (ForSnapshot mode least) = quiet-follower world c own Joining follow_notes.Idle
  wish-square Joining fits (ForSlice mode epoch region) = quiet-follower world c own Joining follow_notes.Idle
  wish-square (Following m) fits (ForSnapshot mode least) =
      member-wish world c own asker addr there m fits.known (distinct m.epoch fits.epoch) (ForSnapshot mode least)
  wish-square (Following m) fits (ForSlice mode epoch region) =
      member-wish world c own asker addr there m fits.known (distinct m.epoch fits.epoch) (ForSlice mode epoch region)
  wish-square (Leading epoch pending) fits (ForSnapshot mode least) =
      let last = fits.last in
      leader-wish world c own asker addr there epoch pending (distinct epoch (omega (arith, last))) (ForSnapshot mode least)
  wish-square (Leading epoch pending) fits (ForSlice mode wanted region) =
      let last = fits.last in
      leader-wish world c own asker addr there epoch pending (distinct epoch (omega (arith, last))) (ForSlice mode wanted region)
  wish-square Left fits (ForSnapshot mode least) = record { note = refl; entry = refl; after = refl; sends = tt }
  wish-square Left fits (ForSlice mode epoch region) = record { note = refl; entry = refl; after = refl; sends = tt }
