-- The region of a member is the only one that has it, and the view of a whole group shows that region.
use Rattle.std.proofs.Common.{◌≡◌, ◌≢◌, ◌==◌, ◌&&◌, ◌||◌, ℕ, Bool, true, false, List, [], ◌∷◌, map, Option, Some, None, refl, sym, ap, subst, ◌∙◌}
use Rattle.std.specs.List.{filter, find}
use Rattle.std.specs.Option.{IsSome, is_some, option_map, option_to_list}
use Rattle.std.proofs.Math.Bool.{or-false}
use Rattle.std.proofs.lemmas.Bool.{and_parts, and_right, cond-true, eq-eqb, eqb-true, ne_eqb, or_left}
use Rattle.std.proofs.lemmas.Option.{same_Some}
use Rattle.cs_base.specs.Address.{Address}
use Rattle.cs_base.specs.Ascending.{IsAscending}
use Rattle.cs_base.specs.declared.change.Mode.TheVariants.{Partial}
use Rattle.cs_base.specs.declared.member.Member.{Member}
use Rattle.cs_base.proofs.Ascending.{IsAscendingBy-filter}
use Rattle.cs_base.proofs.Elements.{All-find, All-weaker}
use Rattle.cs_group.specs.Group.{GroupState, IsGroup, is_among}
use Rattle.cs_group.specs.Rows.{HasDistinctIds, has_member, members_in, regions, row_of}
use Rattle.cs_group.specs.declared.row.Row.{Row}
use Rattle.cs_group.proofs.Cutting.{region-among}
use Rattle.cs_group.proofs.ListTests.{none_passes}
use Rattle.cs_group.proofs.Regions.{IsAscending-regions}
use Rattle.cs_item.specs.declared.picture.Picture.{Picture}
use Rattle.cs_packet.specs.declared.packet.Body.TheVariants.{Snap}
use Rattle.cs_packet.specs.declared.packet.Packet.{Packet}
use Rattle.cs_roll.specs.Roll.{member_of}
use Rattle.cs_roll.specs.Sight.{Rolls, at_region}
use Rattle.cs_slicer.specs.Projection.{known_by, projection, rolls_of}
use Rattle.cs_slicer.specs.Turn.{summaries_of}
use Rattle.cs_slicer.proofs.Beside.{among-filter, at_key-beside, beside}
use Rattle.cs_slicer.proofs.Leavers.{is_in, is_some-member_of}
use Rattle.cs_slicer.proofs.Numbers.{same_among}
use Rattle.cs_slicer.proofs.Searched.{filter-all}
use Rattle.cs_slicer.proofs.Summaries.{regions-listed}
use Rattle.cs_view.specs.View.{shown}
use Rattle.cs_lead.specs.Closing.{snapshot_to}
use Rattle.cs_lead.specs.Leading.{whole_view}

-- who has a row is in its region, and in no other
in-own : (id : ℕ) (rows : List Row) (r : Row) → HasDistinctIds rows → row_of id rows ≡ Some r → (k : ℕ) → is_in id k rows ≡ (r.region == k)
in-own id [] r distinct found k = absurd (cc)
in-own id (s ∷ ss) r distinct found k = go (s.member.id == id) refl (in-own id ss r distinct.1)
  where
    only_first : (a b c : Bool) → b ≡ true → c ≡ false → ((a && b) || c) ≡ a
    only_first true b c e f = rw e refl
    only_first false b c e f = f

    only_second : (a b c : Bool) → b ≡ false → ((a && b) || c) ≡ c
    only_second true b c e = rw e refl
    only_second false b c e = refl

    go : (b : Bool) → (s.member.id == id) ≡ b → (row_of id ss ≡ Some r → (j : ℕ) → is_in id j ss ≡ (r.region == j)) → is_in id k (s ∷ ss) ≡ (r.region == k)
    go true e later =
        let first : row_of id (s ∷ ss) ≡ Some s = rw e refl in
        let here : s ≡ r = same_Some s r (sym first ∙ found) in
        let none : is_in id k ss ≡ false =
        none_passes (λ (t : Row). (t.region == k) && (t.member.id == id)) ss
        (All-weaker (λ (t : Row). s.member.id ≢ t.member.id) (λ (t : Row). ((t.region == k) && (t.member.id == id)) ≡ false)
        (λ t differs. and_right (t.region == k) (t.member.id == id)
        (ne_eqb t.member.id id (λ same. differs (eqb-true s.member.id id e ∙ sym same)))) ss distinct.0) in
        only_first (s.region == k) (s.member.id == id) (is_in id k ss) e none ∙ ap (λ (t : Row). t.region == k) here
    go false e later =
        let rest : row_of id (s ∷ ss) ≡ row_of id ss = rw e refl in
        only_second (s.region == k) (s.member.id == id) (is_in id k ss) e ∙ later (sym rest ∙ found) k

-- of ascending numbers a test keeps the one that alone passes
filter-one : (q : ℕ → Bool) (n : ℕ) (ns : List ℕ) → IsAscending ns → is_among ns n ≡ true → ((k : ℕ) → q k ≡ (n == k)) → filter q ns ≡ n ∷ []
filter-one q n ns up there only =
    same_among (filter q ns) (n ∷ []) (IsAscendingBy-filter (λ m. m) q ns up) (tt, tt)
    (λ k. among-filter q k ns ∙ (ap (λ b. is_among ns k && b) (only k) ∙ at k (n == k) refl))
  where
    at : (k : ℕ) (b : Bool) → (n == k) ≡ b → (is_among ns k && (n == k)) ≡ is_among (n ∷ []) k
    at k true e = (let here : is_among ns k ≡ true = ap (is_among ns) (sym (eqb-true n k e)) ∙ there in rw (here, e) refl)
    at k false e = rw e (and_right (is_among ns k) false refl)

-- a member's row is there
has-row : (id : ℕ) (rows : List Row) → has_member id rows ≡ true → (r : Row) × (row_of id rows ≡ Some r)
has-row id [] some = absurd (cc)
has-row id (r ∷ rs) some = go (r.member.id == id) refl (has-row id rs)
  where
    go : (b : Bool) → (r.member.id == id) ≡ b → (has_member id rs ≡ true → (s : Row) × (row_of id rs ≡ Some s)) → (s : Row) × (row_of id (r ∷ rs) ≡ Some s)
    go true e later = (r, rw e refl)
    go false e later =
        let rest : has_member id (r ∷ rs) ≡ has_member id rs = rw e refl in
        let found = later (sym rest ∙ some) in
        (found.0, (let same : row_of id (r ∷ rs) ≡ row_of id rs = rw e refl in same ∙ found.1))

-- a member has a region
pub some-region : (id : ℕ) (rows : List Row) → has_member id rows ≡ true → IsSome (option_map (λ (r : Row). r.region) (row_of id rows))
some-region id rows some =
    let found = has-row id rows some in
    subst (λ (o : Option Row). IsSome (option_map (λ (r : Row). r.region) o)) (sym found.1) refl

-- its region is the only one that has it
pub known-region : (g : GroupState) (id region : ℕ) → IsGroup g → has_member id g.rows ≡ true
    → option_map (λ (r : Row). r.region) (row_of id g.rows) ≡ Some region → known_by id Partial g.rows (regions g.rows) ≡ region ∷ []
known-region g id region is some of =
    let found = has-row id g.rows some in
    let r : Row = found.0 in
    let same : r.region ≡ region = same_Some r.region region (sym (ap (option_map (λ (s : Row). s.region)) found.1) ∙ of) in
    filter-one (λ n. is_some (member_of id (members_in n g.rows))) r.region (regions g.rows) (IsAscending-regions g.rows)
    (All-find (λ (s : Row). is_among (regions g.rows) s.region ≡ true) (λ (s : Row). s.member.id == id) g.rows r (region-among g.rows) found.1)
    (λ k. is_some-member_of id k g.rows ∙ in-own id g.rows r is.staffed.distinct found.1 k)
    ∙ ap (λ n. n ∷ []) same

-- such a region is one of the group
known-among : (id region : ℕ) (g : GroupState) → known_by id Partial g.rows (regions g.rows) ≡ region ∷ [] → is_among (regions g.rows) region ≡ true
known-among id region g only =
    let has : ℕ → Bool = λ n. is_some (member_of id (members_in n g.rows)) in
    (and_parts (is_among (regions g.rows) region) (has region)
    (sym (among-filter has region (regions g.rows))
    ∙ (ap (λ ns. is_among ns region) only ∙ or_left (region == region) false (eq-eqb region region refl)))).0

module _ (epoch region : ℕ) (g : GroupState) (there : is_among (regions g.rows) region ≡ true) where
  -- the roll of a region
  abbrev roll : ℕ → List Member
  roll n = members_in n g.rows

  -- the view of the whole group has it
  found-whole : find (λ (pair : ℕ × List Member). pair.0 == region) (whole_view epoch g).rolls ≡ Some (region, members_in region g.rows)
  found-whole =
      ap (λ ns. find (λ (pair : ℕ × List Member). pair.0 == region) (map (beside roll) ns))
      (filter-all (λ n. is_among (regions g.rows) n) (regions g.rows) (regions-listed g.rows))
      ∙ (at_key-beside roll region (regions g.rows) ∙ cond-true (is_among (regions g.rows) region) (Some (beside roll region)) None there)

  known-whole : IsSome (at_region region (whole_view epoch g).rolls)
  known-whole =
      subst (λ (o : Option (ℕ × List Member)). IsSome (option_map (λ (pair : ℕ × List Member). pair.1) o)) (sym found-whole) refl

  -- so what it shows of a region is the projection on that
  shown-whole : shown (Some region) (whole_view epoch g) ≡ projection epoch (region ∷ []) g
  shown-whole =
      let only : rolls_of (region ∷ []) g.rows ≡ (region, members_in region g.rows) ∷ [] =
      ap (map (beside roll))
      (filter-one (λ n. is_among (region ∷ []) n) region (regions g.rows) (IsAscending-regions g.rows) there (λ k. or-false (region == k))) in
      let picture : Rolls → Picture = λ rolls. record { epoch = epoch; summaries = summaries_of g.rows; rolls = rolls } in
      ap picture (ap option_to_list found-whole ∙ sym only)

-- the view of a group, and of a member the only region that has it
module _ (view : Picture) (group : GroupState) (id region : ℕ) (whole : view ≡ whole_view view.epoch group)
    (only : known_by id Partial group.rows (regions group.rows) ≡ region ∷ []) where
  -- the view has the region's roll
  pub known-member : IsSome (at_region region view.rolls)
  known-member =
      subst (λ (p : Picture). IsSome (at_region region p.rolls)) (sym whole) (known-whole view.epoch region group (known-among id region group only))

  -- and shows what the member is to know
  pub shown-member : shown (Some region) view ≡ projection view.epoch (known_by id Partial group.rows (regions group.rows)) group
  shown-member =
      ap (shown (Some region)) whole
      ∙ (shown-whole view.epoch region group (known-among id region group only) ∙ ap (λ known. projection view.epoch known group) (sym only))

-- a packet with that is the member's snapshot
pub snapshot-made : (from : ℕ) (view picture : Picture) (group : GroupState) (m : Member) (region : ℕ) → view ≡ whole_view view.epoch group
    → known_by m.id Partial group.rows (regions group.rows) ≡ region ∷ [] → picture ≡ shown (Some region) view
    → (let p : Address × Packet = (m.addr, record { from = from; to = m.id; body = Snap picture }) in p) ≡ snapshot_to from view.epoch group m
snapshot-made from view picture group m region whole only made =
    let packet : Picture → Address × Packet = λ p. (m.addr, record { from = from; to = m.id; body = Snap p }) in
    ap packet (made ∙ shown-member view group m.id region whole only)
