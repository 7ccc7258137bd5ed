-- The turns of a reached world, and with them its slices and pieces: each epoch so far came by a turn from the group
-- before, so its slices are well formed and its pieces can stand in a packet.
use Rattle.std.proofs.Common.{◌≡◌, ◌≢◌, ℕ, ◌+◌, ◌-◌, ◌≤◌, ◌<◌, ◌==◌, eqb, true, List, [], ◌∷◌, ◌++◌, length, map, take, get_or, Option, Some, sym, ap}
use Rattle.std.proofs.Common.{refl, subst, ◌∙◌, arith}
use Rattle.std.specs.List.{AllByRecursion, fold, list_any}
use Rattle.std.specs.Option.{unwrap_or}
use Rattle.std.proofs.lemmas.Bool.{eq-eqb, eqb-true}
use Rattle.std.proofs.lemmas.Bool.Decides.{Decides-eqb}
use Rattle.std.proofs.lemmas.Cmp.{nat_eq_equiv}
use Rattle.std.proofs.lemmas.List.{length-map, take_more}
use Rattle.std.proofs.lemmas.List.Sums.{fold-append}
use Rattle.std.proofs.lemmas.Map.Made.{length-le_from_is_member, IsDistinct-from_AllPairs}
use Rattle.std.proofs.lemmas.Option.{unwrap_or-slice_get}
use Rattle.cs_base.specs.Ascending.{IsAscending}
use Rattle.cs_base.specs.Ranges.{IsRegion}
use Rattle.cs_base.specs.declared.member.Member.{Member}
use Rattle.cs_base.proofs.Ascending.{All-at, key-lt}
use Rattle.cs_base.proofs.Elements.{All-changed, All-weaker}
use Rattle.cs_fields.specs.Changes.{IsChanges}
use Rattle.cs_group.specs.Group.{GroupState, IsGroup, first_group, is_among}
use Rattle.cs_group.specs.History.{group_at, next_group}
use Rattle.cs_group.specs.Next.{next_turn}
use Rattle.cs_group.specs.Place.{region_sums}
use Rattle.cs_group.specs.Rows.{regions}
use Rattle.cs_group.specs.Taking.{FitsRow}
use Rattle.cs_group.specs.declared.next.Turn.{Turn}
use Rattle.cs_group.proofs.Cutting.{any-holds, any-weaken}
use Rattle.cs_group.proofs.Known.{among-holds}
use Rattle.cs_item.specs.PictureField.{IsPicture}
use Rattle.cs_item.specs.SliceField.{IsSlice}
use Rattle.cs_item.specs.declared.slice.Slice.{Slice}
use Rattle.cs_lead.proofs.PieceTexts.{IsPieceText-slice}
use Rattle.cs_packet.specs.BodyField.{IsBody}
use Rattle.cs_packet.specs.Own.{member_of_own}
use Rattle.cs_packet.specs.SlicesField.{AreSlices, region_of_slice}
use Rattle.cs_projection.proofs.Pictures.{IsPicture-projection}
use Rattle.cs_slicer.specs.Turn.{IsTurnOf}
use Rattle.cs_slicer.proofs.Lists.{AreRegions-group, IsAscendingBy-map}
use Rattle.cs_slicer.proofs.Turns.{All-accepted, IsTurnOf-next, turn-item}
use Rattle.cs_slicer.proofs.WellFormed.{HasLists-head_in, IsPart-part_in}
use Rattle.cs_machine.specs.Contents.{contents_of, group_of, item_at, items, no_turn, slice_at, turn_of, view_at}
use Rattle.cs_machine.specs.Names.{Item, Node, Piece, World, leader_of}
use Rattle.cs_machine.specs.Packets.{body_for}
use Rattle.cs_machine.specs.Reached.{AreAsked, AreRegionsOf, IsAsked, IsPieceOf, IsReached}
use Rattle.cs_machine.proofs.Nodes.{option_map-some}
use Rattle.cs_machine.proofs.ReachedGroups.{FitsRow-asked, group_of-there}

-- the item of an epoch leads from its group to the next one
next-there : (me : Member) (items : List Item) (epoch : ℕ) (g h : GroupState) → 0 < epoch → epoch ≤ length items
    → group_at me items (epoch - 1) ≡ Some g → group_at me items epoch ≡ Some h
    → (turn : Turn) × (next_turn g (item_at items epoch) ≡ Some turn) × (h ≡ turn.group)
next-there me items epoch g h later so_far before now =
    let first : Option GroupState = Some (first_group me) in
    let e : ℕ = epoch - 1 in
    let one_more : epoch ≡ e + 1 = omega (arith, later) in
    let item : Item = get_or items e [] in
    let longer : take epoch items ≡ take e items ++ item ∷ [] =
    ap (λ n. take n items) one_more ∙ take_more items e [] (omega (arith, later, so_far)) in
    let there : item_at items epoch ≡ item = unwrap_or-slice_get items e [] in
    let next : next_group (Some g) item ≡ Some h =
    sym (ap (fold next_group first) longer ∙ (fold-append next_group first (take e items) (item ∷ []) ∙ ap (λ o. next_group o item) before)) ∙ now in
    let turn = option_map-some (λ (t : Turn). t.group) (next_turn g item) h next in
    (turn.0, ap (next_turn g) there ∙ turn.1, turn.2)

-- an ascending list is no longer than one that has its elements
length-ascending-le : (ks ns : List ℕ) → IsAscending ks → AllByRecursion (λ k. is_among ns k ≡ true) ks → length ks ≤ length ns
length-ascending-le ks ns up all =
    let P : ℕ → Type 0 = λ n. list_any (eqb n) ns ≡ true in
    let each : AllByRecursion P ks =
    All-weaker (λ k. is_among ns k ≡ true) P
    (λ k e. any-weaken (λ m. m == k) (eqb k) (λ m same. eq-eqb k m (sym (eqb-true m k same))) ns e) ks all in
    let apart : (i j d : ℕ) → i < j → j < length ks → get_or ks i d ≢ get_or ks j d = λ i j d lt within same.
    (let rise = key-lt (λ n. n) ks up i j d lt within in omega arith) in
    length-le_from_is_member nat_eq_equiv ks ns (IsDistinct-from_AllPairs Decides-eqb ks apart) (λ q has. any-holds P q ks each has)

-- a list with an element isn't shorter than one
one-of : (ks : List ℕ) → ks ≢ [] → 1 ≤ length ks
one-of [] some = absurd (some refl)
one-of (k ∷ ks) some = omega arith

-- the turn to an epoch is one from the group before to the group of the epoch, by changes that fit rows
pub record IsTurnTo (world : World) (epoch : ℕ) : Type 0 where
  pub before : IsGroup (group_of world (epoch - 1))
  pub next : next_turn (group_of world (epoch - 1)) (item_at (items world) epoch) ≡ Some (turn_of world epoch)
  pub of : IsTurnOf (group_of world (epoch - 1)) (turn_of world epoch)
  pub fits : AllByRecursion FitsRow (turn_of world epoch).item
  pub group : (turn_of world epoch).group ≡ group_of world epoch

module _ (world : World) (reached : IsReached world) (leader : Node) (leads : leader_of world ≡ Some leader) where
  -- there is one to each epoch so far
  pub turn-there : (epoch : ℕ) → 0 < epoch → epoch ≤ length (items world) → IsTurnTo world epoch
  turn-there epoch later so_far =
      let e : ℕ = epoch - 1 in
      let was = group_of-there world reached leader e leads (omega (arith, so_far)) in
      let now = group_of-there world reached leader epoch leads so_far in
      let g : GroupState = group_of world e in
      let item : Item = item_at (items world) epoch in
      let found = next-there (member_of_own leader.own) (items world) epoch g (group_of world epoch) later so_far was.0 now.0 in
      let turn : Turn = turn_of world epoch in
      let same : turn ≡ found.0 = ap (λ o. unwrap_or o no_turn) found.1 in
      let next : next_turn g item ≡ Some turn = found.1 ∙ ap (λ t. Some t) (sym same) in
      let there : get_or (items world) e [] ≡ item = sym (unwrap_or-slice_get (items world) e []) in
      let within : e < length (items world) = omega (arith, later, so_far) in
      let asked : AreAsked world item = subst (AreAsked world) there (All-at (AreAsked world) (items world) reached.asked e [] within) in
      let few : IsChanges 0 item = subst (IsChanges 0) there (All-at (IsChanges 0) (items world) reached.few e [] within) in
      let fit : AllByRecursion FitsRow item = All-weaker (IsAsked world) FitsRow (FitsRow-asked world reached) item asked in
      record {
        before = was.1.group;
        next = next;
        of = IsTurnOf-next g item turn few.distinct few.few next;
        fits = subst (AllByRecursion FitsRow) (sym (turn-item g item turn next)) (All-accepted (region_sums g.rows) FitsRow item g fit);
        group = ap (λ (t : Turn). t.group) same ∙ sym found.2;
      }

  -- so a slice is well formed
  pub IsSlice-there : (epoch region : ℕ) → 0 < epoch → epoch ≤ length (items world)
      → is_among (regions (group_of world (epoch - 1)).rows) region ≡ true → IsSlice (slice_at (contents_of world) epoch region)
  IsSlice-there epoch region later so_far there =
      let turn = turn-there epoch later so_far in
      let g : GroupState = group_of world (epoch - 1) in
      let allowed : IsRegion region = among-holds IsRegion region (regions g.rows) (AreRegions-group g turn.before) there in
      record {
        head = record {
          epoch = (omega (arith, later), omega (arith, so_far, reached.epochs));
          lists = HasLists-head_in g (turn_of world epoch) turn.before turn.of turn.fits epoch;
        };
        part = IsPart-part_in g (turn_of world epoch) turn.before turn.of turn.fits region allowed;
      }

  -- and a piece can stand in a packet
  pub IsBody-piece : (epoch region colour : ℕ) → IsPieceOf world epoch region colour
      → IsBody (body_for (contents_of world) (Piece epoch region colour))
  IsBody-piece epoch region colour is =
      let later = is.later in
      let so_far = is.begun in
      let lt = is.below in
      let g : GroupState = group_of world (epoch - 1) in
      let turn = turn-there epoch later so_far in (
        (omega (arith, later), omega (arith, so_far, reached.epochs)),
        among-holds IsRegion region (regions g.rows) (AreRegions-group g turn.before) is.there,
        (omega arith, omega (arith, lt)),
        IsPieceText-slice (slice_at (contents_of world) epoch region) colour (IsSlice-there epoch region later so_far is.there) lt,
      )

  -- several are, those of some regions of a group
  pub AreSlices-there : (epoch : ℕ) (used : List ℕ) → 0 < epoch → epoch ≤ length (items world) → used ≢ []
      → AreRegionsOf (group_of world (epoch - 1)) used → AreSlices (map (slice_at (contents_of world) epoch) used)
  AreSlices-there epoch used later so_far some are =
      let g : GroupState = group_of world (epoch - 1) in
      let slice : ℕ → Slice = slice_at (contents_of world) epoch in
      let turn = turn-there epoch later so_far in
      let few : length used ≤ length (regions g.rows) = length-ascending-le used (regions g.rows) are.ascending are.there in
      record {
        enough = (let one = one-of used some in omega (arith, length-map used slice, one));
        few = omega (arith, length-map used slice, few, turn.before.few_regions);
        allowed = All-changed (λ region. is_among (regions g.rows) region ≡ true) IsSlice slice
            (λ region there. IsSlice-there epoch region later so_far there) used are.there;
        ascending = IsAscendingBy-map region_of_slice slice used are.ascending;
      }

  -- a view of a group so far is well formed
  pub IsPicture-there : (epoch : ℕ) (known : List ℕ) → epoch ≤ length (items world) → IsPicture (view_at (contents_of world) epoch known)
  IsPicture-there epoch known so_far =
      let group = group_of-there world reached leader epoch leads so_far in
      IsPicture-projection (group_of world epoch) epoch known group.1.group (omega (arith, so_far, reached.epochs))
