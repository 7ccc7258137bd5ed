-- Held pieces by their names and the values that they stand for: few names stand for a hold, which a piece that comes
-- fits, and a gain in names for one in values.
use Rattle.std.proofs.Common.{◌≡◌, ◌∙◌, ◌==◌, ◌&&◌, ℕ, ◌+◌, ◌^◌, ◌<◌, nat_lt, Bool, true, false, cond, not, is_some}
use Rattle.std.proofs.Common.{List, [], ◌∷◌, ◌++◌, length, map, Option, Some, None, Result, Ok, refl, sym, ap, subst, arith}
use Rattle.std.specs.List.{AllByRecursion, filter, range_with_len}
use Rattle.std.specs.Option.{option_and_then, option_map_or}
use Rattle.std.proofs.lemmas.Bool.{and_parts, eq-eqb, eqb-true}
use Rattle.std.proofs.lemmas.List.{length-map}
use Rattle.std.proofs.lemmas.List.Elements.{filter_agree}
use Rattle.cs_base.specs.Limits.{colours}
use Rattle.cs_base.proofs.Ascending.{All-of_filter}
use Rattle.cs_base.proofs.Elements.{All-append, All-changed, All-find, All-map, All-weaker}
use Rattle.cs_core.specs.Holding.{bytes_fault, held_with_piece, named_as, region_fault, slice_of}
use Rattle.cs_core.specs.Node.{has_pair}
use Rattle.cs_core.specs.Plans.{unfit_by, unless_unfit, ◌>>=◌}
use Rattle.cs_core.specs.Taking.{is_new, new_colours as new_values, text_in}
use Rattle.cs_core.specs.declared.plan.Unfit.{Unfit}
use Rattle.cs_core.specs.declared.plan.Unfit.TheVariants as unfit
use Rattle.cs_core.proofs.Gains.{slice-few, slice_of-bytes}
use Rattle.cs_fields.specs.declared.fault.PacketFault.{PacketFault}
use Rattle.cs_group.specs.Group.{is_among}
use Rattle.cs_group.specs.Rows.{regions}
use Rattle.cs_group.proofs.Lists.{ByRecursion-passes}
use Rattle.cs_hold.specs.Held.{Held, IsHold, order_of as held_order, piece_in}
use Rattle.cs_hold.specs.Pieces.{ArePieces}
use Rattle.cs_hold.proofs.Regions.{with_region-hold}
use Rattle.cs_item.specs.SliceField.{IsSlice, slice_bytes}
use Rattle.cs_item.specs.declared.slice.Slice.{Slice}
use Rattle.cs_piece.specs.Blocks.{piece_of}
use Rattle.cs_piece.specs.declared.fault.PieceFault.{PieceFault}
use Rattle.cs_slicer.proofs.Lists.{IsAscendingBy-map}
use Rattle.cs_machine.specs.Contents.{Contents, piece_at, slice_at}
use Rattle.cs_machine.specs.Held.{Gain, colours_in, gained, is_whole, new_colours, with_colours}
use Rattle.cs_machine.specs.Names.{Membership}
use Rattle.cs_machine.proofs.HeldGains.{AreFew, ascending-of, gained-are, marks, pieces-are, taken-for}
use Rattle.cs_machine.proofs.HeldValues.{are_whole-for, for, least_slice-for, mark, of_region-for, pair-among, piece_in-for, slices_in-for}
use Rattle.cs_machine.proofs.HeldValues.{there-for, whole_in-for, with_region-for}
use Rattle.cs_machine.proofs.ProgressSquares.{GainStands}

-- no bytes
abbrev pub none : ℕ → List ℕ
none n = []

module _ (bytes : ℕ → List ℕ) where
  -- what is held stands for a hold
  pub hold-for : (held : List (ℕ × ℕ)) → AreFew held → ((o : ℕ) → 0 < length (colours_in o held) → length (bytes o) < 2 ^ 32)
      → IsHold (map (for bytes) held)
  hold-for held few short = record {
    ascending = IsAscendingBy-map held_order (for bytes) held few.ascending;
    regions = λ o. subst ArePieces (sym (of_region-for bytes o held)) (by o (colours_in o held) refl);
  }
    where
      by : (o : ℕ) (ks : List ℕ) → colours_in o held ≡ ks → ArePieces (map (mark bytes o) (colours_in o held))
      by o [] is =
          let are : ArePieces [] = subst (λ ls. ArePieces (map (mark none o) ls)) is (pieces-are none held few o (omega arith)) in
          subst (λ ls. ArePieces (map (mark bytes o) ls)) (sym is) are
      by o (k ∷ ks) is = pieces-are bytes held few o (short o (omega (arith, ap length is)))

  -- which colours are new
  pub new_colours-for : (o : ℕ) (before after : List (ℕ × ℕ))
      → new_values o (map (for bytes) before) (map (for bytes) after) ≡ new_colours o before after
  new_colours-for o before after =
      filter_agree (is_new o (map (for bytes) before) (map (for bytes) after)) (λ k. has_pair after o k && not (has_pair before o k))
      (λ k. ap (λ b. b && not (is_some (piece_in o k (map (for bytes) before)))) (there-for bytes o k after)
      ∙ ap (λ b. has_pair after o k && not b) (there-for bytes o k before)) (range_with_len 0 colours)

-- pairs whose pieces without bytes are a hold are few
few-of : (held : List (ℕ × ℕ)) → IsHold (map (for none) held) → AllByRecursion (λ (pair : ℕ × ℕ). pair.1 < colours) held → AreFew held
few-of held hold below = record {
  ascending = ascending-of held_order (for none) held hold.ascending;
  below = below;
  whole = λ region many.
      (let are : ArePieces (map (mark none region) (colours_in region held)) = subst ArePieces (of_region-for none region held) (hold.regions region) in
      let all = are.whole (omega (arith, many, length-map (colours_in region held) (mark none region))) in
      sym (marks none region (colours_in region held)) ∙ ap (map (λ (p : ℕ × List ℕ). p.0)) all.all);
}

-- with other colours of a region they are few again
pub few-with : (o : ℕ) (ks : List ℕ) (held : List (ℕ × ℕ)) → AreFew held → ArePieces (map (mark none o) ks) → AreFew (with_colours o ks held)
few-with o ks held few are =
    few-of (with_colours o ks held)
    (subst IsHold (with_region-for none o ks held)
    (with_region-hold o (map (mark none o) ks) (map (for none) held) (hold-for none held few (λ r some. omega arith)) are))
    (All-append Below (filter (λ (pair : ℕ × ℕ). nat_lt pair.0 o) held ++ map (λ colour. (o, colour)) ks) (filter (λ (pair : ℕ × ℕ). nat_lt o pair.0) held)
    (All-append Below (filter (λ (pair : ℕ × ℕ). nat_lt pair.0 o) held) (map (λ colour. (o, colour)) ks)
    (All-of_filter Below (λ (pair : ℕ × ℕ). nat_lt pair.0 o) held few.below) (of-marks ks are.allowed))
    (All-of_filter Below (λ (pair : ℕ × ℕ). nat_lt o pair.0) held few.below))
  where
    Below : ℕ × ℕ → Type 0
    Below pair = pair.1 < colours

    of-marks : (ls : List ℕ) → AllByRecursion (λ (p : ℕ × List ℕ). p.0 < colours) (map (mark none o) ls)
        → AllByRecursion (λ (pair : ℕ × ℕ). pair.1 < colours) (map (λ colour. (o, colour)) ls)
    of-marks [] all = tt
    of-marks (l ∷ ls) all = (all.0, of-marks ls all.1)

-- what holds of a region and of all that are held holds with other colours of this region
pub All-with_colours : (P : ℕ → Type 0) (o : ℕ) (ks : List ℕ) (held : List (ℕ × ℕ)) → P o
    → AllByRecursion (λ (pair : ℕ × ℕ). P pair.0) held → AllByRecursion (λ (pair : ℕ × ℕ). P pair.0) (with_colours o ks held)
All-with_colours P o ks held here all =
    let Q : ℕ × ℕ → Type 0 = λ (pair : ℕ × ℕ). P pair.0 in
    All-append Q (filter (λ (pair : ℕ × ℕ). nat_lt pair.0 o) held ++ map (λ k. (o, k)) ks) (filter (λ (pair : ℕ × ℕ). nat_lt o pair.0) held)
    (All-append Q (filter (λ (pair : ℕ × ℕ). nat_lt pair.0 o) held) (map (λ k. (o, k)) ks)
    (All-of_filter Q (λ (pair : ℕ × ℕ). nat_lt pair.0 o) held all) (All-map Q (λ k. (o, k)) (λ k. here) ks))
    (All-of_filter Q (λ (pair : ℕ × ℕ). nat_lt o pair.0) held all)

-- what holds of the regions of all pairs holds of a whole one
pub whole-has : (P : ℕ → Type 0) (o : ℕ) (ps : List (ℕ × ℕ)) → AllByRecursion (λ (pair : ℕ × ℕ). P pair.0) ps → is_whole ps o ≡ true → P o
whole-has P o ps all is = go ps all (omega (arith, eqb-true (length (colours_in o ps)) 4 is))
  where
    go : (qs : List (ℕ × ℕ)) → AllByRecursion (λ (pair : ℕ × ℕ). P pair.0) qs → 0 < length (colours_in o qs) → P o
    go [] none_there some = absurd (omega (arith, some))
    go (q ∷ qs) are some = by_test (q.0 == o) refl (go qs are.1) some
      where
        by_test : (b : Bool) → (q.0 == o) ≡ b → (0 < length (colours_in o qs) → P o)
            → 0 < length (map (λ (pair : ℕ × ℕ). pair.1) (cond b (q ∷ filter (λ (pair : ℕ × ℕ). pair.0 == o) qs) (filter (λ (pair : ℕ × ℕ). pair.0 == o) qs)))
            → P o
        by_test true e rest some = subst P (eqb-true q.0 o e) are.0
        by_test false e rest some = rest some

-- ---- a piece that comes

module _ (held : List (ℕ × ℕ)) (few : AreFew held) (o k : ℕ) (lt : k < colours) (new : has_pair held o k ≡ false) where
  -- what is held with one more piece is few again
  pub few-piece : AreFew (with_colours o (gained k (colours_in o held)) held)
  few-piece =
      few-with o (gained k (colours_in o held)) held few
      (gained-are none held few o k (omega arith) lt new (colours_in o held) (pieces-are none held few o (omega arith))
      (sym (pair-among held o k) ∙ new) (few.whole o))

  -- a piece of bytes that spell the slice of the epoch and the region fits
  pub with_piece-for : (bytes : ℕ → List ℕ) (epoch : ℕ) (slice : Slice) → length (bytes o) < 2 ^ 32
      → slice_of (bytes o) ≡ (let r : Result Slice PacketFault = Ok slice in r) → slice.head.epoch ≡ epoch → slice.part.region ≡ o
      → held_with_piece epoch o k (piece_of (bytes o) k) (map (for bytes) held)
      ≡ (let r : Result (List Held) Unfit = Ok (map (for bytes) (with_colours o (gained k (colours_in o held)) held)) in r)
  with_piece-for bytes epoch slice short reads same_epoch same_region =
      ap (λ (r : Result (List Held) PieceFault). unfit_by unfit.Piece r >>= λ next. unless_unfit (region_fault epoch o next) next)
      (taken-for bytes held few o k short lt new)
      ∙ ap (λ (u : Option Unfit). unless_unfit u (map (for bytes) after)) fits
    where
      after : List (ℕ × ℕ)
      after = with_colours o (gained k (colours_in o held)) held

      named : named_as epoch o slice ≡ None
      named =
          let one : (slice.head.epoch == epoch) ≡ true = eq-eqb slice.head.epoch epoch same_epoch in
          let two : (slice.part.region == o) ≡ true = eq-eqb slice.part.region o same_region in
          rw (one, two) refl

      go : (b : Bool) → option_and_then (λ bs. bytes_fault epoch o (slice_of bs)) (cond b (Some (bytes o)) None) ≡ None
      go true = ap (bytes_fault epoch o) reads ∙ named
      go false = refl

      fits : region_fault epoch o (map (for bytes) (with_colours o (gained k (colours_in o held)) held)) ≡ None
      fits =
          ap (option_and_then (λ bs. bytes_fault epoch o (slice_of bs)))
          (whole_in-for bytes (with_colours o (gained k (colours_in o held)) held) o (few-piece.whole o) (λ is. short))
          ∙ go (is_whole (with_colours o (gained k (colours_in o held)) held) o)

-- ---- a gain

-- each colour that is new is held
pub new-held : (o : ℕ) (before after : List (ℕ × ℕ)) → AllByRecursion (λ k. has_pair after o k ≡ true) (new_colours o before after)
new-held o before after =
    All-weaker (λ k. (has_pair after o k && not (has_pair before o k)) ≡ true) (λ k. has_pair after o k ≡ true)
    (λ k both. (and_parts (has_pair after o k) (not (has_pair before o k)) both).0) (new_colours o before after)
    (ByRecursion-passes (λ k. has_pair after o k && not (has_pair before o k)) (range_with_len 0 colours))

-- what is held with the colours that are sent on is what its names stand for
pub stands-for : (c : Contents) (m : Membership) (gain : Gain) → AreFew gain.held
    → AllByRecursion (λ (pair : ℕ × ℕ). is_among (regions (c.group m.epoch).rows) pair.0 ≡ true) gain.held
    → ((o : ℕ) → is_among (regions (c.group m.epoch).rows) o ≡ true → IsSlice (slice_at c (m.epoch + 1) o))
    → AllByRecursion (λ k. has_pair gain.held gain.region k ≡ true) gain.colours → GainStands c m gain
stands-for c m gain few there slices now = record {
  texts = All-weaker (λ k. has_pair gain.held gain.region k ≡ true)
      (λ k. text_in gain.region k (map (for bytes) gain.held) ≡ piece_at c (m.epoch + 1) gain.region k)
      (λ k is. ap (λ (o : Option (List ℕ)). option_map_or (λ text. text) o [])
      (piece_in-for bytes gain.region k gain.held ∙ ap (λ b. cond b (Some (piece_of (bytes gain.region) k)) None) is))
      gain.colours now;
  least = least_slice-for bytes gain.held few.whole slice short reads;
  there = λ w is. All-find Listed (is_whole gain.held) (map (λ (pair : ℕ × ℕ). pair.0) gain.held) w
      (All-changed (λ (pair : ℕ × ℕ). Listed pair.0) Listed (λ (pair : ℕ × ℕ). pair.0) (λ pair h. h) gain.held there) is;
  whole = are_whole-for bytes gain.held few.whole slice short reads;
  slices = slices_in-for bytes gain.held few.whole slice short reads;
}
  where
    Listed : ℕ → Type 0
    Listed o = is_among (regions (c.group m.epoch).rows) o ≡ true

    slice : ℕ → Slice
    slice o = slice_at c (m.epoch + 1) o

    bytes : ℕ → List ℕ
    bytes o = slice_bytes (slice_at c (m.epoch + 1) o)

    short : (o : ℕ) → is_whole gain.held o ≡ true → length (slice_bytes (slice_at c (m.epoch + 1) o)) < 2 ^ 32
    short o is = omega (arith, slice-few (slice_at c (m.epoch + 1) o) (slices o (whole-has Listed o gain.held there is)))

    reads : (o : ℕ) → is_whole gain.held o ≡ true
        → slice_of (slice_bytes (slice_at c (m.epoch + 1) o)) ≡ (let r : Result Slice PacketFault = Ok (slice_at c (m.epoch + 1) o) in r)
    reads o is = slice_of-bytes (slice_at c (m.epoch + 1) o) (slices o (whole-has Listed o gain.held there is))
