-- The rows after the cut: the members of each region, and which regions there are.
use Rattle.std.proofs.Common.{◌≡◌, ◌≢◌, ℕ, ◌<◌, ◌==◌, Bool, true, false, not, if◌then◌else◌, List, [], ◌∷◌, ◌++◌, length, map, Option, Some, None}
use Rattle.std.proofs.Common.{refl, sym, ap, subst, ◌∙◌, arith}
use Rattle.std.specs.List.{filter}
use Rattle.std.specs.Option.{option_map}
use Rattle.std.proofs.lemmas.Bool.{eqb-true, ne_eqb, eq-eqb}
use Rattle.std.proofs.lemmas.List.{append-nil}
use Rattle.std.proofs.lemmas.Option.{same_Some}
use Rattle.cs_base.specs.Axes.{Axes}
use Rattle.cs_base.specs.declared.point.Axis.{Axis}
use Rattle.cs_base.specs.Split.{is_lower, lower_part, upper_part}
use Rattle.cs_base.specs.declared.member.Member.{Member}
use Rattle.cs_base.specs.declared.split.Cut.{Cut}
use Rattle.cs_base.specs.declared.split.Split.{Split}
use Rattle.cs_near.proofs.Medians.{split-known}
use Rattle.cs_near.specs.Middle.{middle_on, split_at}
use Rattle.cs_near.specs.Widest.{widest_axis}
use Rattle.cs_group.specs.declared.row.Row.{Row}
use Rattle.cs_group.specs.declared.next.Turn.{Turn}
use Rattle.cs_group.specs.Cut.{after_cut, cut_at, cut_due, cut_rows, is_cut_off, region_to_cut}
use Rattle.cs_group.specs.Group.{GroupState, IsGroup, is_among}
use Rattle.cs_group.specs.Rows.{members_in, moved_to, regions, rows_in}
use Rattle.cs_group.proofs.Members.{region_to_cut-many}
use Rattle.cs_slicer.specs.Turn.{IsTurnOf, middle_rows}
use Rattle.cs_slicer.proofs.Middle.{next-not_middle, turn-made}
use Rattle.cs_slicer.proofs.Regions.{among-some, members-none}

-- members of rows one behind the other
members-append : (n : ℕ) (xs ys : List Row) → members_in n (xs ++ ys) ≡ members_in n xs ++ members_in n ys
members-append n [] ys = refl
members-append n (x ∷ xs) ys =
    let rest = members-append n xs ys in
    elim (x.region == n) as (λ b. map (λ (r : Row). r.member) (if b then x ∷ rows_in n (xs ++ ys) else rows_in n (xs ++ ys))
    ≡ map (λ (r : Row). r.member) (if b then x ∷ rows_in n xs else rows_in n xs) ++ members_in n ys) [
      | true ↦ ap (λ ms. x.member ∷ ms) rest
      | false ↦ rest
    ]

-- the first row's member, where it is of the region
pub members-here : (n : ℕ) (r : Row) (rs : List Row) → (r.region == n) ≡ true → members_in n (r ∷ rs) ≡ r.member ∷ members_in n rs
members-here n r rs e = rw e refl

-- and where it is not
pub members-later : (n : ℕ) (r : Row) (rs : List Row) → (r.region == n) ≡ false → members_in n (r ∷ rs) ≡ members_in n rs
members-later n r rs e = rw e refl

-- rows that moved are all in their new region
members-moved : (n : ℕ) (rows : List Row) → members_in n (map (moved_to n) rows) ≡ map (λ (r : Row). r.member) rows
members-moved n [] = refl
members-moved n (r ∷ rs) = members-here n (moved_to n r) (map (moved_to n) rs) (eq-eqb n n refl) ∙ ap (λ ms. r.member ∷ ms) (members-moved n rs)

-- and in no other
members-not_moved : (n m : ℕ) (rows : List Row) → n ≢ m → members_in m (map (moved_to n) rows) ≡ []
members-not_moved n m [] other = refl
members-not_moved n m (r ∷ rs) other =
    members-later m (moved_to n r) (map (moved_to n) rs) (ne_eqb n m other) ∙ members-not_moved n m rs other

module _ (region : ℕ) (split : Split) where
  -- whether the cut moves the row
  abbrev off : Row → Bool
  off r = is_cut_off region split r

  -- whether it stays
  abbrev on : Row → Bool
  on r = not (is_cut_off region split r)

  -- the first row stays, or not
  kept-here : (r : Row) (rs : List Row) → on r ≡ true → filter on (r ∷ rs) ≡ r ∷ filter on rs
  kept-here r rs e = rw e refl

  -- and where it moves the others are left
  kept-later : (r : Row) (rs : List Row) → on r ≡ false → filter on (r ∷ rs) ≡ filter on rs
  kept-later r rs e = rw e refl

  -- of the cut region the lower members stay
  members-lower : (rows : List Row) → members_in region (filter on rows) ≡ lower_part split (members_in region rows)
  members-lower [] = refl
  members-lower (r ∷ rs) = go (r.region == region) refl (is_lower split r.member) refl (members-lower rs)
    where
      go : (b : Bool) → (r.region == region) ≡ b → (c : Bool) → is_lower split r.member ≡ c
          → members_in region (filter on rs) ≡ lower_part split (members_in region rs)
          → members_in region (filter on (r ∷ rs)) ≡ lower_part split (members_in region (r ∷ rs))
      go true e true f rest =
          let kept : on r ≡ true = rw (e, f) refl in
          let lower : lower_part split (r.member ∷ members_in region rs) ≡ r.member ∷ lower_part split (members_in region rs) = rw f refl in
          rw (kept-here r rs kept, members-here region r (filter on rs) e, members-here region r rs e, lower) (ap (λ ms. r.member ∷ ms) rest)
      go true e false f rest =
          let kept : on r ≡ false = rw (e, f) refl in
          let lower : lower_part split (r.member ∷ members_in region rs) ≡ lower_part split (members_in region rs) = rw f refl in
          rw (kept-later r rs kept, members-here region r rs e, lower) rest
      go false e c f rest =
          let kept : on r ≡ true = rw e refl in
          rw (kept-here r rs kept, members-later region r (filter on rs) e, members-later region r rs e) rest

  -- of another region all stay
  members-others : (n : ℕ) → region ≢ n → (rows : List Row) → members_in n (filter on rows) ≡ members_in n rows
  members-others n other [] = refl
  members-others n other (r ∷ rs) = go (r.region == n) refl (on r) refl (members-others n other rs)
    where
      go : (b : Bool) → (r.region == n) ≡ b → (c : Bool) → on r ≡ c → members_in n (filter on rs) ≡ members_in n rs
          → members_in n (filter on (r ∷ rs)) ≡ members_in n (r ∷ rs)
      go true e c f rest =
          let elsewhere : (r.region == region) ≡ false = ne_eqb r.region region (λ same. other (sym same ∙ eqb-true r.region n e)) in
          let kept : on r ≡ true = rw elsewhere refl in
          rw (kept-here r rs kept, members-here n r (filter on rs) e, members-here n r rs e) (ap (λ ms. r.member ∷ ms) rest)
      go false e true f rest = rw (kept-here r rs f, members-later n r (filter on rs) e, members-later n r rs e) rest
      go false e false f rest = rw (kept-later r rs f, members-later n r rs e) rest

  -- the upper ones move
  members-off : (rows : List Row) → map (λ (r : Row). r.member) (filter off rows) ≡ upper_part split (members_in region rows)
  members-off [] = refl
  members-off (r ∷ rs) = go (r.region == region) refl (is_lower split r.member) refl (members-off rs)
    where
      go : (b : Bool) → (r.region == region) ≡ b → (c : Bool) → is_lower split r.member ≡ c
          → map (λ (s : Row). s.member) (filter off rs) ≡ upper_part split (members_in region rs)
          → map (λ (s : Row). s.member) (filter off (r ∷ rs)) ≡ upper_part split (members_in region (r ∷ rs))
      go true e true f rest =
          let out : filter off (r ∷ rs) ≡ filter off rs = rw (e, f) refl in
          let upper : upper_part split (r.member ∷ members_in region rs) ≡ upper_part split (members_in region rs) = rw f refl in
          rw (out, members-here region r rs e, upper) rest
      go true e false f rest =
          let out : filter off (r ∷ rs) ≡ r ∷ filter off rs = rw (e, f) refl in
          let upper : upper_part split (r.member ∷ members_in region rs) ≡ r.member ∷ upper_part split (members_in region rs) = rw f refl in
          rw (out, members-here region r rs e, upper) (ap (λ ms. r.member ∷ ms) rest)
      go false e c f rest =
          let out : filter off (r ∷ rs) ≡ filter off rs = rw e refl in
          rw (out, members-later region r rs e) rest

-- the members of each region after a cut
module _ (region : ℕ) (cut : Cut) (rows : List Row) where
  -- the lower ones are in the region that was cut
  pub members-cut_region : cut.upper ≢ region → members_in region (cut_rows region cut rows) ≡ lower_part cut.split (members_in region rows)
  members-cut_region other =
      members-append region (filter (on region cut.split) rows) (map (moved_to cut.upper) (filter (off region cut.split) rows))
      ∙ (ap (λ ms. members_in region (filter (on region cut.split) rows) ++ ms) (members-not_moved cut.upper region (filter (off region cut.split) rows) other)
      ∙ (append-nil (members_in region (filter (on region cut.split) rows)) ∙ members-lower region cut.split rows))

  -- the upper ones in the new one
  pub members-cut_upper : cut.upper ≢ region → members_in cut.upper rows ≡ []
      → members_in cut.upper (cut_rows region cut rows) ≡ upper_part cut.split (members_in region rows)
  members-cut_upper other new =
      members-append cut.upper (filter (on region cut.split) rows) (map (moved_to cut.upper) (filter (off region cut.split) rows))
      ∙ (ap (λ ms. ms ++ members_in cut.upper (map (moved_to cut.upper) (filter (off region cut.split) rows)))
      (members-others region cut.split cut.upper (λ e. other (sym e)) rows ∙ new)
      ∙ (members-moved cut.upper (filter (off region cut.split) rows) ∙ members-off region cut.split rows))

  -- and all others where they were
  pub members-cut_other : (n : ℕ) → region ≢ n → cut.upper ≢ n → members_in n (cut_rows region cut rows) ≡ members_in n rows
  members-cut_other n other not_upper =
      members-append n (filter (on region cut.split) rows) (map (moved_to cut.upper) (filter (off region cut.split) rows))
      ∙ (ap (λ ms. members_in n (filter (on region cut.split) rows) ++ ms) (members-not_moved cut.upper n (filter (off region cut.split) rows) not_upper)
      ∙ (append-nil (members_in n (filter (on region cut.split) rows)) ∙ members-others region cut.split n other rows))

-- a cut of rows, whose upper region is new, leaves both parts with members
pub record IsCutOf (next_region : ℕ) (rows : List Row) (region : ℕ) (cut : Cut) : Type 0 where
  pub upper_is : cut.upper ≡ next_region
  pub there : is_among (regions rows) region ≡ true
  pub some_lower : 0 < length (lower_part cut.split (members_in region rows))
  pub some_upper : 0 < length (upper_part cut.split (members_in region rows))

-- the region that is to be cut is one with members
cut-tells-parts : (next_region : ℕ) (rows : List Row) (o : Option ℕ) (region : ℕ) (cut : Cut) → region_to_cut rows ≡ o
    → cut_at next_region rows o ≡ Some (region, cut) → IsCutOf next_region rows region cut
cut-tells-parts next_region rows None region cut due e = absurd (cc)
cut-tells-parts next_region rows (Some n) region cut due e = go (middle_on key point axis members) refl e
  where
    members : List Member
    members = members_in n rows

    key : Member → ℕ
    key m = m.id

    point : Member → Axes
    point m = m.at

    axis : Axis
    axis = widest_axis point members

    go : (o : Option Member) → middle_on key point axis members ≡ o
        → option_map {U = ℕ × Cut} (λ (s : Split). (n, record { split = s; upper = next_region })) (option_map (split_at axis) o) ≡ Some (region, cut)
        → IsCutOf next_region rows region cut
    go None found same = absurd (cc)
    go (Some m) found same =
        let made : Cut = record { split = split_at axis m; upper = next_region } in
        let pair : (let q : ℕ × Cut = (n, made) in q) ≡ (region, cut) = same_Some {A = ℕ × Cut} (n, made) (region, cut) same in
        let is_region : n ≡ region = ap (λ (q : ℕ × Cut). q.0) pair in
        let is_cut : made ≡ cut = ap (λ (q : ℕ × Cut). q.1) pair in
        let many = region_to_cut-many rows n due in
        let known = split-known axis members m many refl found in
        let here : IsCutOf next_region rows n made = record {
          upper_is = refl;
          there = among-some n rows (omega (arith, many));
          some_lower = known.some_lower;
          some_upper = known.some_upper;
        } in
        subst (λ (q : ℕ × Cut). IsCutOf next_region rows q.0 q.1) pair here

-- the cut that is due is one
pub cut-tells : (next_region : ℕ) (rows : List Row) (region : ℕ) (cut : Cut) → cut_due next_region rows ≡ Some (region, cut)
    → IsCutOf next_region rows region cut
cut-tells next_region rows region cut e = cut-tells-parts next_region rows (region_to_cut rows) region cut refl e

module _ (before : GroupState) (turn : Turn) (is : IsGroup before) (of : IsTurnOf before turn) where
  -- the rows before the cut
  abbrev middle : List Row
  middle = middle_rows before turn

  -- the rows after the cut
  pub after-is : turn.group.rows ≡ after_cut turn.cut (middle_rows before turn)
  after-is = ap (λ (g : GroupState). g.rows) (turn-made before turn of).group

  -- a turn's cut is a cut of its rows
  pub cut-known : (region : ℕ) (cut : Cut) → turn.cut ≡ Some (region, cut) → IsCutOf before.next_region (middle_rows before turn) region cut
  cut-known region cut e = cut-tells before.next_region middle region cut (sym (turn-made before turn of).cut ∙ e)

  -- the new region is another one
  pub upper-other : (region : ℕ) (cut : Cut) → turn.cut ≡ Some (region, cut) → (n : ℕ) → is_among (regions (middle_rows before turn)) n ≡ true
      → cut.upper ≢ n
  upper-other region cut e n there same =
      let absent = next-not_middle before turn is of in
      let next : n ≡ before.next_region = sym same ∙ (cut-known region cut e).upper_is in
      absurd (let clash : true ≡ false = sym (subst (λ k. is_among (regions middle) k ≡ true) next there) ∙ absent in cc)

  -- without a cut the rows are the same
  pub rows-uncut : turn.cut ≡ None → turn.group.rows ≡ middle_rows before turn
  rows-uncut e = after-is ∙ ap (λ c. after_cut c middle) e

  -- with one they are cut
  pub rows-cut : (region : ℕ) (cut : Cut) → turn.cut ≡ Some (region, cut) → turn.group.rows ≡ cut_rows region cut (middle_rows before turn)
  rows-cut region cut e = after-is ∙ ap (λ c. after_cut c middle) e

  -- the lower members stay in the cut region
  pub members-lower_after : (region : ℕ) (cut : Cut) → turn.cut ≡ Some (region, cut)
      → members_in region turn.group.rows ≡ lower_part cut.split (members_in region (middle_rows before turn))
  members-lower_after region cut e =
      ap (members_in region) (rows-cut region cut e)
      ∙ members-cut_region region cut middle (upper-other region cut e region (cut-known region cut e).there)

  -- the upper ones are in the new region
  pub members-upper_after : (region : ℕ) (cut : Cut) → turn.cut ≡ Some (region, cut)
      → members_in cut.upper turn.group.rows ≡ upper_part cut.split (members_in region (middle_rows before turn))
  members-upper_after region cut e =
      let new : members_in cut.upper middle ≡ [] =
      members-none cut.upper middle (ap (λ n. is_among (regions middle) n) (cut-known region cut e).upper_is ∙ next-not_middle before turn is of) in
      ap (members_in cut.upper) (rows-cut region cut e)
      ∙ members-cut_upper region cut middle (upper-other region cut e region (cut-known region cut e).there) new

  -- and any other region has the members that it had
  pub members-other_after : (region : ℕ) (cut : Cut) → turn.cut ≡ Some (region, cut) → (n : ℕ) → region ≢ n → cut.upper ≢ n
      → members_in n turn.group.rows ≡ members_in n (middle_rows before turn)
  members-other_after region cut e n other not_upper =
      ap (members_in n) (rows-cut region cut e) ∙ members-cut_other region cut middle n other not_upper
