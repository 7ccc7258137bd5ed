-- Regions at the points of their representatives, one after another, and how they are told apart.
use Rattle.std.proofs.Common.{◌≡◌, ℕ, zero, suc, ◌+◌, ◌<◌, [], ◌∷◌, ◌++◌, length, take, Option, Some, None}
use Rattle.std.proofs.Common.{refl, sym, ap, ◌∙◌, get_or, slice_get}
use Rattle.std.specs.List.{AllByRecursion}
use Rattle.std.specs.Option.{option_map}
use Rattle.std.proofs.lemmas.List.{take_more}
use Rattle.std.proofs.lemmas.List.Elements.{filter_map-append}
use Rattle.cs_base.specs.Ascending.{IsAscendingBy}
use Rattle.cs_base.specs.declared.member.Member.{Member}
use Rattle.cs_roll.specs.Sight.{IsByRegion, Summaries}
use Rattle.cs_roll.specs.Summary.{RegionSummary}
use Rattle.cs_tree.proofs.Parting.{AreApart, AreApart-ascending}
use Rattle.cs_tree.specs.Colour.{representative}
use Rattle.cs_tree.specs.Inter.{region_point, region_points}
use Rattle.cs_tree.specs.declared.region_point.RegionPoint.{RegionPoint}

-- the region of a point
abbrev pub region_of : RegionPoint → ℕ
region_of r = r.region

-- what is read at a place
pub pair-read : (pairs : Summaries) (i : ℕ) (region : ℕ) (summary : RegionSummary)
    → option_map (λ (pair : ℕ × RegionSummary). pair.0) (slice_get pairs i) ≡ Some region
    → option_map (λ (pair : ℕ × RegionSummary). pair.1) (slice_get pairs i) ≡ Some summary
    → (d : ℕ × RegionSummary) → get_or pairs i d ≡ (region, summary)
pair-read [] i region summary first second d = absurd (cc)
pair-read (pair ∷ pairs) zero region summary first second d =
    let f : pair.0 ≡ region = cc in
    let s : pair.1 ≡ summary = cc in
    λ i. (f i, s i)
pair-read (pair ∷ pairs) (suc i) region summary first second d = pair-read pairs i region summary first second d

-- one more region
pub region_points-more : (colour : ℕ) (pairs : Summaries) (i : ℕ) (region : ℕ) (summary : RegionSummary) (m : Member) → i < length pairs
    → option_map (λ (pair : ℕ × RegionSummary). pair.0) (slice_get pairs i) ≡ Some region
    → option_map (λ (pair : ℕ × RegionSummary). pair.1) (slice_get pairs i) ≡ Some summary
    → representative colour summary ≡ Some m
    → region_points colour (take i pairs) ++ (record { region = region; at = m.at }) ∷ [] ≡ region_points colour (take (i + 1) pairs)
region_points-more colour pairs i region summary m lt first second stands =
    let d : ℕ × RegionSummary = (region, summary) in
    let read = pair-read pairs i region summary first second d in
    let point : region_point colour d ≡ Some (record { region = region; at = m.at }) =
    ap (option_map (λ (n : Member). record { region = region; at = n.at })) stands in
    let last : region_points colour (d ∷ []) ≡ (record { region = region; at = m.at }) ∷ [] = rw point refl in
    ap (λ rs. region_points colour (take i pairs) ++ rs) (sym last)
    ∙ (sym (filter_map-append (region_point colour) (take i pairs) (d ∷ []))
    ∙ ap (region_points colour) (ap (λ pair. take i pairs ++ pair ∷ []) (sym read) ∙ sym (take_more pairs i d lt)))

-- they ascend by region
points-ascend : (colour : ℕ) (pairs : Summaries) → IsByRegion pairs → IsAscendingBy region_of (region_points colour pairs)
points-ascend colour [] up = tt
points-ascend colour (pair ∷ pairs) up = go (representative colour pair.1) refl (points-ascend colour pairs up.1)
  where
    above : (n : ℕ) (ps : Summaries) → AllByRecursion (λ (p : ℕ × RegionSummary). n < p.0) ps
        → AllByRecursion (λ (r : RegionPoint). n < r.region) (region_points colour ps)
    above n [] all = tt
    above n (p ∷ ps) all = further (representative colour p.1) refl (above n ps all.1)
      where
        further : (o : Option Member) → representative colour p.1 ≡ o → AllByRecursion (λ (r : RegionPoint). n < r.region) (region_points colour ps)
            → AllByRecursion (λ (r : RegionPoint). n < r.region) (region_points colour (p ∷ ps))
        further None is later = rw is later
        further (Some m) is later = rw is (all.0, later)

    go : (o : Option Member) → representative colour pair.1 ≡ o → IsAscendingBy region_of (region_points colour pairs)
        → IsAscendingBy region_of (region_points colour (pair ∷ pairs))
    go None is later = rw is later
    go (Some m) is later = rw is (above pair.0 pairs up.0, later)

-- so their regions tell them apart
pub apart-points : (colour : ℕ) (pairs : Summaries) → IsByRegion pairs → AreApart region_of (region_points colour pairs)
apart-points colour pairs up = AreApart-ascending region_of (region_points colour pairs) (points-ascend colour pairs up)
