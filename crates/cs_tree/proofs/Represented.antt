-- Standings: what they say of the summaries that they were made of.
use Rattle.std.proofs.Common.{◌≡◌, ℕ, zero, suc, ◌+◌, ◌<◌, ◌==◌, Bool, false, List, [], ◌∷◌, ◌++◌, length, take, slice_get}
use Rattle.std.proofs.Common.{Option, None, Some, refl, sym, ap, ◌∙◌, arith}
use Rattle.std.specs.List.{AllByRecursion, find}
use Rattle.std.specs.Option.{option_and_then, option_map, option_map_or}
use Rattle.std.proofs.lemmas.List.{map-append, take_more}
use Rattle.std.proofs.lemmas.Option.{none-some, same_Some, slice_get-map}
use Rattle.cs_base.specs.declared.member.Member.{Member}
use Rattle.cs_roll.specs.Roll.{member_id}
use Rattle.cs_roll.specs.Sight.{IsByRegion, Summaries, at_region}
use Rattle.cs_roll.specs.Summary.{RegionSummary}
use Rattle.cs_tree.specs.Colour.{representative}
use Rattle.cs_tree.specs.Route.{is_node, representative_at}
use Rattle.cs_tree.specs.Standing.{NodesByRegion, nodes_of, stands, standings}
use Rattle.cs_tree.proofs.KeptTrees.{beside-at}
use Rattle.cs_tree.proofs.RegionPoints.{pair-read}

-- a region and the nodes beside it
abbrev Standing : Type 0
Standing = ℕ × List (Option ℕ)

-- those of one region
abbrev pub standing : ℕ × RegionSummary → Standing
standing pair = (pair.0, nodes_of pair.1)

-- the node of a member
node-is : (me : ℕ) (member : Option Member) → option_map_or (λ node. node == me) (option_map member_id member) false ≡ is_node me member
node-is me None = refl
node-is me (Some member) = refl

-- among the nodes of a region is its representative
pub stands-is : (me colour : ℕ) (summary : RegionSummary) → colour < 4 → stands me colour (nodes_of summary) ≡ is_node me (representative colour summary)
stands-is me zero summary lt = node-is me (representative 0 summary)
stands-is me (suc zero) summary lt = node-is me (representative 1 summary)
stands-is me (suc (suc zero)) summary lt = node-is me (representative 2 summary)
stands-is me (suc (suc (suc zero))) summary lt = node-is me (representative 3 summary)
stands-is me (suc (suc (suc (suc colour)))) summary lt = absurd (omega (arith, lt))

-- the standing at a place
pub standing-at : (summaries : Summaries) (place : ℕ) (above : ℕ × RegionSummary) → slice_get summaries place ≡ Some above
    → slice_get (standings summaries) place ≡ Some (standing above)
standing-at summaries place above at = slice_get-map standing summaries place ∙ ap (option_map standing) at

-- and what is read of it
pub stands-read : (me colour place : ℕ) (summaries : Summaries) (summary : RegionSummary) (member : Member) (s : Standing) → colour < 4
    → option_map (λ (pair : ℕ × RegionSummary). pair.1) (slice_get summaries place) ≡ Some summary → representative colour summary ≡ Some member
    → slice_get (standings summaries) place ≡ Some s → (member.id == me) ≡ stands me colour s.1
stands-read me colour place summaries summary member s lt read stands_there at =
    go (slice_get summaries place) read (sym (slice_get-map standing summaries place) ∙ at)
  where
    go : (o : Option (ℕ × RegionSummary)) → option_map (λ (pair : ℕ × RegionSummary). pair.1) o ≡ Some summary → option_map standing o ≡ Some s
        → (member.id == me) ≡ stands me colour s.1
    go None is beside = absurd (none-some s beside)
    go (Some above) is beside =
        let same : nodes_of above.1 ≡ s.1 = ap (λ (t : Standing). t.1) (same_Some (standing above) s beside) in
        let summary_is : above.1 ≡ summary = same_Some above.1 summary is in
        sym (ap (stands me colour) (sym same) ∙ (stands-is me colour above.1 lt
        ∙ (ap (λ (t : RegionSummary). is_node me (representative colour t)) summary_is ∙ ap (is_node me) stands_there)))

-- whether a node represents a region, by its standing
pub stands-for-is : (me colour region : ℕ) (summaries : Summaries) → colour < 4
    → option_map_or (stands me colour) (at_region region (standings summaries)) false ≡ is_node me (representative_at colour summaries region)
stands-for-is me colour region summaries lt =
    ap (λ o. option_map_or (stands me colour) o false) (beside-at nodes_of region summaries) ∙ go (at_region region summaries)
  where
    go : (known : Option RegionSummary) → option_map_or (stands me colour) (option_map nodes_of known) false
        ≡ option_map_or (λ (m : Member). m.id == me) (option_and_then (representative colour) known) false
    go None = refl
    go (Some summary) = stands-is me colour summary lt

-- what is answered of a place says whether a node represents the region there
pub stands-above : (me colour place : ℕ) (summaries : Summaries) (list : NodesByRegion) (above : ℕ × RegionSummary) (b : Bool) → colour < 4
    → list ≡ standings summaries → slice_get summaries place ≡ Some above
    → ((pair : Standing) → slice_get list place ≡ Some pair → b ≡ stands me colour pair.1) → b ≡ is_node me (representative colour above.1)
stands-above me colour place summaries list above b lt is at answered =
    answered (standing above) (ap (λ (l : NodesByRegion). slice_get l place) is ∙ standing-at summaries place above at)
    ∙ stands-is me colour above.1 lt

-- what is found of a list says whether a node represents the region
pub stands-found : (me colour region key : ℕ) (list now : NodesByRegion) (found : Option Standing) → list ≡ now → key ≡ region
    → find (λ (pair : Standing). pair.0 == key) list ≡ found
    → option_map_or (stands me colour) (option_map (λ (pair : Standing). pair.1) found) false
    ≡ option_map_or (stands me colour) (at_region region now) false
stands-found me colour region key list now found list_is key_is is =
    let there : find (λ (pair : Standing). pair.0 == region) now ≡ found =
    sym (ap (find (λ (pair : Standing). pair.0 == key)) list_is ∙ ap (λ k. find (λ (pair : Standing). pair.0 == k) now) key_is) ∙ is in
    ap (λ o. option_map_or (stands me colour) (option_map (λ (pair : Standing). pair.1) o) false) (sym there)

-- they ascend as the summaries do
pub standings-ascend : (summaries : Summaries) → IsByRegion summaries → IsByRegion (standings summaries)
standings-ascend [] up = tt
standings-ascend (pair ∷ pairs) up = (above pair.0 pairs up.0, standings-ascend pairs up.1)
  where
    above : (n : ℕ) (ps : Summaries) → AllByRecursion (λ (p : ℕ × RegionSummary). n < p.0) ps
        → AllByRecursion (λ (s : Standing). n < s.0) (standings ps)
    above n [] all = tt
    above n (p ∷ ps) all = (all.0, above n ps all.1)

-- one more region
pub standings-more : (pairs : Summaries) (i region : ℕ) (summary : RegionSummary) → i < length pairs
    → option_map (λ (pair : ℕ × RegionSummary). pair.0) (slice_get pairs i) ≡ Some region
    → option_map (λ (pair : ℕ × RegionSummary). pair.1) (slice_get pairs i) ≡ Some summary
    → standings (take i pairs) ++ (region, nodes_of summary) ∷ [] ≡ standings (take (i + 1) pairs)
standings-more pairs i region summary lt first second =
    let d : ℕ × RegionSummary = (region, summary) in
    let read = pair-read pairs i region summary first second d in
    sym (ap standings (take_more pairs i d lt ∙ ap (λ pair. take i pairs ++ pair ∷ []) read) ∙ map-append standing (take i pairs) (d ∷ []))
