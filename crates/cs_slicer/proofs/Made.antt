-- The slices of a turn, put together of their lists.
use Rattle.std.proofs.Common.{◌≡◌, ℕ, List, map, not, sym, ap, ◌∙◌}
use Rattle.std.specs.List.{filter}
use Rattle.cs_group.specs.Group.{GroupState, IsGroup}
use Rattle.cs_group.specs.Rows.{regions}
use Rattle.cs_group.specs.declared.next.Turn.{Turn}
use Rattle.cs_item.specs.declared.part.Part.{Part}
use Rattle.cs_roll.specs.Sight.{Summaries}
use Rattle.cs_slicer.specs.Head.{dropped_in, is_same_kind, summaries_in}
use Rattle.cs_slicer.specs.Leavers.{leavers}
use Rattle.cs_slicer.specs.Part.{part_in}
use Rattle.cs_slicer.specs.Slicer.{Slices, slices_in}
use Rattle.cs_slicer.specs.Turn.{IsTurnOf}
use Rattle.cs_slicer.proofs.Left.{left_in-leavers}
use Rattle.cs_slicer.proofs.Slices.{touched-parts}

-- these lists and parts
abbrev pub slices_of : ℕ → List ℕ → List ℕ → Summaries → List ℕ → List Part → Slices
slices_of epoch left dropped summaries touched parts = record {
  head = record { epoch = epoch; left = left; dropped = dropped; summaries = summaries; touched = touched };
  parts = parts;
}

-- where each list is what the turn says
pub slices-made : (before : GroupState) (turn : Turn) (epoch : ℕ) → IsGroup before → IsTurnOf before turn
    → (left dropped : List ℕ) (summaries : Summaries) (touched : List ℕ) (parts : List Part)
    → left ≡ leavers turn.item → dropped ≡ dropped_in before.rows turn.group.rows → summaries ≡ summaries_in before.rows turn.group.rows
    → touched ≡ map (λ (p : Part). p.region) (filter (λ (p : Part). not (is_same_kind p.kind)) parts)
    → parts ≡ map (part_in before turn) (regions before.rows) → slices_of epoch left dropped summaries touched parts ≡ slices_in before turn epoch
slices-made before turn epoch is of left dropped summaries touched parts left-is dropped-is summaries-is touched-is parts-is =
    let out = left-is ∙ sym (left_in-leavers before turn is of) in
    let named = touched-is
    ∙ (ap (λ (ps : List Part). map (λ (p : Part). p.region) (filter (λ (p : Part). not (is_same_kind p.kind)) ps)) parts-is ∙ touched-parts before turn) in
    λ i. record {
      head = record { epoch = epoch; left = out i; dropped = dropped-is i; summaries = summaries-is i; touched = named i };
      parts = parts-is i;
    }
