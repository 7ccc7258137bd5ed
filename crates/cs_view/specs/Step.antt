-- The step of a view: what it becomes by the head of the next epoch and the parts of some of its regions.
use Rattle.std.specs.Prelude.{ℕ, Bool, not, ◌==◌, ◌&&◌, List, [], ◌∷◌, Option, Some, None, if◌then◌else◌}
use Rattle.std.specs.List.{filter, flat_map, fold, list_all, list_any}
use Rattle.cs_base.specs.Ascending.{at_key, placed_by}
use Rattle.cs_base.specs.Split.{lower_part, upper_part}
use Rattle.cs_base.specs.declared.change.Mode.{Mode}
use Rattle.cs_base.specs.declared.member.Member.{Member}
use Rattle.cs_base.specs.declared.split.Cut.{Cut}
use Rattle.cs_item.specs.declared.head.Head.{Head}
use Rattle.cs_item.specs.declared.part.Part.{Part}
use Rattle.cs_item.specs.declared.part.PartKind.{PartKind}
use Rattle.cs_item.specs.declared.part.PartKind.TheVariants.{Same, Diff, Whole}
use Rattle.cs_item.specs.declared.picture.Picture.{Picture}
use Rattle.cs_roll.specs.Roll.{with_member}
use Rattle.cs_roll.specs.Sight.{Rolls, Summaries}
use Rattle.cs_roll.specs.Summary.{RegionSummary}
use Rattle.cs_view.specs.View.{kept}

-- whether the number is among these
abbrev pub is_among : List ℕ → ℕ → Bool
is_among ns n = list_any (λ k. k == n) ns

-- the part of a region, where there is one
abbrev pub part_of : ℕ → List Part → Option Part
part_of region parts = at_key (λ (p : Part). p.region) region parts

-- the pairs with more of them, each of which is put in its place, instead of one of its region
abbrev pub placed_each : {T : Type 0} → List (ℕ × T) → List (ℕ × T) → List (ℕ × T)
placed_each {T} more pairs = fold (λ before pair. placed_by (λ (p : ℕ × T). p.0) pair before) pairs more

-- the summaries of the next epoch: the old ones without those of dropped regions, with those of the head put in
abbrev pub next_summaries : Summaries → Head → Summaries
next_summaries summaries head =
    placed_each head.summaries (filter (λ (p : ℕ × RegionSummary). not (is_among head.dropped p.0)) summaries)

-- the roll of a region, or where it is cut both of its parts, of which the upper one is the cut's new region
abbrev pub cut_in_two : ℕ → List Member → Option Cut → Rolls
cut_in_two region roll None = (region, roll) ∷ []
cut_in_two region roll (Some cut) =
    (region, lower_part cut.split roll) ∷ (cut.upper, upper_part cut.split roll) ∷ []

-- a roll without those who went out, and with those who came in or differ
abbrev pub changed : List ℕ → List Member → List Member → List Member
changed gone here roll =
    fold (λ members member. with_member member members)
    (filter (λ (m : Member). not (is_among gone m.id)) roll) here

-- what a known region gives where nothing of it changed: its roll, unless the region is dropped
abbrev pub unchanged : Head → ℕ × List Member → Rolls
unchanged head pair = if is_among head.dropped pair.0 then [] else pair ∷ []

-- whether one of the rolls is that of the region
abbrev pub is_known : Rolls → ℕ → Bool
is_known rolls region = list_any (λ (pair : ℕ × List Member). pair.0 == region) rolls

-- what a known region gives by a part: a region that was merged into another known one gives nothing
abbrev pub given_by_kind : Rolls → Head → ℕ × List Member → Option Cut → PartKind → Rolls
given_by_kind rolls head pair cut Same = unchanged head pair
given_by_kind rolls head pair cut (Diff gone here) = cut_in_two pair.0 (changed gone here pair.1) cut
given_by_kind rolls head pair cut (Whole into roll) = if is_known rolls into then [] else cut_in_two into roll cut

-- what a touched region gives by its part
abbrev pub given_by_part : Rolls → Head → ℕ × List Member → Option Part → Rolls
given_by_part rolls head pair None = []
given_by_part rolls head pair (Some part) = given_by_kind rolls head pair part.cut part.kind

-- what a known region gives
abbrev pub given : Rolls → Head → List Part → ℕ × List Member → Rolls
given rolls head parts pair =
    if is_among head.touched pair.0 then given_by_part rolls head pair (part_of pair.0 parts) else unchanged head pair

-- the rolls that the known regions give: a later roll of a region replaces an earlier one
abbrev pub next_rolls : Rolls → Head → List Part → Rolls
next_rolls rolls head parts = placed_each (flat_map (given rolls head parts) rolls) []

-- whether a head neither touches nor drops one of the regions of the rolls
abbrev pub leaves_all : Head → Rolls → Bool
leaves_all head rolls =
    list_all (λ (pair : ℕ × List Member). not (is_among head.touched pair.0) && not (is_among head.dropped pair.0)) rolls

-- the view of the next epoch, with the rolls that a node keeps
abbrev pub next_view : ℕ → Mode → Picture → Head → List Part → Picture
next_view me mode view head parts = record {
  epoch = head.epoch;
  summaries = next_summaries view.summaries head;
  rolls = kept me mode (next_rolls view.rolls head parts);
}
