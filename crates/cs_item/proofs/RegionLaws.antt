-- The laws of a region with what stands beside it, and of the summaries of regions.
use Rattle.std.proofs.Common.{ℕ, ◌+◌, ◌≤◌, List, length, Result, Ok, arith, refl}
use Rattle.std.specs.List.{sum}
use Rattle.std.proofs.lemmas.List.{append-nil}
use Rattle.cs_base.specs.Limits.{last_number, most_regions}
use Rattle.cs_fields.specs.declared.fault.PacketFault.{PacketFault}
use Rattle.cs_fields.specs.Reading.{Reader, ◌>>=◌, Gives, IsTaken}
use Rattle.cs_fields.proofs.Codec.{IsBytes, IsCodec, IsCodec-bind, IsCodec-done, IsCodec-same, IsCodec-text, sum-cons, taken}
use Rattle.cs_fields.proofs.Counted.{listed_codec, counted_size}
use Rattle.cs_fields.proofs.Fields.{region_from_codec}
use Rattle.cs_roll.specs.Sight.{Summaries}
use Rattle.cs_roll.specs.Summary.{RegionSummary}
use Rattle.cs_item.specs.Beside.{beside_bytes, beside_from, beside_sizes, IsBeside}
use Rattle.cs_item.specs.SummaryField.{IsShortSummary, summary_at, summary_bytes, summary_len, summary_sizes}
use Rattle.cs_item.specs.RegionsField.{IsRegions, regions_at, regions_bytes, regions_len, regions_sizes}
use Rattle.cs_item.proofs.SummaryLaws.{summary_codec, summary_size}

module _ {T : Type 0} {read : Reader T} {spell sizes : T → List ℕ} {Allowed : T → Type 0} (law : IsCodec read spell sizes Allowed) where
  -- a region, and what stands beside it
  pub beside_codec : (least : ℕ) → IsCodec (beside_from read least) (beside_bytes spell) (beside_sizes sizes) (IsBeside Allowed least)
  unfolding beside_from beside_bytes
  beside_codec least =
      IsCodec-text
      (IsCodec-bind (λ region. λ bytes at. read bytes at >>= λ item. Ok ((region.0, item.0), item.1)) (λ pair. pair.0) (region_from_codec least)
      (λ region is_region. IsCodec-bind (λ item. λ bytes at. Ok ((region.0, item.0), at)) (λ pair. pair.1) law
      (λ item is_item. IsCodec-done (region.0, item.0) (refl, (refl, (is_region, is_item))) (λ pair is. rw (← is.0, ← is.1.0) refl))
      (λ pair is. is.1.1))
      (λ pair is. is.0))
      (λ pair is. (simp append-nil, simp append-nil))

pub beside_size : {T : Type 0} (sizes : T → List ℕ) (pair : ℕ × T) (most : ℕ) → sum (sizes pair.1) ≤ most → sum (beside_sizes sizes pair) ≤ 4 + most
beside_size sizes pair most small = omega (arith, sum-cons 4 (sizes pair.1), small)

pub region_summary_taken : (least : ℕ) (bytes : List ℕ) (at : ℕ) (r : Result ((ℕ × RegionSummary) × ℕ) PacketFault) → IsBytes bytes → at ≤ length bytes
    → Gives r (beside_from summary_at least bytes at) → IsTaken (beside_bytes summary_bytes) (IsBeside IsShortSummary least) (4 + summary_len) bytes at r
region_summary_taken least bytes at r are_bytes within given =
    taken (4 + summary_len) bytes at r (beside_codec summary_codec least)
    (λ pair is. beside_size summary_sizes pair summary_len (summary_size pair.1 is.1)) are_bytes within given

abbrev region_of : ℕ × RegionSummary → ℕ
region_of pair = pair.0

-- what is asked of a pair beside the least region
abbrev FitsBeside : ℕ × RegionSummary → Type 0
FitsBeside pair = (pair.0 ≤ last_number) × IsShortSummary pair.1

pub regions_codec : (least : ℕ) → IsCodec (regions_at least) regions_bytes regions_sizes (IsRegions least)
unfolding regions_at regions_bytes
regions_codec least =
    listed_codec region_of FitsBeside 0 (IsBeside IsShortSummary 0) (λ pair low fits. ((low, fits.0), fits.1)) (λ pair is. (is.0.0, (is.0.1, is.1)))
    (λ least. IsCodec-same (beside_codec summary_codec least)
    (λ pair is. (is.0.0, (is.0.1, is.1))) (λ pair is. ((is.0, is.1.0), is.1.1)) (λ pair _. (refl, refl)))
    1 least most_regions (omega arith) (omega arith)

pub regions_size : (least : ℕ) (pairs : Summaries) → IsRegions least pairs → sum (regions_sizes pairs) ≤ regions_len
regions_size least pairs is =
    counted_size (beside_sizes summary_sizes) (IsBeside IsShortSummary 0) 1 (4 + summary_len) most_regions
    (λ pair ok. beside_size summary_sizes pair summary_len (summary_size pair.1 ok.1)) pairs is.allowed is.few

pub regions_taken : (least : ℕ) (bytes : List ℕ) (at : ℕ) (r : Result (Summaries × ℕ) PacketFault) → IsBytes bytes → at ≤ length bytes
    → Gives r (regions_at least bytes at) → IsTaken regions_bytes (IsRegions least) regions_len bytes at r
regions_taken least bytes at r are_bytes within given =
    taken regions_len bytes at r (regions_codec least) (regions_size least) are_bytes within given
