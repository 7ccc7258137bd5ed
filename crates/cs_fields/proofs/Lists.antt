-- The laws of lists of ids and of regions.
use Rattle.std.proofs.Common.{ℕ, ◌+◌, ◌*◌, ◌^◌, ◌<◌, ◌≤◌, List, arith}
use Rattle.std.specs.List.{sum}
use Rattle.cs_base.specs.Limits.{last_id, last_number, most_changes, most_regions, most_together}
use Rattle.cs_base.specs.Ranges.{IsFromTo}
use Rattle.cs_fields.specs.Whole.{one_field}
use Rattle.cs_fields.specs.Counted.{counted, counted_sizes, IsListed}
use Rattle.cs_fields.specs.Fields.{id_bytes, ids_at, ids_bytes, ids_sizes, IsIds, IsManyIds, IsRegionList, many_ids_at, many_ids_bytes, many_ids_sizes}
use Rattle.cs_fields.specs.Fields.{numbers_at, region_list_at}
use Rattle.cs_fields.proofs.Codec.{IsCodec}
use Rattle.cs_fields.proofs.Numbers.{number_in_codec}
use Rattle.cs_fields.proofs.Counted.{listed_codec, counted_size}

-- ascending numbers with a count of so many bytes
pub numbers_codec : (width most first last : ℕ) → 0 < width → most < 256 ^ width → last < 256 ^ 4
    → IsCodec (numbers_at width most first last) (counted width id_bytes) (counted_sizes width (one_field 4)) (IsListed 0 most (IsFromTo first last) (λ n. n))
unfolding numbers_at
numbers_codec width most first last some fits small =
    listed_codec (λ n. n) (λ n. n ≤ last) first (IsFromTo first last) (λ n low high. (low, high)) (λ n is. is)
    (λ least. number_in_codec 4 least last (omega arith) small) width 0 most some fits

-- at most so many numbers of four bytes
pub numbers_size : (Allowed : ℕ → Type 0) (width most : ℕ) (ns : List ℕ) → IsListed 0 most Allowed (λ n. n) ns
    → sum (counted_sizes width (one_field 4) ns) ≤ width + 4 * most
numbers_size Allowed width most ns is = counted_size (one_field 4) Allowed width 4 most (λ n _. omega arith) ns is.allowed is.few

-- ids, many ids, and regions
pub ids_codec : IsCodec ids_at ids_bytes ids_sizes IsIds
ids_codec = numbers_codec 1 most_changes 1 last_id (omega arith) (omega arith) (omega arith)

pub many_ids_codec : IsCodec many_ids_at many_ids_bytes many_ids_sizes IsManyIds
many_ids_codec = numbers_codec 2 most_together 1 last_id (omega arith) (omega arith) (omega arith)

pub region_list_codec : IsCodec region_list_at ids_bytes ids_sizes IsRegionList
region_list_codec = numbers_codec 1 most_regions 0 last_number (omega arith) (omega arith) (omega arith)
