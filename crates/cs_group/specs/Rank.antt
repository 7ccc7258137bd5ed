-- The rank of a row as one number.
use Rattle.std.specs.Prelude.{ℕ, ◌+◌, ◌*◌}

-- rows are ranked by region, and within one by id, which is below 2 ^ 32
abbrev pub rank_at : ℕ → ℕ → ℕ
rank_at region id = region * 4294967296 + id
