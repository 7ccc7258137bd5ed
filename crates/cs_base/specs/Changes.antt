-- What a change is about, and which of two changes of one member is the stronger.
use Rattle.std.specs.Prelude.{ℕ, ◌^◌}
use Rattle.cs_base.specs.declared.change.Change.{Change}
use Rattle.cs_base.specs.declared.change.Change.TheVariants.{Join, Move, Leave}

-- the member that the change is about
abbrev pub id_of : Change → ℕ
id_of (Join member) = member.id
id_of (Move id seq at) = id
id_of (Leave id) = id

-- a Leave is above every Move, a Move above those with a smaller seq, and a Join below all
abbrev pub rank_of : Change → ℕ
rank_of (Join member) = 0
rank_of (Move id seq at) = seq
rank_of (Leave id) = 2 ^ 32
