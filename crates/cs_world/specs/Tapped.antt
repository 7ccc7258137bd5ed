-- What a link that is tapped has in common with its copies.
use Rattle.std.specs.Prelude.{◌≡◌, min, Option, Some, IfSome}
use Rattle.cs_link.specs.Room.{Room}

-- the room that both have
abbrev pub common_room : Room → Room → Room
common_room one other = record {
  pieces = min one.pieces other.pieces;
  bytes = min one.bytes other.bytes;
}

-- what the one tells, where it tells, is what the other tells
abbrev pub TellsSame : {T : Type 0} → Option T → Option T → Type 0
TellsSame one other = IfSome one (λ x. other ≡ Some x)
