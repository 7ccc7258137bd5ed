use Rattle.std.proofs.Common.{◌≡◌, ◌++◌, map, take}
use Rattle.cs_hold.proofs.hold.append_names.Given as goal

-- the names of the pieces so far stand behind
abbrev pub invariant-loop-piece : goal.invariant-loop-piece
invariant-loop-piece l = l.names.items ≡ l.fn.names.items ++ map (λ piece. (l.shelf.0, piece.0)) (take l.piece-index l.piece-items)
