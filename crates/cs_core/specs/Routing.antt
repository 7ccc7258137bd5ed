-- A piece that a node passes on, and the trees by which it does.
use Rattle.std.specs.Prelude.{ℕ, List, map}
use Rattle.cs_base.specs.Address.{Address}
use Rattle.cs_item.specs.declared.picture.Picture.{Picture}
use Rattle.cs_packet.specs.NamedPiece.{NamedPiece, piece_to}
use Rattle.cs_packet.specs.declared.packet.Packet.{Packet}
use Rattle.cs_tree.specs.Kept.{KeptTrees, kept_trees}
use Rattle.cs_tree.specs.Route.{route}

-- a piece on its way to each target of its route by a view
abbrev pub routed : ℕ → Picture → NamedPiece → List (Address × Packet)
routed me view piece = map (piece_to me piece) (route me view.summaries view.rolls piece.region piece.colour)

-- the trees of a view
abbrev pub view_trees : Picture → KeptTrees
view_trees view = kept_trees view.summaries view.rolls
