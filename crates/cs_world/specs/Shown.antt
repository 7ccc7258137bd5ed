-- The view that a node has.
use Rattle.std.specs.Prelude.{ℕ, List, Option, Some, None, codes}
use Rattle.std.specs.Option.{option_and_then}
use Rattle.cs_item.specs.declared.picture.Picture.{Picture}
use Rattle.cs_node.specs.declared.node.Node.{Node as ANode}
use Rattle.cs_node.specs.declared.node.Node.TheVariants as nodes
use Rattle.cs_machine.specs.Closing.{whole_view}
use Rattle.cs_machine.specs.Contents.{Contents, contents_of, view_at}
use Rattle.cs_machine.specs.Names.{Following, Joining, Leading, Left, Node, State, World}

-- that of a member and of the leader
abbrev pub shown_by : Contents → State → Option Picture
shown_by c Joining = None
shown_by c (Following m) = Some (view_at c m.epoch m.known)
shown_by c (Leading epoch pending) = Some (whole_view c epoch)
shown_by c Left = None

-- whether there is a node or none
abbrev pub shown_at : World → Option Node → Option Picture
shown_at world None = None
shown_at world (Some node) = option_and_then (shown_by (contents_of world)) node.state

-- what a node that shows no view is; one that is down shows none either, and the leader always shows one
abbrev pub viewless_word : Option ANode → List ℕ
viewless_word None = codes "down"
viewless_word (Some (nodes.Follower f)) = codes "joining"
viewless_word (Some (nodes.Leader leader)) = codes "joining"
viewless_word (Some nodes.Left) = codes "departed"
