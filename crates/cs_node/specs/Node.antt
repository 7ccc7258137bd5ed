-- What a node is: joining or a member, the leader, or one that left.
use Rattle.std.specs.Prelude.{Option, None, Some}
use Rattle.std.specs.Option.{option_map}
use Rattle.cs_core.specs.Node.{view_of as follower_view}
use Rattle.cs_core.specs.Routing.{view_trees}
use Rattle.cs_item.specs.declared.picture.Picture.{Picture}
use Rattle.cs_tree.specs.Kept.{KeptTrees}
use Rattle.cs_node.specs.declared.node.Node.{Node}
use Rattle.cs_node.specs.declared.node.Node.TheVariants as nodes

-- the view of a member and of the leader
abbrev pub view_of : Node → Option Picture
view_of (nodes.Follower f) = follower_view f
view_of (nodes.Leader leader) = Some leader.view
view_of nodes.Left = None

-- the trees of that view
abbrev pub trees_in : Node → Option KeptTrees
trees_in node = option_map view_trees (view_of node)
