-- What a state has: a running node with its link and its log, or a reason why it stopped.
use Rattle.std.specs.Prelude.{◌≡◌, ⊤, Option, Some, None, IsSome, Result, Ok, Err}
use Rattle.cs_core.specs.Node.{Node as Follower}
use Rattle.cs_item.specs.declared.picture.Picture.{Picture}
use Rattle.cs_lead.specs.Leading.{Leading as Leader}
use Rattle.cs_node.specs.Node.{view_of}
use Rattle.cs_node.specs.Running.{Running}
use Rattle.cs_node.specs.declared.node.Node.{Node}
use Rattle.cs_node.specs.declared.node.Node.TheVariants as nodes
use Rattle.cs_node.specs.declared.state.State.{State}
use Rattle.cs_node.specs.declared.state.State.TheVariants as states
use Rattle.cs_node.specs.declared.stopped.Stopped.{Stopped}
use Rattle.cs_node.specs.declared.stopped.Why.{Why}

-- the node that runs
abbrev pub running_in : {L G : Type 0} → State L G → Option (Running L G)
running_in (states.Joining s) = Some s
running_in (states.Following s) = Some s
running_in (states.Leading s) = Some s
running_in (states.Left s) = Some s
running_in (states.Stopped s) = None

-- the node that stopped
abbrev pub stopped_in : {L G : Type 0} → State L G → Option (Stopped L G)
stopped_in (states.Joining s) = None
stopped_in (states.Following s) = None
stopped_in (states.Leading s) = None
stopped_in (states.Left s) = None
stopped_in (states.Stopped s) = Some s

-- the link
abbrev pub link_of : {L G : Type 0} → State L G → L
link_of (states.Joining s) = s.link
link_of (states.Following s) = s.link
link_of (states.Leading s) = s.link
link_of (states.Left s) = s.link
link_of (states.Stopped s) = s.link

-- the log
abbrev pub log_of : {L G : Type 0} → State L G → G
log_of (states.Joining s) = s.log
log_of (states.Following s) = s.log
log_of (states.Leading s) = s.log
log_of (states.Left s) = s.log
log_of (states.Stopped s) = s.log

-- the node that runs, or why it stopped
abbrev pub status_of : {L G : Type 0} → State L G → Result Node Why
status_of (states.Joining s) = Ok s.node
status_of (states.Following s) = Ok s.node
status_of (states.Leading s) = Ok s.node
status_of (states.Left s) = Ok s.node
status_of (states.Stopped s) = Err s.why

-- the view of a node that runs
abbrev pub view_by : Result Node Why → Option Picture
view_by (Ok node) = view_of node
view_by (Err reason) = None

-- and so of a state
abbrev pub view_in : {L G : Type 0} → State L G → Option Picture
view_in state = view_by (status_of state)

-- a node that isn't the leader: with a view, or without one
abbrev pub IsFollowerThat : (Follower → Type 0) → Node → Type 0
IsFollowerThat Is node = (f : Follower) × (node ≡ nodes.Follower f) × Is f

-- a node that runs is of the kind that its state says: without a view, with one, the leader, or one that left
abbrev pub IsOfItsKind : {L G : Type 0} → State L G → Type 0
IsOfItsKind (states.Joining s) = IsFollowerThat (λ f. f.following ≡ None) s.node
IsOfItsKind (states.Following s) = IsFollowerThat (λ f. IsSome f.following) s.node
IsOfItsKind (states.Leading s) = (leader : Leader) × (s.node ≡ nodes.Leader leader)
IsOfItsKind (states.Left s) = s.node ≡ nodes.Left
IsOfItsKind (states.Stopped s) = ⊤
