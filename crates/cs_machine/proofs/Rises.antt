-- No node falls back: in the worlds after a world what the log of each node leads to is at an epoch that is no earlier,
-- or has left.
use Rattle.std.proofs.Common.{◌≡◌, ℕ, ◌≤◌, Some, sym, ◌∙◌, subst, arith}
use Rattle.std.proofs.lemmas.Option.{same_Some}
use Rattle.cs_machine.specs.Contents.{contents_of}
use Rattle.cs_machine.specs.Names.{Following, Joining, Leading, Left, Membership, Node, State, World, node_of}
use Rattle.cs_machine.specs.Reached.{IsReached, IsStarted}
use Rattle.cs_machine.specs.Restoring.{lasting, restored}
use Rattle.cs_machine.proofs.Follows.{Follows, Follows-further, Follows-same, is-up, restored-later}

-- ---- states

-- a node in this state has come to this epoch or a later one; a joining one is at epoch 0. One that has left prints no
-- block any more, so nothing is asked of it
abbrev pub IsAtLeast : ℕ → State → Type 0
IsAtLeast n Joining = n ≡ 0
IsAtLeast n (Following m) = n ≤ m.epoch
IsAtLeast n (Leading epoch pending) = n ≤ epoch
IsAtLeast n Left = Unit {0}

-- the next state has come to each epoch to which the state has. So behind `Left` there is `Left` alone
abbrev pub RisesTo : State → State → Type 0
RisesTo state next = (n : ℕ) → IsAtLeast n state → IsAtLeast n next

-- a member's state rises to that of one at an epoch that is no earlier
pub rises-member : (m next : Membership) → m.epoch ≤ next.epoch → RisesTo (Following m) (Following next)
rises-member m next le n at = omega (arith, le, at)

-- a restart leaves a state where it has come to
pub rises-lasting : (state : State) → RisesTo state (lasting state)
rises-lasting Joining n at = at
rises-lasting (Following m) n at = at
rises-lasting (Leading epoch pending) n at = at
rises-lasting Left n at = at

-- and brings it no further
pub rises-lasted : (state : State) → RisesTo (lasting state) state
rises-lasted Joining n at = at
rises-lasted (Following m) n at = at
rises-lasted (Leading epoch pending) n at = at
rises-lasted Left n at = at

-- ---- worlds

-- what a node's log leads to
abbrev pub restored_in : World → Node → State
restored_in world node = restored (contents_of world) node.own node.entries

-- so a node that is up has come to where its log leads to, and its log leads to where it has come to
pub IsAtLeast-restored : (world : World) (node : Node) (state : State) → IsStarted world node → node.state ≡ Some state
    → RisesTo state (restored_in world node) × RisesTo (restored_in world node) state
IsAtLeast-restored world node state is same =
    let up = is-up world node state is same in (
      subst (RisesTo state) up.lasts (rises-lasting state),
      subst (λ s. RisesTo s state) up.lasts (rises-lasted state),
    )

-- no node's log leads to an epoch before the one to which it led, or to one at all once the node has left
abbrev pub Rises : World → World → Type 0
Rises world later = (id : ℕ) (node next : Node) → node_of world id ≡ Some node → node_of later id ≡ Some next
    → RisesTo (restored_in world node) (restored_in later next)

-- the later world comes from the earlier one
abbrev pub IsLater : World → World → Type 0
IsLater world later = Follows world later × Rises world later

-- one node is found under an id
pub found-same : (world : World) (id : ℕ) (node next : Node) → node_of world id ≡ Some node → node_of world id ≡ Some next → node ≡ next
found-same world id node next found there = same_Some node next (sym found ∙ there)

-- in a later world the log of a node that stays as it is leads to what it led to
pub rises-later : (world later : World) → Follows world later → (node : Node) → IsStarted world node
    → RisesTo (restored_in world node) (restored_in later node)
rises-later world later follows node is =
    subst (RisesTo (restored_in world node))
    (sym (restored-later world later follows is.leader is.led node.own node.entries is.entries)) (λ n at. at)

-- where each node stays as it is, none falls back
pub Rises-stays : (world later : World) → IsReached world → Follows world later
    → ((id : ℕ) (node : Node) → node_of world id ≡ Some node → node_of later id ≡ Some node) → Rises world later
Rises-stays world later reached follows still id node next found there =
    subst (λ (n : Node). RisesTo (restored_in world node) (restored_in later n))
    (found-same later id node next (still id node found) there) (rises-later world later follows node (reached.nodes id node found))

-- a world comes from itself
pub IsLater-same : (world : World) → IsLater world world
IsLater-same world = (
  Follows-same world,
  λ id node next found there.
      subst (λ (n : Node). RisesTo (restored_in world node) (restored_in world n))
      (found-same world id node next found there) (λ n at. at),
)

-- what comes from a later world comes from the earlier one
pub IsLater-further : (a b c : World) → IsLater a b → IsLater b c → IsLater a c
IsLater-further a b c first second = (
  Follows-further a b c first.0 second.0,
  λ id node last found there n at.
      let next = first.0.nodes id node found in
      second.1 id next.node last next.found there n (first.1 id node next.node found next.found n at),
)
