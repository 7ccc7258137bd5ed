-- Each event of a schedule is one that a line can say.
use Rattle.std.proofs.Common.{ℕ, zero, suc, ◌+◌, ◌-◌, ◌*◌, ◌≤◌, ◌/◌, ◌^◌, List, [], ◌∷◌, ◌++◌, map, arith, refl}
use Rattle.std.specs.List.{AllByRecursion, range_with_len}
use Rattle.std.specs.Int.{div_ceil}
use Rattle.std.proofs.lemmas.Int.{ints}
use Rattle.std.proofs.lemmas.Nat.{mod_below}
use Rattle.cs_base.specs.Address.{IsAddress}
use Rattle.cs_base.specs.Axes.{IsNear, IsPoint}
use Rattle.cs_base.specs.Limits.{farthest}
use Rattle.cs_base.specs.Ranges.{IsFromTo, IsId, IsMember}
use Rattle.cs_base.proofs.Elements.{All-append, All-changed, All-drop, All-flat_map, All-map, All-take}
use Rattle.cs_script.specs.Event.{IsEvent}
use Rattle.cs_script.specs.declared.event.Event.{Event}
use Rattle.cs_script.specs.declared.event.Event.TheVariants as events
use Rattle.cs_drill.specs.Draws.{coordinate, id, point, state_after}
use Rattle.cs_drill.specs.Limits.{fewest_nodes, moves, most_nodes, rounds, together}
use Rattle.cs_drill.specs.Schedule as parts

-- all of these are events that a line can say
abbrev AreAllowed : List Event → Type 0
AreAllowed = AllByRecursion IsEvent

-- the node is one of a drill
abbrev IsNode : ℕ → Type 0
IsNode = IsFromTo 1 most_nodes

-- numbers in a row are in the range of the first and the last
pub in-a-row : (most first count : ℕ) → 1 ≤ first → first + count ≤ most + 1 → AllByRecursion (IsFromTo 1 most) (range_with_len first count)
in-a-row most first zero from to = tt
in-a-row most first (suc count) from to =
    ((from, omega (arith, to)), in-a-row most (first + 1) count (omega arith) (omega (arith, to)))

pub others-are-nodes : (nodes : ℕ) → IsFromTo fewest_nodes most_nodes nodes → AllByRecursion IsNode (parts.others nodes)
others-are-nodes nodes many = in-a-row most_nodes 2 (nodes - 1) (omega arith) (omega (arith, many))

pub node-has-id : (node : ℕ) → IsNode node → IsId node
node-has-id node one = (one.0, omega (arith, one))

-- a drawn id is one of a node
pub drawn-id : (nodes seed before : ℕ) → IsFromTo fewest_nodes most_nodes nodes → IsId (id nodes seed before)
drawn-id nodes seed before many =
    let below = mod_below (state_after seed (suc before) / 2 ^ 33) (nodes - 1) (omega (arith, many)) in
    (omega arith, omega (arith, below, many))

-- and a drawn point isn't too far away
pub drawn-near : (seed before : ℕ) → IsNear farthest (coordinate seed before)
drawn-near seed before =
    let below = mod_below (state_after seed (suc before) / 2 ^ 33) (2 * farthest + 1) (omega arith) in
    (omega (arith, ints, below), omega (arith, ints, below))

pub drawn-point : (seed before : ℕ) → IsPoint (point seed before)
drawn-point seed before =
    record { x = drawn-near seed before; y = drawn-near seed (before + 1); z = drawn-near seed (before + 2) }

pub has-address : (node : ℕ) → IsNode node → IsAddress (parts.address_of node)
has-address node one = record {
  four = refl;
  bytes = (omega arith, (omega arith, (omega arith, (omega arith, tt))));
  some_port = omega arith;
  port = omega (arith, one);
}

pub is-member : (node seed before : ℕ) → IsNode node → IsMember (record { id = node; addr = parts.address_of node; at = point seed before })
is-member node seed before one =
    record { id = node-has-id node one; addr = has-address node one; at = drawn-point seed before }

pub settles : IsEvent parts.settle
settles = (omega arith, omega arith)

pub asks : (node : ℕ) → IsId node → IsEvent (parts.asked node)
asks node one = (one, (omega arith, omega arith))

-- each of the nodes does what one with an id can
pub each : (event : ℕ → Event) (nodes : List ℕ) → ((node : ℕ) → IsId node → IsEvent (event node)) → AllByRecursion IsNode nodes
    → AreAllowed (map event nodes)
each event nodes can all = All-changed IsNode IsEvent event (λ node one. can node (node-has-id node one)) nodes all

module _ (nodes seed : ℕ) (many : IsFromTo fewest_nodes most_nodes nodes) where
  starts : AreAllowed (parts.starts nodes seed)
  starts = (
    is-member 1 seed 0 (omega arith, omega arith),
    All-changed IsNode IsEvent (parts.booted nodes seed) (λ node one. is-member node seed (3 * (node - 1)) one)
        (parts.others nodes) (others-are-nodes nodes many),
  )

  joined : (place : ℕ) → AreAllowed (parts.joined (parts.batch nodes place))
  joined place =
      All-append IsEvent (map events.Join (parts.batch nodes place)) _
      (each events.Join (parts.batch nodes place) (λ node one. one)
      (All-take IsNode together _ (All-drop IsNode (together * place) (parts.others nodes) (others-are-nodes nodes many))))
      (settles, (tt, (settles, tt)))

  joins : AreAllowed (parts.joins nodes)
  joins = All-flat_map IsEvent (λ place. parts.joined (parts.batch nodes place)) joined (range_with_len 0 (div_ceil (nodes - 1) together))

  changes : (before : ℕ) → AreAllowed (parts.changes nodes seed before)
  changes before =
      All-append IsEvent (map (parts.moved nodes seed before) (range_with_len 0 moves))
      (events.Leave (parts.leaver nodes seed before) ∷ parts.settle ∷ [])
      (All-map IsEvent (parts.moved nodes seed before)
      (λ place. (drawn-id nodes seed (before + 4 * place) many, drawn-point seed (before + 4 * place + 1))) (range_with_len 0 moves))
      (drawn-id nodes seed (before + 4 * moves) many, (settles, tt))

  turn : (down : ℕ) → IsId down → AreAllowed (parts.turn nodes down)
  turn down one =
      All-append IsEvent (map events.Flush (parts.others nodes)) _
      (each events.Flush (parts.others nodes) (λ node has. has) (others-are-nodes nodes many)) (settles, (one, (tt, (settles, (one, tt)))))

  catches-up : (before : ℕ) → AreAllowed (parts.catches_up nodes seed before)
  catches-up before =
      All-append IsEvent (map (λ place. parts.asked (parts.mover nodes seed before place)) (range_with_len 0 moves))
      (parts.asked (parts.victim nodes seed before) ∷ parts.settle ∷ [])
      (All-map IsEvent (λ place. parts.asked (parts.mover nodes seed before place))
      (λ place. asks _ (drawn-id nodes seed (before + 4 * place) many)) (range_with_len 0 moves))
      (asks _ (drawn-id nodes seed (before + 4 * moves + 1) many), (settles, tt))

  round : (before : ℕ) → AreAllowed (parts.round_behind nodes seed before)
  round before =
      All-append IsEvent (parts.changes nodes seed before) _ (changes before)
      (All-append IsEvent (parts.turn nodes (parts.victim nodes seed before)) _
      (turn (parts.victim nodes seed before) (drawn-id nodes seed (before + 4 * moves + 1) many)) (catches-up before))

  all-rounds : AreAllowed (parts.all_rounds nodes seed)
  unfolding parts.all_rounds
  all-rounds =
      All-flat_map IsEvent (λ place. parts.round_behind nodes seed (parts.draws_before nodes place))
      (λ place. round (parts.draws_before nodes place)) (range_with_len 0 rounds)

  ends : AreAllowed (parts.ends nodes)
  ends =
      All-append IsEvent (map parts.asked (parts.others nodes)) _
      (each parts.asked (parts.others nodes) asks (others-are-nodes nodes many))
      (settles, each events.Print (range_with_len 1 nodes) (λ node one. one) (in-a-row most_nodes 1 nodes (omega arith) (omega (arith, many))))

  pub all-allowed : AreAllowed (parts.schedule nodes seed)
  all-allowed =
      let begun = All-append IsEvent (parts.starts nodes seed) (parts.joins nodes) starts joins in
      let changed = All-append IsEvent (parts.starts nodes seed ++ parts.joins nodes) (parts.all_rounds nodes seed) begun all-rounds in
      All-append IsEvent (parts.starts nodes seed ++ parts.joins nodes ++ parts.all_rounds nodes seed) (parts.ends nodes) changed ends
