-- Each step of the plan of a live run is one that the run can take.
use Rattle.std.proofs.Common.{ℕ, ◌-◌, ◌*◌, ◌≤◌, List, ◌++◌, ◌∷◌, [], arith, refl}
use Rattle.std.specs.List.{AllByRecursion, range_with_len}
use Rattle.std.proofs.lemmas.Int.{ints}
use Rattle.cs_base.specs.Address.{IsAddress}
use Rattle.cs_base.specs.Axes.{IsPoint}
use Rattle.cs_base.specs.Limits.{farthest}
use Rattle.cs_base.specs.Ranges.{IsFromTo, IsId, IsMember}
use Rattle.cs_base.proofs.Elements.{All-append, All-changed}
use Rattle.cs_script.specs.Event.{IsEvent}
use Rattle.cs_script.specs.declared.event.Event.{Event}
use Rattle.cs_script.specs.declared.event.Event.TheVariants as events
use Rattle.cs_drill.specs.Limits.{fewest_nodes, first_port, last_port, most_live}
use Rattle.cs_drill.specs.Plan as parts
use Rattle.cs_drill.specs.Planned.{IsPlanned}
use Rattle.cs_drill.specs.Schedule.{asked, others}
use Rattle.cs_drill.specs.declared.plan.Planned.{Planned}
use Rattle.cs_drill.specs.declared.plan.Planned.TheVariants as planned
use Rattle.cs_drill.proofs.Allowed.{asks, in-a-row}

-- a run can take all of these
abbrev ArePlanned : List Planned → Type 0
ArePlanned = AllByRecursion IsPlanned

-- the node is one of a live run
abbrev IsLiveNode : ℕ → Type 0
IsLiveNode = IsFromTo 1 most_live

has-id : (node : ℕ) → IsLiveNode node → IsId node
has-id node one = (one.0, omega (arith, one))

is-near : (x : ℕ) → x ≤ farthest → IsPoint (parts.at_distance x)
is-near x near = record {
  x = (omega (arith, ints, near), omega (arith, ints, near));
  y = (omega (arith, ints), omega (arith, ints));
  z = (omega (arith, ints), omega (arith, ints));
}

-- each of the nodes does what one with an id can
each : (event : ℕ → Event) (nodes : List ℕ) → ((node : ℕ) → IsLiveNode node → IsEvent (event node)) → AllByRecursion IsLiveNode nodes
    → ArePlanned (parts.each event nodes)
each event nodes can all = All-changed IsLiveNode IsPlanned (λ node. planned.Event (event node)) can nodes all

module _ (nodes port : ℕ) (many : IsFromTo fewest_nodes most_live nodes) (some : IsFromTo first_port last_port port) where
  others-are-live : AllByRecursion IsLiveNode (others nodes)
  others-are-live = in-a-row most_live 2 (nodes - 1) (omega arith) (omega (arith, many))

  has-address : (node : ℕ) → IsLiveNode node → IsAddress (parts.address_behind port node)
  has-address node one = record {
    four = refl;
    bytes = (omega arith, (omega arith, (omega arith, (omega arith, tt))));
    some_port = omega (arith, one);
    port = omega (arith, one, some);
  }

  is-member : (node x : ℕ) → IsLiveNode node → x ≤ farthest
      → IsMember (record { id = node; addr = parts.address_behind port node; at = parts.at_distance x })
  is-member node x one near = record { id = has-id node one; addr = has-address node one; at = is-near x near }

  starts : ArePlanned (parts.live_starts nodes port)
  starts = (
    is-member 1 0 (omega arith, omega arith) (omega arith),
    each (parts.booted port) (others nodes) (λ node one. is-member node (1000 * node) one (omega (arith, one))) others-are-live,
  )

  joins : ArePlanned (parts.live_joins nodes)
  joins = All-append IsPlanned (parts.each events.Join (others nodes)) (planned.Poll ∷ [])
      (each events.Join (others nodes) has-id others-are-live) (tt, tt)

  closes : ArePlanned parts.live_close
  closes = (tt, (tt, tt))

  ends : ArePlanned (parts.live_ends nodes)
  ends = All-append IsPlanned (parts.each asked (others nodes)) _
      (each asked (others nodes) (λ node one. asks node (has-id node one)) others-are-live)
      (tt, each events.Print (range_with_len 1 nodes) has-id (in-a-row most_live 1 nodes (omega arith) (omega (arith, many))))

  pub all-planned : ArePlanned (parts.live_plan nodes port)
  all-planned =
      let begun = All-append IsPlanned (parts.live_starts nodes port) (parts.live_joins nodes) starts joins in
      let closed = All-append IsPlanned (parts.live_starts nodes port ++ parts.live_joins nodes) parts.live_close begun closes in
      let closed-again = All-append IsPlanned (parts.live_starts nodes port ++ parts.live_joins nodes ++ parts.live_close) parts.live_close closed closes in
      All-append IsPlanned (parts.live_starts nodes port ++ parts.live_joins nodes ++ parts.live_close ++ parts.live_close) (parts.live_ends nodes) closed-again ends
