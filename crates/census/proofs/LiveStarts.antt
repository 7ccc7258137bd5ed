-- The first steps of a plan start its nodes, each under an id and an address that no other has.
use Rattle.std.proofs.Common.{◌≡◌, ◌⊎◌, ℕ, zero, suc, ◌+◌, ◌-◌, ◌*◌, ◌<◌, ◌≤◌, ◌==◌, Bool, true, false, ◌||◌, ◌&&◌, nat_lt, List, [], ◌∷◌, ◌++◌}
use Rattle.std.proofs.Common.{Option, Some, None, is_some, codes, refl, ap, sym, subst, ◌∙◌, inl, inr, ⊎_elim, arith}
use Rattle.std.specs.Prelude.{IsSome, if◌then◌else◌}
use Rattle.std.specs.List.{AllByRecursion, find, list_any, range_with_len}
use Rattle.std.specs.Str.{bytes_eq}
use Rattle.std.proofs.lemmas.Bool.{cases_lt, eq-eqb, lt-ltb, ne_eqb, or_from, or_right}
use Rattle.cs_base.specs.Ranges.{IsFromTo}
use Rattle.cs_base.proofs.Elements.{All-append, All-weaker}
use Rattle.cs_drill.specs.Plan.{address_behind, at_distance, booted, each, led, live_close, live_ends, live_joins, live_plan, live_starts}
use Rattle.cs_drill.specs.Schedule.{others}
use Rattle.cs_drill.specs.declared.plan.Planned.{Planned}
use Rattle.cs_drill.specs.declared.plan.Planned.TheVariants as planned
use Rattle.cs_base.specs.declared.change.Mode.TheVariants as modes
use Rattle.cs_machine.specs.Happens as machine
use Rattle.cs_machine.specs.Happens.{begun, happens, is_used, own_leader, own_under, same_address, started}
use Rattle.cs_machine.specs.Names.{Joining, Leading, Node, World, empty_world, leader_of, node_of}
use Rattle.cs_machine.specs.Outcome.{answer}
use Rattle.cs_script.specs.declared.event.Event.{Event}

-- ---- the world

-- a node has one of the first so many ids, and the port of its id
abbrev pub IsFirst : ℕ → ℕ → Node → Type 0
IsFirst port many node = (node.own.id ≤ many) × (node.own.addr.port ≡ port + node.own.id)

-- all nodes have, and one leads as soon as there is one
pub record AreFirst (port many : ℕ) (world : World) : Type 0 where
  pub few : AllByRecursion (IsFirst port many) world.nodes
  pub leads : is_some (leader_of world) ≡ nat_lt 0 many

-- what is false at the right
and_false : (a b : Bool) → b ≡ false → (a && b) ≡ false
and_false true b is = is
and_false false b is = refl

-- nothing is there
nothing-there : {X : Type 0} (o : Option X) → is_some o ≡ false → o ≡ None
nothing-there None is = refl
nothing-there (Some x) is = cc

-- and something is
something-there : {X : Type 0} (o : Option X) → is_some o ≡ true → (x : X) × (o ≡ Some x)
something-there None is = absurd (cc)
something-there (Some x) is = (x, refl)

-- one more is found where it is looked for, or where one was found before
find-one-more : {X : Type 0} (p : X → Bool) (xs : List X) (x : X) → is_some (find p (xs ++ x ∷ [])) ≡ (is_some (find p xs) || p x)
find-one-more p [] x = elim (p x) as (λ b. is_some (if b then Some x else None) ≡ b) [
  | true ↦ refl
  | false ↦ refl
]
find-one-more p (y ∷ xs) x =
    elim (p y)
    as (λ b. is_some (if b then Some y else find p (xs ++ x ∷ [])) ≡ (is_some (if b then Some y else find p xs) || p x)) [
      | true ↦ refl
      | false ↦ find-one-more p xs x
    ]

-- the next id and its address aren't used
none-used : (port many : ℕ) (nodes : List Node) (id : ℕ) → AllByRecursion (IsFirst port many) nodes → many < id
    → list_any (λ (n : Node). (n.own.id == id) || same_address n.own.addr (address_behind port id)) nodes ≡ false
none-used port many [] id few above = refl
none-used port many (n ∷ nodes) id few above =
    or_from _ _
    (or_from _ _ (ne_eqb n.own.id id (λ same. omega (arith, few.0.0)))
    (and_false (bytes_eq n.own.addr.ip (address_behind port id).ip) _
    (ne_eqb n.own.addr.port (port + id) (λ same. omega (arith, few.0.0, few.0.1)))))
    (none-used port many nodes id few.1 above)

-- the next node is there
abbrev NextIsThere : ℕ → ℕ → World → Type 0
NextIsThere port many next = AreFirst port (many + 1) next × IsSome (node_of next (many + 1))

module _ (port many : ℕ) (world : World) (first : AreFirst port many world) where
  -- a node that starts with the next id and its port
  next-started : (node : Node) → node.own.id ≡ many + 1 → node.own.addr.port ≡ port + (many + 1)
      → (is_some (leader_of world) || (node.own.id == node.own.leader)) ≡ true → NextIsThere port many (started world node).world
  next-started node id addr leads = (
    record {
      few = All-append (IsFirst port (many + 1)) world.nodes (node ∷ [])
          (All-weaker (IsFirst port many) (IsFirst port (many + 1)) (λ n is. (omega (arith, is.0), is.1)) world.nodes first.few)
          ((omega (arith, id), omega (arith, id, addr)), tt);
      leads = find-one-more (λ (n : Node). n.own.id == n.own.leader) world.nodes node ∙ leads ∙ sym (lt-ltb 0 (many + 1) (omega arith));
    },
    find-one-more (λ (n : Node). n.own.id == (many + 1)) world.nodes node
        ∙ ap (λ b. is_some (node_of world (many + 1)) || b) (eq-eqb node.own.id (many + 1) id) ∙ or_right (is_some (node_of world (many + 1))) true refl,
  )

  -- the leader starts first
  next-led : many ≡ 0 → NextIsThere port many (happens world (led port)).world
  next-led none =
      let unused = none-used port many world.nodes 1 first.few (omega arith) in
      let no_leader = nothing-there (leader_of world) (first.leads ∙ ap (λ n. nat_lt 0 n) none) in
      let node = begun (own_leader 1 (address_behind port 1) (at_distance 0)) (Leading 0 []) in
      let starts : happens world (led port) ≡ started world node =
      ap (λ b. if b then answer world (codes "taken") else machine.led world (leader_of world) 1 (address_behind port 1) (at_distance 0)) unused
      ∙ ap (λ o. machine.led world o 1 (address_behind port 1) (at_distance 0)) no_leader in
      subst (λ after. NextIsThere port many after.world) (sym starts)
      (next-started node (omega arith) (omega arith) (or_right (is_some (leader_of world)) true refl))

  -- and another one under it
  next-booted : 0 < many → NextIsThere port many (happens world (booted port (many + 1))).world
  next-booted some =
      let id = many + 1 in
      let unused = none-used port many world.nodes id first.few (omega arith) in
      let (leader, leads) = something-there (leader_of world) (first.leads ∙ lt-ltb 0 many some) in
      let node = begun (own_under leader.own id (address_behind port id) (at_distance (1000 * id)) modes.Partial) Joining in
      let starts : happens world (booted port id) ≡ started world node =
      ap (λ b. if b then answer world (codes "taken")
      else machine.booted world (leader_of world) id (address_behind port id) (at_distance (1000 * id)) modes.Partial) unused
      ∙ ap (λ o. machine.booted world o id (address_behind port id) (at_distance (1000 * id)) modes.Partial) leads in
      subst (λ after. NextIsThere port many after.world) (sym starts)
      (next-started node refl refl (ap (λ o. is_some o || (node.own.id == node.own.leader)) leads))

-- ---- the plan

-- a step starts the node with the id
abbrev IsStart : ℕ → ℕ → Planned → Type 0
IsStart port id step = ((step ≡ planned.Event (led port)) × (id ≡ 1)) ⊎ ((step ≡ planned.Event (booted port id)) × (1 < id))

-- so many steps, each the next one behind those that were started
abbrev AreStarts : ℕ → ℕ → ℕ → List Planned → Type 0
AreStarts port done zero left = Unit {0}
AreStarts port done (suc more) [] = ⊥
AreStarts port done (suc more) (step ∷ left) = IsStart port (done + 1) step × AreStarts port (done + 1) more left

-- the others of the plan
each-starts : (port done more : ℕ) → 0 < done → AreStarts port done more (each (booted port) (range_with_len (done + 1) more))
each-starts port done zero some = tt
each-starts port done (suc more) some = (inr (refl, omega arith), each-starts port (done + 1) more (omega arith))

-- with steps behind them
starts-longer : (port done more : ℕ) (steps rest : List Planned) → AreStarts port done more steps → AreStarts port done more (steps ++ rest)
starts-longer port done zero steps rest starts = tt
starts-longer port done (suc more) [] rest starts = absurd starts
starts-longer port done (suc more) (step ∷ steps) rest starts = (starts.0, starts-longer port (done + 1) more steps rest starts.1)

-- the plan begins so
plan-starts : (nodes port more : ℕ) → nodes ≡ suc more → AreStarts port 0 nodes (live_plan nodes port)
plan-starts nodes port more is =
    let same : nodes - 1 ≡ more = omega arith in
    let first : AreStarts port 0 (suc more) (live_starts nodes port) =
    (inl (refl, refl), subst (λ n. AreStarts port 1 n (each (booted port) (others nodes))) same (each-starts port 1 (nodes - 1) (omega arith))) in
    let joins = live_starts nodes port ++ live_joins nodes in
    let closes = joins ++ live_close ++ live_close in
    subst (λ n. AreStarts port 0 n (live_plan nodes port)) (sym is)
    (starts-longer port 0 (suc more) closes (live_ends nodes) (starts-longer port 0 (suc more) (joins ++ live_close) live_close
    (starts-longer port 0 (suc more) joins live_close (starts-longer port 0 (suc more) (live_starts nodes port) (live_joins nodes) first))))

-- nodes are started: so many are there, and the first steps that are left start the others
pub record IsStarting (nodes port : ℕ) (IsThere : ℕ → Type 0) (world : World) (left : List Planned) : Type 0 where
  pub done : ℕ
  pub more : ℕ
  pub all : done + more ≡ nodes
  pub starts : AreStarts port done more left
  pub first : 0 < more → AreFirst port done world
  pub there : (id : ℕ) → IsFromTo 1 done id → IsThere id

-- no node is there before the plan
pub IsStarting-none : (nodes port : ℕ) (IsThere : ℕ → Type 0) → 0 < nodes → IsStarting nodes port IsThere empty_world (live_plan nodes port)
IsStarting-none nodes port IsThere some = record {
  done = 0;
  more = nodes;
  all = omega arith;
  starts = plan-starts nodes port (nodes - 1) (omega arith);
  first = λ above. record { few = tt; leads = refl };
  there = λ id is. absurd (omega (arith, is.0, is.1));
}

module _ (nodes port : ℕ) (IsThere IsThereNow : ℕ → Type 0) (stay : (id : ℕ) → IsThere id → IsThereNow id) where
  -- all were started
  all-started : (done more : ℕ) (world : World) (left : List Planned) → done + more ≡ nodes → more ≡ 0
      → ((id : ℕ) → IsFromTo 1 done id → IsThere id) → IsStarting nodes port IsThereNow world left
  all-started done more world left all none there = record {
    done = done;
    more = 0;
    all = omega arith;
    starts = tt;
    first = λ some. absurd (omega arith);
    there = λ id is. stay id (there id is);
  }

  module _ (world : World) (event : Event) (left : List Planned) where
    -- the world behind the event
    abbrev next : World
    next = (happens world event).world

    -- the event of a step that starts a node
    by_start : (done : ℕ) → IsStart port (done + 1) (planned.Event event) → AreFirst port done world → NextIsThere port done next
    by_start done (inl (is, one)) first =
        let same : event ≡ led port = (cc) in
        subst (λ e. NextIsThere port done (happens world e).world) (sym same) (next-led port done world first (omega arith))
    by_start done (inr (is, many)) first =
        let same : event ≡ booted port (done + 1) = (cc) in
        subst (λ e. NextIsThere port done (happens world e).world) (sym same) (next-booted port done world first (omega arith))

    -- an event of the plan: the world behind it has the next node, unless all are there
    by_more : (done more : ℕ) → done + more ≡ nodes → AreStarts port done more (planned.Event event ∷ left)
        → (0 < more → AreFirst port done world) → ((id : ℕ) → IsFromTo 1 done id → IsThere id)
        → ((id : ℕ) → IsSome (node_of next id) → IsThereNow id) → IsStarting nodes port IsThereNow next left
    by_more done zero all starts first there stood = all-started done zero next left all refl there
    by_more done (suc more) all starts first there stood =
        let now = by_start done starts.0 (first (omega arith)) in
        record {
          done = done + 1;
          more = more;
          all = omega arith;
          starts = starts.1;
          first = λ some. now.0;
          there = λ id is.
              ⊎_elim
              (λ above. let same : done + 1 ≡ id = omega (arith, is.1) in stood id (subst (λ i. IsSome (node_of next i)) same now.1))
              (λ below. stay id (there id (is.0, below))) (cases_lt done id);
        }

    -- an event of the plan happened
    pub IsStarting-event : IsStarting nodes port IsThere world (planned.Event event ∷ left)
        → ((id : ℕ) → IsSome (node_of next id) → IsThereNow id) → IsStarting nodes port IsThereNow next left
    IsStarting-event s stood = by_more s.done s.more s.all s.starts s.first s.there stood

-- no poll comes before all were started
no-more : (port done more : ℕ) (left : List Planned) → AreStarts port done more (planned.Poll ∷ left) → more ≡ 0
no-more port done zero left starts = refl
no-more port done (suc more) left (inl (is, one), later) = absurd (cc)
no-more port done (suc more) left (inr (is, many), later) = absurd (cc)

-- and the end of the plan neither
none-left : (port done more : ℕ) → AreStarts port done more [] → more ≡ 0
none-left port done zero starts = refl
none-left port done (suc more) starts = absurd starts

-- so at the end all are there
pub IsStarting-end : (nodes port : ℕ) (IsThere : ℕ → Type 0) (world : World) → IsStarting nodes port IsThere world []
    → (id : ℕ) → IsFromTo 1 nodes id → IsThere id
IsStarting-end nodes port IsThere world s id is = s.there id (is.0, omega (arith, is.1, s.all, none-left port s.done s.more s.starts))

module _ (nodes port : ℕ) (IsThere : ℕ → Type 0) (world : World) (left : List Planned)
    (s : IsStarting nodes port IsThere world (planned.Poll ∷ left)) where
  -- so at a poll all are there
  pub IsStarting-all : (id : ℕ) → IsFromTo 1 nodes id → IsThere id
  IsStarting-all id is = s.there id (is.0, omega (arith, is.1, s.all, no-more port s.done s.more left s.starts))

  -- and behind it
  pub IsStarting-poll : (IsThereNow : ℕ → Type 0) (later : World) → ((id : ℕ) → IsThere id → IsThereNow id)
      → IsStarting nodes port IsThereNow later left
  IsStarting-poll IsThereNow later stay =
      all-started nodes port IsThere IsThereNow stay s.done s.more later left s.all (no-more port s.done s.more left s.starts) s.there
