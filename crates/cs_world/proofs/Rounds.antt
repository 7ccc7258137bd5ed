-- Settling round by round: what the code has delivered so far, and what the machine still has to.
use Rattle.std.proofs.Common.{◌≡◌, inl, inr, ◌∙◌, ℕ, zero, suc, ◌+◌, ◌-◌, ◌<◌, ◌≤◌, Bool, true, false, cond, eqb, not, List, [], ◌∷◌, ◌++◌}
use Rattle.std.proofs.Common.{length, slice_get, Option, Some, None, refl, sym, ap, subst, arith, append-nil, append_assoc, length-append, codes, decimal}
use Rattle.std.specs.List.{AllZip, filter, range_with_len}
use Rattle.std.proofs.lemmas.Bool.{cases_eq}
use Rattle.std.proofs.lemmas.Bool.Decides.{nat_tests}
use Rattle.std.proofs.lemmas.List.Concat.{flat_map-append}
use Rattle.std.proofs.lemmas.Slice.Zip.{AllZip-long}
use Rattle.cs_group.specs.Group.{is_among}
use Rattle.cs_link.specs.declared.link.Link.{Ghosts as LinkGhosts}
use Rattle.cs_log.specs.declared.log.Log.{Ghosts as LogGhosts}
use Rattle.cs_show.specs.Text.{ended, text_of}
use Rattle.cs_machine.specs.Contents.{contents_of}
use Rattle.cs_machine.specs.Delivering.{deliver_as, deliver_at, deliver_to, delivered, passed_over, sent_at}
use Rattle.cs_machine.specs.Machine.{deliver_step}
use Rattle.cs_machine.specs.Names.{Node, Sent, World, node_of}
use Rattle.cs_machine.specs.Outcome.{commit, torn_entry, unless_down, unless_torn}
use Rattle.cs_machine.specs.Settling.{Settling, at_rest, behind, deliveries, is_open, round, told_delivery}
use Rattle.cs_machine.specs.Step.{Step}
use Rattle.cs_machine.proofs.Follows.{Follows}
use Rattle.cs_machine.proofs.Contents.{bytes_sent-rises}
use Rattle.cs_machine.proofs.Settles.{deliver_at-keeps, deliveries-keeps}
use Rattle.cs_world.specs.declared.datagram.Datagram.{Datagram}
use Rattle.cs_world.specs.declared.fault.WorldFault.{WorldFault}
use Rattle.cs_world.specs.declared.nodes.Nodes.{Nodes}
use Rattle.cs_world.specs.Sent.{PacketStands}
use Rattle.cs_world.specs.Settles.{Settles}
use Rattle.cs_world.specs.Stands.{IsLimitOf, Stands, Tells}
use Rattle.cs_world.proofs.Answering.{limit-later}
use Rattle.cs_world.proofs.Passing.{closed-itself, closed-still, open-other}

-- ---- which numbers are open

-- what fails a test from a number on is passed over
pub skip-closed : (test : ℕ → Bool) (a n k : ℕ) → ((number : ℕ) → a ≤ number → number < a + n → test number ≡ false)
    → filter test (range_with_len a (n + k)) ≡ filter test (range_with_len (a + n) k)
skip-closed test a zero k closed =
    let all : 0 + k ≡ k = omega arith in
    let front : a ≡ a + 0 = omega arith in
    ap (λ n. filter test (range_with_len a n)) all ∙ ap (λ b. filter test (range_with_len b k)) front
skip-closed test a (suc n) k closed =
    let all : suc n + k ≡ suc (n + k) = omega arith in
    let front : a + 1 + n ≡ a + suc n = omega arith in
    ap (λ m. filter test (range_with_len a m)) all
    ∙ ap (λ b. cond b (a ∷ filter test (range_with_len (a + 1) (n + k))) (filter test (range_with_len (a + 1) (n + k))))
    (closed a (omega arith) (omega arith))
    ∙ skip-closed test (a + 1) n k (λ number from to. closed number (omega (arith, from)) (omega (arith, to)))
    ∙ ap (λ b. filter test (range_with_len b k)) front

-- where the same is open from a number on, the same is delivered
same-open : (world later : World) (a n : ℕ) → ((number : ℕ) → a ≤ number → is_open world number ≡ is_open later number)
    → filter (is_open world) (range_with_len a n) ≡ filter (is_open later) (range_with_len a n)
same-open world later a zero same = refl
same-open world later a (suc n) same =
    ap (λ b. cond b (a ∷ filter (is_open world) (range_with_len (a + 1) n)) (filter (is_open world) (range_with_len (a + 1) n)))
    (same a (omega arith))
    ∙ ap (λ numbers. cond (is_open later a) (a ∷ numbers) numbers)
    (same-open world later (a + 1) n (λ number from. same number (omega (arith, from))))

-- a step passes over nothing, whether its write is torn or not
commit-settled : (world : World) (node : Node) (step : Step) → (commit world node step).world.settled ≡ world.settled
commit-settled world node step =
    elim (torn_entry step.entry node.armed) as (λ tear. (unless_torn world node step tear).world.settled ≡ world.settled) [
      | None ↦ refl
      | Some tear ↦ refl
    ]

-- nor does a packet that comes to a node, or finds none
deliver_to-settled : (world : World) (sent : Sent) (o : Option Node) → (deliver_to world sent o).world.settled ≡ world.settled
deliver_to-settled world sent None = refl
deliver_to-settled world sent (Some node) =
    elim node.state as (λ o. (unless_down world (deliver_as world sent node) o).world.settled ≡ world.settled) [
      | None ↦ refl
      | Some state ↦
          commit-settled world node (deliver_step (contents_of world) node.own state sent.from sent.name)
    ]

-- after a delivery its number is passed over, and no other
delivery-open : (world : World) (number : ℕ) (sent : Sent) → sent_at world number ≡ Some sent → (other : ℕ)
    → is_open (deliver_at world number).world other ≡ is_open (passed_over number world) other
delivery-open world number sent at other =
    ap (λ o. is_open (delivered world number o).world other) at
    ∙ ap (λ (settled : List ℕ). not (is_among (number ∷ settled) other)) (deliver_to-settled world sent (node_of world sent.to))

-- something stands at each place within
get-there : {X : Type 0} (xs : List X) (place : ℕ) → place < length xs → (x : X) × (slice_get xs place ≡ Some x)
get-there [] place within = absurd (omega (arith, within))
get-there (x ∷ xs) zero within = (x, refl)
get-there (x ∷ xs) (suc place) within = get-there xs place (omega (arith, within))

-- so a packet has each such number
sent-there : (world : World) (place : ℕ) → place < length world.sent → (sent : Sent) × (sent_at world (place + 1) ≡ Some sent)
sent-there world place within =
    let there = get-there world.sent place within in
    let some : eqb (place + 1) 0 ≡ false = grind (arith, nat_tests) in
    let same : place + 1 - 1 ≡ place = omega arith in
    (there.0, ap (λ b. cond b None (slice_get world.sent (place + 1 - 1))) some ∙ ap (slice_get world.sent) same ∙ there.1)

-- ---- deliveries in two parts

-- what is behind nothing is as it is
pub behind-none : (all : Settling) → all ≡ behind [] 0 all
behind-none all =
    let counted : all.count ≡ 0 + all.count = omega arith in
    λ i. record { world = all.world; lines = all.lines; count = counted i }

-- what is behind what is behind
pub behind-behind : (lines more : List (List ℕ)) (count next : ℕ) (all : Settling)
    → behind lines count (behind more next all) ≡ behind (lines ++ more) (count + next) all
behind-behind lines more count next all =
    let told = append_assoc lines more all.lines in
    let counted : count + (next + all.count) ≡ (count + next) + all.count = omega arith in
    λ i. record { world = all.world; lines = sym told i; count = counted i }

-- what stands behind nothing
pub behind-nothing : (lines : List (List ℕ)) (count : ℕ) (world : World)
    → behind lines count (at_rest world) ≡ record { world = world; lines = lines; count = count }
behind-nothing lines count world =
    let told = append-nil lines in
    let counted : count + 0 ≡ count = omega arith in
    λ i. record { world = world; lines = told i; count = counted i }

-- the places before one were gone through: what was open there was delivered, and what comes from it on is still to be
pub record RoundTo {L G : Type 0} (link : LinkGhosts L) (log : LogGhosts G) (start : World) (code : Nodes L G) (before now : List ℕ)
    (count place end : ℕ) : Type 0 where
  pub world : World
  pub lines : List (List ℕ)
  pub stands : Stands link log code world
  pub text : now ≡ before ++ text_of lines
  pub rest : round start ≡ behind lines count (deliveries world (filter (is_open world) (range_with_len (place + 1) (end - place))))
  pub closed : (number : ℕ) → 0 < number → number ≤ place → is_open world number ≡ false
  pub within : end ≤ length world.sent

module _ {L G : Type 0} (link : LinkGhosts L) (log : LogGhosts G) where
  -- a delivery is told behind its line
  pub delivery-tells : (code : Nodes L G) (world : World) (number : ℕ) (before mid text now : List ℕ)
      → mid ≡ before ++ ended (codes "- deliver " ++ decimal number) → Tells link log code [] text (deliver_at world number) → now ≡ mid ++ text
      → Tells link log code before now (told_delivery world number)
  delivery-tells code world number before mid text now line told behind_it =
      let first = codes "- deliver " ++ decimal number in
      record {
        text = behind_it ∙ ap (λ t. t ++ text) line ∙ ap (λ t. (before ++ ended first) ++ t) told.text
            ∙ append_assoc before (ended first) (text_of (deliver_at world number).lines);
        stands = told.stands;
      }

  -- the mark of a datagram says whether its number is open
  pub opened-by : (code : Nodes L G) (world : World) (place : ℕ) (b : Bool) → Stands link log code world → place < length code.traffic.datagrams.items
      → ((d : Datagram) → slice_get code.traffic.datagrams.items place ≡ Some d → b ≡ d.is_open) → is_open world (place + 1) ≡ b
  opened-by code world place b stands within says =
      let there = get-there code.traffic.datagrams.items place within in
      sym (says there.0 there.1 ∙ stands.traffic.marks place there.0 there.1)

  -- ---- a round

  module _ (code : Nodes L G) (world : World) (stands : Stands link log code world) where
    -- nothing is open before it
    before-front : (number : ℕ) → 0 < number → number ≤ code.traffic.front → is_open world number ≡ false
    before-front number some before =
        let same : number - 1 + 1 ≡ number = omega (arith, some) in
        subst (λ n. is_open world n ≡ false) same (stands.traffic.front (number - 1) (omega (arith, some, before)))

    -- as a round begins, all that is open is still to be delivered
    pub round-start : (before : List ℕ) (end : ℕ) → end ≡ length code.traffic.datagrams.items
        → RoundTo link log world code before before 0 code.traffic.front end
    round-start before end is =
        let long = AllZip-long (PacketStands world) code.traffic.datagrams.items world.sent stands.traffic.packets in
        let all : length world.sent ≡ code.traffic.front + (end - code.traffic.front) = omega (arith, long, is, code.traffic.passed) in
        let next : 1 + code.traffic.front ≡ code.traffic.front + 1 = omega arith in
        record {
          world = world;
          lines = [];
          stands = stands;
          text = sym (append-nil before);
          rest = ap (λ n. deliveries world (filter (is_open world) (range_with_len 1 n))) all
              ∙ ap (deliveries world) (skip-closed (is_open world) 1 code.traffic.front (end - code.traffic.front)
              (λ number from to. before-front number (omega (arith, from)) (omega (arith, to)))
              ∙ ap (λ a. filter (is_open world) (range_with_len a (end - code.traffic.front))) next)
              ∙ behind-none (deliveries world (filter (is_open world) (range_with_len (code.traffic.front + 1) (end - code.traffic.front))));
          closed = before-front;
          within = omega (arith, long, is);
        }

  module _ (start : World) (code : Nodes L G) (before now : List ℕ) (count place end : ℕ) (so_far : RoundTo link log start code before now count place end)
      (inside : place < end) where
    -- the machine's world
    abbrev here : World
    here = so_far.world

    -- the numbers from the next one on
    abbrev from : World → List ℕ
    from world = filter (is_open world) (range_with_len (place + 2) (end - (place + 1)))

    -- the next one, and those behind it
    next_first : filter (is_open here) (range_with_len (place + 1) (end - place))
        ≡ cond (is_open here (place + 1)) ((place + 1) ∷ from here) (from here)
    next_first =
        let more : end - place ≡ suc (end - (place + 1)) = omega (arith, inside) in
        let next : place + 1 + 1 ≡ place + 2 = omega arith in
        ap (λ n. filter (is_open here) (range_with_len (place + 1) n)) more
        ∙ ap (λ a. cond (is_open here (place + 1)) ((place + 1) ∷ filter (is_open here) (range_with_len a (end - (place + 1))))
        (filter (is_open here) (range_with_len a (end - (place + 1))))) next

    -- those behind it stand where the next one begins
    from-next : (world : World) → from world ≡ filter (is_open world) (range_with_len (place + 1 + 1) (end - (place + 1)))
    from-next world =
        let next : place + 2 ≡ place + 1 + 1 = omega arith in
        ap (λ a. filter (is_open world) (range_with_len a (end - (place + 1)))) next

    -- a closed one is passed over
    pub round-skip : is_open here (place + 1) ≡ false → RoundTo link log start code before now count (place + 1) end
    round-skip shut = record {
      world = here;
      lines = so_far.lines;
      stands = so_far.stands;
      text = so_far.text;
      rest = so_far.rest
          ∙ ap (λ numbers. behind so_far.lines count (deliveries here numbers))
          (next_first ∙ ap (λ b. cond b ((place + 1) ∷ from here) (from here)) shut ∙ from-next here);
      closed = λ number some to. elim (cases_eq number (place + 1)) [
        | inl is ↦ subst (λ n. is_open here n ≡ false) (sym is) shut
        | inr other ↦ so_far.closed number some (omega (arith, to, other))
      ];
      within = so_far.within;
    }

    module _ (opened : is_open here (place + 1) ≡ true) where
      -- an open one is delivered
      abbrev after : World
      after = (told_delivery here (place + 1)).world

      -- there is a packet with its number
      numbered : (sent : Sent) × (sent_at here (place + 1) ≡ Some sent)
      numbered = sent-there here place (omega (arith, inside, so_far.within))

      -- which is passed over from then on
      after-open : (number : ℕ) → is_open after number ≡ is_open (passed_over (place + 1) here) number
      after-open = delivery-open here (place + 1) numbered.0 numbered.1

      -- those behind it are as they were
      same_from : from here ≡ from after
      same_from =
          same-open here after (place + 2) (end - (place + 1)) (λ number behind_it.
          sym (after-open number ∙ open-other here (place + 1) number (λ is. omega (arith, is, behind_it))))

      -- the round is that delivery, and then the others
      round-rest : round start ≡ behind so_far.lines count
          (behind (told_delivery here (place + 1)).lines 1 (deliveries after (from after)))
      round-rest =
          so_far.rest
          ∙ ap (λ numbers. behind so_far.lines count (deliveries here numbers))
          (next_first ∙ ap (λ b. cond b ((place + 1) ∷ from here) (from here)) opened)
          ∙ ap (λ numbers. behind so_far.lines count (behind (told_delivery here (place + 1)).lines 1 (deliveries after numbers))) same_from

      -- so the round has gone one number further
      pub round-deliver : (later : Nodes L G) (then : List ℕ) → Tells link log later now then (told_delivery here (place + 1))
          → RoundTo link log start later before then (count + 1) (place + 1) end
      round-deliver later then told =
          record {
            world = after;
            lines = so_far.lines ++ (told_delivery here (place + 1)).lines;
            stands = told.stands;
            text = told.text ∙ ap (λ t. t ++ text_of (told_delivery here (place + 1)).lines) so_far.text
                ∙ append_assoc before (text_of so_far.lines) (text_of (told_delivery here (place + 1)).lines)
                ∙ ap (λ t. before ++ t) (sym (flat_map-append ended so_far.lines (told_delivery here (place + 1)).lines));
            rest = round-rest
                ∙ behind-behind so_far.lines (told_delivery here (place + 1)).lines count 1 (deliveries after (from after))
                ∙ ap (λ numbers. behind (so_far.lines ++ (told_delivery here (place + 1)).lines) (count + 1) (deliveries after numbers)) (from-next after);
            closed = λ number some to. after-open number ∙ elim (cases_eq (place + 1) number) [
              | inl is ↦ subst (λ n. is_open (passed_over (place + 1) here) n ≡ false) is (closed-itself here (place + 1))
              | inr other ↦ closed-still here (place + 1) number (so_far.closed number some (omega (arith, to, other)))
            ];
            within = grown (deliver_at-keeps here (place + 1) so_far.stands.reached).follows;
          }
        where
          grown : Follows here after → end ≤ length after.sent
          grown follows =
              let longer : length after.sent ≡ length here.sent + length follows.sent.0 =
              ap length follows.sent.1 ∙ length-append here.sent follows.sent.0 in
              omega (arith, longer, so_far.within)

      -- and where the delivery would send too much, so would the round
      pub round-limit : (fault : WorldFault) → IsLimitOf (told_delivery here (place + 1)).world fault → IsLimitOf (round start).world fault
      round-limit fault limit =
          let reached = deliver_at-keeps here (place + 1) so_far.stands.reached in
          let last = (deliveries after (from after)).world in
          let rises = bytes_sent-rises after last reached.reached (deliveries-keeps after (from after) reached.reached) in
          subst (λ (all : Settling). IsLimitOf all.world fault) (sym round-rest) (limit-later after last rises fault limit)

  -- where the nodes differ in their front alone, they stand for the same world
  front-stands : (code later : Nodes L G) (world : World) → Stands link log code world → later.seats ≡ code.seats
      → later.addresses ≡ code.addresses → later.leader ≡ code.leader → later.traffic.datagrams.items ≡ code.traffic.datagrams.items
      → later.traffic.bytes ≡ code.traffic.bytes → ((place : ℕ) → place < later.traffic.front → is_open world (place + 1) ≡ false)
      → Stands link log later world
  front-stands code later world stands seats addresses leader datagrams bytes front =
      let with_seats : Nodes L G = record later { seats = code.seats; addresses = code.addresses; leader = code.leader } in
      let same : with_seats ≡ later =
      (λ i. record later { seats = sym seats i; addresses = sym addresses i; leader = sym leader i }) in
      subst (λ c. Stands link log c world) same (record {
        nodes = stands.nodes;
        leader = stands.leader;
        used = stands.used;
        addresses = stands.addresses;
        known = stands.known;
        unsent = stands.unsent;
        reached = stands.reached;
        traffic = record {
          packets = subst (λ ds. AllZip (PacketStands world) ds world.sent) (sym datagrams) stands.traffic.packets;
          marks = λ place d at. stands.traffic.marks place d (subst (λ ds. slice_get ds place ≡ Some d) datagrams at);
          delivered = λ place d at. stands.traffic.delivered place d (subst (λ ds. slice_get ds place ≡ Some d) datagrams at);
          front = front;
          bytes = bytes ∙ stands.traffic.bytes;
          few = stands.traffic.few;
        };
      })

  -- where all places were gone through, the round is done
  pub round-end : (start : World) (code later : Nodes L G) (before now : List ℕ) (count end : ℕ)
      → RoundTo link log start code before now count end end → later.seats ≡ code.seats → later.addresses ≡ code.addresses
      → later.leader ≡ code.leader → later.traffic.datagrams.items ≡ code.traffic.datagrams.items
      → later.traffic.bytes ≡ code.traffic.bytes → later.traffic.front ≡ end → Settles link log later before now count (round start)
  round-end start code later before now count end so_far seats addresses leader datagrams bytes front =
      let none : end - end ≡ 0 = omega arith in
      let all : round start ≡ record { world = so_far.world; lines = so_far.lines; count = count } =
      so_far.rest
      ∙ ap (λ n. behind so_far.lines count (deliveries so_far.world (filter (is_open so_far.world) (range_with_len (end + 1) n)))) none
      ∙ behind-nothing so_far.lines count so_far.world in
      subst (Settles link log later before now count) (sym all) (record {
        text = so_far.text;
        count = refl;
        stands = front-stands code later so_far.world so_far.stands seats addresses leader datagrams bytes
            (λ place before_end. so_far.closed (place + 1) (omega arith) (omega (arith, subst (λ n. place < n) front before_end)));
      })
