-- The place of the new node is noted behind all seats, so nothing else changes.
use Rattle.std.proofs.Common.{◌≡◌, length, arith, ap, ◌∙◌, nat_cmp}
use Rattle.std.specs.BTreeMap.{get}
use Rattle.cs_world.proofs.Noted.{placed_after, states_after}
use Rattle.cs_world.proofs.Places.{state_in}
use Rattle.cs_world.proofs.seats.Seats.make_room.Goals as goal

pub invariant_of-self : goal.invariant_of-self
invariant_of-self g c = record { placed = rw c.reserve.ensures.items c.args.self.now.placed }

pub invariant_of-self-2 : goal.invariant_of-self-2
invariant_of-self-2 g c =
    let long : c.len.result ≡ length c.args.self.now.items.items = omega arith in
    record {
      placed = rw c.reserve.ensures.items (placed_after _ c.args.self.now.places c.insert.new.self _ _ c.insert.result long
          c.args.self.now.placed c.requires c.insert.ensures.updates c.insert.ensures.err);
    }

pub returns-clause-states : goal.returns-clause-states
returns-clause-states g c other =
    let long : c.len.result ≡ length c.args.self.now.items.items = omega arith in
    ap (λ items. state_in other items (get nat_cmp c.insert.new.self other)) c.reserve.ensures.items
    ∙ states_after _ c.args.self.now.places c.insert.new.self _ _ other long c.requires c.in_ok-insert.ensures.updates
