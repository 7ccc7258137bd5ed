-- The new seat stands at the place that is noted for its id, behind all others.
use Rattle.std.proofs.Common.{◌≡◌, vec_len, Some, length, map, arith, ap, sym, ◌∙◌, nat_cmp}
use Rattle.std.proofs.lemmas.List.{length-map, map-append}
use Rattle.std.specs.BTreeMap.{get}
use Rattle.cs_world.proofs.Places.{state_in}
use Rattle.cs_world.proofs.Pushed.{placed_pushed, states_pushed}
use Rattle.cs_world.specs.Seats.{place_at}
use Rattle.cs_world.proofs.seats.Seats.push.Goals as goal

pub invariant_of-self : goal.invariant_of-self
invariant_of-self g c =
    let long : length (map (λ seat. seat.id) c.args.self.now.items.items) ≡ vec_len c.args.self.now.items
    = rw length-map (omega arith) in
    record {
      placed = rw (c.push_reserved.ensures.items, map-append) (placed_pushed _ (get nat_cmp c.args.self.now.places) c.args.id
          c.args.self.now.placed (c.requires.place ∙ ap Some (sym long)));
    }

pub returns-clause-states : goal.returns-clause-states
returns-clause-states g c other =
    let long : vec_len c.args.self.now.items ≡ length c.args.self.now.items.items = omega arith in
    ap (λ items. state_in other items (place_at c.args.self.now other)) c.push_reserved.ensures.items
    ∙ states_pushed c.args.self.now.items.items (record { id = c.args.id; state = c.args.state }) (place_at c.args.self.now) other
    (c.requires.place ∙ ap Some long)
