-- Bytes come to the node in its seat, and all else stays.
use Rattle.std.proofs.Common.{◌≡◌, ◌∙◌, ℕ, ◌<◌, length, List, map, set, Some, slice_get, refl, arith, ap, sym, subst, nat_cmp}
use Rattle.std.proofs.lemmas.Option.{same_Some, slice_get-get_or}
use Rattle.std.proofs.Math.Seq.{map-set_same}
use Rattle.std.specs.BTreeMap.{get}
use Rattle.std.specs.Option.{option_map}
use Rattle.cs_node.specs.Placed.{Placed}
use Rattle.cs_world.proofs.Places.{others_kept, slice_get-set_same, state_there}
use Rattle.cs_world.proofs.Receipts.{acted-none, received-set}
use Rattle.cs_world.specs.Places.{ArePlaced}
use Rattle.cs_world.specs.Processes.{parts_in}
use Rattle.cs_world.specs.Seats.{place_at}
use Rattle.cs_world.specs.declared.action.Action.TheVariants as actions
use Rattle.cs_world.specs.declared.call.Call.TheVariants as calls
use Rattle.cs_world.specs.declared.seat.Seat.{Seat}
use Rattle.cs_world.proofs.acting.Seats+Process+L+G.deliver.Goals as goal

pub invariant_of-self : goal.invariant_of-self
invariant_of-self g c =
    let items = c.args.self.now.items.items in
    let seat = c.index_mut.result.now in
    record {
      placed = subst (λ (ids : List ℕ). ArePlaced ids (get nat_cmp c.args.self.now.places))
          (sym (map-set_same (λ seat. seat.id) items c.in_ok-place.place (record { id = seat.id; state = c.deliver-answer.new.process }) seat
          (ap (λ seat. seat.id) c.index_mut.ensures.value))) c.args.self.now.placed;
    }

pub returns-clause-acts : goal.returns-clause-acts
returns-clause-acts g c =
    let items = c.args.self.now.items.items in
    let place = c.in_ok-place.place in
    let seat = c.index_mut.result.now in
    let new : Seat (Placed _ _) = record { id = seat.id; state = c.deliver-answer.new.process } in
    let within : place < length items = omega (arith, c.in_ok-place.ensures.0) in
    let at : slice_get items place ≡ Some seat = slice_get-get_or items place seat within ∙ ap Some (sym c.index_mut.ensures.value) in
    let read : c.index.result.now ≡ seat =
    same_Some _ seat (sym (slice_get-get_or items place c.index.result.now within ∙ ap Some (sym c.index.ensures)) ∙ at) in
    let own : seat.id ≡ c.args.id = same_Some _ _ (sym (ap (option_map (λ seat. seat.id)) at) ∙ c.in_ok-place.ensures.2) in
    let parts = option_map (parts_in g.L.Link g.G.Log) in
    record {
      node = (
        _,
        _,
        ap parts (state_there c.args.id items seat place _ own c.in_ok-place.ensures.1 at),
        ap parts (state_there c.args.id (set items place new) new place _ own c.in_ok-place.ensures.1 (slice_get-set_same items place new within)),
        record {
          earlier = c.count-earlier.ensures ∙ ap (λ link. option_map length (g.L.Link.sent link))
              (c.link.ensures ∙ ap (λ (s : Seat (Placed _ _)). s.state.link) read);
          acts = c.deliver-answer.ensures;
        },
      );
      others = λ other apart. ap parts (others_kept items seat new place other (place_at c.args.self.now other) at refl
          (λ same. apart (sym same ∙ own)));
    }

pub returns-clause-ids : goal.returns-clause-ids
returns-clause-ids g c =
    let items = c.args.self.now.items.items in
    let seat = c.index_mut.result.now in
    map-set_same (λ seat. seat.id) items c.in_ok-place.place (record { id = seat.id; state = c.deliver-answer.new.process }) seat
    (ap (λ seat. seat.id) c.index_mut.ensures.value)

pub returns-clause-received : goal.returns-clause-received
returns-clause-received g c =
    let items = c.args.self.now.items.items in
    let place = c.in_ok-place.place in
    let seat = c.index_mut.result.now in
    let within : place < length items = omega (arith, c.in_ok-place.ensures.0) in
    let at : slice_get items place ≡ Some seat = slice_get-get_or items place seat within ∙ ap Some (sym c.index_mut.ensures.value) in
    received-set g.L.Link g.G.Log items place seat (record { id = seat.id; state = c.deliver-answer.new.process }) at
    (acted-none _ (actions.Call (calls.Deliver c.args.bytes)) c.deliver-answer.result _ c.deliver-answer.ensures)
