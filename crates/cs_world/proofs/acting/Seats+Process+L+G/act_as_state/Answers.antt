-- The seat of the id comes back to its place with the process that the action left, and all else stays.
use Rattle.std.proofs.Common.{◌≡◌, ℕ, ◌-◌, ◌<◌, length, List, map, refl, arith, ap, sym, subst, ◌∙◌, nat_cmp}
use Rattle.std.proofs.lemmas.Option.{same_Some}
use Rattle.std.specs.BTreeMap.{get}
use Rattle.std.specs.Option.{option_map}
use Rattle.cs_world.proofs.Places.{others_kept, slice_get-set_same, state_in, state_there}
use Rattle.cs_world.proofs.PutBack.{seat_back}
use Rattle.cs_world.specs.Places.{ArePlaced}
use Rattle.cs_world.specs.Processes.{parts_in}
use Rattle.cs_world.specs.Receiving.{received_of}
use Rattle.cs_world.specs.Seats.{place_at, seated}
use Rattle.cs_world.proofs.Receipts.{acted-none, received-set}
use Rattle.cs_world.proofs.acting.Seats+Process+L+G.act_as_state.Goals as goal

pub invariant_of-self : goal.invariant_of-self
invariant_of-self g c =
    let within : c.in_ok-place.place < length c.args.self.now.items.items = omega (arith, c.in_ok-place.ensures.0) in
    let back = seat_back _ _ _ _ _ c.swap_remove-id.result c.act_on-process.result.process c.in_ok-place.place
    (c.len-last.result - 1) (omega arith) within (omega arith) (omega arith) (omega arith)
    c.swap_remove-id.ensures.value c.swap_remove-id.ensures.by_index c.push_reserved.ensures.items c.swap.ensures.by_index in
    record { placed = subst (λ (ids : List ℕ). ArePlaced ids (get nat_cmp c.args.self.now.places)) (sym back.2) c.args.self.now.placed }

pub returns-clause-acts : goal.returns-clause-acts
returns-clause-acts g c =
    let within : c.in_ok-place.place < length c.args.self.now.items.items = omega (arith, c.in_ok-place.ensures.0) in
    let back = seat_back _ _ _ _ _ c.swap_remove-id.result c.act_on-process.result.process c.in_ok-place.place
    (c.len-last.result - 1) (omega arith) within (omega arith) (omega arith) (omega arith)
    c.swap_remove-id.ensures.value c.swap_remove-id.ensures.by_index c.push_reserved.ensures.items c.swap.ensures.by_index in
    let parts = option_map (parts_in g.L.Link g.G.Log) in
    let own : c.swap_remove-id.result.id ≡ c.args.id =
    same_Some _ _ (sym (ap (option_map (λ seat. seat.id)) back.0) ∙ c.in_ok-place.ensures.2) in
    record {
      node = (
        _,
        _,
        ap parts (state_there c.args.id _ c.swap_remove-id.result _ _ own c.in_ok-place.ensures.1 back.0),
        ap parts (ap (λ items. state_in c.args.id items (place_at c.args.self.now c.args.id)) back.1
            ∙ state_there c.args.id _ _ _ _ own c.in_ok-place.ensures.1
            (slice_get-set_same c.args.self.now.items.items _ _ within)),
        record {
          earlier = c.count-earlier.ensures ∙ ap (λ link. option_map length (g.L.Link.sent link)) c.link.ensures;
          acts = c.act_on-process.ensures;
        },
      );
      others = λ other apart. ap parts (ap (λ items. state_in other items (place_at c.args.self.now other)) back.1
          ∙ others_kept c.args.self.now.items.items c.swap_remove-id.result
          (record { id = c.swap_remove-id.result.id; state = c.act_on-process.result.process }) c.in_ok-place.place other
          (place_at c.args.self.now other) back.0 refl (λ same. apart (sym same ∙ own)));
    }

pub returns-clause-ids : goal.returns-clause-ids
returns-clause-ids g c =
    let within : c.in_ok-place.place < length c.args.self.now.items.items = omega (arith, c.in_ok-place.ensures.0) in
    let back = seat_back _ _ _ _ _ c.swap_remove-id.result c.act_on-process.result.process c.in_ok-place.place
    (c.len-last.result - 1) (omega arith) within (omega arith) (omega arith) (omega arith)
    c.swap_remove-id.ensures.value c.swap_remove-id.ensures.by_index c.push_reserved.ensures.items c.swap.ensures.by_index in
    back.2

pub returns-clause-received : goal.returns-clause-received
returns-clause-received g c =
    let within : c.in_ok-place.place < length c.args.self.now.items.items = omega (arith, c.in_ok-place.ensures.0) in
    let back = seat_back _ _ _ _ _ c.swap_remove-id.result c.act_on-process.result.process c.in_ok-place.place
    (c.len-last.result - 1) (omega arith) within (omega arith) (omega arith) (omega arith)
    c.swap_remove-id.ensures.value c.swap_remove-id.ensures.by_index c.push_reserved.ensures.items c.swap.ensures.by_index in
    ap (λ items. received_of (map (seated g.L.Link g.G.Log) items)) back.1
    ∙ received-set g.L.Link g.G.Log c.args.self.now.items.items c.in_ok-place.place c.swap_remove-id.result
    (record { id = c.swap_remove-id.result.id; state = c.act_on-process.result.process }) back.0
    (acted-none _ c.args.action.now c.act_on-process.result.answer _ c.act_on-process.ensures)
