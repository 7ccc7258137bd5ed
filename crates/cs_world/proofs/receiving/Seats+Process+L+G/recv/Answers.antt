-- the seat at the place of the id receives, and all else stays
use Rattle.std.proofs.Common.{◌≡◌, ◌∙◌, ℕ, ◌<◌, length, List, map, Some, slice_get, refl, arith, ap, sym, subst, nat_cmp}
use Rattle.std.proofs.lemmas.Option.{same_Some, slice_get-get_or}
use Rattle.std.proofs.Math.Seq.{map-set_same}
use Rattle.std.specs.BTreeMap.{get}
use Rattle.std.specs.Option.{option_map}
use Rattle.cs_world.proofs.Receivers.{process-receives, receives-at}
use Rattle.cs_world.specs.Places.{ArePlaced}
use Rattle.cs_world.proofs.receiving.Seats+Process+L+G.recv.Goals as goal

pub invariant_of-self : goal.invariant_of-self
invariant_of-self g c =
    let items = c.args.self.now.items.items in
    let seat = c.index_mut.result.now in
    record {
      placed = subst (λ (ids : List ℕ). ArePlaced ids (get nat_cmp c.args.self.now.places))
          (sym (map-set_same (λ seat. seat.id) items c.unwrap-place.result (record { id = seat.id; state = c.recv.new.self }) seat
          (ap (λ seat. seat.id) c.index_mut.ensures.value))) c.args.self.now.placed;
    }

pub returns : goal.returns
returns g c =
    let items = c.args.self.now.items.items in
    let seat = c.index_mut.result.now in
    let placed = rw c.unwrap-place.ensures at c.place.ensures in
    let within : c.unwrap-place.result < length items = omega (arith, placed.0, c.args.self.now.items.ok.0) in
    let at : slice_get items c.unwrap-place.result ≡ Some seat =
    slice_get-get_or items c.unwrap-place.result seat within ∙ ap Some (sym c.index_mut.ensures.value) in
    receives-at g.L.Link g.G.Log c.args.self.now _ c.args.id c.unwrap-place.result seat (record { id = seat.id; state = c.recv.new.self })
    c.recv.new.buf c.recv.result at within refl refl
    (same_Some seat.id c.args.id (sym (ap (option_map (λ seat. seat.id)) at) ∙ placed.2)) refl placed.1
    (process-receives g.L.Link g.G.Log c.recv.new.buf c.recv.result seat.state c.recv.new.self c.recv.ensures.node c.recv.ensures.link
    c.recv.ensures.log)
