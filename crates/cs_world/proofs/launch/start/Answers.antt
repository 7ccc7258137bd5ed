-- the new node has its seat
use Rattle.std.proofs.Common.{◌∙◌, [], ◌∷◌, ◌++◌, ◌<◌, IsSome, map, refl, sym, ap, subst}
use Rattle.cs_link.specs.Received.{IsNothing}
use Rattle.cs_log.specs.contracts.arming.ArmingLog.TheImpl as arming_log
use Rattle.cs_node.specs.Told.{log_told}
use Rattle.cs_world.specs.Processes.{parts_in}
use Rattle.cs_world.specs.Receiving.{received_of}
use Rattle.cs_world.specs.Seats.{seated, seats_of}
use Rattle.cs_world.specs.contracts.tap.TapLink.TheImpl as tap_link
use Rattle.cs_world.proofs.Receipts.{received-pushed}
use Rattle.cs_world.proofs.Starting.{faults-pushed, no-limit, on-ok, out-more, out-same, parts-pushed, pushed-stay, starts-as, stopped-counts, unseated}
use Rattle.cs_world.proofs.launch.start.Goals as goal

pub returns-in_err-make_room-clause-out : goal.returns-in_err-make_room-clause-out
returns-in_err-make_room-clause-out g c =
    out-same _ _ c.args.nodes.now.seats c.make_room.new.self.seats refl c.make_room.ensures.items c.requires.out

pub grant-requires : goal.grant-requires
grant-requires g c = λ has. unseated c.args.nodes.now.seats c.args.own.now.id c.requires.unused ((c.requires.out c.args.own.now.id).0 has)

pub returns-in_err-wire-clause-out : goal.returns-in_err-wire-clause-out
returns-in_err-wire-clause-out g c =
    out-same _ _ c.args.nodes.now.seats c.make_room.new.self.seats c.in_err-wire.ensures.out_stays c.make_room.ensures.items c.requires.out

pub returns-in-Some-clause-unlimited : goal.returns-in-Some-clause-unlimited
returns-in-Some-clause-unlimited g c = λ limit. no-limit _ c.in-Some.fault (sym c.fault_of-fault.ensures ∙ c.in-Some.is) limit

pub returns-in-Some-clause-counted : goal.returns-in-Some-clause-counted
returns-in-Some-clause-counted g c =
    let link = tap_link.ghosts g.row.D-Wire g.D.Wire.Link g.D.Wire.Link-dict in
    let log = arming_log.ghosts g.row.D-Store g.D.Store.Log g.D.Store.Log-dict in
    stopped-counts _ (seats_of link log c.push.new.self) c.in-Some.fault _ _ _
    (sym c.fault_of-fault.ensures ∙ c.in-Some.is) c.booted-state.ensures.stopped
    (ap g.D.Store.Log.faults c.new-2.ensures.inner ∙ c.in_ok-wire.ensures.log_faults) c.new-2.ensures.tear
    (λ failed. faults-pushed link log c.make_room.new.self.seats c.push.new.self c.args.own.now.id c.of.result c.push.ensures.items
    (subst (λ store. 0 < log.own_faults store) (sym c.of.ensures.log) failed))

pub returns-in-Some-clause-out : goal.returns-in-Some-clause-out
returns-in-Some-clause-out g c =
    out-more _ _ c.args.nodes.now.seats c.push.new.self c.args.own.now.id c.of.result c.in_ok-wire.ensures.out
    (c.push.ensures.items ∙ ap (λ seats. seats ++ record { id = c.args.own.now.id; state = c.of.result } ∷ []) c.make_room.ensures.items)
    c.requires.out

pub returns-in-None-clause-nodes : goal.returns-in-None-clause-nodes
returns-in-None-clause-nodes g c = λ led.
    let link = tap_link.ghosts g.row.D-Wire g.D.Wire.Link g.D.Wire.Link-dict in
    let log = arming_log.ghosts g.row.D-Store g.D.Store.Log g.D.Store.Log-dict in
    let tap = c.of.ensures.link ∙ c.booted-state.ensures.link in
    let granted = c.in_ok-wire.ensures in
    let own = c.args.own.now in
    let new = c.new-2.result in
    on-ok c.number_line.result (
      parts_in link log c.of.result,
      starts-as own _ (parts_in link log c.of.result) (log_told log new) (sym c.in-None.is ∙ c.fault_of-fault.ensures)
          c.of.ensures.node (c.booted-state.ensures.node led)
          (rw c.of.ensures.log (c.booted-state.ensures.kept led))
          (ap link.sent tap ∙ c.new.ensures.sent) (ap link.faults tap ∙ c.new.ensures.faults ∙ granted.link_faults)
          (ap link.taken tap ∙ c.new.ensures.taken ∙ granted.link_taken) (ap link.dry tap ∙ c.new.ensures.dry ∙ granted.link_dry)
          (subst (λ store. IsNothing (g.D.Store.Log.bytes store)) (sym c.new-2.ensures.inner) granted.log)
          (ap g.D.Store.Log.faults c.new-2.ensures.inner ∙ granted.log_faults),
      parts-pushed link log c.args.nodes.now.seats c.make_room.new.self.seats c.push.new.self own.id c.of.result
          c.make_room.ensures.states c.push.ensures.states,
    )

pub returns-in-None-clause-out : goal.returns-in-None-clause-out
returns-in-None-clause-out g c =
    out-more _ _ c.args.nodes.now.seats c.push.new.self c.args.own.now.id c.of.result c.in_ok-wire.ensures.out
    (c.push.ensures.items ∙ ap (λ seats. seats ++ record { id = c.args.own.now.id; state = c.of.result } ∷ []) c.make_room.ensures.items)
    c.requires.out

pub returns-in_err-make_room-clause-received : goal.returns-in_err-make_room-clause-received
returns-in_err-make_room-clause-received g c =
    let link = tap_link.ghosts g.row.D-Wire g.D.Wire.Link g.D.Wire.Link-dict in
    let log = arming_log.ghosts g.row.D-Store g.D.Store.Log g.D.Store.Log-dict in
    ap (λ items. received_of (map (seated link log) items)) c.make_room.ensures.items

pub returns-in_err-make_room-clause-stay : goal.returns-in_err-make_room-clause-stay
returns-in_err-make_room-clause-stay g c = λ id some. subst (λ o. IsSome o) (sym (c.make_room.ensures.states id)) some

pub returns-in_err-wire-clause-received : goal.returns-in_err-wire-clause-received
returns-in_err-wire-clause-received g c =
    let link = tap_link.ghosts g.row.D-Wire g.D.Wire.Link g.D.Wire.Link-dict in
    let log = arming_log.ghosts g.row.D-Store g.D.Store.Log g.D.Store.Log-dict in
    ap (λ items. received_of (map (seated link log) items)) c.make_room.ensures.items

pub returns-in_err-wire-clause-stay : goal.returns-in_err-wire-clause-stay
returns-in_err-wire-clause-stay g c = λ id some. subst (λ o. IsSome o) (sym (c.make_room.ensures.states id)) some

pub returns-in-Some-clause-received : goal.returns-in-Some-clause-received
returns-in-Some-clause-received g c =
    let link = tap_link.ghosts g.row.D-Wire g.D.Wire.Link g.D.Wire.Link-dict in
    let log = arming_log.ghosts g.row.D-Store g.D.Store.Log g.D.Store.Log-dict in
    let tap = c.of.ensures.link ∙ c.booted-state.ensures.link in
    let granted = c.in_ok-wire.ensures in
    ap (λ items. received_of (map (seated link log) items)) c.push.ensures.items
    ∙ received-pushed link log c.make_room.new.self.seats.items.items (record { id = c.args.own.now.id; state = c.of.result })
    (ap link.taken tap ∙ c.new.ensures.taken ∙ granted.link_taken) (ap link.dry tap ∙ c.new.ensures.dry ∙ granted.link_dry)
    ∙ ap (λ items. received_of (map (seated link log) items)) c.make_room.ensures.items

pub returns-in-Some-clause-stay : goal.returns-in-Some-clause-stay
returns-in-Some-clause-stay g c = λ id some.
    pushed-stay c.make_room.new.self.seats c.push.new.self c.args.own.now.id c.of.result c.push.ensures.states id
    (subst (λ o. IsSome o) (sym (c.make_room.ensures.states id)) some)

pub returns-in-None-clause-received : goal.returns-in-None-clause-received
returns-in-None-clause-received g c =
    let link = tap_link.ghosts g.row.D-Wire g.D.Wire.Link g.D.Wire.Link-dict in
    let log = arming_log.ghosts g.row.D-Store g.D.Store.Log g.D.Store.Log-dict in
    let tap = c.of.ensures.link ∙ c.booted-state.ensures.link in
    let granted = c.in_ok-wire.ensures in
    ap (λ items. received_of (map (seated link log) items)) c.push.ensures.items
    ∙ received-pushed link log c.make_room.new.self.seats.items.items (record { id = c.args.own.now.id; state = c.of.result })
    (ap link.taken tap ∙ c.new.ensures.taken ∙ granted.link_taken) (ap link.dry tap ∙ c.new.ensures.dry ∙ granted.link_dry)
    ∙ ap (λ items. received_of (map (seated link log) items)) c.make_room.ensures.items

pub returns-in-None-clause-stay : goal.returns-in-None-clause-stay
returns-in-None-clause-stay g c = λ id some.
    pushed-stay c.make_room.new.self.seats c.push.new.self c.args.own.now.id c.of.result c.push.ensures.states id
    (subst (λ o. IsSome o) (sym (c.make_room.ensures.states id)) some)
