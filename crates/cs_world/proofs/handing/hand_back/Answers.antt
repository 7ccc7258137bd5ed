-- one seat after the other is handed back, from the last one on
use Rattle.std.proofs.Common.{◌∙◌, ◌≡◌, ◌<◌, length, map, ap, arith}
use Rattle.std.proofs.lemmas.List.{length-map}
use Rattle.cs_world.specs.Seats.{seated, seats_of}
use Rattle.cs_world.proofs.HandingBack.{IsHandedBack, adds-none, adds-some, dry_at, last-out, seat-goes, seats-end, seats-start, taken_at}
use Rattle.cs_world.proofs.handing.hand_back.Given.{Over}
use Rattle.cs_world.proofs.handing.hand_back.Goals as goal
use Rattle.cs_world.specs.Desk.{desk_told}
use Rattle.cs_world.proofs.handing.hand_back.Invariants.{of_link, of_log}

pub loop-id-init : goal.loop-id-init
loop-id-init g c = seats-start (of_link g) (of_log g) c.args.seats (g.D.Ground.out c.args.desk.now) _ c.requires

pub keep-requires : goal.keep-requires
keep-requires g c = last-out (of_link g) (of_log g) c.args.seats _ _ _ _ _ _ c.in-Some.ensures.items c.loop-id.invariant

pub loop-id-preserved : goal.loop-id-preserved
loop-id-preserved g c =
    let took = c.into_inner-in-Some.ensures ∙ ap (λ log. log.inner) c.stop-tap.ensures.log in
    let tap = c.stop-tap.ensures.link in
    seat-goes (of_link g) (of_log g) c.args.seats c.loop-id.items.items c.pop.new.self.items _
    (g.D.Ground.out c.loop-id.desk) (g.D.Ground.out c.keep.new.self)
    (desk_told g.D.Ground c.args.desk.now) (desk_told g.D.Ground c.loop-id.desk) (desk_told g.D.Ground c.keep.new.self)
    (g.D.Store.Log.bytes c.into_inner-in-Some.result) (g.D.Wire.Link.sent c.into_inner.result)
    (g.D.Wire.Link.faults c.into_inner.result) (g.D.Store.Log.faults c.into_inner-in-Some.result)
    (g.D.Wire.Link.taken c.into_inner.result) (g.D.Wire.Link.dry c.into_inner.result)
    c.in-Some.ensures.items c.loop-id.invariant
    (ap g.D.Store.Log.bytes took) (rw tap at c.into_inner.ensures.sent)
    (c.into_inner.ensures.faults ∙ ap (λ link. (of_link g).faults link) tap) (ap g.D.Store.Log.faults took)
    (c.into_inner.ensures.taken ∙ ap (λ link. (of_link g).taken link) tap) (c.into_inner.ensures.dry ∙ ap (λ link. (of_link g).dry link) tap)
    (g.met.D.Ground.logs_tell c.loop-id.desk c.into_inner-in-Some.result) (g.met.D.Ground.links_tell c.loop-id.desk c.into_inner.result)
    c.keep.ensures.out c.keep.ensures.logs c.keep.ensures.traffic c.keep.ensures.faults c.keep.ensures.link_faults c.keep.ensures.log_faults
    c.keep.ensures.taken c.keep.ensures.dry

-- all were handed back
all-handed : (g : Over) (c : goal.After-destroy_empty g)
    → IsHandedBack (seats_of (of_link g) (of_log g) c.args.seats) (g.D.Ground.out c.loop-id.desk)
    (desk_told g.D.Ground c.args.desk.now) (desk_told g.D.Ground c.loop-id.desk)
all-handed g c =
    seats-end (of_link g) (of_log g) c.args.seats c.loop-id.items.items _ _ _ (omega (arith, c.in_default.ensures.cases)) c.loop-id.invariant

pub returns-clause-out : goal.returns-clause-out
returns-clause-out g c = (all-handed g c).none_out

pub returns-clause-logs : goal.returns-clause-logs
returns-clause-logs g c = (all-handed g c).logs

pub returns-clause-traffic : goal.returns-clause-traffic
returns-clause-traffic g c = (all-handed g c).traffic

pub returns-clause-faults : goal.returns-clause-faults
returns-clause-faults g c = (all-handed g c).faults

pub returns-clause-link_faults : goal.returns-clause-link_faults
returns-clause-link_faults g c = (all-handed g c).link_faults

pub returns-clause-log_faults : goal.returns-clause-log_faults
returns-clause-log_faults g c = (all-handed g c).log_faults

pub returns-clause-taken : goal.returns-clause-taken
returns-clause-taken g c = λ some.
    adds-some taken_at (seats_of (of_link g) (of_log g) c.args.seats) _ _ (rw length-map some) (all-handed g c).taken

pub returns-clause-dry : goal.returns-clause-dry
returns-clause-dry g c = λ some.
    adds-some dry_at (seats_of (of_link g) (of_log g) c.args.seats) _ _ (rw length-map some) (all-handed g c).dry

pub returns-clause-idle : goal.returns-clause-idle
returns-clause-idle g c = λ empty.
    let none = ap (λ items. length (map (seated (of_link g) (of_log g)) items)) empty in (
      adds-none taken_at (seats_of (of_link g) (of_log g) c.args.seats) _ _ none (all-handed g c).taken,
      adds-none dry_at (seats_of (of_link g) (of_log g) c.args.seats) _ _ none (all-handed g c).dry,
    )
