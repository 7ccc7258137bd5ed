-- one packet after another, or the fault of one
use Rattle.std.proofs.Common.{◌≡◌, ◌+◌, ◌-◌, ◌≤◌, length, take, Some, refl, sym, ap, subst, ◌∙◌, arith}
use Rattle.std.specs.String.{string_bytes}
use Rattle.std.proofs.lemmas.Result.{err_from_is_err_and}
use Rattle.cs_link.specs.Sent.{Datagram}
use Rattle.cs_world.specs.Posting.{Posts}
use Rattle.cs_world.specs.declared.traffic.Traffic.{Traffic}
use Rattle.cs_world.proofs.Posted.{fault-more, past-sent, posts-all, posts-more, posts-none, sent-behind}
use Rattle.cs_world.proofs.posting.post_all.Goals as goal
use Rattle.cs_world.proofs.posting.post_all.Goals.{in-Some+in_ok-post, in_default}

pub loop-place-init : goal.loop-place-init
loop-place-init g c = (
  λ sends are behind.
      let none : c.args.earlier - c.args.earlier ≡ 0 = omega arith in
      subst (λ n. Posts c.args.telling (take n sends) c.args.traffic.now c.args.traffic.now (string_bytes c.args.out.now) (string_bytes c.args.out.now))
      (sym none) (posts-none c.args.telling c.args.traffic.now (string_bytes c.args.out.now)),
  refl,
  omega arith,
)

pub loop-place-preserved : goal.loop-place-preserved
loop-place-preserved g c =
    let place = c.loop-place.place in
    let from : c.args.earlier ≤ place = c.loop-place.auto.place in
    let a = c.args.traffic.now in
    let b = c.loop-place.traffic in
    let s = string_bytes c.args.out.now in
    let t = string_bytes c.loop-place.out in (
      λ sends are behind. elim c.match-branch-2.branch [
        | in-Some+in_ok-post w ↦
            let datagram : Datagram = w.in-Some.datagram in
            let found = ap Some (sym w.in-Some.is) ∙ c.in_ok-datagram.ensures in
            let there = sent-behind sends c.args.earlier place (g.L.Link.sent c.args.link.now) are behind from datagram found in
            subst (λ now. Posts c.args.telling (take (place + 1 - c.args.earlier) sends) a now s (string_bytes c.match-branch-2.out)) (sym w.traffic-is)
            (subst (λ out. Posts c.args.telling (take (place + 1 - c.args.earlier) sends) a w.post.new.traffic s (string_bytes out)) (sym w.out-is)
            (posts-more sends c.args.earlier place (g.L.Link.sent c.args.link.now) are behind from c.args.telling datagram there a b w.post.new.traffic
            s t (string_bytes w.post.new.out) (c.loop-place.invariant.0 sends are behind)
            (w.in_ok-post.ensures.ok there.send.1 there.packet there.bytes)))
        | in_default w ↦
            absurd (past-sent place (g.L.Link.sent c.args.link.now) c.count-place-end.result c.count-place-end.ensures c.loop-place-test.true
            (ap Some (sym w.in_default.is) ∙ c.in_ok-datagram.ensures))
      ],
      elim c.match-branch-2.branch [
        | in-Some+in_ok-post w ↦ ap (λ (now : Traffic). now.front) w.traffic-is ∙ w.in_ok-post.ensures.front ∙ c.loop-place.invariant.1
        | in_default w ↦ ap (λ (now : Traffic). now.front) w.traffic-is ∙ c.loop-place.invariant.1
      ],
      elim c.match-branch-2.branch [
        | in-Some+in_ok-post w ↦
            let longer : length c.loop-place.traffic.datagrams.items ≤ length w.post.new.traffic.datagrams.items = w.in_ok-post.ensures.longer in
            let so_far = c.loop-place.invariant.2 in
            rw w.traffic-is (omega (arith, longer, so_far))
        | in_default w ↦ rw w.traffic-is c.loop-place.invariant.2
      ],
    )

pub returns-in_err-post-clause-fault : goal.returns-in_err-post-clause-fault
returns-in_err-post-clause-fault g c = λ sends are behind.
    let place = c.loop-place.place in
    let from : c.args.earlier ≤ place = c.loop-place.auto.place in
    let datagram : Datagram = c.in-Some.datagram in
    let found = ap Some (sym c.in-Some.is) ∙ c.in_ok-datagram.ensures in
    let there = sent-behind sends c.args.earlier place (g.L.Link.sent c.args.link.now) are behind from datagram found in
    let p = err_from_is_err_and c.from_residual-in_err-post.result c.from_residual-in_err-post.ensures.1 in
    rw (p.1, p.2) (fault-more sends c.args.earlier place (g.L.Link.sent c.args.link.now) are behind from c.args.telling datagram there
    c.args.traffic.now c.loop-place.traffic (string_bytes c.args.out.now) (string_bytes c.loop-place.out) c.in_err-post.field-0.0
    (c.loop-place.invariant.0 sends are behind)
    (c.in_err-post.ensures.fault there.send.1 there.packet there.bytes))

pub returns-clause-ok : goal.returns-clause-ok
returns-clause-ok g c = λ sends are behind.
    let past : c.count-place-end.result ≤ c.loop-place.place = c.loop-place-test.false in
    posts-all c.args.telling sends c.args.earlier c.loop-place.place c.count-place-end.result (g.L.Link.sent c.args.link.now) behind
    c.count-place-end.ensures past
    c.args.traffic.now c.loop-place.traffic (string_bytes c.args.out.now) (string_bytes c.loop-place.out)
    (c.loop-place.invariant.0 sends are behind)

pub returns-in_err-post-clause-kind : goal.returns-in_err-post-clause-kind
returns-in_err-post-clause-kind g c =
    let p = err_from_is_err_and c.from_residual-in_err-post.result c.from_residual-in_err-post.ensures.1 in
    rw (p.1, p.2) c.in_err-post.ensures.kind
