-- the datagram at the place before the number is noted
use Rattle.std.proofs.Common.{◌≡◌, ◌-◌, ◌<◌, ◌≤◌, inl, inr, suc, refl, ap, ◌∙◌, length, arith, subst, sym, IfSome}
use Rattle.std.proofs.lemmas.Bool.{cases_lt, false≢true}
use Rattle.std.proofs.lemmas.Option.{slice_get_read}
use Rattle.cs_world.specs.Indexed.{IsIndexOf}
use Rattle.cs_world.specs.Sending.{as_delivered, noted}
use Rattle.cs_world.proofs.Changing.{changed-behind, changed-number, set-within}
use Rattle.cs_world.proofs.Indexes.{at-number}
use Rattle.cs_world.proofs.traffic.Traffic.note_delivery.Goals as goal
use Rattle.cs_world.proofs.traffic.Traffic.note_delivery.Goals.{in-Some-index, in_default-index}

pub invariant_of-self-clause-indexed : goal.invariant_of-self-clause-indexed
invariant_of-self-clause-indexed c =
    let items = c.args.self.now.datagrams.items in
    let within : c.args.number - 1 < length items = omega (arith, c.in-Some.ensures.variant.0 refl, c.args.self.now.datagrams.ok.0) in
    let at = slice_get_read items (length items) (c.args.number - 1) c.in-Some.datagram.now refl within c.in-Some.ensures.value in
    let there = at-number items c.args.number c.in-Some.datagram.now c.requires at in
    subst (λ ds. IfSome c.match-self.self.1.1.1.0 (IsIndexOf ds))
    (sym (changed-number as_delivered c.args.number items c.in-Some.datagram.now c.requires at))
    (elim c.match-self.branch [
      | in-Some-index w ↦
          subst (λ s. IfSome s.1.1.1.0 (IsIndexOf (noted c.args.number items))) (sym w.self-is)
          (w.note_delivery.ensures items (subst (λ o. IfSome o (IsIndexOf items)) w.in-Some-index.is c.args.self.now.indexed) there)
      | in_default-index w ↦
          subst (λ s. IfSome s.1.1.1.0 (IsIndexOf (noted c.args.number items))) (sym w.self-is)
          (subst (λ o. IfSome o (IsIndexOf (noted c.args.number items))) (sym w.in_default-index.is) tt)
    ])

pub returns-after-self-clause-datagrams : goal.returns-after-self-clause-datagrams
returns-after-self-clause-datagrams c =
    let items = c.args.self.now.datagrams.items in
    let within : c.args.number - 1 < length items = omega (arith, c.in-Some.ensures.variant.0 refl, c.args.self.now.datagrams.ok.0) in
    changed-number as_delivered c.args.number items c.in-Some.datagram.now c.requires
    (slice_get_read items (length items) (c.args.number - 1) c.in-Some.datagram.now refl within c.in-Some.ensures.value)

pub invariant_of-self-clause-passed : goal.invariant_of-self-clause-passed
invariant_of-self-clause-passed c =
    let items = c.args.self.now.datagrams.items in
    set-within items (c.args.number - 1) (as_delivered c.in-Some.datagram.now) c.args.self.now.front c.args.self.now.passed

pub returns-in_default-clause-datagrams : goal.returns-in_default-clause-datagrams
returns-in_default-clause-datagrams c =
    let items = c.args.self.now.datagrams.items in
    let number : suc (c.args.number - 1) ≡ c.args.number = omega (arith, c.requires) in
    let behind : length items ≤ c.args.number - 1 = elim (cases_lt (c.args.number - 1) (length items)) [
      | inl within ↦ absurd (false≢true (c.in_default.ensures.variant.1 (omega (arith, within, c.args.self.now.datagrams.ok.0))))
      | inr behind ↦ behind
    ] in
    changed-behind as_delivered (c.args.number - 1) items behind ∙ ap (λ n. noted n items) number
