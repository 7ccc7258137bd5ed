-- the datagram at the place before the number is marked
use Rattle.std.proofs.Common.{◌≡◌, ◌-◌, ◌<◌, ◌≤◌, inl, inr, suc, refl, ap, ◌∙◌, length, arith, subst, sym, IfSome}
use Rattle.std.proofs.lemmas.Bool.{cases_lt, false≢true}
use Rattle.std.proofs.lemmas.Option.{slice_get_read}
use Rattle.cs_world.specs.Indexed.{IsIndexOf}
use Rattle.cs_world.specs.Sending.{as_closed, marked}
use Rattle.cs_world.proofs.Changing.{changed-behind, changed-number, set-within}
use Rattle.cs_world.proofs.Indexes.{indexed-marked}
use Rattle.cs_world.proofs.traffic.Traffic.pass_over.Goals as goal

pub invariant_of-self-clause-indexed : goal.invariant_of-self-clause-indexed
invariant_of-self-clause-indexed c =
    let items = c.args.self.now.datagrams.items in
    let within : c.args.number - 1 < length items = omega (arith, c.in-Some.ensures.variant.0 refl, c.args.self.now.datagrams.ok.0) in
    subst (λ ds. IfSome c.args.self.now.index (IsIndexOf ds))
    (sym (changed-number as_closed c.args.number items c.in-Some.datagram.now c.requires
    (slice_get_read items (length items) (c.args.number - 1) c.in-Some.datagram.now refl within c.in-Some.ensures.value)))
    (indexed-marked c.args.number items c.args.self.now.index c.args.self.now.indexed)

pub invariant_of-self-clause-passed : goal.invariant_of-self-clause-passed
invariant_of-self-clause-passed c =
    let items = c.args.self.now.datagrams.items in
    set-within items (c.args.number - 1) (as_closed c.in-Some.datagram.now) c.args.self.now.front c.args.self.now.passed

pub returns-in-Some-clause-datagrams : goal.returns-in-Some-clause-datagrams
returns-in-Some-clause-datagrams c =
    let items = c.args.self.now.datagrams.items in
    let within : c.args.number - 1 < length items = omega (arith, c.in-Some.ensures.variant.0 refl, c.args.self.now.datagrams.ok.0) in
    changed-number as_closed c.args.number items c.in-Some.datagram.now c.requires
    (slice_get_read items (length items) (c.args.number - 1) c.in-Some.datagram.now refl within c.in-Some.ensures.value)

pub returns-in_default-clause-datagrams : goal.returns-in_default-clause-datagrams
returns-in_default-clause-datagrams c =
    let items = c.args.self.now.datagrams.items in
    let number : suc (c.args.number - 1) ≡ c.args.number = omega (arith, c.requires) in
    let behind : length items ≤ c.args.number - 1 = elim (cases_lt (c.args.number - 1) (length items)) [
      | inl within ↦ absurd (false≢true (c.in_default.ensures.variant.1 (omega (arith, within, c.args.self.now.datagrams.ok.0))))
      | inr behind ↦ behind
    ] in
    changed-behind as_closed (c.args.number - 1) items behind ∙ ap (λ n. marked n items) number
