-- the first behind the hash that is one
use Rattle.std.proofs.Common.{◌∙◌, ◌≤◌, Some, ap, arith, cond, length, sym}
use Rattle.std.proofs.lemmas.Map.Iter.{rest_all, rest_more}
use Rattle.std.specs.List.{filter, find}
use Rattle.std.specs.Map.Iter.{deref}
use Rattle.std.specs.Option.{option_map}
use Rattle.cs_world.proofs.Searches.{first-found, is_behind, is_one}
use Rattle.cs_world.specs.declared.index.Hashed.{Hashed}
use Rattle.cs_world.proofs.traffic.Traffic.least_in.Goals as goal

pub returns-then-is_for : goal.returns-then-is_for
returns-then-is_for c = λ test are.
    let items = c.args.self.now.datagrams.items in
    let it = is_one c.args.addr c.args.bytes.now items in
    let few : length items ≤ 18446744073709551615 = omega (arith, c.args.self.now.full, c.args.self.now.few) in
    sym (ap (λ b. option_map (λ (k : Hashed). k.number) (cond b (Some c.in-Some.hashed.now) (find it c.next.new.self)))
    (sym c.is_for.ensures ∙ c.if-is_for.true))
    ∙ sym (ap (λ ks. option_map (λ (k : Hashed). k.number) (find it ks))
    (rest_more deref c.loop-hashed.hashed-iterator c.next.new.self c.next.result c.in-Some.hashed c.in-Some.is c.next.ensures.steps))
    ∙ ap (option_map (λ (k : Hashed). k.number)) c.loop-hashed.invariant
    ∙ ap (λ h. option_map (λ (k : Hashed). k.number) (find it (filter (is_behind h) c.args.set.now.keys))) c.hash-hash.ensures
    ∙ first-found c.args.addr c.args.bytes.now items test c.args.set.now are few c.range-hashed-items.ensures.ordered

pub returns : goal.returns
returns c = λ test are.
    let items = c.args.self.now.datagrams.items in
    let it = is_one c.args.addr c.args.bytes.now items in
    let few : length items ≤ 18446744073709551615 = omega (arith, c.args.self.now.full, c.args.self.now.few) in
    sym (ap (λ ks. option_map (λ (k : Hashed). k.number) (find it ks))
    (rest_all deref c.loop-hashed.hashed-iterator c.next.new.self c.next.result c.in-None.is c.next.ensures.steps))
    ∙ ap (option_map (λ (k : Hashed). k.number)) c.loop-hashed.invariant
    ∙ ap (λ h. option_map (λ (k : Hashed). k.number) (find it (filter (is_behind h) c.args.set.now.keys))) c.hash-hash.ensures
    ∙ first-found c.args.addr c.args.bytes.now items test c.args.set.now are few c.range-hashed-items.ensures.ordered
