-- among those that weren't delivered yet, and else among all
use Rattle.std.proofs.Common.{◌≡◌, ◌∙◌, ◌&&◌, true, false, not, Option, Some, None, is_some, length, ◌≤◌, refl, sym, ap, arith, ℕ}
use Rattle.std.proofs.lemmas.Bool.{false≢true}
use Rattle.std.specs.Option.{option_or}
use Rattle.cs_base.specs.Limits.{most_sent}
use Rattle.cs_world.proofs.Searches.{least-there}
use Rattle.cs_world.specs.Sending.{is_for, least_with}
use Rattle.cs_world.proofs.traffic.Traffic.number_for.Goals as goal

-- the first where it is there
first-there : (a b : Option ℕ) → is_some a ≡ true → a ≡ option_or a b
first-there None b is = absurd (false≢true is)
first-there (Some n) b is = refl

-- and else the second
second-there : (a b : Option ℕ) → is_some a ≡ false → b ≡ option_or a b
second-there None b none = refl
second-there (Some n) b none = absurd (false≢true (sym none))

pub returns-then-is_some-clause-least : goal.returns-then-is_some-clause-least
returns-then-is_some-clause-least c =
    let items = c.args.self.now.datagrams.items in
    let all = least_with (is_for c.args.addr c.args.bytes.now) items in
    first-there c.least_fresh-fresh.result all (sym c.is_some.ensures ∙ c.if-is_some.true)
    ∙ ap (λ o. option_or o all) c.least_fresh-fresh.ensures

pub returns-then-is_some-clause-few : goal.returns-then-is_some-clause-few
returns-then-is_some-clause-few c =
    let items = c.args.self.now.datagrams.items in
    let few : length items ≤ most_sent = omega (arith, c.args.self.now.full, c.args.self.now.few) in
    least-there (λ d. is_for c.args.addr c.args.bytes.now d && not d.is_delivered) items most_sent c.least_fresh-fresh.result few
    c.least_fresh-fresh.ensures

pub returns-clause-least : goal.returns-clause-least
returns-clause-least c =
    let items = c.args.self.now.datagrams.items in
    let all = least_with (is_for c.args.addr c.args.bytes.now) items in
    c.least.ensures
    ∙ second-there c.least_fresh-fresh.result all (sym c.is_some.ensures ∙ c.if-is_some.false)
    ∙ ap (λ o. option_or o all) c.least_fresh-fresh.ensures

pub returns-clause-few : goal.returns-clause-few
returns-clause-few c =
    let items = c.args.self.now.datagrams.items in
    let few : length items ≤ most_sent = omega (arith, c.args.self.now.full, c.args.self.now.few) in
    least-there (is_for c.args.addr c.args.bytes.now) items most_sent c.least.result few c.least.ensures
