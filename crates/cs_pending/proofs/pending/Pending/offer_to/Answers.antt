use Rattle.std.proofs.Common.{◌∙◌, ap, length, arith, sym}
use Rattle.std.specs.Option.{option_copied}
use Rattle.std.proofs.lemmas.Bool.Decides.{nat_tests}
use Rattle.std.proofs.lemmas.List.{length-map}
use Rattle.cs_pending.proofs.Table.{offer_of-found, offer_of-few, offer_of-many}
use Rattle.cs_pending.proofs.pending.Pending.offer_to.Goals as goal

pub returns-in-Some : goal.returns-in-Some
returns-in-Some c =
    let met = offer_of-found c.key_of.result c.args.change.now c.self.inside.table.entries c.args.self.now
    (option_copied c.get.result) c.self.invariant.keyed c.key_of.ensures c.self.view_is c.get.ensures.value in
    let found = rw c.in-Some.is at met in
    grind (arith, nat_tests, found)

pub returns-in-Some-2 : goal.returns-in-Some-2
returns-in-Some-2 c =
    let met = offer_of-found c.key_of.result c.args.change.now c.self.inside.table.entries c.args.self.now
    (option_copied c.get.result) c.self.invariant.keyed c.key_of.ensures c.self.view_is c.get.ensures.value in
    let found = rw c.in-Some.is at met in
    grind (arith, nat_tests, found)

pub returns-in-None : goal.returns-in-None
returns-in-None c =
    let met = offer_of-found c.key_of.result c.args.change.now c.self.inside.table.entries c.args.self.now
    (option_copied c.get.result) c.self.invariant.keyed c.key_of.ensures c.self.view_is c.get.ensures.value in
    let found = rw c.in-None.is at met in
    sym (found ∙ offer_of-few (length c.args.self.now) c.args.change.now
    (omega (arith, ap length c.self.view_is, length-map c.self.inside.table.entries (λ e. e.1))))

pub returns-in-None-2 : goal.returns-in-None-2
returns-in-None-2 c =
    let met = offer_of-found c.key_of.result c.args.change.now c.self.inside.table.entries c.args.self.now
    (option_copied c.get.result) c.self.invariant.keyed c.key_of.ensures c.self.view_is c.get.ensures.value in
    let found = rw c.in-None.is at met in
    sym (found ∙ offer_of-many (length c.args.self.now) c.args.change.now
    (omega (arith, ap length c.self.view_is, length-map c.self.inside.table.entries (λ e. e.1))))
