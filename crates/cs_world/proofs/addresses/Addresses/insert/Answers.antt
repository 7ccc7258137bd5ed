-- under its address stands its id, and under its id its address
use Rattle.std.proofs.Common.{◌∙◌, Some, ap, cond}
use Rattle.cs_world.proofs.SameAddress.{is_eq-nat_cmp, same-address_cmp}
use Rattle.cs_world.specs.Addresses.{address_under, id_under}
use Rattle.cs_world.proofs.addresses.Addresses.insert.Goals as goal

pub returns : goal.returns
returns c = record {
  ids = λ a. c.in_ok-insert.ensures.updates.0 a
      ∙ ap (λ b. cond b (Some c.args.id) (id_under c.args.self.now a)) (same-address_cmp c.args.addr a);
  addrs = λ other. c.in_ok-insert-2.ensures.updates.0 other
      ∙ ap (λ b. cond b (Some c.args.addr) (address_under c.args.self.now other)) (is_eq-nat_cmp c.args.id other);
}
