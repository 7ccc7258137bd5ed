use Rattle.std.proofs.Common.{◌≡◌, ◌==◌, not, arith, rules}
use Rattle.std.specs.List.{filter}
use Rattle.std.proofs.lemmas.Fn.{filter_same}
use Rattle.cs_base.specs.Ascending.{without_key}
use Rattle.cs_link.proofs.Shelves.{renewed-here, renewed-elsewhere, room-put}
use Rattle.cs_link.proofs.shelf.Shelf.put.Goals as goal

-- the id that is out had its room
pub invariant_of-self : goal.invariant_of-self
invariant_of-self g c =
    let old = c.args.self.now in
    let enough = room-put c.args.id old.out _ _ c.requires old.room in
    let gone : c.remove.new.self ≡ without_key (λ m. m) c.args.id old.out = rw c.get.ensures.value at c.remove.ensures.removed in
    record {
      room = rw gone (omega (
        arith,
        enough,
        c.retain.ensures.bound,
        c.retain.ensures.capacity,
        c.push_reserved.ensures.len,
        c.push_reserved.ensures.capacity,
      ));
    }

-- what was kept under the id went out, and the new one came behind the others
pub returns-clause-kept : goal.returns-clause-kept
returns-clause-kept g c =
    let old = c.args.self.now.kept.items in
    let others : c.retain.new.self.items ≡ filter (λ kept. not (kept.id == c.args.id)) old =
    filter_same _ (λ kept. not (kept.id == c.args.id)) _ (λ x b f' k. search rules) _ _ c.retain.ensures.filtered in
    rw (c.push_reserved.ensures.items, others)
    (renewed-here (λ kept. kept.id) _ old, λ k other. renewed-elsewhere (λ kept. kept.id) _ k old other)
