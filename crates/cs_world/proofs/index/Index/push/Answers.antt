-- it stands in both sets, or in none
use Rattle.std.proofs.Common.{◌∙◌, ap, not, refl, true}
use Rattle.std.specs.BTreeMap.{is_at}
use Rattle.std.specs.List.{list_any}
use Rattle.cs_world.proofs.Indexes.{hashed-back, hashed-pushed}
use Rattle.cs_world.specs.Indexed.{hash_for, hashed_cmp}
use Rattle.cs_world.specs.declared.index.Hashed.{Hashed}
use Rattle.cs_world.proofs.index.Index.push.Goals as goal

pub returns-in-Ok-clause-ok : goal.returns-in-Ok-clause-ok
returns-in-Ok-clause-ok c = λ packets is next.
    let hashed : Hashed = record { hash = c.hash-hash.result; number = c.args.number } in
    let hash = c.hash-hash.ensures ∙ ap (hash_for c.args.datagram.now.addr) c.as_slice.ensures in
    record {
      all = hashed-pushed (λ d. true) packets c.args.self.now.all c.insert.new.self hashed is.all next c.in_ok-insert.ensures.updates
          c.args.datagram.now hash refl;
      fresh = hashed-pushed (λ d. not d.is_delivered) packets c.args.self.now.fresh c.insert-2.new.self hashed is.fresh next
          c.in-Ok.ensures.updates c.args.datagram.now hash (ap not c.requires);
    }

pub returns-in-Err-clause-err : goal.returns-in-Err-clause-err
returns-in-Err-clause-err c = λ packets is next.
    let hashed : Hashed = record { hash = c.hash-hash.result; number = c.args.number } in
    record {
      all = hashed-back (λ d. true) packets c.args.self.now.all c.insert.new.self hashed is.all next c.in_ok-insert.ensures.updates
          c.remove.new.self c.remove.ensures.updates;
      fresh = λ q. ap (list_any (is_at (hashed_cmp q))) c.in-Err.ensures.err ∙ is.fresh q;
    }
