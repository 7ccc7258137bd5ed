use Rattle.std.proofs.Common.{arith}
use Rattle.cs_link.proofs.Shelves.{room-lent}
use Rattle.cs_link.proofs.shelf.Shelf.lend.Goals as goal

-- the room that was made is enough for the id, whether it was new or not
pub invariant_of-self-2 : goal.invariant_of-self-2
invariant_of-self-2 g c = record {
  room = room-lent c.insert.result c.get.result c.args.self.now.out c.insert.new.self _ _ c.insert.ensures.placed c.insert.ensures.err
      (omega (arith, c.in_ok-reserve.ensures.ok, c.len.ensures));
}
