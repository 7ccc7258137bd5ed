-- it stands among those that weren't delivered no more
use Rattle.cs_world.proofs.Indexes.{index-noted}
use Rattle.cs_world.proofs.index.Index.note_delivery.Goals as goal
use Rattle.std.proofs.Common.{◌∙◌, ap}
use Rattle.cs_world.specs.Indexed.{hash_for}

pub returns : goal.returns
returns c = λ packets is there.
    index-noted packets c.args.datagram.now c.args.self.now c.remove.new.self
    (record { hash = c.hash-hash.result; number = c.args.number }) is
    (c.hash-hash.ensures ∙ ap (hash_for c.args.datagram.now.addr) c.as_slice.ensures) there c.remove.ensures.updates
