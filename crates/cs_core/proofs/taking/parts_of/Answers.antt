use Rattle.cs_core.proofs.Needed.{parts_of-next}
use Rattle.cs_core.proofs.taking.parts_of.Goals as goal

-- the part of the next slice ascends behind those so far
pub push-requires : goal.push-requires
push-requires c =
    rw (c.loop-slice.invariant, c.in_ok-copy.ensures)
    (rw c.slice-item.is (parts_of-next c.args.slices.now c.loop-slice.slice-index c.slice-item.result c.loop-slice-test.true c.requires))
