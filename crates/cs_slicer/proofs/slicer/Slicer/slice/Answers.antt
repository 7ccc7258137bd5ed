use Rattle.std.proofs.Common.{◌≡◌, Some, rules}
use Rattle.cs_item.specs.declared.slice.Slice.{Slice}
use Rattle.cs_slicer.specs.Slicer.{AreWellFormed, slice_of}
use Rattle.cs_slicer.proofs.Slices.{IsSlice-found}
use Rattle.cs_slicer.proofs.slicer.Slicer.slice.Goals as goal

-- the slice of well-formed slices is well formed
pub returns-clause-well_formed : goal.returns-clause-well_formed
returns-clause-well_formed c later =
    let slice : Slice = record { head = c.in_ok-copy.field-0; part = c.in_ok-copy-2.field-0 } in
    let formed : AreWellFormed c.args.self.now = rw (← c.self.view_is) c.self.invariant in
    let found : slice_of c.args.self.now c.args.region ≡ Some slice = search rules in
    IsSlice-found c.args.self.now c.args.region slice formed later found
