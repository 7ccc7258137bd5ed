-- What the fault of a step can't be.
use Rattle.std.specs.Prelude.{◌≡◌, ◌≢◌, ℕ, ◌+◌, true, List, is_some}
use Rattle.std.specs.List.{AllByRecursion}
use Rattle.cs_item.specs.declared.head.Head.{Head}
use Rattle.cs_item.specs.declared.part.Part.{Part}
use Rattle.cs_item.specs.declared.picture.Picture.{Picture}
use Rattle.cs_view.specs.Step.{is_known, part_of}
use Rattle.cs_view.specs.declared.fault.ViewFault.{ViewFault}
use Rattle.cs_view.specs.declared.fault.ViewFault.TheVariants as faults

-- each touched region whose roll is known has a part
abbrev pub HasParts : Picture → Head → List Part → Type 0
HasParts view head parts =
    AllByRecursion (λ r. is_known view.rolls r ≡ true → is_some (part_of r parts) ≡ true) head.touched

-- the step itself never wants memory, no epoch is at fault but a wrong one, and no part is missing where all are there
pub record IsStepFault (view : Picture) (head : Head) (parts : List Part) (fault : ViewFault) : Type 0 where
  pub memory : fault ≢ faults.Memory
  pub epoch : head.epoch ≡ view.epoch + 1 → (have given : ℕ) → fault ≢ faults.Epoch have given
  pub missing : HasParts view head parts → (region : ℕ) → fault ≢ faults.Missing region
