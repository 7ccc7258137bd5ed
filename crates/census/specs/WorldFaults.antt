-- The status that a fault of the world ends a run with.
use Rattle.cs_world.specs.declared.fault.WorldFault.{WorldFault}
use Rattle.cs_world.specs.declared.fault.WorldFault.TheVariants as faults
use Rattle.census.specs.declared.status.Status.{Status}
use Rattle.census.specs.declared.status.Status.TheVariants.{Link, Log, Memory, Limit}

-- a limit, a link or a log that failed, or want of memory
abbrev pub status_for : WorldFault → Status
status_for faults.Limit = Limit
status_for faults.Link = Link
status_for faults.Log = Log
status_for faults.Memory = Memory
