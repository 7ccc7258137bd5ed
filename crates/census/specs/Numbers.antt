-- The number that the program ends with.
use Rattle.std.specs.Prelude.{ℕ}
use Rattle.census.specs.declared.status.Status.{Status}
use Rattle.census.specs.declared.status.Status.TheVariants.{Done, Usage, Script, Read, Write, Link, Log, Memory, Limit}

-- the number of each status
abbrev pub number_of : Status → ℕ
number_of Done = 0
number_of Usage = 2
number_of Script = 3
number_of Read = 4
number_of Write = 5
number_of Link = 6
number_of Log = 7
number_of Memory = 8
number_of Limit = 9
