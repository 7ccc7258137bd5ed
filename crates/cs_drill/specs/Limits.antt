-- The numbers of a drill and of a live run, each named once.
use Rattle.std.specs.Prelude.{ℕ}

-- nodes
abbrev pub fewest_nodes : ℕ
fewest_nodes = 2

abbrev pub most_nodes : ℕ
most_nodes = 1000

-- nodes that join between two closes
abbrev pub together : ℕ
together = 64

-- rounds of changes
abbrev pub rounds : ℕ
rounds = 8

-- moves in one of them
abbrev pub moves : ℕ
moves = 8

-- rounds of deliveries of one settling
abbrev pub settling : ℕ
settling = 40

-- nodes of a live run
abbrev pub most_live : ℕ
most_live = 64

-- ports behind which those of its nodes come
abbrev pub first_port : ℕ
first_port = 1

abbrev pub last_port : ℕ
last_port = 65000
