-- The greatest numbers of a line, each named once.
use Rattle.std.specs.Prelude.{ℕ}

-- rounds of one settling
abbrev pub most_rounds : ℕ
most_rounds = 1000

-- bytes of a packet that a line shows
abbrev pub most_shown : ℕ
most_shown = 65535

-- bytes of a datagram that is noise
abbrev pub most_noise : ℕ
most_noise = 65535
