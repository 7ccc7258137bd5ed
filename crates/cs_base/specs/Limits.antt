-- The limits of the service, each named once. Sizes that follow from them are computed where they are used.
use Rattle.std.specs.Prelude.{ℕ, ◌+◌, ◌*◌}

-- the last id of a node
abbrev pub last_id : ℕ
last_id = 4294967295

-- the last number of a region and of an epoch
abbrev pub last_number : ℕ
last_number = 4294967294

-- microseconds from 0 to either end of an axis
abbrev pub farthest : ℕ
farthest = 1000000

-- members whose points one sum can have
abbrev pub most_summed : ℕ
most_summed = 10000

-- members of the group
abbrev pub most_members : ℕ
most_members = 2000

-- members and ids that left together
abbrev pub most_together : ℕ
most_together = 16384

-- regions
abbrev pub most_regions : ℕ
most_regions = 64

-- a region with more members than this is cut
abbrev pub cut_above : ℕ
cut_above = 48

-- a region with fewer members than this is merged
abbrev pub merge_below : ℕ
merge_below = 6

-- members that a summary names
abbrev pub most_globals : ℕ
most_globals = 8

-- colours, and so trees within a region
abbrev pub colours : ℕ
colours = 4

-- members without children for each member with children
abbrev pub leaves_each : ℕ
leaves_each = 6

-- children of a member in the tree of a region
abbrev pub most_children : ℕ
most_children = 8

-- children of a region in a tree of regions
abbrev pub most_region_children : ℕ
most_region_children = 2

-- changes of a report, and of one close
abbrev pub most_changes : ℕ
most_changes = 64

-- pending changes of a node
abbrev pub most_pending : ℕ
most_pending = 256

-- bytes that are cut into pieces
abbrev pub most_piece_total : ℕ
most_piece_total = 65000

-- bytes of the greatest slice: those of every member, and of all else
abbrev pub most_slice_bytes : ℕ
most_slice_bytes = 22 * most_members + 15966

-- bytes of the greatest picture, likewise
abbrev pub most_picture_bytes : ℕ
most_picture_bytes = 22 * most_members + 15302

-- bytes of a schedule
abbrev pub most_text : ℕ
most_text = 4194304

-- bytes of all packets that are sent in a run
abbrev pub most_sent : ℕ
most_sent = 268435456

-- bytes that a run writes
abbrev pub most_output : ℕ
most_output = 268435456
