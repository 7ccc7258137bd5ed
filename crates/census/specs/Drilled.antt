-- What the schedule of a drill comes to, and its summary.
use Rattle.std.specs.Prelude.{ℕ, Bool, false, ◌||◌, ◌==◌, nat_lt, List, [], ◌∷◌, ◌++◌, length, filter, codes, decimal}
use Rattle.std.specs.Prelude.{Option, None, Some, if◌then◌else◌}
use Rattle.std.specs.List.{filter_map, range_with_len}
use Rattle.std.specs.Str.{bytes_eq}
use Rattle.cs_base.specs.Limits.{most_sent}
use Rattle.cs_drill.specs.Schedule.{leader, schedule}
use Rattle.cs_item.specs.Picture.{members_in}
use Rattle.cs_item.specs.declared.picture.Picture.{Picture}
use Rattle.cs_machine.specs.Happens.{happens}
use Rattle.cs_machine.specs.Names.{World, empty_world, node_of}
use Rattle.cs_machine.specs.Packets.{bytes_sent}
use Rattle.cs_script.specs.declared.event.Event.{Event}
use Rattle.cs_show.specs.Block.{digest_line, digest_of}
use Rattle.cs_show.specs.Text.{text_of}
use Rattle.cs_world.specs.Shown.{shown_at}
use Rattle.census.specs.declared.summary.Totals.{Totals}
use Rattle.census.specs.declared.status.Status.{Status}
use Rattle.census.specs.declared.status.Status.TheVariants.{Done, Limit}

-- the world behind events that happen in one
abbrev pub world_behind : World → List Event → World
world_behind world [] = world
world_behind world (event ∷ events) = world_behind (happens world event).world events

-- with one of the events more is sent than a run may send
abbrev pub passes : World → List Event → Bool
passes world [] = false
passes world (event ∷ events) =
    let after = (happens world event).world in
    nat_lt most_sent (bytes_sent after) || passes after events

-- the world behind a drill
unfoldable pub drilled : ℕ → ℕ → World
drilled nodes seed = world_behind empty_world (schedule nodes seed)

-- how a drill ends
unfoldable pub drill_ends : ℕ → ℕ → Status
drill_ends nodes seed = if passes empty_world (schedule nodes seed) then Limit else Done

-- what the node with the id shows
abbrev pub shows : World → ℕ → Option Picture
shows world id = shown_at world (node_of world id)

-- the views of the first so many nodes
abbrev pub views_of : ℕ → World → List Picture
views_of nodes world = filter_map (shows world) (range_with_len 1 nodes)

-- those of an epoch
abbrev pub of_epoch : ℕ → List Picture → List Picture
of_epoch epoch views = filter (λ view. view.epoch == epoch) views

-- those whose digest is that of a view
abbrev pub agreeing : Picture → List Picture → List Picture
agreeing view views = filter (λ other. bytes_eq (digest_of other) (digest_of view)) views

-- what the leader's view tells, what was sent, and how many views are of its epoch and agree with it
abbrev pub totals_of : ℕ → World → Picture → Totals
totals_of nodes world view =
    let views = of_epoch view.epoch (views_of nodes world) in
    record {
      epoch = view.epoch;
      members = members_in view.rolls;
      regions = length view.rolls;
      packets = length world.sent;
      bytes = bytes_sent world;
      views = length views;
      agree = length (agreeing view views);
      digest = digest_of view;
    }

-- each number in a line
abbrev pub totals_lines : Totals → List (List ℕ)
totals_lines totals =
    (codes "epoch " ++ decimal totals.epoch)
    ∷ (codes "members " ++ decimal totals.members)
    ∷ (codes "regions " ++ decimal totals.regions)
    ∷ (codes "sent " ++ decimal totals.packets ++ codes " " ++ decimal totals.bytes)
    ∷ (codes "views " ++ decimal totals.views)
    ∷ (codes "agree " ++ decimal totals.agree)
    ∷ digest_line totals.digest ∷ []

-- the lines of the leader's view; of a leader that is down there are none
abbrev pub led_lines : ℕ → World → Option Picture → List (List ℕ)
led_lines nodes world None = []
led_lines nodes world (Some view) = totals_lines (totals_of nodes world view)

-- how many nodes there are, and what the leader's view tells
abbrev pub summary_lines : ℕ → World → List (List ℕ)
summary_lines nodes world = (codes "nodes " ++ decimal nodes) ∷ led_lines nodes world (shows world leader)

-- the summary of a drill
unfoldable pub drill_text : ℕ → ℕ → List ℕ
drill_text nodes seed = text_of (summary_lines nodes (drilled nodes seed))
