-- What a node makes of a snapshot; the first row that fits decides.
--
--     its epoch             further condition                                    answer
--     below that of the view                                                    Stale
--     any                   it can't be taken as a view                          Unfit
--     that of the view      the region of each roll to be kept is known          Stale
--     any                   none of these                                        the node goes by it: Jumped
use Rattle.std.specs.Prelude.{ℕ, ◌==◌, ◌&&◌, nat_lt, Bool, List, [], ◌∷◌, None, Some, Result, Ok, if◌then◌else◌}
use Rattle.std.specs.List.{list_all}
use Rattle.cs_base.specs.declared.change.Change.{Change}
use Rattle.cs_base.specs.declared.member.Member.{Member}
use Rattle.cs_item.specs.declared.picture.Picture.{Picture}
use Rattle.cs_packet.specs.declared.entry.Entry.TheVariants as entries
use Rattle.cs_packet.specs.declared.own.Own.{Own}
use Rattle.cs_roll.specs.Sight.{Rolls}
use Rattle.cs_view.specs.Step.{is_known}
use Rattle.cs_view.specs.Taking.{taken}
use Rattle.cs_core.specs.Node.{Following}
use Rattle.cs_core.specs.Plans.{goes_on, only, or_unfit, stale, unfit_by, ◌>>=◌}
use Rattle.cs_core.specs.declared.plan.FollowNote.TheVariants as notes
use Rattle.cs_core.specs.declared.plan.Plan.{Plan}
use Rattle.cs_core.specs.declared.plan.Unfit.{Unfit}
use Rattle.cs_core.specs.declared.plan.Unfit.TheVariants as unfit

-- the region of each of these rolls is known
abbrev pub knows : Rolls → Rolls → Bool
knows known rolls = list_all (λ (pair : ℕ × List Member). is_known known pair.0) rolls

-- a member that goes by a view that it took: it holds nothing of the next epoch, and has no past
abbrev pub at_view : List Change → ℕ → Picture → Following
at_view pending seq view = record {
  view = view;
  held = [];
  used = [];
  pending = pending;
  seq = seq;
  past = None;
}

-- the node goes by the view from now on, and logs it
abbrev pub jump : Own → List Change → ℕ → Picture → Plan
jump own pending seq view = record {
  entry = Some (entries.View view);
  sends = [];
  note = notes.Jumped view.epoch;
  after = goes_on own (at_view pending seq view);
}

-- a view that a member could take: it goes by it, unless that is its own epoch and it knows as much
abbrev pub taken_view : Own → Following → Picture → Plan
taken_view own m view =
    if (view.epoch == m.view.epoch) && knows m.view.rolls view.rolls then stale m view.epoch
    else jump own m.pending m.seq view

-- the plan of a member on a snapshot that isn't of an older epoch
abbrev pub next_view : Own → Following → Picture → Result Plan Unfit
next_view own m picture =
    unfit_by unfit.View (taken own.id own.mode picture) >>= λ view. Ok (taken_view own m view)

-- what a member makes of a snapshot
abbrev pub snap_plan : Own → Following → Picture → Plan
snap_plan own m picture =
    if nat_lt picture.epoch m.view.epoch then stale m picture.epoch else or_unfit (next_view own m picture)

-- the plan of a joining node, which takes every snapshot that can be taken
abbrev pub first_view : Own → Picture → Result Plan Unfit
first_view own picture = unfit_by unfit.View (taken own.id own.mode picture) >>= λ view. Ok (jump own [] 0 view)

-- what a joining node makes of a snapshot
abbrev pub first_snap_plan : Own → Picture → Plan
first_snap_plan own picture = or_unfit (first_view own picture)
