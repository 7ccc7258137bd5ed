-- A view: the picture of an epoch that a node goes by.
use Rattle.std.specs.Prelude.{◌≡◌, ℕ, ◌<◌, ◌≤◌, ◌==◌, List, length, Option, Some, None, is_some}
use Rattle.std.specs.Option.{option_to_list}
use Rattle.std.specs.List.{find, AllByRecursion}
use Rattle.cs_base.specs.Limits.{most_members, most_regions}
use Rattle.cs_base.specs.declared.change.Mode.{Mode}
use Rattle.cs_base.specs.declared.change.Mode.TheVariants.{Partial, Full}
use Rattle.cs_base.specs.declared.member.Member.{Member}
use Rattle.cs_roll.specs.Roll.{member_of}
use Rattle.cs_roll.specs.Summary.{summary_of}
use Rattle.cs_roll.specs.Sight.{Rolls, Summaries, at_region}
use Rattle.cs_item.specs.declared.picture.Picture.{Picture}
use Rattle.cs_item.specs.Picture.{members_in}

-- some regions, not too many, and not too many members in the rolls
pub record IsInSize (p : Picture) : Type 0 where
  pub some : 0 < length p.summaries
  pub few : length p.summaries ≤ most_regions
  pub members : members_in p.rolls ≤ most_members

-- the roll has members, and the region is listed with its summary
pub record IsListed (summaries : Summaries) (pair : ℕ × List Member) : Type 0 where
  pub some : 0 < length pair.1
  pub summary : at_region pair.0 summaries ≡ Some (summary_of pair.1)

pub record IsView (p : Picture) : Type 0 where
  pub size : IsInSize p
  pub listed : AllByRecursion (IsListed p.summaries) p.rolls

-- the roll of the least region that has the member
abbrev pub holder : ℕ → Rolls → Option (ℕ × List Member)
holder id rolls = find (λ (pair : ℕ × List Member). is_some (member_of id pair.1)) rolls

-- a Partial node keeps the roll that has it, or none, and a Full node every roll
abbrev pub kept : ℕ → Mode → Rolls → Rolls
kept me Partial rolls = option_to_list (holder me rolls)
kept me Full rolls = rolls

-- a picture of the view: all summaries, and the roll of one region or every known roll
abbrev pub shown : Option ℕ → Picture → Picture
shown None view = view
shown (Some region) view = record {
  epoch = view.epoch;
  summaries = view.summaries;
  rolls = option_to_list (find (λ (pair : ℕ × List Member). pair.0 == region) view.rolls);
}
