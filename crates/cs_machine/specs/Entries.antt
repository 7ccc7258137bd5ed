-- The entries of nodes' logs, in names.
use Rattle.std.specs.Prelude.{ℕ, Bool, List, [], ◌∷◌, Option, None, Some}
use Rattle.std.specs.List.{flat_map}
use Rattle.cs_base.specs.Axes.{Axes}
use Rattle.cs_base.specs.declared.change.Change.{Change}
use Rattle.cs_packet.specs.declared.own.Own.{Own}

-- an entry's name: how the node started; the number of a move, and the member's point from then on; the epoch of a
-- snapshot, and the regions that are known by it; the epoch that was reached by the slices of these regions; the epoch
-- at which the node was told that it is no member; the epoch that the leader reached, with the changes that it
-- accepted, and whether the log begins anew with it, by the group before
pub data Entry : Type 0 where
  Boot : (own : Own) → Entry
  Seq : (seq : ℕ) → (at : Axes) → Entry
  View : (epoch : ℕ) → (regions : List ℕ) → Entry
  Step : (epoch : ℕ) → (used : List ℕ) → Entry
  Gone : (epoch : ℕ) → Entry
  Item : (epoch : ℕ) → (changes : List Change) → (anew : Bool) → Entry

-- the changes that an entry has accepted
abbrev pub accepted_in : Entry → List (List Change)
accepted_in (Boot own) = []
accepted_in (Seq seq at) = []
accepted_in (View epoch regions) = []
accepted_in (Step epoch used) = []
accepted_in (Gone epoch) = []
accepted_in (Item epoch changes anew) = changes ∷ []

-- those of each of some entries, in their order
abbrev pub items_in : List Entry → List (List Change)
items_in entries = flat_map accepted_in entries

-- the entry, or none
abbrev pub entries_of : Option Entry → List Entry
entries_of None = []
entries_of (Some entry) = entry ∷ []
