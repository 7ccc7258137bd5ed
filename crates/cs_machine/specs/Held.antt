-- Which pieces are held, by region and colour, ascending. Of each region there are none, one, two or all four: with a
-- third piece the fourth can be made.
use Rattle.std.specs.Prelude.{ℕ, ◌==◌, ◌&&◌, nat_lt, not, Bool, List, [], ◌∷◌, ◌++◌, length, map, Option}
use Rattle.std.specs.List.{filter, find, list_all, range_with_len}
use Rattle.cs_base.specs.Ascending.{placed_by}
use Rattle.cs_base.specs.Limits.{colours}
use Rattle.cs_core.specs.Node.{has_pair}
use Rattle.cs_core.specs.Taking.{came_first}
use Rattle.cs_machine.specs.Names.{Membership}

-- the colours of a region that are held
abbrev pub colours_in : ℕ → List (ℕ × ℕ) → List ℕ
colours_in region held =
    map (λ (pair : ℕ × ℕ). pair.1) (filter (λ (pair : ℕ × ℕ). pair.0 == region) held)

-- these colours in the place of those of a region
abbrev pub with_colours : ℕ → List ℕ → List (ℕ × ℕ) → List (ℕ × ℕ)
with_colours region there held =
    filter (λ (pair : ℕ × ℕ). nat_lt pair.0 region) held
    ++ map (λ colour. (region, colour)) there
    ++ filter (λ (pair : ℕ × ℕ). nat_lt region pair.0) held

-- all four colours
abbrev pub all_colours : List ℕ
all_colours = 0 ∷ 1 ∷ 2 ∷ 3 ∷ []

-- the colours of a region with one more; where two are there, all four
abbrev pub gained : ℕ → List ℕ → List ℕ
gained colour (x ∷ y ∷ []) = all_colours
gained colour others = placed_by (λ n. n) colour others

-- what came: its region, what is held with it, and the colours that became held, in the order in which they are sent
pub record Gain : Type 0 where
  pub region : ℕ
  pub held : List (ℕ × ℕ)
  pub colours : List ℕ

-- the colours of a region that are held now and weren't before
abbrev pub new_colours : ℕ → List (ℕ × ℕ) → List (ℕ × ℕ) → List ℕ
new_colours region before after =
    filter (λ colour. has_pair after region colour && not (has_pair before region colour)) (range_with_len 0 colours)

-- a piece becomes held: it is sent first, and then the one that it made
abbrev pub gain_of_piece : Membership → ℕ → ℕ → Gain
gain_of_piece m region colour =
    let after = with_colours region (gained colour (colours_in region m.held)) m.held in
    record { region = region; held = after; colours = came_first colour (new_colours region m.held after) }

-- all pieces of a slice become held
abbrev pub gain_of_slice : Membership → ℕ → Gain
gain_of_slice m region =
    let after = with_colours region all_colours m.held in
    record { region = region; held = after; colours = new_colours region m.held after }

-- all pieces of a region are held
abbrev pub is_whole : List (ℕ × ℕ) → ℕ → Bool
is_whole held region = length (colours_in region held) == 4

-- the least region of which all pieces are held
abbrev pub least_whole : List (ℕ × ℕ) → Option ℕ
least_whole held = find (is_whole held) (map (λ (pair : ℕ × ℕ). pair.0) held)

-- each of these regions is whole
abbrev pub are_whole : List (ℕ × ℕ) → List ℕ → Bool
are_whole held regions = list_all (is_whole held) regions
