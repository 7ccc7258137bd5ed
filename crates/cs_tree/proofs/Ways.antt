-- The way up from a key, one step after another.
use Rattle.std.proofs.Common.{◌≡◌, ◌≢◌, ℕ, zero, suc, ◌==◌, true, false, List, Option, Some, None, refl}
use Rattle.std.specs.List.{find}
use Rattle.std.proofs.lemmas.Bool.{eq-eqb, ne_eqb}
use Rattle.cs_tree.specs.Route.{is_parent, way_up}
use Rattle.cs_tree.specs.Tree.{Edge, parent_of}

-- the first key on the way up whose parent is the one
abbrev pub first_below : List Edge → ℕ → ℕ → Option ℕ → Option ℕ
first_below edges above steps key = find (is_parent edges above) (way_up steps edges key)

-- where the parent is the one, the key is found
pub way-ends : (edges : List Edge) (above steps left key parent : ℕ) → steps ≡ suc left → parent_of key edges ≡ Some parent → parent ≡ above
    → first_below edges above steps (Some key) ≡ Some key
way-ends edges above steps left key parent more has same =
    let is : (parent == above) ≡ true = eq-eqb parent above same in
    rw (more, has, is) refl

-- where it is another one, the way goes on from there
pub way-goes_on : (edges : List Edge) (above steps left key parent : ℕ) → steps ≡ suc left → parent_of key edges ≡ Some parent → parent ≢ above
    → first_below edges above left (Some parent) ≡ first_below edges above steps (Some key)
way-goes_on edges above steps left key parent more has other =
    let isnt : (parent == above) ≡ false = ne_eqb parent above other in
    rw (more, has, isnt) refl

-- and where there is none, nothing is found
pub way-stops : (edges : List Edge) (above steps left key : ℕ) → steps ≡ suc left → parent_of key edges ≡ None
    → first_below edges above steps (Some key) ≡ None
way-stops edges above steps zero key more none = rw (more, none) refl
way-stops edges above steps (suc left) key more none = rw (more, none) refl
