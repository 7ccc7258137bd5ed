use Rattle.cs_view.proofs.giving.place_parts.Goals as goal

-- the lower part is put in, and then the upper one
pub returns-clause-placed : goal.returns-clause-placed
returns-clause-placed c =
    rw (c.in-Some.is, ← c.in_ok-lower.ensures.lower, ← c.in_ok-lower.ensures.upper, ← c.in_ok-place.ensures.placed) c.place-3.ensures.placed
