use Rattle.cs_tree.proofs.uncounted.local_uncounted.Given as goal

-- the ledger is that of the blank
abbrev pub ghosts-local_from_none : goal.ghosts-local_from_none
ghosts-local_from_none a = record { name = a.blank.name; parts = a.blank.parts }
