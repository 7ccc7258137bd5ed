use Rattle.cs_tree.proofs.uncounted.inter_uncounted.Given as goal

-- the ledger is that of the blank
abbrev pub ghosts-inter_from_none : goal.ghosts-inter_from_none
ghosts-inter_from_none g a = record { name = a.blank.name; parts = a.blank.parts }
