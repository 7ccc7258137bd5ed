use Rattle.cs_tree.proofs.kept.Kept.new.Given as goal

-- the ledger is that of the blank
abbrev pub ghosts-kept_from_none : goal.ghosts-kept_from_none
ghosts-kept_from_none g a = record { name = a.blank.name; parts = a.blank.parts }
