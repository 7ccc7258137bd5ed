use Rattle.cs_tree.proofs.tests.local_of.Given as goal

-- the ledger is that of the blank
abbrev pub ghosts-counted : goal.ghosts-counted
ghosts-counted g a = record { name = a.blank.name; parts = a.blank.parts }
