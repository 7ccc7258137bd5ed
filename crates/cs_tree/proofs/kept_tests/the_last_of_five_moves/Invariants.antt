use Rattle.cs_tree.proofs.kept_tests.the_last_of_five_moves.Given as goal

-- the ledger is that of the blank
abbrev pub ghosts-renew_row : goal.ghosts-renew_row
ghosts-renew_row g a = record { name = a.blank.name; parts = a.blank.parts }
