use Rattle.cs_tree.proofs.kept_tests.renew.Given as goal

-- the ledger is that of the blank
abbrev pub ghosts-renew_counted : goal.ghosts-renew_counted
ghosts-renew_counted g a = record { name = a.blank.name; parts = a.blank.parts }
