use Rattle.cs_tree.proofs.kept_tests.a_tree_is_built.Given as goal

-- the ledger is that of the blank
abbrev pub ghosts-build : goal.ghosts-build
ghosts-build g a = record { name = a.blank.name; parts = a.blank.parts }
