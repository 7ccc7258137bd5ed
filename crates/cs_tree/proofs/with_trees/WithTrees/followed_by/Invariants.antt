use Rattle.cs_tree.proofs.with_trees.WithTrees.followed_by.Given as goal

-- the ledger is that of the blank
abbrev pub ghosts-renewed_from_none : goal.ghosts-renewed_from_none
ghosts-renewed_from_none g a = record { name = a.blank.name; parts = a.blank.parts }
