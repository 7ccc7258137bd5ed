use Rattle.std.proofs.Common.{◌≡◌, sym, subst}
use Rattle.std.specs.Bool.{Decides}
use Rattle.cs_roll.proofs.Same.{Decides-summary}
use Rattle.cs_roll.proofs.summary.Summary.is_same.Goals as goal

-- the test decides it
pub returns-clause-same : goal.returns-clause-same
returns-clause-same c =
    subst (λ b. Decides b (c.args.self.now ≡ c.args.other.now)) (sym c.has_same_parts.ensures)
    (Decides-summary c.args.self.now c.args.other.now)
