use Rattle.std.proofs.Common.{◌≡◌, true, false, rules}
use Rattle.cs_core.specs.Changes.{is_reporter}
use Rattle.cs_core.proofs.Reportable.{IsChange-numbered}
use Rattle.cs_core.proofs.Reports.{anyhow, reported-kept, reported-sent}
use Rattle.cs_core.proofs.following.Following.reported.Goals as goal

-- a reporter keeps its change
pub kept-requires : goal.kept-requires
kept-requires c = IsChange-numbered c.args.change c.id.ensures.allowed c.requires.number

pub returns-then-eq-clause-reported : goal.returns-then-eq-clause-reported
returns-then-eq-clause-reported c =
    let own = c.args.own.now in
    let m = c.args.self.now in
    let is : is_reporter own m ≡ true = search rules in
    reported-kept own m c.args.change c.kept.result is c.kept.ensures.sends c.kept.ensures.kept c.kept.ensures.pending c.kept.ensures.reportable

pub returns-then-eq-clause-allowed : goal.returns-then-eq-clause-allowed
returns-then-eq-clause-allowed c = anyhow c.kept.result (IsChange-numbered c.args.change c.id.ensures.allowed c.requires.number)
