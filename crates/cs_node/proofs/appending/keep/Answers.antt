-- the append succeeded, and the sync failed
use Rattle.std.proofs.Common.{◌∙◌}
use Rattle.cs_node.specs.Told.{log_told}
use Rattle.cs_node.proofs.Appended.{sync-fails}
use Rattle.cs_node.proofs.appending.keep.Goals as goal

pub returns-clause-err : goal.returns-clause-err
returns-clause-err g c =
    let before = log_told g.G.Log c.args.log.now in
    let mid = log_told g.G.Log c.append.new.self in
    let append = c.in_ok-append.ensures in
    sync-fails c.sync.result c.args.frame.now before mid (log_told g.G.Log c.sync.new.self)
    (λ kept torn. absurd (let e = append.torn kept torn in cc)) append.passed append.own_quiet append.quiet append.synced
    (c.sync.ensures.bytes ∙ append.ok) c.sync.ensures.err c.sync.ensures.failed c.sync.ensures.cause
