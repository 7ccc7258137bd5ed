-- what was read is cut to its whole frames
use Rattle.std.proofs.Common.{sym, ap, subst, ◌∙◌}
use Rattle.std.proofs.lemmas.Result.{err_from_is_err_and}
use Rattle.cs_log.specs.Bytes.{cut_to}
use Rattle.cs_log.specs.Frames.{AreFramesOf}
use Rattle.cs_node.specs.Told.{log_told}
use Rattle.cs_node.proofs.Recovered.{cause-later, cut-logged, failed-explains, failed-left, risen-later}
use Rattle.cs_node.proofs.recovery.folded_log.Goals as goal

pub returns-in_err-keep_front-clause-left : goal.returns-in_err-keep_front-clause-left
returns-in_err-keep_front-clause-left g c =
    let told = g.G.Log.bytes c.args.log.now in
    let all = c.in_ok-bytes.bytes in
    let frames = c.in_ok-frames.frames in
    let p = err_from_is_err_and c.from_residual-in_err-keep_front.result c.from_residual-in_err-keep_front.ensures.1 in
    rw (p.1, p.2) (
      risen-later _ _ _ c.in_ok-bytes.ensures.counts c.in_err-keep_front.ensures.failed.0,
      cause-later (log_told g.G.Log c.args.log.now) (log_told g.G.Log c.read_all.new.self) (log_told g.G.Log c.keep_front.new.log)
          (c.in_ok-bytes.ensures.own_quiet (λ e. let same = e in cc)) c.in_ok-bytes.ensures.tear c.in_err-keep_front.ensures.failed.1,
      failed-left told (g.G.Log.bytes c.read_all.new.self) _ all frames c.whole_len.result c.in_ok-bytes.ensures.bytes c.whole_len.ensures
          c.in_ok-bytes.ensures.all (subst (λ b. AreFramesOf b frames) c.as_slice.ensures c.in_ok-frames.ensures.frames)
          c.in_err-keep_front.ensures.err,
    )

pub returns-in_err-keep_front-clause-why : goal.returns-in_err-keep_front-clause-why
returns-in_err-keep_front-clause-why g c =
    let p = err_from_is_err_and c.from_residual-in_err-keep_front.result c.from_residual-in_err-keep_front.ensures.1 in
    rw (p.1, p.2) (failed-explains (g.G.Log.bytes c.args.log.now))

pub returns-clause-logged : goal.returns-clause-logged
returns-clause-logged g c =
    let told = g.G.Log.bytes c.args.log.now in
    let all = c.in_ok-bytes.bytes in
    let frames = c.in_ok-frames.frames in
    cut-logged told (g.G.Log.bytes c.keep_front.new.log) all frames c.in-Gives.node (g.G.Log.synced c.keep_front.new.log)
    c.in_ok-bytes.ensures.all
    (subst (λ b. AreFramesOf b frames) c.as_slice.ensures c.in_ok-frames.ensures.frames)
    (sym c.in_ok-node.ensures ∙ c.in-Gives.is)
    (c.in_ok-keep_front.ensures.ok ∙ ap (λ n. cut_to n (g.G.Log.bytes c.read_all.new.self)) c.whole_len.ensures
    ∙ ap (cut_to _) c.in_ok-bytes.ensures.bytes)
    c.in_ok-keep_front.ensures.synced
