-- the entry is kept, or it isn't
use Rattle.std.proofs.Common.{Ok, sym, ap, subst, ◌∙◌}
use Rattle.cs_node.specs.Acting.{HasSent}
use Rattle.cs_node.specs.Calls.{node_after}
use Rattle.cs_node.specs.Logged.{HasLogged}
use Rattle.cs_node.specs.Told.{link_told, log_told}
use Rattle.cs_node.proofs.Called.{has-sent, kept-logged, sent-acts, stopped-acts}
use Rattle.cs_node.proofs.acting.act.Goals as goal

pub returns-in-Ok-clause-carried : goal.returns-in-Ok-clause-carried
returns-in-Ok-clause-carried g c =
    let effects = c.args.effects in
    let link = link_told g.L.Link c.args.link.now in
    let link_now = link_told g.L.Link c.send_all-sent.new.link in
    let log = log_told g.G.Log c.args.log.now in
    let log_now = log_told g.G.Log c.keep_frame.new.log in
    let note = c.note_by.result in
    sent-acts c.args.node effects link log note (record { status = Ok c.unwrap_or-node.result; link = link_now; log = log_now })
    c.requires.logged c.requires.decision (ap (λ n. Ok n) c.unwrap_or-node.ensures)
    (c.in-Ok.ensures.ok effects.entry c.requires.prepared.frame)
    (subst (λ datagrams. HasSent effects.note datagrams link note link_now) (c.deref.ensures.value ∙ c.requires.prepared.datagrams)
    (has-sent c.send_all-sent.result c.deref.result.now link link_now effects.note note c.send_all-sent.ensures.ok
    c.send_all-sent.ensures.err c.note_by.ensures.ok c.note_by.ensures.err))

pub returns-in-Ok-clause-logged : goal.returns-in-Ok-clause-logged
returns-in-Ok-clause-logged g c =
    let effects = c.args.effects in
    let log = c.keep_frame.new.log in
    subst (λ n. HasLogged (g.G.Log.synced log) (g.G.Log.bytes log) n) (sym c.unwrap_or-node.ensures)
    (kept-logged c.args.node (node_after c.args.node effects) effects.entry (log_told g.G.Log c.args.log.now) (log_told g.G.Log log) c.requires.logged
    c.requires.decision.sound.entry c.requires.decision.leads (c.in-Ok.ensures.ok effects.entry c.requires.prepared.frame))

pub returns-in-Err-clause-carried : goal.returns-in-Err-clause-carried
returns-in-Err-clause-carried g c =
    stopped-acts c.args.node c.args.effects (link_told g.L.Link c.args.link.now) (log_told g.G.Log c.args.log.now)
    (log_told g.G.Log c.keep_frame.new.log) c.requires.logged c.requires.decision
    (c.in-Err.ensures.err c.args.effects.entry c.requires.prepared.frame)
