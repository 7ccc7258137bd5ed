-- the node acts, and what it answered is told
use Rattle.cs_world.proofs.nodes.Nodes.act.Goals as goal

pub returns-clause-answers : goal.returns-clause-answers
returns-clause-answers g c = λ names world after stands can happens.
    c.tell_acted.ensures.answers names c.args.self.now.seats c.args.action.now c.act-acted.ensures.acts world after stands can happens

pub returns-clause-alone : goal.returns-clause-alone
returns-clause-alone g c = λ bytes alone are can.
    c.tell_acted.ensures.alone bytes c.args.self.now.seats c.args.action.now c.act-acted.ensures.acts alone are can

pub returns-clause-counted : goal.returns-clause-counted
returns-clause-counted g c = c.tell_acted.ensures.counted c.args.self.now.seats c.args.action.now c.act-acted.ensures.acts
