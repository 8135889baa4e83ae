use Rattle.sessions.proofs.RunLemmas.{ran_ended, ran_failed}
use Rattle.sessions.proofs.session.Session.read_on.Goals as goal

pub returns-in-None : goal.returns-in-None
returns-in-None g c = λ start unread held has.
    ran_ended (g.T.Telling.tells c.args.telling.now) g.A.Answering.commands g.A.Answering.fails g.A.Answering.leaves g.A.Answering.needs_place start _ unread _ held _ _ _ _ _
    (c.in-None.ensures start unread held has) c.done.ensures.lines c.done.ensures.end

pub returns-in-Some : goal.returns-in-Some
returns-in-Some g c = λ start unread held has.
    ran_failed (g.T.Telling.tells c.args.telling.now) g.A.Answering.commands g.A.Answering.fails g.A.Answering.leaves g.A.Answering.needs_place start _ unread _ held _ c.in-Some.fault _ _ _ _
    (c.in-Some.ensures start unread held has) c.failed.ensures.lines c.failed.ensures.fault c.failed.ensures.net
