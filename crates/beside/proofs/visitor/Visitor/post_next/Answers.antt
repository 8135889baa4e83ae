use Rattle.std.proofs.Common.{rules}
use Rattle.beside.proofs.BesideLemmas.{posted_next, refused_next}
use Rattle.beside.proofs.visitor.Visitor.post_next.Goals as goal

pub returns-then-last-clause-call : goal.returns-then-last-clause-call
returns-then-last-clause-call g c = refused_next g.N.Naming.seats c.refuse.result c.args.collector c.args.event c.args.self.now c.args.hub.now.state c.refuse.new.self c.last_seq-last.result (search rules) (search rules) c.refuse.ensures.refused

pub returns-clause-call : goal.returns-clause-call
returns-clause-call g c = posted_next g.N.Naming.seats c.post_at.result c.args.collector c.args.event c.args.self.now c.args.hub.now.state c.post_at.new.self c.last_seq-last.result (search rules) (search rules) c.post_at.ensures.call
