use Rattle.answers.specs.Replies.{posted_answer}
use Rattle.desk_core.specs.Steps.{Posts}
use Rattle.desk_console.specs.Does.{Calls}
use Rattle.beside.proofs.BesideLemmas.{some_there}
use Rattle.beside.proofs.visitor.Visitor.post.Goals as goal

pub returns-clause-call : goal.returns-clause-call
returns-clause-call g c =
    some_there g.N.Naming.seats c.post_at.result (Calls (λ s. Posts s c.args.collector c.args.seq c.args.event) posted_answer) c.args.self.now c.args.hub.now.state c.post_at.new.self c.post_at.ensures.call
