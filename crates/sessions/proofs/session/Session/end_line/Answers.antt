use Rattle.std.proofs.Common.{◌++◌, ap, ◌∙◌, string_bytes}
use Rattle.sessions.specs.Lines.{rest_of}
use Rattle.sessions.proofs.RunLemmas.{taken_ended}
use Rattle.sessions.proofs.session.Session.end_line.Goals as goal

pub returns-clause-ok : goal.returns-clause-ok
returns-clause-ok g c = λ start read written none at.
    let s = c.reply_to_line.new.self in
    taken_ended (g.T.Telling.tells c.args.telling.now) g.A.Answering.commands start read written c.args.last.now c.args.self.now _ _ none at (c.in_ok-reply_to_line.ensures.text (rest_of read) at.rest)
    (c.in_ok-extend_from_slice.ensures.items ∙ ap (λ t. s.answers.items ++ t) c.as_bytes.ensures.value
    ∙ ap (λ a. a.items ++ string_bytes s.text) c.in_ok-reply_to_line.ensures.answers) c.clear.ensures
