use Rattle.std.proofs.Common.{subst}
use Rattle.sessions.specs.Run.{IsKept}
use Rattle.sessions.proofs.AnswerLemmas.{replied_long}
use Rattle.sessions.proofs.LineLemmas.{long_trimmed}
use Rattle.sessions.proofs.session.reply_to_kept.Goals as goal

pub returns-clause-text : goal.returns-clause-text
returns-clause-text g c = λ rest is_line.
    let long = subst (λ b. IsKept c.args.line.now.bytes.items b rest) c.if-not-line.false is_line in
    replied_long (g.T.Telling.tells c.args.telling.now) g.A.Answering.commands rest c.args.state.now _ (long_trimmed rest long) c.in_ok-tell_bad_line.ensures
