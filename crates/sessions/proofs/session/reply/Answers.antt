use Rattle.std.proofs.Common.{◌≡◌, ◌⊎◌, true, false, le-ltb, sym, subst, string_bytes}
use Rattle.std.proofs.lemmas.Bool.{lt-ltb}
use Rattle.std.proofs.lemmas.Result.{on_err_weaker, on_ok_weaker}
use Rattle.answers.specs.declared.answer.Answer.{Answer}
use Rattle.sessions.specs.Lines.{is_too_long, is_silent}
use Rattle.sessions.proofs.AnswerLemmas.{replied_answer, replied_long, unkept_answer}
use Rattle.sessions.proofs.session.reply.Goals as goal

pub returns-then-line-gt-LINE_LIMIT-clause-text : goal.returns-then-line-gt-LINE_LIMIT-clause-text
returns-then-line-gt-LINE_LIMIT-clause-text g c =
    let long = lt-ltb _ _ c.if-line-gt-LINE_LIMIT.true in
    replied_long (g.T.Telling.tells c.args.telling.now) g.A.Answering.commands c.args.line.now c.args.state.now _
    (subst (λ l. is_too_long l ≡ true) c.without_return-line.ensures long) c.in_ok-tell_bad_line.ensures

pub returns-clause-text : goal.returns-clause-text
returns-clause-text g c =
    let tells = g.T.Telling.tells c.args.telling.now in
    let commands = g.A.Answering.commands in
    let old = c.args.state.now in
    let new = c.answer_line.new.state in
    let text = string_bytes c.answer_line.new.text in
    let same = c.without_return-line.ensures in
    let short = le-ltb _ _ c.if-line-gt-LINE_LIMIT.false in
    on_ok_weaker c.answer_line.result
    (λ made. replied_answer tells commands c.args.line.now old new text (subst (λ l. is_too_long l ≡ false) same short)
    (subst (λ l. is_silent l ≡ false) same (sym c.if-is_quiet.ensures))
    (subst (λ l. (answer : Answer) × commands l old answer new × tells answer text) same made)) c.answer_line.ensures.text

pub returns-clause-lost : goal.returns-clause-lost
returns-clause-lost g c =
    let commands = g.A.Answering.commands in
    let fails = g.A.Answering.fails in
    let old = c.args.state.now in
    let new = c.answer_line.new.state in
    let same = c.without_return-line.ensures in
    let short = le-ltb _ _ c.if-line-gt-LINE_LIMIT.false in
    on_err_weaker c.answer_line.result
    (λ lost. unkept_answer commands fails c.args.line.now old new (subst (λ l. is_too_long l ≡ false) same short)
    (subst (λ l. is_silent l ≡ false) same (sym c.if-is_quiet.ensures))
    (subst (λ l. ((answer : Answer) × commands l old answer new) ⊎ fails l old new) same lost)) c.answer_line.ensures.lost
