use Rattle.std.proofs.Common.{◌-◌, ◌∙◌, length, take, drop, [], subst, refl}
use Rattle.std.specs.Io.KnownBytes.{prepend_known}
use Rattle.sessions.specs.Lines.{whole_lines, rest_of, last_line}
use Rattle.sessions.specs.Run.{IsEnd}
use Rattle.sessions.proofs.RunLemmas.{at_start, at_first, answered_more, to_cut_off, ran_failed}
use Rattle.sessions.proofs.InputLemmas.{rest_slice_of, consumes_first, after_ended, after_script}
use Rattle.sessions.proofs.input.Opening.run.Goals as goal

pub returns-in-None : goal.returns-in-None
returns-in-None g c = λ unread opening.
    after_ended (g.T.Telling.tells c.args.telling.now) g.A.Answering.commands g.A.Answering.leaves g.A.Answering.needs_place unread _ _ c.args.self c.args.start _ _ _ opening c.in-None.is
    (c.done.ensures.lines ∙ c.new-session.ensures.lines)
    (subst (λ s. IsEnd g.A.Answering.leaves g.A.Answering.needs_place s c.done.result.fault c.done.result.net) c.new-session.ensures.state c.done.ensures.end)

pub returns-in-Err : goal.returns-in-Err
returns-in-Err g c = λ unread opening.
    let commands = g.A.Answering.commands in
    let fails = g.A.Answering.fails in
    let leaves = g.A.Answering.leaves in
    let place = g.A.Answering.needs_place in
    let middle = g.R.Read.remaining c.args.reader.now in
    let held = g.W.Write.contents c.args.writer.now in
    let s = c.new-session.result in
    let made = c.new-session.ensures in
    let rest = take (length c.deref.result.now - c.in-Some.at) (drop c.in-Some.at c.deref.result.now) in
    let first = at_start (g.T.Telling.tells c.args.telling.now) commands c.args.start held s made.state made.line made.answers made.lines in
    after_script (g.T.Telling.tells c.args.telling.now) commands leaves place unread middle middle held _ c.args.self c.in-Some.at c.args.start rest _ _ _ opening c.in-Some.is
    (rest_slice_of c.args.self.bytes.items c.deref.result.now c.in-Some.at c.deref.ensures.value)
    (ran_failed (g.T.Telling.tells c.args.telling.now) commands fails leaves place c.args.start _ (prepend_known rest middle) middle held _ c.in-Err.fault _ _ _ _
    (to_cut_off (g.T.Telling.tells c.args.telling.now) commands fails place c.args.start _ (prepend_known rest middle) middle held _ rest (whole_lines rest) (last_line (rest_of rest)) c.in-Err.fault _ refl
    c.in-Err.ensures.fault (c.in-Err.ensures.err c.args.start [] held first) (consumes_first middle rest))
    c.failed.ensures.lines c.failed.ensures.fault c.failed.ensures.net)

pub returns : goal.returns
returns g c = λ unread opening.
    let commands = g.A.Answering.commands in
    let middle = g.R.Read.remaining c.args.reader.now in
    let held = g.W.Write.contents c.args.writer.now in
    let s = c.new-session.result in
    let made = c.new-session.ensures in
    let rest = take (length c.deref.result.now - c.in-Some.at) (drop c.in-Some.at c.deref.result.now) in
    let first = at_first (g.T.Telling.tells c.args.telling.now) commands c.args.start (prepend_known rest middle) held s made.state made.line made.answers made.lines in
    after_script (g.T.Telling.tells c.args.telling.now) commands g.A.Answering.leaves g.A.Answering.needs_place unread middle _ held _ c.args.self c.in-Some.at c.args.start rest _ _ _ opening c.in-Some.is
    (rest_slice_of c.args.self.bytes.items c.deref.result.now c.in-Some.at c.deref.ensures.value)
    (c.read_on.ensures c.args.start (prepend_known rest middle) held
    (answered_more (g.T.Telling.tells c.args.telling.now) commands c.args.start (prepend_known rest middle) (prepend_known rest middle) middle held held _ s c.step.new.self rest first (consumes_first middle rest)
    (λ read at. c.in_default.ensures.ok c.args.start read held at)))
