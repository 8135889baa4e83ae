use Rattle.std.proofs.Common.{◌++◌, ◌∙◌, Result, Ok, Err}
use Rattle.std.specs.Prelude.{OnErr}
use Rattle.std.proofs.lemmas.Result.{on_ok_weaker}
use Rattle.sessions.specs.Lines.{whole_lines}
use Rattle.sessions.proofs.RunLemmas.{at_taken, flushed, flushed_part, flushed_whole}
use Rattle.sessions.proofs.session.Session.step.Goals as goal

-- what holds anyway holds at a fault
at_err : {T E P : Type 0} (r : Result T E) → P → OnErr r P
at_err (Ok x) p = tt
at_err (Err e) p = p

pub returns-in-Err-clause-err : goal.returns-in-Err-clause-err
returns-in-Err-clause-err g c = λ start read held at.
    let part = c.in-Err.ensures.err in
    flushed_part (g.T.Telling.tells c.args.telling.now) g.A.Answering.commands g.A.Answering.fails start _ _ (whole_lines (read ++ c.args.chunk.now)) at.written _ held _ _ part.0 _ _
    (c.feed-fed.ensures.front start read _ (at_taken (g.T.Telling.tells c.args.telling.now) g.A.Answering.commands start read held _ _ at)) at.appended (c.feed-fed.ensures.lines ∙ at.counted) part.1 part.2
    c.flush.ensures.state

pub returns-clause-ok : goal.returns-clause-ok
returns-clause-ok g c = on_ok_weaker c.feed-fed.result (λ fed start read held at.
    let done = c.in_default.ensures.ok in
    flushed (g.T.Telling.tells c.args.telling.now) g.A.Answering.commands start (read ++ c.args.chunk.now) at.written held _ _ c.feed-fed.new.self c.flush.new.self
    (fed start read _ (at_taken (g.T.Telling.tells c.args.telling.now) g.A.Answering.commands start read held _ _ at)) at.appended (c.feed-fed.ensures.lines ∙ at.counted)
    done.0 done.1 done.2 c.flush.ensures.state c.flush.ensures.line) c.feed-fed.ensures.ok

pub returns-clause-err : goal.returns-clause-err
returns-clause-err g c = at_err c.feed-fed.result (λ start read held at.
    let done = c.in_default.ensures.ok in
    flushed_whole (g.T.Telling.tells c.args.telling.now) g.A.Answering.commands g.A.Answering.fails start _ _ (whole_lines (read ++ c.args.chunk.now)) at.written _ held _ _ _ _
    (c.feed-fed.ensures.front start read _ (at_taken (g.T.Telling.tells c.args.telling.now) g.A.Answering.commands start read held _ _ at)) at.appended (c.feed-fed.ensures.lines ∙ at.counted) done.0 done.2
    c.flush.ensures.state)
