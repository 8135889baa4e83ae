use Rattle.std.proofs.Common.{◌∷◌, [], ◌++◌, sym, ◌∙◌, append-nil, rules}
use Rattle.sessions.specs.Lines.{rest_of, whole_lines}
use Rattle.sessions.proofs.LineLemmas.{lines_none, lines_one}
use Rattle.sessions.proofs.RunLemmas.{to_whole, to_cut_off}
use Rattle.sessions.proofs.session.Session.finish.Goals as goal

pub returns-then-not-has_begun : goal.returns-then-not-has_begun
returns-then-not-has_begun g c = λ start unread left held has end.
    let read = has.read in
    to_whole (g.T.Telling.tells c.args.telling.now) g.A.Answering.commands g.A.Answering.fails g.A.Answering.needs_place start unread left held _ c.args.self.now read read
    (lines_none read (c.has_begun.ensures.none (search rules) (rest_of read) has.at.rest)) has.at has.consumed end

pub returns-in-Ok : goal.returns-in-Ok
returns-in-Ok g c = λ start unread left held has end.
    let read = has.read in
    to_whole (g.T.Telling.tells c.args.telling.now) g.A.Answering.commands g.A.Answering.fails g.A.Answering.needs_place start unread left held _ c.step.new.self read (read ++ 10 ∷ [])
    (lines_one read (c.has_begun.ensures.some (search rules) (rest_of read) has.at.rest))
    (rw c.as_slice.ensures at (c.in-Ok.ensures.ok start read held has.at)) has.consumed end

pub returns-in-Err : goal.returns-in-Err
returns-in-Err g c = λ start unread left held has end.
    let read = has.read in
    to_cut_off (g.T.Telling.tells c.args.telling.now) g.A.Answering.commands g.A.Answering.fails g.A.Answering.needs_place start _ unread left held _ read (whole_lines (read ++ 10 ∷ [])) [] c.in-Err.fault _
    (lines_one read (c.has_begun.ensures.some (search rules) (rest_of read) has.at.rest) ∙ sym (append-nil (whole_lines (read ++ 10 ∷ []))))
    c.in-Err.ensures.fault (rw c.as_slice.ensures at (c.in-Err.ensures.err start read held has.at)) has.consumed
