use Rattle.std.proofs.Common.{ℕ, ◌+◌, ◌*◌, ◌^◌, ◌≤◌, List, Option}
use Rattle.sessions.specs.Run.{HasAnswered}
use Rattle.sessions.proofs.session.Session.read_to_end.Given as goal

-- what was read is answered
abbrev pub invariant-loop-turn : goal.invariant-loop-turn
invariant-loop-turn g l = record {
  answered : (start : g.row.A.Denot) (unread held : Option (List ℕ))
      → HasAnswered (g.T.Telling.tells l.fn.telling) g.A.Answering.commands start unread (g.R.Read.remaining l.fn.reader) held (g.W.Write.contents l.fn.writer) l.fn.self
      → HasAnswered (g.T.Telling.tells l.fn.telling) g.A.Answering.commands start unread (g.R.Read.remaining l.reader) held (g.W.Write.contents l.writer) l.self;
  few : l.self.lines ≤ (l._turn + 1) * 2 ^ 64;
}
