use Rattle.std.proofs.Common.{◌≡◌, ℕ, ◌++◌, List, length}
use Rattle.sessions.specs.Run.{IsTaken}
use Rattle.sessions.proofs.session.Session.feed.Given as goal

-- the bytes before the rest were taken
abbrev pub invariant-loop-front : goal.invariant-loop-front
invariant-loop-front g l = record {
  taken : (start : g.row.A.Denot) (read written : List ℕ) → IsTaken (g.T.Telling.tells l.fn.telling) g.A.Answering.commands start read written l.fn.self
      → (done : List ℕ) × (done ++ l.rest ≡ read ++ l.chunk) × IsTaken (g.T.Telling.tells l.fn.telling) g.A.Answering.commands start done written l.self;
  lines : l.self.lines ≡ l.fn.self.lines;
}

abbrev pub decreases-loop-front : goal.decreases-loop-front
decreases-loop-front g l = length l.rest
