use Rattle.std.proofs.Common.{◌≡◌, ◌<◌, ℕ, get_or, None}
use Rattle.profile.proofs.tables.RowLinks.equals.Given as goal

-- the links so far are equal
abbrev pub invariant-loop-s : goal.invariant-loop-s
invariant-loop-s l = (k : ℕ) → k < l.s → get_or l.self k None ≡ get_or l.other k None
