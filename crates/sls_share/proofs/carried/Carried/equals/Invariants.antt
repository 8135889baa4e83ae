use Rattle.std.proofs.Common.{◌≡◌, ◌<◌, ℕ, get_or, None}
use Rattle.sls_share.proofs.carried.Carried.equals.Given as goal

-- the answers so far are equal
abbrev pub invariant-loop-t : goal.invariant-loop-t
invariant-loop-t l = (k : ℕ) → k < l.t → get_or l.self k None ≡ get_or l.other k None
