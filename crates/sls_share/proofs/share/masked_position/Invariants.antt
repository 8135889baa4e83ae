use Rattle.std.proofs.Common.{◌≡◌, ◌<◌, ℕ, eqb, false}
use Rattle.std.specs.Int.{bit_at}
use Rattle.sls_share.specs.Share.{probe}
use Rattle.sls_share.proofs.share.masked_position.Given as goal

-- the positions tried so far aren't available
abbrev pub invariant-loop-j : goal.invariant-loop-j
invariant-loop-j l = (k : ℕ) → k < l.j → eqb (bit_at l.available (probe l.t l.n k)) 1 ≡ false
