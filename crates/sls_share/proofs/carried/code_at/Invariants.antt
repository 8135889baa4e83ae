use Rattle.std.proofs.Common.{◌≡◌, ◌≤◌, eqb, length}
use Rattle.std.specs.Prelude.{filter}
use Rattle.std.specs.Int.{bit_at}
use Rattle.std.specs.List.{range_with_len}
use Rattle.sls_share.proofs.carried.code_at.Given as goal

-- the codes passed, all before the place
abbrev pub invariant-loop-code : goal.invariant-loop-code
invariant-loop-code l = record {
  passed : l.before ≡ length (filter (λ c. eqb (bit_at l.codes c) 1) (range_with_len 0 l.code));
  early : l.before ≤ l.position;
}
