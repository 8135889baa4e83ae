use Rattle.std.proofs.Common.{◌≡◌, length}
use Rattle.net_sets.specs.Sets.{is_distinct as distinct}
use Rattle.net_sets.proofs.set_questions.is_distinct.Given as goal

abbrev pub invariant-loop-first : goal.invariant-loop-first
invariant-loop-first l = distinct l.rest ≡ distinct l.numbers

abbrev pub decreases-loop-first : goal.decreases-loop-first
decreases-loop-first l = length l.rest
