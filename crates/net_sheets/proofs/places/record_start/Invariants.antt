use Rattle.std.proofs.Common.{◌≡◌, ◌<◌, ◌≤◌, ℕ, true, get_or}
use Rattle.net_sheets.specs.Places.{is_line_end}
use Rattle.net_sheets.proofs.places.record_start.Given as goal

abbrev pub invariant-loop-i : goal.invariant-loop-i
invariant-loop-i l = (k : ℕ) → l.from ≤ k → k < l.i → is_line_end (get_or l.text k 0) ≡ true
