use Rattle.std.proofs.Common.{◌≡◌, ◌+◌, drop, map}
use Rattle.toml.specs.View.{view}
use Rattle.net_text.specs.Reading.{apply_entries}
use Rattle.net_text.specs.Keys.{text_of}
use Rattle.net_text.proofs.reading.apply_entries.Given as goal

-- what is left to apply gives what all gives
abbrev pub invariant-loop-i : goal.invariant-loop-i
invariant-loop-i l =
    apply_entries l.key l.format (l.i + 1) l.net (map (λ v. text_of (view v)) (drop l.i l.values)) ≡ apply_entries l.key l.format 1 l.fn.net (map (λ v. text_of (view v)) l.values)
