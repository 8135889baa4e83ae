use Rattle.std.proofs.Common.{◌≡◌, ◌+◌, map}
use Rattle.std.specs.Iterator.Adapters.{enumerate_source, enumerate_count}
use Rattle.std.specs.Vec.Iter.{into_iter_items}
use Rattle.toml.specs.View.{view}
use Rattle.net_text.specs.Reading.{apply_entries}
use Rattle.net_text.specs.Keys.{text_of}
use Rattle.net_text.proofs.reading.apply_owned_entries.Given as goal

-- what is left to apply gives what all gives
abbrev pub invariant-loop-i : goal.invariant-loop-i
invariant-loop-i l =
    apply_entries l.key l.format (enumerate_count l.i-iterator + 1) l.net (map (λ v. text_of (view v)) (into_iter_items (enumerate_source l.i-iterator))) ≡ apply_entries l.key l.format 1 l.fn.net (map (λ v. text_of (view v)) l.fn.values.items)
