use Rattle.std.proofs.Common.{◌≡◌, length, map}
use Rattle.std.specs.Prelude.{find}
use Rattle.explanations.specs.Titles.{is_called_by}
use Rattle.explanations.specs.declared.explanation.Explanation.{Explanation}
use Rattle.explanations.proofs.list.find_among.Given as goal

-- a word calls the same of the rest as of the whole list
abbrev pub invariant-loop-first : goal.invariant-loop-first
invariant-loop-first l =
    find (is_called_by l.word) (map (λ (e : Explanation). e.title.now) l.list) ≡ find (is_called_by l.word) (map (λ (e : Explanation). e.title.now) l.rest)

abbrev pub decreases-loop-first : goal.decreases-loop-first
decreases-loop-first l = length l.rest
