use Rattle.std.proofs.Common.{◌≡◌, ◌++◌, map, length}
use Rattle.tokens.specs.Words.{words_of}
use Rattle.tokens.proofs.words.split_words.Given as goal

-- the words so far and those of the rest are all
abbrev pub invariant-loop-first : goal.invariant-loop-first
invariant-loop-first l = map (λ w. w.now) l.words.items ++ words_of l.rest ≡ words_of l.text

abbrev pub decreases-loop-first : goal.decreases-loop-first
decreases-loop-first l = length l.rest
