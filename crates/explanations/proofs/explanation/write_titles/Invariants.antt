use Rattle.std.proofs.Common.{◌≡◌, take, string_bytes}
use Rattle.explanations.specs.Written.{titles_text}
use Rattle.explanations.proofs.explanation.write_titles.Given as goal

-- the lines of the explanations so far
abbrev pub invariant-loop-explanation : goal.invariant-loop-explanation
invariant-loop-explanation l = string_bytes l.text ≡ titles_text (take l.explanation-index l.list)
