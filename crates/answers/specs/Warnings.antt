-- How it is told what a planner is warned of (own).
use Rattle.std.specs.Prelude.{ℕ, List, [], ◌∷◌, ◌++◌, codes, length}
use Rattle.std.specs.List.{flat_map}
use Rattle.std.specs.Fmt.{decimal}
use Rattle.point_codes.specs.Codes.{code_text}
use Rattle.what_if.specs.declared.warnings.Warning.{Warning}
use Rattle.what_if.specs.declared.warnings.Warning.TheVariants as warning
use Rattle.answers.specs.declared.answer.Answer.{Answer}
use Rattle.answers.specs.declared.answer.Answer.TheVariants as answer
use Rattle.answers.specs.declared.answer.NetAnswer.TheVariants as net

-- the name of a warning's kind
abbrev pub warning_name : Warning → List ℕ
warning_name (warning.MissingRow y x) = codes "MissingRow"
warning_name (warning.MissingPlan m x) = codes "MissingPlan"
warning_name (warning.Unreached p) = codes "Unreached"
warning_name (warning.Unnamed p) = codes "Unnamed"
warning_name (warning.Unused id) = codes "Unused"
warning_name (warning.SetFails id pairs) = codes "SingleFailure"
warning_name (warning.PointFails code pairs) = codes "SingleFailure"

-- `Y/X`: a point and a destination
abbrev pub towards_text : ℕ → ℕ → List ℕ
towards_text y x = code_text y ++ 47 ∷ code_text x

-- what a warning is about: `Y/X`, `CODE`, `ID`, and of a single failure `ID:PAIRS` or `CODE:PAIRS`
abbrev pub warning_values : Warning → List ℕ
warning_values (warning.MissingRow y x) = towards_text y x
warning_values (warning.MissingPlan m x) = towards_text m x
warning_values (warning.Unreached p) = code_text p
warning_values (warning.Unnamed p) = code_text p
warning_values (warning.Unused id) = decimal id
warning_values (warning.SetFails id pairs) = decimal id ++ (codes ":" ++ decimal pairs)
warning_values (warning.PointFails code pairs) = code_text code ++ (codes ":" ++ decimal pairs)

-- `NAME:VALUES`
abbrev pub warning_text : Warning → List ℕ
warning_text w = warning_name w ++ 58 ∷ warning_values w

-- the same after a space
abbrev pub warning_word : Warning → List ℕ
warning_word w = 32 ∷ warning_text w

-- `warn N`, and each of N warnings
abbrev pub warnings_text : List Warning → List ℕ
warnings_text warnings = codes "warn " ++ (decimal (length warnings) ++ flat_map warning_word warnings)

-- a warning on a line of its own
abbrev pub warning_on_line : Warning → List ℕ
warning_on_line w = warning_text w ++ 10 ∷ []

-- each of N warnings on a line of its own, and `warnings N` on the last
abbrev pub warning_lines : List Warning → List ℕ
warning_lines warnings = flat_map warning_on_line warnings ++ (codes "warnings " ++ (decimal (length warnings) ++ 10 ∷ []))

-- the warnings
abbrev pub warn_answer : List Warning → Answer
warn_answer warnings = answer.Net (net.Warned warnings)
