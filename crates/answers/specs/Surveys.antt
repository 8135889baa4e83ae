-- How it is told what single failures would take, and single repairs bring back (own).
use Rattle.std.specs.Prelude.{ℕ, List, ◌∷◌, ◌++◌, Result, Ok, Err, codes}
use Rattle.std.specs.List.{flat_map}
use Rattle.std.specs.Fmt.{decimal}
use Rattle.point_codes.specs.Codes.{code_text}
use Rattle.net_building.specs.declared.surveyed.Surveyed.{Surveyed}
use Rattle.net_building.specs.declared.surveyed.Surveyed.TheVariants as surveyed
use Rattle.what_if.specs.declared.reports.Refused.{Refused}
use Rattle.what_if.specs.declared.survey.Effect.{Effect}
use Rattle.what_if.specs.declared.survey.Single.{Single}
use Rattle.what_if.specs.declared.survey.Single.TheVariants as single
use Rattle.what_if.specs.declared.survey.Survey.{Survey}
use Rattle.answers.specs.declared.answer.Answer.{Answer}
use Rattle.answers.specs.declared.answer.Answer.TheVariants as answer
use Rattle.answers.specs.declared.answer.NetAnswer.TheVariants as net
use Rattle.answers.specs.declared.answer.Reason.TheVariants as reason

-- the word of what is surveyed
abbrev pub surveyed_text : Surveyed → List ℕ
surveyed_text surveyed.Sets = codes "sets"
surveyed_text surveyed.Points = codes "points"
surveyed_text surveyed.Down = codes "down"

-- `ID` of a set or `CODE` of a point
abbrev pub single_text : Single → List ℕ
single_text (single.SetFails id) = decimal id
single_text (single.PointFails code) = code_text code
single_text (single.SetRestored id) = decimal id

-- what has an effect, after a space: `ID:PAIRS` or `CODE:PAIRS`
abbrev pub effect_text : Effect → List ℕ
effect_text effect = 32 ∷ (single_text effect.single ++ (codes ":" ++ decimal effect.pairs))

-- `survey sets N`, `survey points N` or `survey down N`, and each that has an effect
abbrev pub survey_text : Survey → List ℕ
survey_text survey = codes "survey " ++ (surveyed_text survey.surveyed ++ (codes " " ++ (decimal survey.tried ++ flat_map effect_text survey.effects)))

-- the survey, or the refusal and its place
abbrev pub survey_answer : Result Survey Refused → Answer
survey_answer (Ok survey) = answer.Net (net.Survey survey)
survey_answer (Err refused) = answer.Refused (reason.Event refused)
