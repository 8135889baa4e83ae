-- What is asked of the row of a point, in the settled table of a destination.
use Rattle.std.specs.Prelude.{◌≡◌, ℕ, ◌==◌, List, Option, Some, None, find}
use Rattle.std.specs.Option.{option_map}
use Rattle.net_items.specs.declared.items.Plan.{Plan}
use Rattle.net_items.specs.Lookups.{plan_at}
use Rattle.net_data.specs.Network.{Network}
use Rattle.profile.specs.declared.tables.RowState.{RowState}
use Rattle.profile.specs.declared.tables.Table.{Table}
use Rattle.profile.specs.Status.{Source, source_in}
use Rattle.profile.specs.Whole.{scratch}
use Rattle.what_if.specs.Mending.{IsMend, mend}
use Rattle.what_if.specs.declared.mending.SetLink.{SetLink}
use Rattle.what_if.specs.declared.wanted.Wanted.{Wanted}
use Rattle.what_if.specs.declared.wanted.Wanted.TheVariants.{Reached, Allowed}
use Rattle.script_words.specs.declared.questions.Question.{Question}
use Rattle.script_words.specs.declared.questions.Question.TheVariants as question
use Rattle.answers.specs.Messages.{octets_to}
use Rattle.answers.specs.Remedies.{actions}
use Rattle.answers.specs.Ways.{ways_at}
use Rattle.answers.specs.declared.answer.Answer.{Answer}
use Rattle.answers.specs.declared.answer.Answer.TheVariants as answer
use Rattle.answers.specs.declared.answer.Reason.TheVariants as reason
use Rattle.answers.specs.declared.answer.RowAnswer.{RowAnswer}
use Rattle.answers.specs.declared.answer.RowAnswer.TheVariants as row
use Rattle.answers.specs.declared.remedies.Action.{Action}

-- the row of a point in a table
abbrev pub row_in : Table → ℕ → Option RowState
row_in table y = find (λ state. state.point == y) table.rows

-- the commands that restore the links which have to be restored
abbrev pub remedy : Source → Wanted → ℕ → Option (List Action)
remedy src wanted y = option_map (actions src.sets) (mend src wanted y)

-- restoring these links gives a point what is wanted towards a destination, and takes least; or none does
abbrev pub IsMendAt : Network → ℕ → Wanted → ℕ → Option (List SetLink) → Type 0
IsMendAt net x wanted y told = (plan : Plan) × (plan_at net.plans x ≡ Some plan) × IsMend (source_in net.points net.sets plan net.tfr) wanted y told

-- what is asked of a row, with the network indicator and what the network gives about the destination
abbrev pub asked_of : Question → ℕ → Source → RowState → RowAnswer
asked_of question.Status ni src state = row.Status state.choice
asked_of question.Links ni src state = row.Links state.choice.class state.links
asked_of question.Messages ni src state = row.Messages state.messages
asked_of (question.Octets z) ni src state = row.Octets (octets_to ni src.dest state z)
asked_of question.Why ni src state = row.Why state.choice.status (ways_at src state)
asked_of question.Mend ni src state = row.Mend (mend src Reached state.point)
asked_of question.MendAllowed ni src state = row.Mend (mend src Allowed state.point)
asked_of question.Remedy ni src state = row.Remedy (remedy src Reached state.point)
asked_of question.RemedyAllowed ni src state = row.Remedy (remedy src Allowed state.point)

-- the answer from a row
abbrev pub row_answer : Question → ℕ → Source → Option RowState → Answer
row_answer asked ni src None = answer.Refused reason.NoRow
row_answer asked ni src (Some state) = answer.Row (asked_of asked ni src state)

-- the answer about a point, whose row is computed from scratch
abbrev pub point_answer : Question → ℕ → Source → ℕ → Answer
point_answer asked ni src y = row_answer asked ni src (row_in (scratch src) y)

-- the answer from the plan of a destination
abbrev pub plan_answer : Question → Network → ℕ → Option Plan → Answer
plan_answer asked net y None = answer.Refused reason.NoPlan
plan_answer asked net y (Some plan) = point_answer asked net.ni (source_in net.points net.sets plan net.tfr) y

-- the answer about the row of a point in the table of a destination
abbrev pub answer_about : Question → Network → ℕ → ℕ → Answer
answer_about asked net y x = plan_answer asked net y (plan_at net.plans x)
