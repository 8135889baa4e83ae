-- How the trace of a signalling link selection is answered.
use Rattle.std.specs.Prelude.{ℕ, List, ◌∷◌, ◌++◌, Option, Some, None, Result, Ok, Err, codes}
use Rattle.std.specs.List.{flat_map}
use Rattle.std.specs.Fmt.{decimal}
use Rattle.point_codes.specs.Codes.{code_text}
use Rattle.profile.specs.declared.hops.Hop.{Hop}
use Rattle.profile.specs.declared.hops.Trace.{Trace}
use Rattle.path_trace.specs.declared.faults.TraceFault.{TraceFault}
use Rattle.path_trace.specs.declared.faults.TraceFault.TheVariants.{OutOfMemory, NoPlan, NoRow}
use Rattle.work_units.specs.declared.replies.Refusal.TheVariants as desk
use Rattle.answers.specs.declared.answer.Answer.{Answer}
use Rattle.answers.specs.declared.answer.Answer.TheVariants as answer
use Rattle.answers.specs.declared.answer.NetAnswer.TheVariants as net
use Rattle.answers.specs.declared.answer.Reason.TheVariants as reason

-- a hop after a space, `ID:SLC>CODE`
abbrev pub hop_text : Hop → List ℕ
hop_text hop = 32 ∷ (decimal hop.link.id ++ 58 ∷ (decimal hop.link.slc ++ 62 ∷ code_text hop.to))

-- `trace reached` and its hops, or `trace stopped`
abbrev pub trace_text : Trace → List ℕ
trace_text (Trace.Reached hops) = codes "trace reached" ++ flat_map hop_text hops
trace_text Trace.Stopped = codes "trace stopped"

-- the trace that leads over these hops, if it reaches the destination
abbrev pub trace_of : Option (List Hop) → Trace
trace_of None = Trace.Stopped
trace_of (Some hops) = Trace.Reached hops

-- refused if there is no plan or no row; out of memory ends a run, and is never answered
abbrev pub trace_answer : Result (Option (List Hop)) TraceFault → Answer
trace_answer (Ok hops) = answer.Net (net.Trace (trace_of hops))
trace_answer (Err NoPlan) = answer.Refused reason.NoPlan
trace_answer (Err NoRow) = answer.Refused reason.NoRow
trace_answer (Err OutOfMemory) = answer.Refused (reason.Desk desk.OutOfMemory)
