-- What a desk's replies are answered with.
use Rattle.std.specs.Prelude.{Result, Ok, Err}
use Rattle.work_units.specs.Work.{Work}
use Rattle.work_units.specs.declared.replies.Posted.{Posted}
use Rattle.work_units.specs.declared.replies.Posted.TheVariants.{Taken, Again}
use Rattle.work_units.specs.declared.replies.Opened.{Opened}
use Rattle.work_units.specs.declared.replies.Refusal.{Refusal}
use Rattle.answers.specs.declared.answer.Answer.{Answer}
use Rattle.answers.specs.declared.answer.Answer.TheVariants as answer
use Rattle.answers.specs.declared.answer.Reason.TheVariants as reason
use Rattle.answers.specs.declared.answer.Reply.TheVariants as reply

-- the desk refuses
abbrev pub refused : Refusal → Answer
refused refusal = answer.Refused (reason.Desk refusal)

-- of a post
abbrev pub posted_answer : Result Posted Refusal → Answer
posted_answer (Ok (Taken number)) = answer.Reply (reply.Taken number)
posted_answer (Ok (Again number)) = answer.Reply (reply.Again number)
posted_answer (Err refusal) = refused refusal

-- of an opening
abbrev pub opened_answer : Result Opened Refusal → Answer
opened_answer (Ok opened) = answer.Reply (reply.Opened opened)
opened_answer (Err refusal) = refused refusal

-- of the taking of a job
abbrev pub job_answer : Result Work Refusal → Answer
job_answer (Ok job) = answer.Reply (reply.Job job.version job.excerpt.plan.dest)
job_answer (Err refusal) = refused refusal

-- of the giving of a result
abbrev pub given_answer : Result (Unit {0}) (Work × Refusal) → Answer
given_answer (Ok done) = answer.Reply reply.Given
given_answer (Err back) = refused back.1

-- of an abandonment
abbrev pub abandoned_answer : Result (Unit {0}) Refusal → Answer
abandoned_answer (Ok done) = answer.Reply reply.Abandoned
abandoned_answer (Err refusal) = refused refusal
