-- The number of a refusal, in text, is a number of JSON.
use Rattle.std.specs.Prelude.{ℕ, ◌==◌, List}
use Rattle.std.proofs.Common.{refl}
use Rattle.std.specs.List.{before_first}
use Rattle.json.specs.Print.{IsNumber}
use Rattle.json.specs.Word.{after_number}
use Rattle.net_data.specs.declared.events.Refusal.{Refusal}
use Rattle.net_data.specs.declared.events.Refusal.TheVariants as edit
use Rattle.work_units.specs.declared.replies.Refusal.{Refusal as DeskRefusal}
use Rattle.work_units.specs.declared.replies.Refusal.TheVariants as desk
use Rattle.answers.specs.Answers.{reason_name}
use Rattle.answers.specs.DeskRefusals.{desk_name}
use Rattle.answers.specs.Refusals.{refusal_name}
use Rattle.answers.specs.declared.answer.Reason.{Reason}
use Rattle.answers.specs.declared.answer.Reason.TheVariants as reason

-- what stands before the first space is a number
abbrev IsNumbered : List ℕ → Type 0
IsNumbered title = IsNumber (before_first (λ b. b == 32) title)

edit_numbered : (refusal : Refusal) → IsNumbered (refusal_name refusal)
unfolding after_number
edit_numbered edit.OutOfMemory = refl
edit_numbered edit.NoPoint = refl
edit_numbered edit.PointThere = refl
edit_numbered edit.PointUsed = refl
edit_numbered edit.NotStp = refl
edit_numbered edit.Paired = refl
edit_numbered edit.NotPaired = refl
edit_numbered edit.PairUsed = refl
edit_numbered edit.NoSet = refl
edit_numbered edit.SetThere = refl
edit_numbered (edit.Joined id) = refl
edit_numbered edit.SameEnds = refl
edit_numbered edit.BadLinks = refl
edit_numbered edit.NoLink = refl
edit_numbered edit.LinkThere = refl
edit_numbered edit.LastLink = refl
edit_numbered edit.SetUsed = refl
edit_numbered edit.NoPlan = refl
edit_numbered (edit.BadRow point why) = refl
edit_numbered edit.Limit = refl

desk_numbered : (refusal : DeskRefusal) → IsNumbered (desk_name refusal)
unfolding after_number
desk_numbered desk.OutOfMemory = refl
desk_numbered (desk.Edit refusal) = edit_numbered refusal
desk_numbered (desk.Gap next) = refl
desk_numbered (desk.Old last) = refl
desk_numbered desk.Clash = refl
desk_numbered desk.BacklogFull = refl
desk_numbered (desk.NotReady left) = refl
desk_numbered desk.Nothing = refl
desk_numbered desk.Busy = refl
desk_numbered (desk.Stale target) = refl
desk_numbered desk.Unasked = refl
desk_numbered desk.Differs = refl
desk_numbered desk.EndOfNumbers = refl
desk_numbered desk.NotOpen = refl

pub reason_numbered : (why : Reason) → IsNumber (before_first (λ b. b == 32) (reason_name why))
unfolding after_number
reason_numbered (reason.Desk refusal) = desk_numbered refusal
reason_numbered (reason.Event refused) = edit_numbered refused.refusal
reason_numbered reason.NoPlan = refl
reason_numbered reason.NoRow = refl
reason_numbered reason.NotKept = refl
reason_numbered reason.BadLine = refl
reason_numbered reason.Write = refl
