-- How a desk's refusals are printed: a number, a name, and the values of those that have some.
use Rattle.std.specs.Prelude.{ℕ, List, [], ◌∷◌, Option, Some, None, codes}
use Rattle.std.specs.Fmt.{decimal}
use Rattle.work_units.specs.declared.replies.Refusal.{Refusal}
use Rattle.work_units.specs.declared.replies.Refusal.TheVariants as desk
use Rattle.answers.specs.Refusals.{refusal_name, refusal_values}

-- the number and the name of a refusal
abbrev pub desk_name : Refusal → List ℕ
desk_name desk.OutOfMemory = codes "1 OutOfMemory"
desk_name (desk.Edit refusal) = refusal_name refusal
desk_name (desk.Gap next) = codes "40 Gap"
desk_name (desk.Old last) = codes "41 Old"
desk_name desk.Clash = codes "42 Clash"
desk_name desk.BacklogFull = codes "43 BacklogFull"
desk_name (desk.NotReady left) = codes "44 NotReady"
desk_name desk.Nothing = codes "45 Nothing"
desk_name desk.Busy = codes "46 Busy"
desk_name (desk.Stale target) = codes "47 Stale"
desk_name desk.Unasked = codes "48 Unasked"
desk_name desk.Differs = codes "49 Differs"
desk_name desk.EndOfNumbers = codes "51 EndOfNumbers"
desk_name desk.NotOpen = codes "52 NotOpen"

-- the number of the open target, if there is one
abbrev pub target_text : Option ℕ → List ℕ
target_text None = codes "none"
target_text (Some number) = decimal number

-- the values of a refusal, each after a space
abbrev pub desk_values : Refusal → List ℕ
desk_values (desk.Edit refusal) = refusal_values refusal
desk_values (desk.Gap next) = 32 ∷ decimal next
desk_values (desk.Old last) = 32 ∷ decimal last
desk_values (desk.NotReady left) = 32 ∷ decimal left
desk_values (desk.Stale target) = 32 ∷ target_text target
desk_values refusal = []
