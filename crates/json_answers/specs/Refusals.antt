-- Refusals as objects (own): a number, a name, and the values of those that have some.
use Rattle.std.specs.Prelude.{ℕ, ◌==◌, List, [], ◌∷◌, ◌++◌, Option, Some, None, codes}
use Rattle.std.specs.Fmt.{decimal}
use Rattle.std.specs.List.{after_first, before_first}
use Rattle.json.specs.Json.{Json, null, number}
use Rattle.net_data.specs.declared.events.Refusal.{Refusal}
use Rattle.net_data.specs.declared.events.Refusal.TheVariants as edit
use Rattle.work_units.specs.declared.replies.Refusal.{Refusal as DeskRefusal}
use Rattle.work_units.specs.declared.replies.Refusal.TheVariants as desk
use Rattle.answers.specs.Answers.{reason_name}
use Rattle.answers.specs.Refusals.{cause_letter}
use Rattle.answers.specs.declared.answer.Reason.{Reason}
use Rattle.answers.specs.declared.answer.Reason.TheVariants as reason
use Rattle.json_answers.specs.Members.{Member}
use Rattle.json_answers.specs.Values.{code_member, number_member, text_member}

-- the values of a refusal of an event
abbrev pub edit_values : Refusal → List Member
edit_values (edit.Joined id) = number_member (codes "set") id ∷ []
edit_values (edit.BadRow point why) = code_member (codes "point") point ∷ text_member (codes "cause") (cause_letter why) ∷ []
edit_values refusal = []

-- a number, null if there is none
abbrev pub number_if : Option ℕ → Json
number_if None = null
number_if (Some n) = number (decimal n)

-- the values of a refusal of the desk
abbrev pub desk_members : DeskRefusal → List Member
desk_members (desk.Edit refusal) = edit_values refusal
desk_members (desk.Gap next) = number_member (codes "next") next ∷ []
desk_members (desk.Old last) = number_member (codes "last") last ∷ []
desk_members (desk.NotReady left) = number_member (codes "left") left ∷ []
desk_members (desk.Stale target) = (codes "target", number_if target) ∷ []
desk_members refusal = []

-- the values of why a line is refused; `at` is the place of a refused event of a what-if
abbrev pub value_members : Reason → List Member
value_members (reason.Desk refusal) = desk_members refusal
value_members (reason.Event refused) = edit_values refused.refusal ++ number_member (codes "at") refused.place ∷ []
value_members why = []

-- a number and a name, of both in text
abbrev pub title_members : List ℕ → List Member
title_members title = (codes "refused", number (before_first (λ b. b == 32) title)) ∷ text_member (codes "name") (after_first (λ b. b == 32) title) ∷ []

-- `refused` and `name`, and the values: why a line is refused
abbrev pub reason_members : Reason → List Member
reason_members why = title_members (reason_name why) ++ value_members why
