-- How an answer is printed: in text, or as objects of JSON (own).
use Rattle.std.specs.Prelude.{ℕ, List, [], ◌∷◌, ◌++◌, Some, codes}
use Rattle.answers.specs.Answers as text
use Rattle.answers.specs.declared.answer.Answer.{Answer}
use Rattle.answers.specs.declared.answer.Answer.TheVariants as answer
use Rattle.answers.specs.declared.answer.Moved.{Moved}
use Rattle.answers.specs.declared.answer.Publication.TheVariants as publication
use Rattle.json_answers.specs.Members.{Member}
use Rattle.json_answers.specs.Values.{members_text}
use Rattle.json_answers.specs.Objects.{answer_members, told_changes}
use Rattle.json_answers.specs.declared.form.Form.{Form}
use Rattle.json_answers.specs.declared.form.Form.TheVariants.{Text, Objects}

-- the object with these members, on a line of its own
abbrev pub object_line : List Member → List ℕ
object_line ms = members_text ms ++ 10 ∷ []

-- the notice of what a publication moved
abbrev pub notice_members : ℕ → Moved → List Member
notice_members number moved = told_changes (codes "watch") number moved

-- the notice behind an answer, on a line of its own; nothing if none is told
abbrev pub notice_objects : Answer → List ℕ
notice_objects (answer.Publication (publication.Published number (Some moved))) = object_line (notice_members number moved)
notice_objects (answer.Publication (publication.Synced number (Some moved))) = object_line (notice_members number moved)
notice_objects a = []

-- an answer as it is printed, in either form
abbrev pub printed_in : Form → Answer → List ℕ
printed_in Text a = text.printed a
printed_in Objects a = object_line (answer_members a) ++ notice_objects a
