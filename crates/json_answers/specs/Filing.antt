-- How the answers to a script are told by who files its pictures (own).
use Rattle.std.specs.Prelude.{◌≡◌, ℕ, List}
use Rattle.answers.specs.Filed.{IsFiled}
use Rattle.answers.specs.declared.answer.Answer.{Answer}
use Rattle.json_answers.specs.Form.{printed_in}
use Rattle.json_answers.specs.declared.form.Form.{Form}

-- the text is that of what is told in the place of the answer
abbrev pub IsToldIn : Form → Answer → List ℕ → Type 0
IsToldIn form a text = (told : Answer) × IsFiled a told × (text ≡ printed_in form told)
