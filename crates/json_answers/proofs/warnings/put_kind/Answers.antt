use Rattle.std.proofs.Common.{ℕ, List, [], ◌∷◌, OnOk, codes, subst}
use Rattle.json_answers.specs.Members.{Adds, member_tokens}
use Rattle.json_answers.specs.Values.{text_member}
use Rattle.json_answers.proofs.warnings.put_kind.Goals as goal

pub returns : goal.returns
returns c =
    subst (λ (word : List ℕ). OnOk c.put_text.result (Adds c.args.writer.now c.put_text.new.writer (member_tokens (text_member (codes "kind") word ∷ [])))) c.name_of_warning.ensures c.put_text.ensures
