use Rattle.std.proofs.Common.{[], ◌∷◌, List, OnOk, codes, length, subst}
use Rattle.what_if.specs.declared.warnings.Warning.{Warning}
use Rattle.json_answers.specs.Members.{Adds, member_tokens}
use Rattle.json_answers.specs.Objects.{warning_members}
use Rattle.json_answers.specs.Values.{list_member, number_member}
use Rattle.json_answers.proofs.MemberLemmas.{adds_members}
use Rattle.json_answers.proofs.warnings.put_warnings.Goals as goal

pub returns : goal.returns
returns c =
    subst (λ (l : List Warning). OnOk c.put_list.result (Adds c.args.writer.now c.put_list.new.writer (member_tokens (number_member (codes "count") (length l) ∷ list_member (codes "warnings") warning_members l ∷ [])))) c.as_slice-warnings.ensures
    (adds_members c.put_list.result _ _ _ (number_member (codes "count") (length c.as_slice-warnings.result.now) ∷ []) (list_member (codes "warnings") warning_members c.as_slice-warnings.result.now ∷ [])
    c.in_ok-put_number.ensures c.put_list.ensures)
