use Rattle.std.proofs.Common.{[], ◌∷◌, ◌++◌, List, OnOk, codes, subst}
use Rattle.what_if.specs.declared.survey.Effect.{Effect}
use Rattle.answers.specs.Surveys.{surveyed_text}
use Rattle.json_answers.specs.Members.{Adds, member_tokens}
use Rattle.json_answers.specs.Objects.{effect_members}
use Rattle.json_answers.specs.Values.{list_member, number_member, text_member}
use Rattle.json_answers.proofs.MemberLemmas.{adds_both, adds_members}
use Rattle.json_answers.proofs.surveys.put_survey.Goals as goal

pub returns : goal.returns
returns c =
    let what = text_member (codes "surveyed") (surveyed_text c.args.survey.now.surveyed) ∷ [] in
    let tried = number_member (codes "tried") c.args.survey.now.tried ∷ [] in
    subst (λ (l : List Effect). OnOk c.put_list.result (Adds c.args.writer.now c.put_list.new.writer (member_tokens ((what ++ tried) ++ list_member (codes "effects") effect_members l ∷ [])))) c.as_slice.ensures
    (adds_members c.put_list.result _ _ _ (what ++ tried) (list_member (codes "effects") effect_members c.as_slice.result.now ∷ [])
    (adds_both _ _ _ what tried c.in_ok-put_surveyed.ensures c.in_ok-put_number.ensures) c.put_list.ensures)
