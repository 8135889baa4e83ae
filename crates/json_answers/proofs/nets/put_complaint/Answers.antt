use Rattle.std.proofs.Common.{[], ◌∷◌, ◌++◌, codes}
use Rattle.answers.specs.Audits.{clause_letter}
use Rattle.json_answers.specs.Values.{code_member, text_member}
use Rattle.json_answers.proofs.MemberLemmas.{adds_both, adds_members}
use Rattle.json_answers.proofs.nets.put_complaint.Goals as goal

pub returns : goal.returns
returns c =
    let dest = code_member (codes "destination") c.args.dest ∷ [] in
    let point = code_member (codes "point") c.args.complaint.point ∷ [] in
    adds_members c.put_clause.result _ _ _ (dest ++ point) (text_member (codes "complaint") (clause_letter c.args.complaint.clause) ∷ [])
    (adds_both _ _ _ dest point c.in_ok-put_code.ensures c.in_ok-put_code-2.ensures) c.put_clause.ensures
