use Rattle.std.proofs.Common.{[], ◌∷◌, ◌++◌, codes}
use Rattle.json_answers.specs.Values.{code_member}
use Rattle.json_answers.specs.Objects.{status_value}
use Rattle.json_answers.proofs.MemberLemmas.{adds_both, adds_members}
use Rattle.json_answers.proofs.moves.ChangeTold.put_members.Goals as goal

pub returns : goal.returns
returns c =
    let change = c.args.self.now in
    let point = code_member (codes "point") change.point ∷ [] in
    let dest = code_member (codes "destination") change.dest ∷ [] in
    let before = (codes "before", status_value change.before) ∷ [] in
    adds_members c.put_status-2.result _ _ _ (point ++ dest ++ before) ((codes "after", status_value change.after) ∷ [])
    (adds_both _ _ _ point (dest ++ before) c.in_ok-put_code.ensures (adds_both _ _ _ dest before c.in_ok-put_code-2.ensures c.in_ok-put_status.ensures)) c.put_status-2.ensures
