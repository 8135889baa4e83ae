use Rattle.std.proofs.Common.{[], ◌∷◌, codes}
use Rattle.json_answers.specs.Values.{code_member}
use Rattle.json_answers.proofs.MemberLemmas.{adds_members}
use Rattle.json_answers.proofs.warnings.put_towards.Goals as goal

pub returns : goal.returns
returns c =
    adds_members c.put_code-2.result _ _ _ (code_member (codes "point") c.args.point ∷ []) (code_member (codes "destination") c.args.dest ∷ [])
    c.in_ok-put_code.ensures c.put_code-2.ensures
