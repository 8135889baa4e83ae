use Rattle.std.proofs.Common.{[], ◌∷◌, codes}
use Rattle.json_answers.specs.Values.{number_member, numbered_members}
use Rattle.json_answers.proofs.MemberLemmas.{adds_members}
use Rattle.json_answers.proofs.replies.put_opened.Goals as goal

pub returns : goal.returns
returns c =
    adds_members c.put_number.result _ _ _ (numbered_members (codes "opened") (codes "target") c.args.opened.target) (number_member (codes "waiting") c.args.opened.waiting ∷ []) c.in_ok-put_numbered.ensures c.put_number.ensures
