use Rattle.std.proofs.Common.{[], ◌∷◌, codes}
use Rattle.json_answers.specs.Values.{number_member, numbered_members}
use Rattle.json_answers.proofs.MemberLemmas.{adds_members}
use Rattle.json_answers.proofs.replies.put_version.Goals as goal

pub returns : goal.returns
returns c =
    adds_members c.put_number.result _ _ _ (numbered_members (codes "version") (codes "published") c.args.number) (number_member (codes "accepted") c.args.accepted ∷ []) c.in_ok-put_numbered.ensures c.put_number.ensures
