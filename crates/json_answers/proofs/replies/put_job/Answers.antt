use Rattle.std.proofs.Common.{[], ◌∷◌, codes}
use Rattle.json_answers.specs.Values.{code_member, numbered_members}
use Rattle.json_answers.proofs.MemberLemmas.{adds_members}
use Rattle.json_answers.proofs.replies.put_job.Goals as goal

pub returns : goal.returns
returns c =
    adds_members c.put_code.result _ _ _ (numbered_members (codes "job") (codes "version") c.args.version) (code_member (codes "destination") c.args.dest ∷ []) c.in_ok-put_numbered.ensures c.put_code.ensures
