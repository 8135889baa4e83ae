use Rattle.std.proofs.Common.{codes}
use Rattle.json_answers.specs.Objects.{moved_members}
use Rattle.json_answers.specs.Values.{numbered_members}
use Rattle.json_answers.proofs.MemberLemmas.{adds_members}
use Rattle.json_answers.proofs.moves.put_changes.Goals as goal

pub returns : goal.returns
returns c =
    adds_members c.put_moved.result _ _ _ (numbered_members c.args.word.now (codes "published") c.args.number) (moved_members c.args.moved.now) c.in_ok-put_numbered.ensures c.put_moved.ensures
