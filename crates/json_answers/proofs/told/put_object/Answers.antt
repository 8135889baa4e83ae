use Rattle.std.proofs.Common.{Ok}
use Rattle.json_answers.proofs.MemberLemmas.{wrote, object_written}
use Rattle.json_answers.proofs.told.put_object.Goals as goal

pub returns : goal.returns
returns g c =
    object_written c.end_object.result _ _ _ _ (g.T.Told.members c.args.value.now) (wrote (Ok tt) _ _ _ c.in_ok-begin_object.ensures) c.in_ok-put_members.ensures (wrote c.end_object.result _ _ _ c.end_object.ensures)
