use Rattle.std.proofs.Common.{Ok}
use Rattle.json_answers.proofs.MemberLemmas.{wrote, object_written}
use Rattle.json_answers.proofs.texts.put_texts_object.Goals as goal

pub returns : goal.returns
returns c =
    object_written c.end_object.result _ _ _ _ _ (wrote (Ok tt) _ _ _ c.in_ok-begin_object.ensures) c.in_ok-put_texts.ensures (wrote c.end_object.result _ _ _ c.end_object.ensures)
