use Rattle.std.proofs.Common.{Ok, map, subst}
use Rattle.std.proofs.lemmas.List.{take_all}
use Rattle.json_answers.specs.Members.{Adds, item_tokens, object_with}
use Rattle.json_answers.proofs.MemberLemmas.{wrote, array_written}
use Rattle.json_answers.proofs.told.put_objects.Goals as goal

pub returns : goal.returns
returns g c =
    array_written c.end_array.result _ _ _ _ (map (λ x. object_with (g.T.Told.members x)) c.args.values.now) (wrote (Ok tt) _ _ _ c.in_ok-begin_array.ensures)
    (subst (λ xs. Adds c.begin_array.new.self c.loop-value.writer (item_tokens (map (λ x. object_with (g.T.Told.members x)) xs))) (take_all c.loop-value.value-index c.args.values.now c.loop-value-test.false) c.loop-value.invariant)
    (wrote c.end_array.result _ _ _ c.end_array.ensures)
