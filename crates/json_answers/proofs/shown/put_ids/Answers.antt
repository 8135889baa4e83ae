use Rattle.std.proofs.Common.{Ok, map, subst}
use Rattle.std.proofs.lemmas.List.{take_all}
use Rattle.json_answers.specs.Members.{Adds, item_tokens}
use Rattle.json_answers.specs.Shown.{id_value}
use Rattle.json_answers.proofs.MemberLemmas.{wrote, array_written}
use Rattle.json_answers.proofs.shown.put_ids.Goals as goal

pub returns : goal.returns
returns c =
    array_written c.end_array.result _ _ _ _ (map id_value c.args.ids.now) (wrote (Ok tt) _ _ _ c.in_ok-begin_array.ensures)
    (subst (λ xs. Adds c.begin_array.new.self c.loop-id.writer (item_tokens (map id_value xs))) (take_all c.loop-id.id-index c.args.ids.now c.loop-id-test.false) c.loop-id.invariant)
    (wrote c.end_array.result _ _ _ c.end_array.ensures)
