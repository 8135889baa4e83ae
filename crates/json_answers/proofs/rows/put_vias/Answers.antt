use Rattle.std.proofs.Common.{Ok, subst}
use Rattle.std.proofs.lemmas.List.{take_all}
use Rattle.std.specs.List.{flat_map}
use Rattle.json_answers.specs.Members.{Adds, item_tokens}
use Rattle.json_answers.specs.Objects.{via_items}
use Rattle.json_answers.proofs.MemberLemmas.{wrote, array_written}
use Rattle.json_answers.proofs.rows.put_vias.Goals as goal

pub returns : goal.returns
returns c =
    array_written c.end_array.result _ _ _ _ (flat_map via_items c.args.vias.now) (wrote (Ok tt) _ _ _ c.in_ok-begin_array.ensures)
    (subst (λ xs. Adds c.begin_array.new.self c.loop-via.writer (item_tokens (flat_map via_items xs))) (take_all c.loop-via.via-index c.args.vias.now c.loop-via-test.false) c.loop-via.invariant)
    (wrote c.end_array.result _ _ _ c.end_array.ensures)
