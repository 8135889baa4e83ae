use Rattle.std.proofs.Common.{Ok, map, subst}
use Rattle.std.proofs.lemmas.List.{take_all}
use Rattle.json_answers.specs.Members.{Adds, item_tokens}
use Rattle.json_answers.specs.Marked.{marked_value}
use Rattle.json_answers.proofs.MemberLemmas.{wrote, array_written}
use Rattle.json_answers.proofs.ways.put_each_marked.Goals as goal

pub returns : goal.returns
returns c =
    array_written c.end_array.result _ _ _ _ (map marked_value c.args.links.now) (wrote (Ok tt) _ _ _ c.in_ok-begin_array.ensures)
    (subst (λ xs. Adds c.begin_array.new.self c.loop-link.writer (item_tokens (map marked_value xs))) (take_all c.loop-link.link-index c.args.links.now c.loop-link-test.false) c.loop-link.invariant)
    (wrote c.end_array.result _ _ _ c.end_array.ensures)
