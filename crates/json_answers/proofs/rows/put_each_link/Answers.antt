use Rattle.std.proofs.Common.{Ok, subst, arith}
use Rattle.std.proofs.lemmas.List.{take_all}
use Rattle.std.specs.List.{flat_map}
use Rattle.json_answers.specs.Members.{Adds, item_tokens}
use Rattle.json_answers.specs.Objects.{link_items}
use Rattle.json_answers.proofs.MemberLemmas.{wrote, array_written}
use Rattle.json_answers.proofs.rows.put_each_link.Goals as goal

pub returns : goal.returns
returns c =
    array_written c.end_array.result _ _ _ _ (flat_map link_items c.args.links.now) (wrote (Ok tt) _ _ _ c.in_ok-begin_array.ensures)
    (subst (λ xs. Adds c.begin_array.new.self c.loop-s.writer (item_tokens (flat_map link_items xs))) (take_all c.loop-s.s c.args.links.now (omega (arith, c.validity.ensures, c.loop-s-test.false))) c.loop-s.invariant)
    (wrote c.end_array.result _ _ _ c.end_array.ensures)
