use Rattle.std.proofs.Common.{Ok, map, subst}
use Rattle.std.proofs.lemmas.List.{take_all}
use Rattle.json_answers.specs.Members.{Adds, item_tokens}
use Rattle.json_answers.specs.Objects.{octet_value}
use Rattle.json_answers.proofs.MemberLemmas.{wrote, array_written}
use Rattle.json_answers.proofs.rows.put_each_octet.Goals as goal

pub returns : goal.returns
returns c =
    array_written c.end_array.result _ _ _ _ (map octet_value c.args.octets.now) (wrote (Ok tt) _ _ _ c.in_ok-begin_array.ensures)
    (subst (λ xs. Adds c.begin_array.new.self c.loop-octet.writer (item_tokens (map octet_value xs))) (take_all c.loop-octet.octet-index c.args.octets.now c.loop-octet-test.false) c.loop-octet.invariant)
    (wrote c.end_array.result _ _ _ c.end_array.ensures)
