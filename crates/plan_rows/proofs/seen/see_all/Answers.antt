use Rattle.std.proofs.Common.{◌≡◌, sym, subst, ◌∙◌, ◌++◌, take, set, true}
use Rattle.std.proofs.lemmas.List.{length-set, take_all}
use Rattle.net_sets.specs.Sets.{is_distinct}
use Rattle.plan_rows.specs.Seen.{IsSeen}
use Rattle.plan_rows.proofs.SeenLemmas.{is_distinct-at, is_distinct-push, IsSeen-push, push_done}
use Rattle.plan_rows.proofs.seen.see_all.Goals as goal

-- the via's place was marked
pub returns-then-seen-at-clause-new : goal.returns-then-seen-at-clause-new
returns-then-seen-at-clause-new c = λ done seen apart.
    is_distinct-at done c.args.vias.now c.loop-via.via-index c.number-at.result c.via-item.result c.loop-via-test.true (c.number-at.ensures.value ∙ c.via-item.is)
    (sym (c.loop-via.invariant.seen done seen c.number-at.result c.number-at.ensures.in_range) ∙ c.if-seen-at.true)

pub loop-via-preserved : goal.loop-via-preserved
loop-via-preserved c =
    let one = c.number-at.ensures.value ∙ c.via-item.is in
    record {
      long = length-set c.loop-via.seen c.number-at.result true ∙ c.loop-via.invariant.long;
      seen = λ done seen. subst (IsSeen (set c.loop-via.seen c.number-at.result true))
          (sym (push_done done c.args.vias.now c.loop-via.via-index c.number-at.result c.via-item.result c.loop-via-test.true one))
          (IsSeen-push c.loop-via.seen (done ++ take c.loop-via.via-index c.args.vias.now) c.number-at.result c.loop-via.invariant.long c.number-at.ensures.in_range (c.loop-via.invariant.seen done seen));
      apart = λ done seen apart. subst (λ xs. is_distinct xs ≡ true)
          (sym (push_done done c.args.vias.now c.loop-via.via-index c.number-at.result c.via-item.result c.loop-via-test.true one))
          (is_distinct-push (done ++ take c.loop-via.via-index c.args.vias.now) c.number-at.result (c.loop-via.invariant.apart done seen apart) (sym (c.loop-via.invariant.seen done seen c.number-at.result c.number-at.ensures.in_range) ∙ c.if-seen-at.false));
    }

pub returns-clause-seen : goal.returns-clause-seen
returns-clause-seen c = λ done seen t. subst (λ xs. IsSeen c.loop-via.seen (done ++ xs)) (take_all c.loop-via.via-index c.args.vias.now c.loop-via-test.false) (c.loop-via.invariant.seen done seen)
