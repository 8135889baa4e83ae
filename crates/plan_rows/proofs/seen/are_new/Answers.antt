use Rattle.std.proofs.Common.{sym, ◌∙◌, arith, ap, ◌++◌}
use Rattle.std.proofs.lemmas.Bool.{or_right}
use Rattle.net_items.specs.Lookups.{concat_vias}
use Rattle.net_sets.specs.Sets.{is_distinct}
use Rattle.plan_rows.proofs.SeenLemmas.{new_first, twice_first}
use Rattle.plan_rows.proofs.seen.are_new.Goals as goal

-- the via stands in a later class
pub returns-then-is_in_any-clause-no : goal.returns-then-is_in_any-clause-no
returns-then-is_in_any-clause-no c = λ e.
    sym c.loop-via.invariant
    ∙ (ap (λ xs. is_distinct (xs ++ concat_vias c.args.later.now)) c.in-Some.ensures.cases.0
    ∙ twice_first c.in-Some.via.now c.in-Some.others.now c.args.later.now (or_right _ _ (sym c.is_in_any.ensures ∙ c.if-is_in_any.true)))

-- the via stands nowhere later
pub loop-via-preserved : goal.loop-via-preserved
loop-via-preserved c = grind (arith, new_first c.in-Some.via.now c.in-Some.others.now c.args.later.now (sym c.is_in.ensures ∙ c.if-is_in.false) (sym c.is_in_any.ensures ∙ c.if-is_in_any.false))
