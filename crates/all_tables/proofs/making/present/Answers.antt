use Rattle.std.proofs.Common.{◌∷◌, ◌++◌, [], ap, sym, ◌∙◌}
use Rattle.all_tables.proofs.MakingLemmas.{one_there, none_there}
use Rattle.all_tables.proofs.making.present.Goals as goal

pub loop-one-preserved-in-Continue-branch-2 : goal.loop-one-preserved-in-Continue-branch-2
loop-one-preserved-in-Continue-branch-2 c =
    c.in_ok-push.ensures.items ∙ ap (λ l. l ++ c.in-Some-one.table ∷ []) c.loop-one.invariant
    ∙ sym (one_there c.loop-one.yielded c.in-Some.one c.in-Some-one.table c.in-Some-one.is)

pub loop-one-preserved : goal.loop-one-preserved
loop-one-preserved c = c.loop-one.invariant ∙ sym (none_there c.loop-one.yielded c.in-Some.one c.in_default.is)
