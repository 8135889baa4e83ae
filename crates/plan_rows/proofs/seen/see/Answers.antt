use Rattle.std.proofs.Common.{◌≡◌, subst, get_or, set, true, false, ◌++◌, ◌∷◌, []}
use Rattle.std.specs.List.{list_any}
use Rattle.std.specs.Prelude.{◌==◌}
use Rattle.plan_rows.specs.Seen.{IsSeen}
use Rattle.plan_rows.proofs.SeenLemmas.{IsSeen-push}
use Rattle.plan_rows.proofs.seen.see.Goals as goal

pub returns-clause-before : goal.returns-clause-before
returns-clause-before c = λ done seen. subst (λ p. get_or c.args.seen.now c.number-at.result false ≡ list_any (λ y. y == p) done) c.number-at.ensures.value (seen c.number-at.result c.number-at.ensures.in_range)

pub returns-clause-after : goal.returns-clause-after
returns-clause-after c = λ done seen. subst (λ p. IsSeen (set c.args.seen.now c.number-at.result true) (done ++ p ∷ [])) c.number-at.ensures.value (IsSeen-push c.args.seen.now done c.number-at.result c.requires c.number-at.ensures.in_range seen)
