use Rattle.std.proofs.Common.{sym, subst, List}
use Rattle.net_items.specs.declared.items.Point.{Point}
use Rattle.plan_rows.specs.Settings.{HaveTransferMates}
use Rattle.net_data.proofs.nets.Net.refusal_of_set_plan.Goals as goal

-- mates are transfer points
pub wrong_row-requires-clause-mates : goal.wrong_row-requires-clause-mates
wrong_row-requires-clause-mates c =
    subst (λ (ps : List Point). HaveTransferMates ps) (sym c.as_slice-points.ensures.value) (λ p m paired. (c.self.invariant.mates p m paired).stp)
