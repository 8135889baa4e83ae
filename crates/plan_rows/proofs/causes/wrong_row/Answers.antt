use Rattle.std.proofs.lemmas.Grind.{common_steps}
use Rattle.std.proofs.Common.{◌∙◌, ap, refl, take, map, false, arith}
use Rattle.std.proofs.lemmas.List.{get_or-replicate}
use Rattle.net_items.specs.declared.lists.Row.{Row}
use Rattle.net_items.proofs.ListLemmas.{list_any_map}
use Rattle.net_sets.specs.Joints.{AroundValue}
use Rattle.plan_rows.proofs.causes.wrong_row.Goals as goal

pub note_ranks-requires-clause-blank : goal.note_ranks-requires-clause-blank
note_ranks-requires-clause-blank c = λ z within. get_or-replicate 16384 z 0 0 within

pub note_transfers-requires-clause-blank : goal.note_transfers-requires-clause-blank
note_transfers-requires-clause-blank c = λ z within. get_or-replicate 16384 z false false within

-- no point was seen
pub loop-position-init : goal.loop-position-init
loop-position-init c = record { around = ap (λ (a : AroundValue). a.sets) c.around-around.ensures; long = refl; seen = λ z within. get_or-replicate 16384 z false false within; rest = refl }

pub cause_of-cause-requires-clause-twice : goal.cause_of-cause-requires-clause-twice
cause_of-cause-requires-clause-twice c =
    c.see-twice.ensures.before (map (λ (r : Row). r.point) (take c.loop-position.position c.args.rows.now)) c.loop-position.invariant.seen
    ∙ list_any_map _ (λ (r : Row). r.point) (take c.loop-position.position c.args.rows.now)

pub returns-in-Some : goal.returns-in-Some
returns-in-Some c = grind (arith, common_steps)
