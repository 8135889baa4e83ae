use Rattle.std.proofs.Common.{◌≡◌, ap, sym, ◌∙◌, refl, subst}
use Rattle.std.proofs.lemmas.Bool.{eq-eqb}
use Rattle.net_items.specs.declared.items.Plan.{Plan}
use Rattle.net_data.specs.declared.events.Event.{Event}
use Rattle.net_data.specs.declared.events.Event.TheVariants as on
use Rattle.net_data.specs.Edits.{changed, refusal_of}
use Rattle.dirty_sets.specs.Touch.{IsTouchIndex, sets_plan}
use Rattle.dirty_sets.specs.Index.{reads_of}
use Rattle.dirty_sets.specs.Kept.{is_on_set}
use Rattle.dirty_sets.proofs.IndexLemmas.{small_id}
use Rattle.dirty_sets.proofs.index.TouchIndex.update.Goals as goal

pub remove_set-requires-clause-small : goal.remove_set-requires-clause-small
remove_set-requires-clause-small c =
    let id = c.in-RemoveSet.id in
    small_id c.args.before.now c.validity.ensures id c.args.event.now c.requires.accepted (ap (λ (e : Event). is_on_set id e) c.in-RemoveSet.is ∙ eq-eqb id id refl)

pub set_plan-requires : goal.set_plan-requires
set_plan-requires c =
    let is : c.args.event.now ≡ on.SetPlan c.as_plan.result.now = c.in-SetPlan.is ∙ ap (λ (p : Plan). on.SetPlan p) (sym c.as_plan.ensures) in
    record {
      index = c.requires.index;
      accepted = ap (refusal_of c.args.before.now) (sym is) ∙ c.requires.accepted;
      room = c.requires.room (ap sets_plan is);
    }

pub drop_plan-requires : goal.drop_plan-requires
drop_plan-requires c = record { index = c.requires.index; accepted = ap (refusal_of c.args.before.now) (sym c.in-DropPlan.is) ∙ c.requires.accepted }

pub returns-in-AddSet : goal.returns-in-AddSet
returns-in-AddSet c = subst (λ (e : Event). IsTouchIndex (changed c.args.before.now e) (reads_of c.add_set.new.self)) (sym c.in-AddSet.is) (c.add_set.ensures c.in-AddSet.field-3)

pub returns-in-RemoveSet : goal.returns-in-RemoveSet
returns-in-RemoveSet c = subst (λ (e : Event). IsTouchIndex (changed c.args.before.now e) (reads_of c.remove_set.new.self)) (sym c.in-RemoveSet.is) c.remove_set.ensures

pub returns-in-DropPlan : goal.returns-in-DropPlan
returns-in-DropPlan c = subst (λ (e : Event). IsTouchIndex (changed c.args.before.now e) (reads_of c.drop_plan.new.self)) (sym c.in-DropPlan.is) c.drop_plan.ensures

pub returns-in-SetPlan : goal.returns-in-SetPlan
returns-in-SetPlan c =
    let is : c.args.event.now ≡ on.SetPlan c.as_plan.result.now = c.in-SetPlan.is ∙ ap (λ (p : Plan). on.SetPlan p) (sym c.as_plan.ensures) in
    subst (λ (e : Event). IsTouchIndex (changed c.args.before.now e) (reads_of c.set_plan.new.self)) (sym is) c.set_plan.ensures
