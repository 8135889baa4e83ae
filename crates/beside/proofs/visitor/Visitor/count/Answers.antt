use Rattle.std.proofs.Common.{◌≡◌, ◌∙◌, Ok, ap, subst}
use Rattle.std.specs.Arc.{arc_value}
use mathlib.Core.List.{IsPrefix}
use Rattle.desk_core.specs.Desk.{accepted}
use Rattle.versions.specs.Hubs.{HubValue}
use Rattle.beside.specs.Beside.{BesideValue, VisitsAt}
use Rattle.beside.proofs.BesideLemmas.{beside_of, came_count, visit_found}
use Rattle.beside.proofs.visitor.Visitor.count.Goals as goal

pub invariant_of-self : goal.invariant_of-self
invariant_of-self g c =
    c.accepted-self-inside.ensures ∙ ap accepted (c.desk.ensures ∙ ap (λ (h : HubValue). h.state.desk) c.count-counts.ensures.rest) ∙ came_count _ _ _ _ c.count-counts.ensures.comes

pub invariant_of-self-in_err-counts : goal.invariant_of-self-in_err-counts
invariant_of-self-in_err-counts g c =
    c.accepted-self-inside.ensures ∙ ap accepted (c.desk.ensures ∙ ap (λ (h : HubValue). h.state.desk) c.count-counts.ensures.rest) ∙ came_count _ _ _ _ c.count-counts.ensures.comes

pub invariant_of-self-2 : goal.invariant_of-self-2
invariant_of-self-2 g c =
    c.accepted-self-inside.ensures ∙ ap accepted (c.desk.ensures ∙ ap (λ (h : HubValue). h.state.desk) c.count-counts.ensures.rest) ∙ came_count _ _ _ _ c.count-counts.ensures.comes

pub returns-clause-found : goal.returns-clause-found
returns-clause-found g c =
    let found = c.args.hub.now.state in
    let old = c.self.inside in
    let told = subst (λ (h : HubValue). (c.tell.new.reader.chain ≡ h.state.shown.chain) × IsPrefix old.reader.chain c.tell.new.reader.chain) c.count-counts.ensures.rest c.in_ok-tell.ensures.told in
    subst (λ (b : BesideValue). VisitsAt g.N.Naming.seats b found (beside_of c.count-counts.new.self c.tell.new.reader.chain (arc_value old.synced) old.watch)) c.self.view_is
    (visit_found {F = Unit {0}} (Ok tt) g.N.Naming.seats old.guest c.count-counts.new.self old.reader.chain c.tell.new.reader.chain (arc_value old.synced) old.watch found c.count-counts.ensures.comes told)
