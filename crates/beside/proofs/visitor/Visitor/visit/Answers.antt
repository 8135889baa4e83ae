use Rattle.std.proofs.Common.{ap, sym, ◌∙◌, ◌≡◌, subst}
use Rattle.std.specs.Prelude.{OnOk}
use Rattle.std.specs.Arc.{arc_value}
use mathlib.Core.List.{IsPrefix}
use Rattle.desk_core.specs.Desk.{accepted}
use Rattle.versions.specs.Hubs.{HubValue}
use Rattle.versions.proofs.SeatLemmas.{came_last}
use Rattle.beside.specs.Beside.{BesideValue, VisitsAt}
use Rattle.beside.proofs.BesideLemmas.{beside_of, came_count, visit_found}
use Rattle.beside.proofs.visitor.Visitor.visit.Goals as goal

pub invariant_of-self : goal.invariant_of-self
invariant_of-self g c =
    c.accepted-self-inside.ensures ∙ ap accepted (c.desk.ensures ∙ ap (λ (h : HubValue). h.state.desk) c.visit.ensures.rest) ∙ came_count _ _ _ _ c.visit.ensures.comes

pub returns-clause-found : goal.returns-clause-found
returns-clause-found g c =
    let found = c.args.hub.now.state in
    let old = c.self.inside in
    let told = subst (λ (h : HubValue). OnOk c.tell.result ((c.tell.new.reader.chain ≡ h.state.shown.chain) × IsPrefix old.reader.chain c.tell.new.reader.chain)) c.visit.ensures.rest c.tell.ensures.told in
    subst (λ (b : BesideValue). OnOk c.tell.result (VisitsAt g.N.Naming.seats b found (beside_of c.visit.new.self c.tell.new.reader.chain (arc_value old.synced) old.watch)))
    c.self.view_is (visit_found c.tell.result g.N.Naming.seats old.guest c.visit.new.self old.reader.chain c.tell.new.reader.chain (arc_value old.synced) old.watch found c.visit.ensures.comes told)

pub returns-clause-left : goal.returns-clause-left
returns-clause-left g c = came_last _ _ _ _ c.visit.ensures.comes ∙ ap (λ (h : HubValue). h.state) (sym c.visit.ensures.rest)
