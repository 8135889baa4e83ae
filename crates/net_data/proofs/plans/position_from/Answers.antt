use Rattle.std.proofs.Common.{◌<◌, ap, sym, ◌∙◌, arith, length, map}
use Rattle.std.proofs.lemmas.Bool.{eqb-true}
use Rattle.std.proofs.lemmas.List.{get_or-map, length-map}
use Rattle.std.specs.Arc.{arc_value}
use Rattle.net_items.specs.declared.items.Plan.{Plan}
use Rattle.net_items.proofs.KeyedLemmas.{found_here}
use Rattle.net_data.proofs.plans.position_from.Goals as goal

-- the plan that was looked at first has the destination
pub returns-then-eq-clause-found : goal.returns-then-eq-clause-found
returns-then-eq-clause-found c =
    let within : c.args.first < length c.args.list.now = omega arith in
    found_here (λ (p : Plan). p.dest) c.args.dest (map arc_value c.args.list.now) c.args.first c.requires (omega (arith, length-map c.args.list.now arc_value, within))
    (λ d. ap (λ (p : Plan). p.dest) (get_or-map arc_value c.args.list.now c.args.first c.index-list-first.result d within ∙ ap arc_value (sym c.index-list-first.is) ∙ sym c.deref.ensures)
    ∙ eqb-true _ c.args.dest (sym c.eq.ensures ∙ c.if-eq.true))
