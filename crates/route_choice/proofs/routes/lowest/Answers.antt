use Rattle.std.proofs.Common.{arith, sym, ap, ◌∙◌, ◌+◌}
use Rattle.route_choice.specs.Routes.{lowest}
use Rattle.route_choice.proofs.OfferLemmas.{lowest_here, lowest_past, offered_all}
use Rattle.route_choice.proofs.routes.lowest.Goals as goal

pub loop-i-preserved : goal.loop-i-preserved
loop-i-preserved c =
    let said = rw c.as_slice-vias.ensures at c.has_via.ensures in
    lowest_past c.args.tfr c.args.best c.args.classes.now c.args.fars.now c.loop-i.i c.index-classes-i.result _ _
    (omega arith) (omega arith) c.index-classes-i.is c.loop-i.invariant (sym said ∙ c.if-has_via.false)

pub returns-then-has_via : goal.returns-then-has_via
returns-then-has_via c =
    let said = rw c.as_slice-vias.ensures at c.has_via.ensures in
    let members_are = rw c.as_slice-vias.ensures at c.members.ensures in
    rw (members_are, c.direct_status.ensures)
    (lowest_here c.args.tfr c.args.best c.args.classes.now c.args.fars.now c.loop-i.i c.index-classes-i.result _ _
    (omega arith) (omega arith) c.index-classes-i.is c.loop-i.invariant (sym said ∙ c.if-has_via.true))

pub returns : goal.returns
returns c = ap (lowest c.args.tfr c.args.best (c.loop-i.i + 1)) (sym (offered_all c.args.classes.now c.args.fars.now c.loop-i.i c.loop-i-test.false)) ∙ c.loop-i.invariant
