use Rattle.std.proofs.Common.{Some, ap, sym, ◌∙◌, arith}
use Rattle.std.proofs.lemmas.Bool.{eqb-true}
use Rattle.std.proofs.lemmas.List.{get_or_read}
use Rattle.net_items.specs.declared.items.Point.{Point}
use Rattle.net_items.proofs.KeyedLemmas.{found_here}
use Rattle.excerpts.proofs.positions.point_by.Goals as goal

pub returns-then-eq : goal.returns-then-eq
returns-then-eq c =
    let points = c.args.points.now in
    let point = c.index-points-at.result in
    let stands = get_or_read points c.from-at.result point (omega arith) c.index-points-at.is in
    let found = found_here (λ (p : Point). p.code) c.args.code points c.from-at.result c.requires (omega arith)
    (λ d. ap (λ (p : Point). p.code) (sym (stands d)) ∙ eqb-true _ c.args.code (sym c.eq.ensures ∙ c.if-eq.true)) in
    ap Some (stands point) ∙ sym (found.finds point)
