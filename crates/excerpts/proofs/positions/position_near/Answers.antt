use Rattle.std.proofs.Common.{ap, sym, ◌∙◌, arith}
use Rattle.std.proofs.lemmas.Bool.{eqb-true}
use Rattle.std.proofs.lemmas.List.{get_or_read}
use Rattle.net_items.specs.declared.lists.Row.{Row}
use Rattle.net_items.proofs.KeyedLemmas.{found_here}
use Rattle.excerpts.proofs.positions.position_near.Goals as goal

pub returns-then-eq : goal.returns-then-eq
returns-then-eq c =
    found_here (λ (r : Row). r.point) c.args.point c.args.rows.now c.loop.at c.requires (omega arith)
    (λ d. ap (λ (r : Row). r.point) (sym (get_or_read c.args.rows.now c.loop.at c.index-rows-at.result (omega arith) c.index-rows-at.is d)) ∙ eqb-true _ c.args.point (sym c.eq.ensures ∙ c.if-eq.true))
