use Rattle.std.proofs.Common.{◌≡◌, ◌++◌, ◌∷◌, [], length, take, ap, ◌∙◌, arith}
use Rattle.std.proofs.lemmas.List.{length-drop}
use Rattle.net_sheets.proofs.PlanLemmas.{classes_pushed, rest_from}
use Rattle.net_sheets.proofs.rows.take_classes.Goals as goal

pub loop-count-preserved : goal.loop-count-preserved
loop-count-preserved c =
    let vias = c.in_ok-vias.vias in
    let many : c.len.result ≡ length vias.items = omega (arith, vias.ok.0) in
    let class : c.len-class.result ≡ length c.loop-count.classes.items = omega (arith, c.loop-count.classes.ok.0) in
    record {
      within = omega (arith, length-drop c.loop-count.count c.args.routes.now, ap length (rest_from c.loop-count.count c.args.routes.now), c.in_ok-vias.ensures.within);
      classes = classes_pushed c.args.dest c.args.point c.loop-count.classes.items c.push.new.self.items vias.items c.args.routes.now _ c.loop-count.count c.len.result c.loop-count.invariant.classes (omega arith) many
          (c.in_ok-vias.ensures.vias ∙ ap (λ rs. take (length vias.items) rs) (rest_from c.loop-count.count c.args.routes.now)) (c.in_ok-push.ensures.items ∙ ap (λ v. c.loop-count.classes.items ++ v ∷ []) (c.in_ok-from_slice.ensures ∙ c.as_slice.ensures.value));
    }
