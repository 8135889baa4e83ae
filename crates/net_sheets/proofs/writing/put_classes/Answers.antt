use Rattle.std.proofs.Common.{ap, ◌∙◌, ◌+◌, ◌++◌, string_bytes}
use Rattle.std.specs.List.{flat_map}
use Rattle.net_sheets.specs.declared.routes.Route.TheVariants.{Via}
use Rattle.net_sheets.proofs.WritingLemmas.{class_more, route_line}
use Rattle.net_sheets.proofs.writing.put_classes.Goals as goal

pub loop-place-preserved : goal.loop-place-preserved
loop-place-preserved c =
    class_more c.args.dest c.args.point c.args.classes.now c.loop-place.place c.index-classes-place.result _ _ _ c.loop-place-test.true
    (c.in_ok-put_vias.ensures
    ∙ ap (λ vias. string_bytes c.loop-place.text ++ flat_map (λ z. route_line (Via c.args.dest c.args.point (c.loop-place.place + 1) z)) vias) (c.as_slice.ensures ∙ c.index-classes-place.is))
    c.loop-place.invariant
