use Rattle.std.proofs.Common.{ℕ, List, Option, ◌∙◌, ap, map}
use Rattle.excerpts.specs.Excerpt.{source_of}
use Rattle.what_if.specs.declared.mending.SetLink.{SetLink}
use Rattle.what_if.specs.Mending.{cheaper, least_of, mend, over}
use Rattle.what_if.proofs.CostLemmas.{least_more}
use Rattle.what_if.proofs.mending.add_class.Goals as goal

pub loop-via-preserved : goal.loop-via-preserved
loop-via-preserved c =
    let F : ℕ → Option (List SetLink) = λ z. over (source_of c.args.excerpt.now) c.args.point z (mend (source_of c.args.excerpt.now) c.args.mends.now.wanted z) in
    least_more F c.args.vias.now c.loop-via.via-index c.via-item.result c.loop-via.least c.add_via.new.least (cheaper c.args.least.now (least_of (map F c.args.vias.now))) c.loop-via-test.true
    (c.in_ok-add_via.ensures ∙ ap (λ z. cheaper c.loop-via.least (F z)) c.via-item.is) c.loop-via.invariant
