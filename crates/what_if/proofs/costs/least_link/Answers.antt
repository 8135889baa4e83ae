use Rattle.std.proofs.Common.{◌<◌, ◌∷◌, [], List, Option, Some, length, subst, ◌∙◌}
use Rattle.std.specs.Option.{option_map}
use Rattle.net_items.specs.declared.links.Link.{Link}
use Rattle.what_if.specs.declared.mending.SetLink.{SetLink}
use Rattle.what_if.specs.Mending.{alone, least_link}
use Rattle.what_if.proofs.CostLemmas.{least_more}
use Rattle.what_if.proofs.costs.least_link.Goals as goal

pub loop-link-preserved : goal.loop-link-preserved
loop-link-preserved c =
    let same = c.as_slice-link-items.ensures ∙ c.listed-links.ensures in
    let least : Option (List SetLink) = option_map (λ (l : SetLink). l ∷ []) c.loop-link.least in
    let low : c.loop-link.link-index < length c.args.set.now.links = subst (λ (links : List Link). c.loop-link.link-index < length links) same c.loop-link-test.true in
    let made = rw same at c.cheaper_link.ensures in
    least_more (alone c.args.set.now.id) c.args.set.now.links c.loop-link.link-index _ least (Some (c.cheaper_link.result ∷ [])) (least_link c.args.set.now.id c.args.set.now.links) low made c.loop-link.invariant
