use Rattle.std.proofs.Common.{◌≡◌, Some, sym, ◌∙◌, ap, rules}
use Rattle.std.specs.Arc.{arc_value}
use Rattle.std.specs.Option.{option_map}
use Rattle.net_items.specs.Lookups.{plan_at}
use Rattle.excerpts.proofs.ExcerptLemmas.{extract_right}
use Rattle.excerpts.proofs.shared.SharedExcerpt.of.Goals as goal

pub invariant_of-result : goal.invariant_of-result
invariant_of-result c =
    let net = c.net-network.result.now in
    let plan = arc_value c.in-Ok-Some.plan in
    let there : plan_at net.plans c.args.dest ≡ Some plan = sym c.in-Ok-Some.ensures.ok ∙ ap (option_map arc_value) c.in-Ok-Some.field-0-is in
    rw (c.in-Ok.ensures, sym c.net-network.ensures) (extract_right net c.validity.ensures c.args.dest plan there)

pub returns-in-Err : goal.returns-in-Err
returns-in-Err c = search rules
