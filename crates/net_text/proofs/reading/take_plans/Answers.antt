use Rattle.std.proofs.Common.{codes}
use Rattle.net_text.specs.declared.faults.Key.TheVariants.{Plans}
use Rattle.net_text.proofs.TableLemmas.{taken, none_taken}
use Rattle.net_text.proofs.reading.take_plans.Goals as goal

pub returns-in-Some : goal.returns-in-Some
returns-in-Some c = taken Plans (codes "plans") c.args.table.entries c.in-Some.value c.elements_of.result.items c.in-Some.ensures.value c.elements_of.ensures

pub returns : goal.returns
returns c = none_taken Plans (codes "plans") c.args.table.entries c.new.result.items c.in-None.ensures.value c.new.ensures.items
