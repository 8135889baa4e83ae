use Rattle.net_items.proofs.LinkLemmas.{bit_set, bit_cleared}
use Rattle.net_items.proofs.links.with_bit.Goals as goal

pub returns-then-set : goal.returns-then-set
returns-then-set c = bit_set c.args.bits c.args.slc c.args.set c.if-set.true c.requires

pub returns-else-set : goal.returns-else-set
returns-else-set c = bit_cleared c.args.bits c.args.slc c.args.set c.if-set.false c.requires
