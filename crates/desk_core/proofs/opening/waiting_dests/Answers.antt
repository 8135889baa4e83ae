use Rattle.dirty_sets.specs.Bits.{is_marked}
use Rattle.desk_core.proofs.OpeningLemmas.{touched_rise}
use Rattle.desk_core.proofs.opening.waiting_dests.Goals as goal

pub fill-requires : goal.fill-requires
fill-requires c = rw (c.deref.ensures.value, c.in_ok-dests.ensures) (touched_rise c.args.net.now (is_marked c.args.touched.now) c.validity.ensures.plans_rise)
