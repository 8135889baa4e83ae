use Rattle.dirty_sets.specs.Bits.{is_marked}
use Rattle.desk_core.proofs.OpeningLemmas.{opened_filled}
use Rattle.desk_core.proofs.opening.new_target.Goals as goal

pub new-requires-clause-filled : goal.new-requires-clause-filled
new-requires-clause-filled c = rw (c.in_ok-slots.ensures, c.in_ok-waiting.ensures, c.in_ok-net.ensures) (opened_filled c.args.latest.now (is_marked c.args.touched.now))
