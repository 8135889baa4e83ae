use Rattle.transfer_state.proofs.SizeLemmas.{found_two}
use Rattle.transfer_state.proofs.routes.links_at.Goals as goal

pub used_size-size-requires-clause-two : goal.used_size-size-requires-clause-two
used_size-size-requires-clause-two c = found_two c.args.e.now c.args.point c.in-Some.row.now c.in-Some.choice c.in-Some.ensures
