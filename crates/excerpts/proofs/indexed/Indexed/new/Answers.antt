use Rattle.excerpts.proofs.IndexLemmas.{few_sets}
use Rattle.excerpts.proofs.indexed.Indexed.new.Goals as goal

pub joints_of-requires : goal.joints_of-requires
joints_of-requires c = rw c.sets.ensures (few_sets c.args.net c.validity.ensures)
