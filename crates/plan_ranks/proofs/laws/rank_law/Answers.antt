use Rattle.plan_ranks.proofs.LawLemmas.{right_ranked, least_right}
use Rattle.plan_ranks.proofs.laws.rank_law.Goals as goal

pub returns : goal.returns
returns c = record { ranked = right_ranked; least = least_right }
