use Rattle.std.proofs.Common.{◌∙◌}
use Rattle.transfer_state.proofs.RouteLemmas.{hop_is, hop_none}
use Rattle.transfer_state.proofs.SizeLemmas.{found_two}
use Rattle.transfer_state.proofs.routes.hop_at.Goals as goal

pub hop_by_choice-requires-clause-two : goal.hop_by_choice-requires-clause-two
hop_by_choice-requires-clause-two c = found_two c.args.e.now c.args.point c.in-Some.row.now c.in-Some.choice c.in-Some.ensures

pub returns-in-Some : goal.returns-in-Some
returns-in-Some c = c.hop_by_choice.ensures ∙ hop_is c.args.e.now c.args.point c.args.s c.in-Some.row.now c.in-Some.choice c.in-Some.ensures

pub returns-in-None : goal.returns-in-None
returns-in-None c = hop_none c.args.e.now c.args.point c.args.s c.in-None.ensures
