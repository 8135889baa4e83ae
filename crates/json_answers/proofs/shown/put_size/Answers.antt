use Rattle.json_answers.specs.Shown.{part_members, state_members}
use Rattle.json_answers.proofs.MemberLemmas.{adds_members}
use Rattle.json_answers.proofs.shown.put_size.Goals as goal

pub returns : goal.returns
returns c = adds_members c.put_state.result _ _ _ (part_members c.args.size.now) (state_members c.args.size.now) c.in_ok-put_parts.ensures c.put_state.ensures
