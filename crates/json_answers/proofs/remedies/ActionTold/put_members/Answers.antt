use Rattle.json_answers.specs.Objects.{command_members, link_members}
use Rattle.json_answers.proofs.MemberLemmas.{adds_members}
use Rattle.json_answers.proofs.remedies.ActionTold.put_members.Goals as goal

pub returns : goal.returns
returns c =
    adds_members c.put_command.result _ _ _ (link_members (record { id = c.args.self.now.id; slc = c.args.self.now.slc })) (command_members c.args.self.now) c.in_ok-put_members.ensures c.put_command.ensures
