use Rattle.json_answers.specs.Objects.{row_of_members, side_members}
use Rattle.json_answers.proofs.MemberLemmas.{adds_members}
use Rattle.json_answers.proofs.moves.RerouteTold.put_members.Goals as goal

pub returns : goal.returns
returns c =
    adds_members c.put_sides.result _ _ _ (row_of_members c.args.self.now.point c.args.self.now.dest) (side_members c.args.self.now) c.in_ok-put_row_of.ensures c.put_sides.ensures
