use Rattle.std.proofs.Common.{[], ◌∷◌, codes}
use Rattle.json_answers.specs.Shown.{two_numbers}
use Rattle.json_answers.specs.Values.{number_member}
use Rattle.json_answers.proofs.MemberLemmas.{adds_members}
use Rattle.json_answers.proofs.moves.put_move_counts.Goals as goal

pub returns : goal.returns
returns c =
    adds_members c.put_two.result _ _ _ (number_member (codes "lost") c.args.counts.lost ∷ []) (two_numbers (codes "regained") c.args.counts.regained (codes "moved") c.args.counts.moved) c.in_ok-put_number.ensures c.put_two.ensures
