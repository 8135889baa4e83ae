use Rattle.std.proofs.Common.{[], ◌∷◌, codes}
use Rattle.json_answers.specs.Objects.{move_counts, reroute_members}
use Rattle.json_answers.specs.Values.{list_member}
use Rattle.json_answers.proofs.MemberLemmas.{adds_members}
use Rattle.json_answers.proofs.moves.put_told_moves.Goals as goal

pub returns : goal.returns
returns c =
    adds_members c.put_list.result _ _ _ (move_counts c.args.counts) (list_member (codes "changes") reroute_members c.args.list.now ∷ []) c.in_ok-put_move_counts.ensures c.put_list.ensures
