use Rattle.std.proofs.Common.{[], ◌∷◌, codes}
use Rattle.json_answers.specs.Values.{list_member}
use Rattle.json_answers.specs.Shown.{count_members, point_status_members}
use Rattle.json_answers.proofs.MemberLemmas.{adds_members}
use Rattle.json_answers.proofs.shown.put_statuses.Goals as goal

pub returns : goal.returns
returns c = adds_members c.put_list.result _ _ _ (count_members c.args.counts.now) (list_member (codes "points") point_status_members c.args.statuses.now ∷ []) c.in_ok-put_counts.ensures c.put_list.ensures
