use Rattle.std.proofs.Common.{[], ◌∷◌, codes, if◌then◌else◌}
use Rattle.json_answers.specs.Values.{list_member, text_member}
use Rattle.json_answers.specs.Objects.{change_members}
use Rattle.json_answers.proofs.MemberLemmas.{adds_members}
use Rattle.json_answers.proofs.nets.put_report.Goals as goal

pub returns : goal.returns
returns c =
    adds_members c.put_change_list.result _ _ _ (text_member (codes "result") (if c.args.report.now.denied then codes "denied" else codes "granted") ∷ []) (list_member (codes "changes") change_members c.args.report.now.changes ∷ []) c.in_ok-put_result.ensures c.put_change_list.ensures
