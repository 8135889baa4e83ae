use Rattle.std.proofs.Common.{[], codes}
use Rattle.json_answers.specs.Shown.{show_members, set_members}
use Rattle.json_answers.proofs.MemberLemmas.{adds_members}
use Rattle.json_answers.proofs.shown.show_set.Goals as goal

pub returns : goal.returns
returns c = adds_members c.put_set_members.result _ _ _ (show_members (codes "set") []) (set_members c.args.set.now) c.in_ok-put_show.ensures c.put_set_members.ensures
