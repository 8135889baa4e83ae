use Rattle.std.proofs.Common.{[], codes}
use Rattle.json_answers.specs.Shown.{show_members, size_members}
use Rattle.json_answers.proofs.MemberLemmas.{adds_members}
use Rattle.json_answers.proofs.shown.show_size.Goals as goal

pub returns : goal.returns
returns c = adds_members c.put_size.result _ _ _ (show_members (codes "size") []) (size_members c.args.size.now) c.in_ok-put_show.ensures c.put_size.ensures
