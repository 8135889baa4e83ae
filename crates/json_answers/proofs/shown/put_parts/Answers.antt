use Rattle.std.proofs.Common.{[], ◌∷◌, codes}
use Rattle.json_answers.specs.Values.{number_member}
use Rattle.json_answers.specs.Shown.{two_numbers}
use Rattle.json_answers.proofs.MemberLemmas.{adds_members}
use Rattle.json_answers.proofs.shown.put_parts.Goals as goal

pub returns : goal.returns
returns c = adds_members c.put_two.result _ _ _ (number_member (codes "points") c.args.size.now.points ∷ []) (two_numbers (codes "sets") c.args.size.now.sets (codes "links") c.args.size.now.links) c.in_ok-put_number.ensures c.put_two.ensures
