use Rattle.std.proofs.Common.{[], ◌∷◌, codes}
use Rattle.json_answers.specs.Values.{word_member}
use Rattle.json_answers.specs.Shown.{counted_members}
use Rattle.json_answers.proofs.MemberLemmas.{adds_members}
use Rattle.json_answers.proofs.shown.show_statuses.Goals as goal

pub returns : goal.returns
returns c = adds_members c.put_statuses.result _ _ _ (word_member (codes "statuses") ∷ []) (counted_members c.args.counts.now c.args.statuses.now) c.in_ok-put_word.ensures c.put_statuses.ensures
