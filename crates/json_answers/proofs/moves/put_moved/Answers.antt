use Rattle.std.proofs.Common.{[], ◌∷◌, List, OnOk, codes, subst}
use Rattle.what_if.specs.declared.reroutes.Reroute.{Reroute}
use Rattle.json_answers.specs.Members.{Adds, member_tokens}
use Rattle.json_answers.specs.Objects.{told_members}
use Rattle.json_answers.specs.Refusals.{number_if}
use Rattle.json_answers.proofs.MemberLemmas.{adds_members}
use Rattle.json_answers.proofs.moves.put_moved.Goals as goal

pub returns : goal.returns
returns c =
    subst (λ (l : List Reroute). OnOk c.put_told_moves.result (Adds c.args.writer.now c.put_told_moves.new.writer (member_tokens ((codes "since", number_if c.args.moved.now.since) ∷ told_members c.args.moved.now.counts l))))
    c.as_slice.ensures
    (adds_members c.put_told_moves.result _ _ _ ((codes "since", number_if c.args.moved.now.since) ∷ []) (told_members c.args.moved.now.counts c.as_slice.result.now) c.in_ok-put_number_if.ensures c.put_told_moves.ensures)
