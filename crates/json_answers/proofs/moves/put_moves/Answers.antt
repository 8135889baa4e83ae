use Rattle.std.proofs.Common.{List, OnOk, subst}
use Rattle.what_if.specs.declared.reroutes.Reroute.{Reroute}
use Rattle.what_if.specs.declared.reroutes.RerouteCounts.{RerouteCounts}
use Rattle.what_if.specs.Reroutes.{reroute_counts}
use Rattle.json_answers.specs.Members.{Adds, member_tokens}
use Rattle.json_answers.specs.Objects.{told_members}
use Rattle.json_answers.proofs.moves.put_moves.Goals as goal

pub returns : goal.returns
returns c =
    subst (λ (l : List Reroute). OnOk c.put_told_moves.result (Adds c.args.writer.now c.put_told_moves.new.writer (member_tokens (told_members (reroute_counts l) l)))) c.as_slice-reroutes.ensures
    (subst (λ (k : RerouteCounts). OnOk c.put_told_moves.result (Adds c.args.writer.now c.put_told_moves.new.writer (member_tokens (told_members k c.as_slice-reroutes.result.now)))) c.count_reroutes.ensures c.put_told_moves.ensures)
