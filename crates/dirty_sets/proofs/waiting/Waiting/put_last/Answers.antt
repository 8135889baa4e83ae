use Rattle.std.proofs.Common.{◌≡◌, ◌+◌, ◌-◌, false, ap, ◌∙◌, length, arith}
use Rattle.dirty_sets.specs.Entries.{marked}
use Rattle.dirty_sets.proofs.WaitingPositionLemmas.{last_again}
use Rattle.dirty_sets.proofs.waiting.Waiting.put_last.Goals as goal

pub returns-in-Some : goal.returns-in-Some
returns-in-Some c =
    let at = c.in-Some.ensures in
    let in_range = at.in_range in
    let all = c.left-last.ensures in
    let end : (c.left-last.result - 1) + 1 ≡ length c.args.self.now = omega arith in
    c.mark.ensures ∙ (ap (marked (c.left-last.result - 1) false) c.move_to.ensures ∙ last_again c.args.self.now c.args.dest c.in-Some.position (c.left-last.result - 1) at end)
