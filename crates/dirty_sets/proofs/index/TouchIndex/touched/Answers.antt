use Rattle.std.proofs.Common.{ap, ◌∙◌, ◌||◌}
use Rattle.std.specs.List.{range_with_len}
use Rattle.std.proofs.lemmas.List.Elements.{filter_agree}
use Rattle.dirty_sets.specs.Bits.{is_marked}
use Rattle.dirty_sets.specs.Touch.{touches}
use Rattle.dirty_sets.proofs.index.TouchIndex.touched.Goals as goal

pub returns : goal.returns
returns c =
    c.in_ok-dests.ensures
    ∙ filter_agree (is_marked c.mark.new.marks) (touches c.args.before.now c.args.event.now)
    (λ x. c.mark.ensures x ∙ ap (λ b. b || touches c.args.before.now c.args.event.now x) (c.new-marks.ensures x)) (range_with_len 0 16384)
