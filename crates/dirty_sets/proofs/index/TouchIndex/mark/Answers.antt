use Rattle.std.proofs.Common.{ap, sym, ◌∙◌, ◌||◌}
use Rattle.net_data.specs.declared.events.Event.{Event}
use Rattle.dirty_sets.specs.Bits.{is_marked}
use Rattle.dirty_sets.specs.Touch.{touches}
use Rattle.dirty_sets.proofs.index.TouchIndex.mark.Goals as goal

pub returns-in-AddSet : goal.returns-in-AddSet
returns-in-AddSet c = λ x. c.mark_new_set.ensures x ∙ ap (λ (e : Event). is_marked c.args.marks.now x || touches c.args.before.now e x) (sym c.in-AddSet.is)
