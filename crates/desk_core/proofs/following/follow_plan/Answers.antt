use Rattle.std.proofs.Common.{◌∙◌, ap, ◌||◌}
use Rattle.dirty_sets.specs.Touch.{touches}
use Rattle.desk_core.proofs.following.follow_plan.Goals as goal

pub note-requires-clause-index : goal.note-requires-clause-index
note-requires-clause-index c = record {
  planned = c.in_ok-make_room.ensures.planned ∙ c.requires.index.planned;
  reads = λ x id low. ap (λ f. f x id) c.in_ok-make_room.ensures.reads ∙ c.requires.index.reads x id low;
}

pub returns-clause-noted : goal.returns-clause-noted
returns-clause-noted c = record {
  index = c.note.ensures.index;
  touched = λ x low. c.note.ensures.touched x low ∙ ap (λ f. f x || touches c.args.latest.now c.args.event.now x) c.in_ok-make_room.ensures.touched;
}
