use Rattle.std.proofs.Common.{ap, ◌∙◌, ℕ, Bool, rules}
use Rattle.dirty_sets.proofs.index.TouchIndex.follow.Goals as goal

pub update-requires-clause-index : goal.update-requires-clause-index
update-requires-clause-index c = record {
  planned = c.in_ok-make_room.ensures.planned ∙ c.requires.index.planned;
  reads = λ x id small. ap (λ (f : ℕ → ℕ → Bool). f x id) c.in_ok-make_room.ensures.reads ∙ c.requires.index.reads x id small;
}

pub returns-in_err-make_room-clause-no_memory : goal.returns-in_err-make_room-clause-no_memory
returns-in_err-make_room-clause-no_memory c = search rules

pub update-requires-2-clause-room : goal.update-requires-2-clause-room
update-requires-2-clause-room c = search rules
