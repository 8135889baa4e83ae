use Rattle.std.proofs.Common.{◌≡◌, length}
use Rattle.excerpts.specs.Excerpt.{source_of}
use Rattle.transfer_state.specs.Following.{AreMarks, ObeysBut}
use Rattle.transfer_state.proofs.following.followed.Given as goal

-- all rows but those that are marked obey the rule
abbrev pub invariant-loop : goal.invariant-loop
invariant-loop l = record {
  together : length l.choices.items ≡ length l.e.plan.rows;
  within : AreMarks l.e l.marks.items;
  obey : ObeysBut (source_of l.e) l.choices.items l.marks.items;
}
