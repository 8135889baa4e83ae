use Rattle.std.proofs.Common.{◌≡◌, ◌≤◌, length}
use Rattle.excerpts.specs.Excerpt.{source_of}
use Rattle.transfer_state.specs.Told.{KnowsBelow, TellsBelow}
use Rattle.transfer_state.proofs.sweep.choices.Given as goal

abbrev pub invariant-loop-rank : goal.invariant-loop-rank
invariant-loop-rank l = record {
  ranked : 1 ≤ l.rank;
  together : length l.choices.items ≡ length l.e.plan.rows;
  coded : length l.fars ≡ 16384;
  below : KnowsBelow (source_of l.e) l.choices.items l.rank;
  told : TellsBelow (source_of l.e) l.fars l.rank;
}
