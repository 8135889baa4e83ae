use Rattle.std.proofs.Common.{◌≡◌, ℕ, eqb, true}
use Rattle.std.specs.List.{list_any}
use Rattle.transfer_state.specs.Following.{AreMarks, HasMarksOf, KeepsMarks}
use Rattle.transfer_state.proofs.following.mark_readers.Given as goal

-- the rows that rest on the point over the neighbours so far are marked
abbrev pub invariant-loop-neighbour : goal.invariant-loop-neighbour
invariant-loop-neighbour l = record {
  within : AreMarks l.e l.marks.items;
  kept : KeepsMarks l.fn.marks.items l.marks.items;
  put : (w : ℕ) → list_any (λ v. eqb v w) l.yielded ≡ true → HasMarksOf l.e l.marks.items w l.point;
}
