use Rattle.std.proofs.Common.{◌≡◌, ◌<◌, ◌-◌, ℕ, true, leb, leb-true, eqb, arith, slice_index_or, get_or, length}
use Rattle.excerpts.specs.Index.{IsFirstJoint}
use Rattle.excerpts.specs.declared.index.Joint.{Joint}
use Rattle.excerpts.proofs.FirstLemmas.{begins_here}
use Rattle.excerpts.proofs.index.begin_at.Goals as goal
use Rattle.excerpts.proofs.index.begin_at.Goals.{else-place-gt0-via-then-place-gt0+else-pair-joints, else-place-gt0-via-else-place-gt0}

-- what a read past the end would give
abbrev unread : Joint
unread = record { pair = 0; position = 0 }

pub returns-then-place-joints-2 : goal.returns-then-place-joints-2
returns-then-place-joints-2 c = λ _.
    begins_here c.args.joints.now c.args.pair c.args.place c.requires (omega arith)
    (λ some. elim c.else-place-gt0.branch [
      | else-place-gt0-via-then-place-gt0+else-pair-joints w ↦ omega (arith, w.if-pair-joints.false)
      | else-place-gt0-via-else-place-gt0 w ↦ absurd (omega (arith, some, w.if-place-gt0.false))
    ])
    (λ more. absurd (omega (arith, more)))

pub returns-else-place-joints-2 : goal.returns-else-place-joints-2
returns-else-place-joints-2 c = λ there.
    begins_here c.args.joints.now c.args.pair c.args.place c.requires (omega arith)
    (λ some. elim c.else-place-gt0.branch [
      | else-place-gt0-via-then-place-gt0+else-pair-joints w ↦ omega (arith, w.if-pair-joints.false)
      | else-place-gt0-via-else-place-gt0 w ↦ absurd (omega (arith, some, w.if-place-gt0.false))
    ])
    (λ more. leb-true _ _ there)
