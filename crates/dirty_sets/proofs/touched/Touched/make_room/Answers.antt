use Rattle.std.proofs.Common.{ap, ◌∙◌, ◌||◌, ℕ, Bool, List}
use Rattle.dirty_sets.specs.declared.readers.Reader.{Reader}
use Rattle.dirty_sets.specs.Bits.{is_marked}
use Rattle.dirty_sets.specs.Index.{reads_any}
use Rattle.dirty_sets.specs.Touched.{TouchedValue, marks_of}
use Rattle.dirty_sets.proofs.touched.Touched.make_room.Goals as goal

pub returns-clause-touched : goal.returns-clause-touched
returns-clause-touched c =
    let marks : List Reader → ℕ → Bool = λ rs x. is_marked c.self.inside.marks x || reads_any rs c.self.inside.ids x in
    ap marks c.in_ok-make_room.ensures.readers ∙ ap (λ (n : TouchedValue). (marks_of n).touched) c.self.view_is
