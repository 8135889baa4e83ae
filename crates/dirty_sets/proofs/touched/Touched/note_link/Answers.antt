use Rattle.std.proofs.Common.{◌≡◌, ap, sym, ◌∙◌, ◌||◌, Bool, subst, arith}
use Rattle.dirty_sets.specs.Bits.{is_marked}
use Rattle.dirty_sets.specs.Touch.{IsTouchIndex, touches}
use Rattle.dirty_sets.specs.Marks.{IsNoted}
use Rattle.dirty_sets.specs.Index.{TouchIndexValue, reads_any, reads_of}
use Rattle.dirty_sets.specs.Touched.{TouchedValue, marks_of}
use Rattle.dirty_sets.proofs.IndexLemmas.{reads_any-mark, small_id, touches-set}
use Rattle.dirty_sets.proofs.touched.Touched.note_link.Goals as goal

pub mark-requires : goal.mark-requires
mark-requires c = small_id c.args.before.now c.validity.ensures c.args.id c.args.event.now c.requires.accepted c.requires.on_set

or_moved : (a b c : Bool) → (a || (b || c)) ≡ ((a || b) || c)
or_moved a b c = grind arith

pub returns : goal.returns
returns c =
    let net = c.args.before.now in
    let event = c.args.event.now in
    let id = c.args.id in
    let inside = c.self.inside in
    let readers = inside.index.readers in
    let small = small_id net c.validity.ensures id event c.requires.accepted c.requires.on_set in
    let index : IsTouchIndex net (reads_of inside.index) = subst (λ (h : TouchIndexValue). IsTouchIndex net (reads_of h)) (sym (ap (λ (n : TouchedValue). n.index) c.self.view_is)) c.requires.index in
    let old : TouchedValue = record { index = inside.index; ids = inside.ids; marks = inside.marks } in
    let new : TouchedValue = record { index = inside.index; ids = c.mark.new.self; marks = inside.marks } in
    let noted : IsNoted net event (marks_of old) (marks_of new) = record {
      index = c.keep.ensures;
      touched = λ x within.
          ap (λ b. is_marked inside.marks x || b) (reads_any-mark readers inside.ids c.mark.new.self id x c.mark.ensures)
          ∙ (ap (λ b. is_marked inside.marks x || (reads_any readers inside.ids x || b)) (index.reads x id small ∙ sym (touches-set net c.validity.ensures id event c.requires.on_set x))
          ∙ or_moved (is_marked inside.marks x) (reads_any readers inside.ids x) (touches net event x));
    } in
    subst (λ (n : TouchedValue). IsNoted net event (marks_of n) (marks_of new)) c.self.view_is noted
