use Rattle.std.proofs.Common.{◌∙◌, ap, arith, map, length-set, length, List, ℕ, ◌≡◌, []}
use Rattle.profile.specs.Status.{offer}
use Rattle.excerpts.specs.Excerpt.{source_of}
use Rattle.transfer_state.specs.Complaints.{far_from, heard_table}
use Rattle.transfer_state.proofs.SweepLemmas.{offered_at_more, offered_from_each}
use Rattle.transfer_state.proofs.hearing.fars_heard.Goals as goal

pub loop-i-preserved : goal.loop-i-preserved
loop-i-preserved c =
    let same : length c.as_slice-classes.result.now ≡ length c.args.row.now.classes = ap (length {A = List ℕ}) c.as_slice-classes.ensures in
    record {
      four = length-set _ _ _ ∙ c.loop-i.invariant.four;
      each = offered_at_more c.as_slice-classes.result.now c.loop-i.fars (map (offer (source_of c.args.e.now) (far_from (source_of c.args.e.now) (heard_table (source_of c.args.e.now) c.args.heard.now) c.args.row.now.point) c.args.row.now.point))
          c.loop-i.i c.index-classes-i.result c.fars_heard_in.result (omega arith) (omega (arith, c.loop-i.invariant.four, c.requires.few, same)) c.index-classes-i.is (rw c.as_slice.ensures at c.fars_heard_in.ensures) c.loop-i.invariant.each;
    }

pub returns : goal.returns
returns c =
    let same : length c.as_slice-classes.result.now ≡ length c.args.row.now.classes = ap (length {A = List ℕ}) c.as_slice-classes.ensures in
    rw (← c.as_slice-classes.ensures) (offered_from_each c.as_slice-classes.result.now c.loop-i.fars (map (offer (source_of c.args.e.now) (far_from (source_of c.args.e.now) (heard_table (source_of c.args.e.now) c.args.heard.now) c.args.row.now.point) c.args.row.now.point)) [] []
    (omega (arith, c.loop-i.invariant.four, c.requires.few, same))
    (λ k low. c.loop-i.invariant.each k (omega (arith, low, c.loop-i-test.false))))
