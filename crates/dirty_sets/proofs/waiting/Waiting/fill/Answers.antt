use Rattle.std.proofs.Common.{◌≡◌, ◌-◌, ◌<◌, ℕ, suc, Bool, false, ◌∙◌, sym, subst, arith}
use Rattle.std.specs.List.{AllByRecursion}
use Rattle.dirty_sets.proofs.WaitingEntryLemmas.{fill-more, fill-all, small-insert_entry}
use Rattle.dirty_sets.proofs.waiting.Waiting.fill.Goals as goal

pub loop-left-preserved : goal.loop-left-preserved
loop-left-preserved c =
    let kept = c.loop-left.invariant in
    let put_in = c.in_ok-insert.ensures.entries in
    let some = c.loop-left-test.true in
    let within = kept.in_range in
    let next : c.loop-left.left ≡ suc (c.loop-left.left - 1) = omega arith in
    record {
      filled = put_in ∙ fill-more c.args.dests.now c.loop-left.left c.requires c.loop-left.entries.entries kept.filled (c.loop-left.left - 1) c.index-dests-left.result c.number.result next within (c.number.ensures.value ∙ c.index-dests-left.is);
      in_range = omega arith;
      small = subst (AllByRecursion (λ (e : ℕ × Bool). e.0 < 16384)) (sym put_in) (small-insert_entry c.loop-left.entries.entries c.number.result false c.number.ensures.in_range kept.small);
    }

pub loop-left-smaller : goal.loop-left-smaller
loop-left-smaller c =
    let some = c.loop-left-test.true in
    omega arith

pub returns : goal.returns
returns c =
    let past = c.loop-left-test.false in
    let end : c.loop-left.left ≡ 0 = omega arith in
    fill-all c.args.dests.now c.loop-left.left c.requires c.loop-left.entries.entries c.loop-left.invariant.filled end
