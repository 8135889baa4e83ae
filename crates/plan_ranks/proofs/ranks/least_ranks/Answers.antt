use Rattle.std.proofs.Common.{◌≡◌, ◌++◌, take, drop, length, replicate, ◌∙◌, ap, arith}
use Rattle.std.proofs.Math.Seq.{take-append_seam}
use Rattle.plan_ranks.specs.Ranks.{needs_of}
use Rattle.plan_ranks.proofs.NeedLemmas.{needs_within, least_made, none_made, many_ones}
use Rattle.plan_ranks.proofs.ranks.least_ranks.Goals as goal

pub settle-requires : goal.settle-requires
settle-requires c =
    let points = c.args.net.now.points in
    let rows = c.args.rows.now in
    let needs : c.as_slice.result.now ≡ needs_of points c.args.dest rows = c.as_slice.ensures.value ∙ (c.in_ok-needs.ensures ∙ ap (λ ps. needs_of ps c.args.dest rows) c.points-points.ensures) in
    let size : length c.as_mut_slice.result.now ≡ length rows = omega (arith, c.in_ok-ranks.ensures.len) in
    rw (needs, size) (needs_within points c.args.dest rows)

pub returns-in-Ok-clause-ok : goal.returns-in-Ok-clause-ok
returns-in-Ok-clause-ok c =
    let points = c.args.net.now.points in
    let rows = c.args.rows.now in
    let needs : c.as_slice.result.now ≡ needs_of points c.args.dest rows = c.as_slice.ensures.value ∙ (c.in_ok-needs.ensures ∙ ap (λ ps. needs_of ps c.args.dest rows) c.points-points.ensures) in
    let ones : c.as_mut_slice.result.now ≡ replicate (length rows) 1 = c.as_mut_slice.ensures.value ∙ c.in_ok-ranks.ensures.items_if_clones_equal (λ y h. h) in
    let size : length c.settle.new.ranks ≡ length c.as_mut_slice.result.now = omega arith in
    let many : c.in_ok-ranks.ranks.len ≡ length c.settle.new.ranks = omega (arith, many_ones rows, ap length ones) in
    let whole : take c.in_ok-ranks.ranks.len (c.settle.new.ranks ++ drop (length c.settle.new.ranks) c.in_ok-ranks.ranks.items) ≡ c.settle.new.ranks = ap (λ n. take n (c.settle.new.ranks ++ drop (length c.settle.new.ranks) c.in_ok-ranks.ranks.items)) many ∙ take-append_seam c.settle.new.ranks (drop (length c.settle.new.ranks) c.in_ok-ranks.ranks.items) in
    rw whole (least_made points c.args.dest rows c.as_mut_slice.result.now c.settle.new.ranks c.as_slice.result.now needs ones size c.in-Ok.ensures.small c.in-Ok.ensures.above c.in-Ok.ensures.below c.in-Ok.ensures.met)

pub rank_fault-requires-clause-none : goal.rank_fault-requires-clause-none
rank_fault-requires-clause-none c =
    let points = c.args.net.now.points in
    let rows = c.args.rows.now in
    let needs : c.as_slice.result.now ≡ needs_of points c.args.dest rows = c.as_slice.ensures.value ∙ (c.in_ok-needs.ensures ∙ ap (λ ps. needs_of ps c.args.dest rows) c.points-points.ensures) in
    let ones : c.as_mut_slice.result.now ≡ replicate (length rows) 1 = c.as_mut_slice.ensures.value ∙ c.in_ok-ranks.ensures.items_if_clones_equal (λ y h. h) in
    rw c.points-points.ensures (none_made points c.args.dest rows c.as_mut_slice.result.now c.in-Err.start c.as_slice.result.now needs ones c.in-Err.ensures.err)
