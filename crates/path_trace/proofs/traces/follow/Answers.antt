use Rattle.std.proofs.Common.{◌≡◌, arith, false, eqb, List, sym, ap, ◌∙◌, ◌-◌}
use Rattle.profile.specs.declared.hops.Hop.{Hop}
use Rattle.profile.specs.Status.{Source}
use Rattle.excerpts.specs.Excerpt.{source_of}
use Rattle.profile.specs.Traces.{hops_within}
use Rattle.profile.proofs.HopLemmas.{hops_at_dest, hops_end}
use Rattle.std.proofs.lemmas.Bool.{not-true, not-false}
use Rattle.path_trace.proofs.FollowingLemmas.{after, after_none, after_all, one_more, stopped}
use Rattle.path_trace.proofs.traces.follow.Goals as goal

pub overflow_mul-left : goal.overflow_mul-left
overflow_mul-left c = rw c.from-left.ensures (omega arith)

pub loop-dest-init : goal.loop-dest-init
loop-dest-init c = rw (c.new-hops.ensures.items, c.from-left.ensures) (after_none _)

pub loop-dest-preserved : goal.loop-dest-preserved
loop-dest-preserved c =
    let src : Source = source_of c.args.routing.now.excerpt in
    let apart : eqb c.loop-dest.point src.dest ≡ false = ap (eqb c.loop-dest.point) (sym c.dest-dest.ensures) ∙ not-true _ (sym c.loop-dest-test.ensures) in
    ap (λ (hops : List Hop). after hops (hops_within src (c.loop-dest.left - 1) c.in-Some.hop.to c.args.s)) c.in_ok-push.ensures.items
    ∙ one_more src c.loop-dest.hops.items c.loop-dest.left c.loop-dest.point c.args.s c.in-Some.hop apart c.if-left-eq0.false (sym c.in-Some.ensures)
    ∙ c.loop-dest.invariant

pub returns-then-left-eq0 : goal.returns-then-left-eq0
returns-then-left-eq0 c =
    let src : Source = source_of c.args.routing.now.excerpt in
    let apart : eqb c.loop-dest.point src.dest ≡ false = ap (eqb c.loop-dest.point) (sym c.dest-dest.ensures) ∙ not-true _ (sym c.loop-dest-test.ensures) in
    sym (ap (after c.loop-dest.hops.items) (ap (λ n. hops_within src n c.loop-dest.point c.args.s) c.if-left-eq0.true ∙ hops_end src c.loop-dest.point c.args.s apart)) ∙ c.loop-dest.invariant

pub returns-in-None : goal.returns-in-None
returns-in-None c =
    let src : Source = source_of c.args.routing.now.excerpt in
    let apart : eqb c.loop-dest.point src.dest ≡ false = ap (eqb c.loop-dest.point) (sym c.dest-dest.ensures) ∙ not-true _ (sym c.loop-dest-test.ensures) in
    sym (ap (after c.loop-dest.hops.items) (stopped src c.loop-dest.left c.loop-dest.point c.args.s apart (sym c.in-None.ensures))) ∙ c.loop-dest.invariant

pub returns : goal.returns
returns c =
    let src : Source = source_of c.args.routing.now.excerpt in
    let there = ap (eqb c.loop-dest.point) (sym c.dest-dest.ensures) ∙ not-false _ (sym c.loop-dest-test.ensures) in
    after_all c.loop-dest.hops.items _ c.from_vec.ensures ∙ sym (ap (after c.loop-dest.hops.items) (hops_at_dest src c.loop-dest.left c.loop-dest.point c.args.s there)) ∙ c.loop-dest.invariant
