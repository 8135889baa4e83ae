use Rattle.std.proofs.Common.{◌≡◌, ◌∙◌, ◌+◌, arith, subst}
use Rattle.std.specs.Prelude.{vec_len}
use Rattle.versions.specs.Hubs.{HistoryValue}
use Rattle.serving.specs.Sittings.{IsEndOf}
use Rattle.serving.proofs.ListLemmas.{ended_step}
use Rattle.serving.proofs.ends.end_all.Goals as goal

pub loop-sitting-preserved : goal.loop-sitting-preserved
loop-sitting-preserved g c =
    let was = c.loop-sitting.invariant in
    let room = was.2 in
    let more = c.push_reserved.ensures.len in
    let same = c.push_reserved.ensures.capacity in
    let less : vec_len c.pop.new.self + 1 ≡ vec_len c.loop-sitting.sittings = c.in-Some.ensures.cases in (
      c.ended.ensures.same ∙ was.0,
      ended_step _ _ _ _ _ _ _ _ c.in-Some.sitting c.ended.result was.1 c.in-Some.ensures.items c.push_reserved.ensures.items
          (subst (λ (h : HistoryValue). IsEndOf g.N.Naming.seats h.log h.state c.in-Some.sitting c.ended.result) was.0 c.ended.ensures.end),
      omega arith,
    )
