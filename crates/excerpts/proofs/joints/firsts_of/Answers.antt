use Rattle.std.proofs.Common.{◌≡◌, ◌+◌, ◌∷◌, [], ap, ◌∙◌, arith, length-append}
use Rattle.excerpts.proofs.FirstLemmas.{firsts_push}
use Rattle.excerpts.proofs.joints.firsts_of.Goals as goal

pub loop-y-preserved : goal.loop-y-preserved
loop-y-preserved c =
    let l = c.loop-y in
    let first = c.first_from-at.ensures in
    rw c.in_ok-push.ensures.items (record {
      long = length-append l.firsts.items (c.first_from-at.result ∷ []) ∙ ap (λ n. n + 1) l.invariant.long;
      right = firsts_push c.args.joints.now l.firsts.items l.y c.first_from-at.result l.invariant.long l.invariant.right first;
      within = first.within;
      less = λ k d low lt. omega (arith, first.parts.0 k d low lt);
    })

pub returns : goal.returns
returns c =
    let l = c.loop-y in
    let all : l.y ≡ 16385 = omega arith in
    record { long = l.invariant.long ∙ all; right = λ y low. l.invariant.right y (omega arith) }
