use Rattle.std.proofs.Common.{◌≡◌, ◌<◌, ℕ, Bool, List, Ok, refl, true, false, take, sum, arith, ap, sym, ◌∙◌, subst}
use Rattle.std.specs.List.{All}
use Rattle.std.proofs.lemmas.List.{take_all}
use Rattle.std.proofs.lemmas.List.Elements.{All-more}
use Rattle.plan_ranks.specs.declared.needs.Need.{Need}
use Rattle.plan_ranks.specs.Ranks.{IsMet, IsBelow}
use Rattle.plan_ranks.proofs.ranks.raise.Goals as goal
use Rattle.plan_ranks.proofs.ranks.raise.Goals.{then-branch, else-branch}

below_through : (a b d : List ℕ) → IsBelow a b → IsBelow b d → IsBelow a d
below_through a b d h1 h2 = λ k. omega (arith, h1 k, h2 k)

rose_through : (b : Bool) (a m n : List ℕ) → (b ≡ true → sum a < sum m) → (b ≡ false → m ≡ a) → sum m < sum n → sum a < sum n
rose_through true a m n rose same h = let h2 = rose refl in omega (arith, h2)
rose_through false a m n rose same h = subst (λ rs. sum rs < sum n) (same refl) h

pub loop-need-preserved : goal.loop-need-preserved
loop-need-preserved c =
    let e = c.in_ok-raise_one.ensures in
    let none : Need = record { upper = 0; lower = 0; by = 0 } in
    let i = c.loop-need.need-index in
    let up = below_through c.args.ranks.now c.loop-need.ranks c.raise_one.new.ranks c.loop-need.invariant.above e.above in
    let under = λ (others : List ℕ) (met : All (IsMet others) c.args.needs.now) (h : IsBelow c.args.ranks.now others).
    e.below others (met i none c.loop-need-test.true) (c.loop-need.invariant.below others met h) in
    elim c.if-branch.branch [
      | then-branch w ↦
          let more : sum c.loop-need.ranks < sum c.raise_one.new.ranks = e.rose (ap Ok w.if-branch.true) in
          record {
            above = up;
            below = under;
            rose = λ t. rose_through c.loop-need.rose c.args.ranks.now c.loop-need.ranks c.raise_one.new.ranks c.loop-need.invariant.rose c.loop-need.invariant.same more;
            same = λ t. absurd (cc (t, w.rose-is));
            met = λ t. absurd (cc (t, w.rose-is));
          }
      | else-branch w ↦
          let same : c.raise_one.new.ranks ≡ c.loop-need.ranks = e.same (ap Ok w.if-branch.false) in
          record {
            above = up;
            below = under;
            rose = λ t. subst (λ rs. sum c.args.ranks.now < sum rs) (sym same) (c.loop-need.invariant.rose (sym w.rose-is ∙ t));
            same = λ t. same ∙ c.loop-need.invariant.same (sym w.rose-is ∙ t);
            met = λ t. All-more (IsMet c.raise_one.new.ranks) c.args.needs.now i none c.loop-need-test.true
                (subst (λ rs. All (IsMet rs) (take i c.args.needs.now)) (sym same) (c.loop-need.invariant.met (sym w.rose-is ∙ t)))
                (e.met (ap Ok w.if-branch.false));
          }
    ]

pub returns-clause-met : goal.returns-clause-met
returns-clause-met c = λ t. subst (All (IsMet c.loop-need.ranks)) (take_all c.loop-need.need-index c.args.needs.now c.loop-need-test.false) (c.loop-need.invariant.met (cc t))
