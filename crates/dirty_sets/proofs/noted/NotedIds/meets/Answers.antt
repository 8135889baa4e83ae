use Rattle.std.proofs.Common.{◌≡◌, Bool, true, false, ◌&&◌, refl, ap, sym, ◌∙◌, inl, inr, arith}
use Rattle.std.proofs.lemmas.Bool.{cases_eq}
use Rattle.dirty_sets.specs.Bits.{is_marked, meets}
use Rattle.dirty_sets.proofs.BitLemmas.{meets-none, meets-some, within-none}
use Rattle.dirty_sets.proofs.noted.NotedIds.meets.Goals.{else-has-via-then-has+else-has-2, else-has-via-else-has}
use Rattle.dirty_sets.proofs.noted.NotedIds.meets.Goals as goal

pub loop-id-init : goal.loop-id-init
loop-id-init c = λ n low high. absurd (omega (arith, low, high))

pub returns-then-has-2 : goal.returns-then-has-2
returns-then-has-2 c =
    sym (meets-some c.self.inside.ids c.args.other.now c.loop-id.id (sym c.has.ensures ∙ c.if-has.true) (sym c.has-then-has.ensures ∙ c.if-has-2.true))
    ∙ ap (λ xs. meets xs c.args.other.now) c.self.view_is

and_false : (a : Bool) → (a && false) ≡ false
and_false true = refl
and_false false = refl

pub loop-id-preserved : goal.loop-id-preserved
loop-id-preserved c =
    let ids = c.self.inside.ids in
    let others = c.args.other.now in
    let here : (is_marked ids c.loop-id.id && is_marked others c.loop-id.id) ≡ false =
    elim c.else-has.branch [
      | else-has-via-then-has+else-has-2 w ↦ ap (λ b. is_marked ids c.loop-id.id && b) (sym w.has-then-has.ensures ∙ w.if-has-2.false) ∙ and_false (is_marked ids c.loop-id.id)
      | else-has-via-else-has w ↦ ap (λ b. b && is_marked others c.loop-id.id) (sym c.has.ensures ∙ w.if-has.false)
    ]
    in
    λ n low high. elim (cases_eq n c.loop-id.id) [
      | inl e ↦ ap (λ k. is_marked ids k && is_marked others k) e ∙ here
      | inr other ↦ c.loop-id.invariant n low (omega (arith, high, other))
    ]

pub returns : goal.returns
returns c =
    sym (meets-none c.self.inside.ids c.args.other.now (within-none c.self.inside.ids c.args.other.now c.self.inside.from c.self.inside.to c.loop-id.id c.self.invariant (omega (arith, c.loop-id-test.false)) c.loop-id.invariant))
    ∙ ap (λ xs. meets xs c.args.other.now) c.self.view_is
