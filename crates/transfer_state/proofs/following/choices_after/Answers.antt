use Rattle.std.proofs.Common.{◌≡◌, ap, sym, ◌∙◌, arith, length}
use Rattle.std.proofs.lemmas.Bool.{eqb-true}
use Rattle.transfer_state.specs.Routing.{ChoicesValue, IsChosen}
use Rattle.transfer_state.proofs.FollowLemmas.{kept_whole, obeys_after}
use Rattle.transfer_state.proofs.following.choices_after.Goals as goal

-- those before stay, if none is marked
pub returns-then-is_empty : goal.returns-then-is_empty
returns-then-is_empty c =
    let empty : length c.in_ok-marks.marks.items ≡ 0 = omega (arith, eqb-true _ _ (sym c.is_empty.ensures ∙ c.if-is_empty.true)) in
    let was : IsChosen c.args.before.now c.args.choices.now.kept = ap (λ (k : ChoicesValue). k.kept) c.requires.settled in
    let now : IsChosen c.args.e.now c.args.choices.now.kept = kept_whole c.args.before.now c.args.e.now c.validity-2.ensures c.validity.ensures c.args.turned.now c.requires.dest c.requires.turned _ was c.in_ok-marks.marks.items empty c.in_ok-marks.ensures.marked in
    c.in_ok-share.ensures
    ∙ ap (λ n. record { dest = n; kept = c.args.choices.now.kept }) (ap (λ (k : ChoicesValue). k.dest) c.requires.settled ∙ sym c.requires.dest)
    ∙ ap (λ ks. record { dest = c.args.e.now.plan.dest; kept = ks }) now

pub followed-requires-clause-obey : goal.followed-requires-clause-obey
followed-requires-clause-obey c =
    rw c.as_slice.ensures
    (obeys_after c.args.before.now c.args.e.now c.validity-2.ensures c.validity.ensures c.args.turned.now c.requires.dest c.requires.turned _ (ap (λ (k : ChoicesValue). k.kept) c.requires.settled) c.in_ok-marks.marks.items c.in_ok-marks.ensures.marked)
