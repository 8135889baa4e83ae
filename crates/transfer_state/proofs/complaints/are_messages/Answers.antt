use Rattle.std.proofs.Common.{◌≡◌, ◌∙◌, ◌∷◌, List, ℕ, ap, sym, cond, eqb, false, map, not}
use Rattle.std.specs.Prelude.{filter}
use Rattle.link_sets.specs.Neighbours.{neighbours}
use Rattle.excerpts.specs.Around.{neighbours_left}
use Rattle.profile.specs.Local.{message}
use Rattle.profile.specs.declared.tables.Message.{Message}
use Rattle.transfer_state.proofs.MatchLemmas.{all_left, same_left}
use Rattle.transfer_state.proofs.complaints.are_messages.Goals as goal

pub loop-z-init : goal.loop-z-init
loop-z-init c =
    let told : List ℕ → List Message = λ (zs : List ℕ). map (λ z. record { kind = message c.args.choice.now z; to = z }) (filter (λ z. not (eqb z c.args.e.now.plan.dest)) zs) in
    let around : neighbours_left c.into_iter-z-iterator.result ≡ neighbours c.args.e.now.network.sets c.args.row.now.point
    = ap neighbours_left c.into_iter-z-iterator.ensures.into_iter_gives ∙ c.neighbours-z-items.ensures in
    all_left c.args.messages.now (told (neighbours c.args.e.now.network.sets c.args.row.now.point)) (told (neighbours_left c.into_iter-z-iterator.result)) (ap told around)

-- the destination is told nothing
pub loop-z-preserved : goal.loop-z-preserved
loop-z-preserved c =
    let z = c.in-Some.z in
    let own : ℕ → Message = λ z. record { kind = message c.args.choice.now z; to = z } in
    let others : List ℕ → List ℕ = filter (λ z. not (eqb z c.args.e.now.plan.dest)) in
    let told : List ℕ → List Message = λ (zs : List ℕ). map own (others zs) in
    let before : List ℕ = neighbours_left c.loop-z.z-iterator in
    let after : List ℕ = neighbours_left c.next.new.self in
    let other : not (eqb z c.args.e.now.plan.dest) ≡ false = ap (λ x. not (eqb z x)) (sym c.dest.ensures) ∙ sym c.ne.ensures ∙ c.if-ne.false in
    let same : told before ≡ told after = ap told c.in-Some.ensures.steps ∙ ap (λ b. map own (cond b (z ∷ others after) (others after))) other in
    same_left c.args.messages.now (told (neighbours c.args.e.now.network.sets c.args.row.now.point)) c.loop-z.left.now (told before) (told after) same c.loop-z.invariant
