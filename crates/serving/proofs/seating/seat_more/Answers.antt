use Rattle.std.proofs.Common.{◌≡◌, ◌∙◌, ◌+◌, ◌<◌, ◌++◌, ◌∷◌, [], ap, arith, length, subst, sym}
use Rattle.std.specs.Prelude.{slice_index_or, vec_len}
use Rattle.beside.specs.Beside.{newcomer}
use Rattle.seats.specs.Minutes.{SeatValue}
use Rattle.versions.specs.declared.state.DeskAndChain.{DeskAndChain}
use Rattle.serving.specs.Sittings.{AreSeatedTo, SeatsLast, seat_at}
use Rattle.serving.proofs.ListLemmas.{front_at, last_at, seated_step}
use Rattle.serving.proofs.seating.seat_more.Goals as goal

pub loop-seat-preserved : goal.loop-seat-preserved
loop-seat-preserved g c =
    let was = c.loop-seat.invariant in
    let left = c.pop.new.self in
    let seat : SeatValue DeskAndChain = c.in-Some.seat in
    let state : DeskAndChain = c.args.hub.now.state in
    let table = g.N.Naming.table in
    let items = c.in-Some.ensures.items in
    let count : vec_len left + 1 ≡ vec_len c.loop-seat.seats = c.in-Some.ensures.cases in
    let ok : vec_len left ≡ length left.items = left.ok.0 in
    let seat_is : seat ≡ seat_at table state (vec_len left + 1) =
    sym (last_at left.items seat seat) ∙ ap (λ n. slice_index_or (left.items ++ seat ∷ []) n seat) (sym ok) ∙ ap (λ l. slice_index_or l (vec_len left) seat) (sym items) ∙ was.0 (vec_len left) seat (omega arith) in
    let before : AreSeatedTo ((vec_len left + 1) + 1) table state c.args.channels.now.items c.loop-seat.channels.items c.loop-seat.sittings.items =
    subst (λ n. AreSeatedTo (n + 1) table state c.args.channels.now.items c.loop-seat.channels.items c.loop-seat.sittings.items) (sym count) was.1 in
    let last = subst (λ (s : SeatValue DeskAndChain). SeatsLast (newcomer s state) c.loop-seat.channels.items c.seat_last.new.channels.items c.loop-seat.sittings.items c.seat_last.new.sittings.items)
    (c.over-guest.ensures ∙ seat_is) c.in_default-seat_last.ensures.seated in (
      (λ j d low.
          let low_items : j < length left.items = omega arith in
          let low_old : j < vec_len c.loop-seat.seats = omega arith in
          sym (front_at left.items (seat ∷ []) j d low_items) ∙ ap (λ l. slice_index_or l j d) (sym items) ∙ was.0 j d low_old),
      seated_step (vec_len left + 1) table state _ _ _ _ _ before last,
    )
