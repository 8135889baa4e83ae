use Rattle.std.proofs.Common.{subst}
use Rattle.beside.specs.Beside.{newcomer}
use Rattle.seats.specs.Minutes.{SeatValue}
use Rattle.versions.specs.declared.state.DeskAndChain.{DeskAndChain}
use Rattle.serving.specs.Sittings.{SeatsLast}
use Rattle.serving.proofs.ListLemmas.{seated_all, seated_step}
use Rattle.serving.proofs.seating.seat_all.Goals as goal

pub returns-clause-seated : goal.returns-clause-seated
returns-clause-seated g c =
    let state : DeskAndChain = c.args.hub.now.state in
    let last = subst (λ (s : SeatValue DeskAndChain). SeatsLast (newcomer s state) c.seat_more.new.channels.items c.seat_last.new.channels.items c.seat_more.new.sittings.items c.seat_last.new.sittings.items)
    c.requires.first c.in_default-seat_last.ensures.seated in
    seated_all g.N.Naming.table state c.args.channels.items c.seat_last.new.channels.items c.seat_last.new.sittings.items
    (seated_step 0 g.N.Naming.table state c.args.channels.items c.seat_more.new.channels.items _ _ _ c.in_default.ensures.seated last)
