use Rattle.std.proofs.Common.{◌∙◌, ap, subst, sym}
use Rattle.seats.specs.Minutes.{SeatValue}
use Rattle.versions.specs.Hubs.{HubValue}
use Rattle.versions.specs.Working.{Comes}
use Rattle.versions.specs.declared.state.DeskAndChain.{DeskAndChain}
use Rattle.versions.proofs.AuthorLemmas.{none_between}
use Rattle.versions.proofs.SeatLemmas.{comes, guest_seen, kept_seen}
use Rattle.versions.proofs.guests.Guest.visit.Goals as goal

pub see-requires-clause-more : goal.see-requires-clause-more
see-requires-clause-more g c = none_between _ _ c.hub.invariant.2.0.since

pub invariant_of-self : goal.invariant_of-self
invariant_of-self g c = (guest_seen _ _ _ _ c.hub.invariant.2.0 _ _ c.see.ensures.seat c.self.invariant.0, c.self.invariant.1 ∙ ap (λ (s : SeatValue DeskAndChain). s.me) (sym c.see.ensures.seat))

pub invariant_of-hub : goal.invariant_of-hub
invariant_of-hub g c = (c.hub.invariant.0, c.hub.invariant.1, kept_seen _ _ _ _ c.hub.invariant.2.0 c.self.inside.seat _ c.see.ensures.minutes)

pub returns-clause-comes : goal.returns-clause-comes
returns-clause-comes g c =
    subst (λ (s : SeatValue DeskAndChain). Comes g.N.Naming.seats s c.args.hub.now.state c.see.new.seat) c.self.view_is
    (subst (λ (h : HubValue). Comes g.N.Naming.seats c.self.inside.seat h.state c.see.new.seat) c.hub.view_is
    (comes _ _ _ _ c.hub.invariant.2.0 _ _ c.see.ensures.found c.see.ensures.seats c.see.ensures.seat))
