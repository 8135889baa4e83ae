use Rattle.std.proofs.Common.{◌∙◌, ap, length, refl, subst, sym}
use Rattle.std.specs.Prelude.{if◌then◌else◌}
use Rattle.seats.specs.Minutes.{MinutesValue, SeatValue, sight}
use Rattle.versions.specs.Hubs.{HubValue}
use Rattle.versions.specs.Authors.{taken_between}
use Rattle.versions.specs.Working.{ComesAndDoes, IsHistory, left_at}
use Rattle.versions.specs.declared.state.DeskAndChain.{DeskAndChain}
use Rattle.versions.proofs.AuthorLemmas.{none_between, posted_between}
use Rattle.versions.proofs.KeptLemmas.{posted}
use Rattle.versions.proofs.SeatLemmas.{by_post, came, comes_done, guest_done, kept_done, left_push}
use Rattle.versions.proofs.guests.Guest.post.Goals as goal

pub see-requires-clause-more : goal.see-requires-clause-more
see-requires-clause-more g c = none_between _ _ c.hub.invariant.2.0.since

pub see-requires-2-clause-history : goal.see-requires-2-clause-history
see-requires-2-clause-history g c =
    let agreed = c.hub.invariant.2.0 in
    subst IsHistory (sym (ap (λ (m : MinutesValue DeskAndChain). m.log) c.see.ensures.minutes)) (came _ _ _ agreed.history agreed.since)

pub see-requires-2-clause-more : goal.see-requires-2-clause-more
see-requires-2-clause-more g c =
    let found = c.hub.inside.state in
    let left : DeskAndChain = record { desk = c.post-reply.new.self; shown = found.shown } in
    ap (λ (m : MinutesValue DeskAndChain). length (taken_between (left_at m.log) left)) c.see.ensures.minutes
    ∙ ap (λ (s : DeskAndChain). length (taken_between s left)) (left_push c.hub.inside.posters.log (sight c.self.inside.seat.me found))
    ∙ posted_between found left c.args.collector c.args.seq c.args.event c.post-reply.result c.post-reply.ensures.step refl
    ∙ ap (λ b. if b then 1 else 0) (sym c.is_taken-is_more.ensures)

pub invariant_of-self : goal.invariant_of-self
invariant_of-self g c = (
  guest_done _ _ _ _ c.hub.invariant.2.0 _ (record { desk = c.post-reply.new.self; shown = c.hub.inside.state.shown }) (by_post _ _ c.args.collector c.args.seq c.args.event c.post-reply.result c.post-reply.ensures.step refl) _ _ _ _ c.see.ensures.minutes c.see.ensures.seat c.see-2.ensures.minutes c.see-2.ensures.seat c.self.invariant.0,
  c.self.invariant.1 ∙ ap (λ (s : SeatValue DeskAndChain). s.me) (sym c.see.ensures.seat) ∙ ap (λ (s : SeatValue DeskAndChain). s.me) (sym c.see-2.ensures.seat),
)

pub invariant_of-hub : goal.invariant_of-hub
invariant_of-hub g c = (
  c.hub.invariant.0,
  posted _ _ _ _ c.hub.invariant.1 c.args.collector c.args.seq c.args.event c.post-reply.result refl c.steady.ensures c.post-reply.ensures.step,
  kept_done _ _ _ _ c.hub.invariant.2.0 c.self.inside.seat (record { desk = c.post-reply.new.self; shown = c.hub.inside.state.shown }) (by_post _ _ c.args.collector c.args.seq c.args.event c.post-reply.result c.post-reply.ensures.step refl) _ _ _ _ c.see.ensures.minutes c.see.ensures.seat c.see-2.ensures.minutes c.see-2.ensures.seat,
)

pub returns-clause-comes : goal.returns-clause-comes
returns-clause-comes g c =
    let left : DeskAndChain = record { desk = c.post-reply.new.self; shown = c.hub.inside.state.shown } in
    subst (λ (s : SeatValue DeskAndChain). ComesAndDoes g.N.Naming.seats s c.args.hub.now.state left c.see-2.new.seat) c.self.view_is
    (subst (λ (h : HubValue). ComesAndDoes g.N.Naming.seats c.self.inside.seat h.state left c.see-2.new.seat) c.hub.view_is
    (comes_done _ _ _ _ c.hub.invariant.2.0 _ left (by_post _ _ c.args.collector c.args.seq c.args.event c.post-reply.result c.post-reply.ensures.step refl) _ _ _ _ c.see.ensures.minutes c.see.ensures.seat c.see-2.ensures.minutes c.see-2.ensures.seat c.see.ensures.found c.see.ensures.seats))
