use Rattle.std.proofs.Common.{ap, ◌∙◌, ◌≡◌, subst, refl}
use Rattle.std.specs.Prelude.{OnOk}
use Rattle.std.specs.Arc.{arc_value}
use mathlib.Core.List.{IsPrefix}
use Rattle.desk_core.specs.Desk.{accepted}
use Rattle.desk_core.specs.Steps.{Posts}
use Rattle.answers.specs.Replies.{posted_answer}
use Rattle.desk_console.specs.Does.{Calls, HasMemory}
use Rattle.versions.proofs.SeatLemmas.{did_last}
use Rattle.versions.specs.Hubs.{HubValue}
use Rattle.beside.specs.Beside.{BesideValue, DoesAt}
use Rattle.beside.specs.Seats.{CamePosting}
use Rattle.beside.proofs.BesideLemmas.{beside_of, did_count, each_ok, posted}
use Rattle.beside.proofs.visitor.Visitor.post_at.Goals as goal

pub invariant_of-self : goal.invariant_of-self
invariant_of-self g c = c.accepted-self-inside.ensures ∙ ap accepted c.desk.ensures ∙ did_count _ _ _ _ _ c.post-reply.ensures.comes

pub invariant_of-self-2 : goal.invariant_of-self-2
invariant_of-self-2 g c = c.accepted-self-inside.ensures ∙ ap accepted c.desk.ensures ∙ did_count _ _ _ _ _ c.post-reply.ensures.comes

pub returns-clause-call : goal.returns-clause-call
returns-clause-call g c =
    let found = c.args.hub.now.state in
    let left = c.post-reply.new.hub.state in
    let old = c.self.inside in
    let before : BesideValue = beside_of old.guest old.reader.chain (arc_value old.synced) old.watch in
    let new : BesideValue = beside_of c.post-reply.new.self c.tell.new.reader.chain (arc_value old.synced) old.watch in
    let shown : left.shown ≡ found.shown = ap (λ (h : HubValue). h.state.shown) c.post-reply.ensures.rest in
    let told = subst (λ r. OnOk r ((c.tell.new.reader.chain ≡ left.shown.chain) × IsPrefix old.reader.chain c.tell.new.reader.chain)) c.in_default.is c.tell.ensures.told in
    let chain = told.0 ∙ ap (λ s. s.chain) shown in
    each_ok c.answer_reply.result (λ answer. HasMemory c.post-reply.result × (answer ≡ posted_answer c.post-reply.result)) _
    (λ answer h. subst (λ (b : BesideValue). DoesAt g.N.Naming.seats (Calls (λ s. Posts s c.args.collector c.args.seq c.args.event) posted_answer) b found answer new) c.self.view_is
    (posted g.N.Naming.seats (Calls (λ s. Posts s c.args.collector c.args.seq c.args.event) posted_answer) before found left answer new refl c.post-reply.ensures.comes refl
    (subst (IsPrefix old.reader.chain) chain told.1) shown chain (refl, refl) (c.post-reply.result, c.post-reply.ensures.step, h.0, h.1, refl, refl)))
    c.answer_reply.ensures.answer

pub returns-clause-posts : goal.returns-clause-posts
returns-clause-posts g c =
    let found = c.args.hub.now.state in
    let old = c.self.inside in
    let before : BesideValue = beside_of old.guest old.reader.chain (arc_value old.synced) old.watch in
    let new : BesideValue = beside_of c.post-reply.new.self c.tell.new.reader.chain (arc_value old.synced) old.watch in
    let shown = ap (λ (h : HubValue). h.state.shown) c.post-reply.ensures.rest in
    subst (λ (b : BesideValue). CamePosting g.N.Naming.seats c.args.event b new) c.self.view_is (record {
      found = found;
      left = c.post-reply.new.hub.state;
      came = c.post-reply.ensures.comes;
      call = record { collector = c.args.collector; seq = c.args.seq; event = c.args.event; reply = c.post-reply.result; made = c.post-reply.ensures.step; shown = shown };
      posted = refl;
      seen = c.tell.ensures.seen;
    })

pub returns-in-Err-clause-posts : goal.returns-in-Err-clause-posts
returns-in-Err-clause-posts g c =
    let found = c.args.hub.now.state in
    let old = c.self.inside in
    let before : BesideValue = beside_of old.guest old.reader.chain (arc_value old.synced) old.watch in
    let new : BesideValue = beside_of c.post-reply.new.self c.tell.new.reader.chain (arc_value old.synced) old.watch in
    let shown = ap (λ (h : HubValue). h.state.shown) c.post-reply.ensures.rest in
    subst (λ (b : BesideValue). CamePosting g.N.Naming.seats c.args.event b new) c.self.view_is (record {
      found = found;
      left = c.post-reply.new.hub.state;
      came = c.post-reply.ensures.comes;
      call = record { collector = c.args.collector; seq = c.args.seq; event = c.args.event; reply = c.post-reply.result; made = c.post-reply.ensures.step; shown = shown };
      posted = refl;
      seen = c.tell.ensures.seen;
    })

pub returns-clause-left : goal.returns-clause-left
returns-clause-left g c = did_last _ _ _ _ _ c.post-reply.ensures.comes

pub returns-in-Err-clause-left : goal.returns-in-Err-clause-left
returns-in-Err-clause-left g c = did_last _ _ _ _ _ c.post-reply.ensures.comes
