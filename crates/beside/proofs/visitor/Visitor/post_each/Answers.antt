use Rattle.std.proofs.Common.{◌+◌, ◌++◌, List, [], ◌∷◌, take, drop, inl, refl, sym, subst, append-nil}
use Rattle.net_data.specs.declared.events.Event.{Event}
use Rattle.versions.specs.declared.state.DeskAndChain.{DeskAndChain}
use Rattle.desk_console.specs.Does.{CanPost}
use Rattle.beside.specs.Beside.{PostsEachBeside}
use Rattle.beside.specs.Seats.{TakesEach}
use Rattle.beside.proofs.WholeLemmas.{all_front, can_first, ended, first_ones, front_more, one_does, one_takes, others_can, stays_itself}
use Rattle.beside.proofs.visitor.Visitor.post_each.Goals as goal

pub returns-in_err-post_one-clause-took : goal.returns-in_err-post_one-clause-took
returns-in_err-post_one-clause-took g c =
    let l = c.loop-event in
    let e = ended g.N.Naming.seats c.event-item.result l.self c.post_one.new.self c.post_one.ensures.goes in (
      take l.event-index c.args.events.now ++ e.0,
      first_ones c.args.events.now l.event-index c.event-item.result c.loop-event-test.true c.event-item.is e.0 e.1,
      l.invariant.took e.0 c.post_one.new.self e.2,
    )

pub loop-event-preserved : goal.loop-event-preserved
loop-event-preserved g c =
    let l = c.loop-event in
    let seats = g.N.Naming.seats in
    let events = c.args.events.now in
    let event = c.event-item.result in
    let others = drop (l.event-index + 1) events in
    let new = c.post_one.new.self in
    let one = c.in_ok-post_one.ensures.posted in
    let left = c.in_ok-post_one.ensures.left in
    let can = can_first events l.event-index event c.loop-event-test.true c.event-item.is c.args.collector l.hub.state.desk l.invariant.can in
    let does = one_does seats c.args.collector event others l.self l.hub.state one.0 new can one.1 in
    let takes = one_takes seats c.args.collector event others l.self l.hub.state one.0 new can one.1 in
    let more = front_more events l.event-index event c.loop-event-test.true c.event-item.is in record {
      posted = λ rest end posts.
          subst (λ (es : List Event). PostsEachBeside seats c.args.collector es c.args.self.now c.args.hub.now.state end) (sym (more rest))
          (l.invariant.posted (event ∷ rest) end (new, does, subst (λ (s : DeskAndChain). PostsEachBeside seats c.args.collector rest new s end) (sym left) posts));
      took = λ rest end is. subst (λ (es : List Event). TakesEach seats es c.args.self.now end) (sym (more rest)) (l.invariant.took (event ∷ rest) end (new, takes, is));
      can = subst (λ (s : DeskAndChain). CanPost c.args.collector others s.desk) left (others_can seats c.args.collector event others l.self l.hub.state one.0 new can one.1);
    }

pub returns-clause-posted : goal.returns-clause-posted
returns-clause-posted g c =
    let l = c.loop-event in
    subst (λ (es : List Event). PostsEachBeside g.N.Naming.seats c.args.collector es c.args.self.now c.args.hub.now.state l.self) (all_front c.args.events.now l.event-index c.loop-event-test.false) (l.invariant.posted [] l.self refl)

pub returns-clause-took : goal.returns-clause-took
returns-clause-took g c =
    let l = c.loop-event in (
      c.args.events.now,
      ([], append-nil c.args.events.now),
      subst (λ (es : List Event). TakesEach g.N.Naming.seats es c.args.self.now l.self) (all_front c.args.events.now l.event-index c.loop-event-test.false) (l.invariant.took [] l.self (inl (stays_itself l.self))),
    )
