use Rattle.std.proofs.Common.{◌≡◌, ◌∙◌, ℕ, Vec, Global, sym, subst, true, take, ◌+◌}
use Rattle.excerpts.specs.declared.turned.Pair.{Pair}
use Rattle.excerpts.specs.Turned.{is_named, HasTold}
use Rattle.excerpts.proofs.LinkedLemmas.{named_none, named_more, named_all}
use Rattle.excerpts.proofs.turned.turned_among.Goals as goal
use Rattle.excerpts.proofs.turned.turned_among.Goals.{in-Some+in_ok-put_named, in_default}

pub loop-event-preserved : goal.loop-event-preserved
loop-event-preserved c = elim c.match-linked.branch [
  | in-Some+in_ok-put_named w ↦
      subst (λ (list : Vec Pair Global). (id : ℕ) → is_named (take (c.loop-event.event-index + 1) c.args.events.now) id ≡ true → HasTold c.args.before.now c.args.sets.now list.items id) (sym w.list-is)
      (named_more c.args.before.now c.args.sets.now c.loop-event.list.items w.put_named.new.list.items c.args.events.now c.loop-event.event-index c.event-item.result w.in-Some.id c.loop-event-test.true c.event-item.result c.event-item.is
      (sym c.linked.ensures ∙ w.in-Some.is) w.in_ok-put_named.ensures.kept w.in_ok-put_named.ensures.told c.loop-event.invariant)
  | in_default w ↦
      subst (λ (list : Vec Pair Global). (id : ℕ) → is_named (take (c.loop-event.event-index + 1) c.args.events.now) id ≡ true → HasTold c.args.before.now c.args.sets.now list.items id) (sym w.list-is)
      (named_none c.args.before.now c.args.sets.now c.loop-event.list.items c.args.events.now c.loop-event.event-index c.event-item.result c.loop-event-test.true c.event-item.result c.event-item.is
      (sym c.linked.ensures ∙ w.in_default.is) c.loop-event.invariant)
]

pub returns : goal.returns
returns c = named_all c.args.before.now c.args.sets.now c.loop-event.list.items c.args.events.now c.loop-event.event-index c.loop-event-test.false c.loop-event.invariant
