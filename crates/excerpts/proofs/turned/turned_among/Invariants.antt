-- the events so far
use Rattle.std.proofs.Common.{◌≡◌, ℕ, take, true}
use Rattle.excerpts.specs.Turned.{is_named, HasTold}
use Rattle.excerpts.proofs.turned.turned_among.Given as goal

abbrev pub invariant-loop-event : goal.invariant-loop-event
invariant-loop-event l = (id : ℕ) → is_named (take l.event-index l.events) id ≡ true → HasTold l.before l.sets l.list.items id
