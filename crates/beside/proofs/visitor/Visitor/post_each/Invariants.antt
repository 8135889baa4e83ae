use Rattle.std.proofs.Common.{List, ◌++◌, drop, take}
use Rattle.net_data.specs.declared.events.Event.{Event}
use Rattle.desk_console.specs.Does.{CanPost}
use Rattle.beside.specs.Beside.{BesideValue, PostsEachBeside}
use Rattle.beside.specs.Seats.{TakesEach}
use Rattle.beside.proofs.visitor.Visitor.post_each.Given as goal

-- what is posted and taken from here on comes after the events so far, and the others can be posted
abbrev pub invariant-loop-event : goal.invariant-loop-event
invariant-loop-event g l = record {
  posted : (rest : List Event) (new : BesideValue) → PostsEachBeside g.N.Naming.seats l.collector rest l.self l.hub.state new → PostsEachBeside g.N.Naming.seats l.collector (take l.event-index l.events ++ rest) l.fn.self l.fn.hub.state new;
  took : (rest : List Event) (new : BesideValue) → TakesEach g.N.Naming.seats rest l.self new → TakesEach g.N.Naming.seats (take l.event-index l.events ++ rest) l.fn.self new;
  can : CanPost l.collector (drop l.event-index l.events) l.hub.state.desk;
}
