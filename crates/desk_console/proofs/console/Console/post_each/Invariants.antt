use Rattle.std.proofs.Common.{drop, take}
use Rattle.desk_console.specs.Does.{CanPost, PostsEach}
use Rattle.desk_console.proofs.console.Console.post_each.Given as goal

-- the events so far are posted, and the others can be
abbrev pub invariant-loop-event : goal.invariant-loop-event
invariant-loop-event l = record {
  posted : PostsEach 0 (take l.event-index l.events) l.fn.self l.self;
  can : CanPost 0 (drop l.event-index l.events) l.self.desk;
}
