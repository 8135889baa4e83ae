use Rattle.std.proofs.Common.{◌≡◌, replicate}
use Rattle.desk_core.specs.Desk.{no_post}
use Rattle.desk_core.proofs.desk.no_posts.Given as goal

-- one for each collector so far
abbrev pub invariant-loop : goal.invariant-loop
invariant-loop l = l.lasts.items ≡ replicate l.counter no_post
