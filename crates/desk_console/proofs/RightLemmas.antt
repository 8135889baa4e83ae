-- After each line the version that stands is the right one.
use Rattle.std.proofs.Common.{◌≡◌, ℕ, List, [], ◌++◌, refl, sym, subst}
use Rattle.net_data.specs.declared.events.Event.{Event}
use Rattle.net_data.specs.Network.{Network}
use Rattle.desk_core.specs.Desk.{DeskValue, new_desk}
use Rattle.desk_core.specs.Runs.{IsRightVersion, IsRunOf, IsSteadyDesk, first_numbers, numbers_after}
use Rattle.desk_core.proofs.RunLemmas.{right_after, run_none, run_then}
use Rattle.answers.specs.declared.answer.Answer.{Answer}
use Rattle.desk_console.specs.Commands.{Commands}
use Rattle.desk_console.specs.Console.{ConsoleValue, opening}
use Rattle.desk_console.specs.Right.{IsRightDesk}
use Rattle.desk_console.specs.Taken.{taken_by}
use Rattle.desk_console.proofs.RunLemmas.{line_runs}

-- a new desk is steady
new_is_steady : (start : Network) → IsSteadyDesk (new_desk start)
new_is_steady start = record { ahead = tt; version = refl }

-- a desk that some steps led to is right
right_desk : (start : Network) (events : List Event) (desk : DeskValue) → IsRunOf (new_desk start) events desk → IsRightDesk start events desk
right_desk start events desk came = record {
  came = came;
  right =
      subst (λ es. IsRightVersion (new_desk start) es (numbers_after (first_numbers (new_desk start)) came.replies) desk.published) came.accepts
      (right_after (new_desk start) (new_is_steady start) came.steps came.replies desk came.runs);
}

-- a new console
pub right_first : (start : Network) → IsRightDesk start [] (opening start).desk
right_first start = right_desk start [] (new_desk start) (run_none (new_desk start))

module _ (start : Network) (events : List Event) (c : ConsoleValue) (right : IsRightDesk start events c.desk) where
  goes_on : (more : List Event) (new : ConsoleValue) → IsRunOf c.desk more new.desk → IsRightDesk start (events ++ more) new.desk
  goes_on more new run = right_desk start (events ++ more) new.desk (run_then (new_desk start) c.desk new.desk events more right.came run)

  -- a line that is answered
  pub right_line : (line : List ℕ) (a : Answer) (new : ConsoleValue) → Commands line c a new → IsRightDesk start (events ++ taken_by line a) new.desk
  right_line line a new is = goes_on (taken_by line a) new (line_runs line c a new is)

  -- a line that leaves all as it was
  pub right_still : (new : ConsoleValue) → new ≡ c → IsRightDesk start events new.desk
  right_still new same = subst (λ (d : ConsoleValue). IsRightDesk start events d.desk) (sym same) right
