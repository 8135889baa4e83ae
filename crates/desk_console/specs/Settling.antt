-- A desk while its open target is settled: the target's tasks change, and nothing else (own).
use Rattle.std.specs.Prelude.{◌≡◌, ℕ, length}
use Rattle.std.specs.Option.{option_map_or}
use Rattle.dirty_sets.specs.Waiting.{out, waiting}
use Rattle.desk_core.specs.Desk.{DeskValue, OpenTarget}
use Rattle.desk_core.specs.Steps.{target_number}

-- the same target is open, if there is one, and nothing but its tasks differs
pub record HasOnlyTasks (old new : DeskValue) : Type 0 where
  pub same : new ≡ record old { target = new.target }
  pub number : target_number new ≡ target_number old

-- how many destinations are out
abbrev pub out_count : DeskValue → ℕ
out_count s = option_map_or (λ (t : OpenTarget). length (out t.tasks)) s.target 0

-- how many destinations wait
abbrev pub waiting_count : DeskValue → ℕ
waiting_count s = option_map_or (λ (t : OpenTarget). length (waiting t.tasks)) s.target 0
