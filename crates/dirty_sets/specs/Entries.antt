-- A waiting list as the entries of a map, and its places.
use Rattle.std.specs.Prelude.{◌≡◌, ℕ, zero, suc, ◌<◌, Bool, true, Some, List, [], ◌∷◌, map, length, slice_get, remove}
use Rattle.dirty_sets.specs.Waiting.{Task, first_waiting, taken, is_out, without_task}

-- a destination, and whether it is out
abbrev pub task_of : ℕ × Bool → Task
task_of e = record { dest = e.0; is_out = e.1 }

-- destinations in order, each with whether it is out
abbrev pub tasks_of : List (ℕ × Bool) → List Task
tasks_of es = map task_of es

-- the one at that place is out, or waits
abbrev pub marked : ℕ → Bool → List Task → List Task
marked position out [] = []
marked zero out (t ∷ ts) = record t { is_out = out } ∷ ts
marked (suc position) out (t ∷ ts) = t ∷ marked position out ts

-- the first that waits is at that place, and is that destination
pub record IsFirstWaiting (tasks : List Task) (position x : ℕ) : Type 0 where
  pub in_range : position < length tasks
  pub waits : first_waiting tasks ≡ Some x
  pub takes : taken tasks ≡ marked position true tasks

-- that destination is at that place, and at no other
pub record IsAt (tasks : List Task) (x position : ℕ) : Type 0 where
  pub in_range : position < length tasks
  pub task : slice_get tasks position ≡ Some (record { dest = x; is_out = is_out tasks x })
  pub removes : remove tasks position ≡ without_task x tasks
