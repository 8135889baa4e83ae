-- Destinations that wait for a result, in order, and those that are out.
use Rattle.std.specs.Prelude.{ℕ, Bool, true, false, not, ◌==◌, nat_lt, Option, Some, None, if◌then◌else◌, List, [], ◌∷◌, ◌++◌, map, filter}
use Rattle.std.specs.List.{list_any}

-- a destination that waits, or is out
pub record Task : Type 0 where
  pub dest : ℕ
  pub is_out : Bool

-- the destination waits
abbrev pub waiting_task : ℕ → Task
waiting_task x = record { dest = x; is_out = false }

-- all of them wait, in their order
abbrev pub all_waiting : List ℕ → List Task
all_waiting dests = map waiting_task dests

-- those that wait, in their order
abbrev pub waiting : List Task → List ℕ
waiting tasks = map (λ (t : Task). t.dest) (filter (λ (t : Task). not t.is_out) tasks)

-- those that are out
abbrev pub out : List Task → List ℕ
out tasks = map (λ (t : Task). t.dest) (filter (λ (t : Task). t.is_out) tasks)

-- the first that waits
abbrev pub first_waiting : List Task → Option ℕ
first_waiting [] = None
first_waiting (t ∷ ts) = if t.is_out then first_waiting ts else Some t.dest

-- the first that waits is out
abbrev pub taken : List Task → List Task
taken [] = []
taken (t ∷ ts) = if t.is_out then t ∷ taken ts else record t { is_out = true } ∷ ts

-- the destination is out
abbrev pub is_out : List Task → ℕ → Bool
is_out tasks x = list_any (λ y. y == x) (out tasks)

-- the lesser of two
abbrev pub lesser : ℕ → Option ℕ → ℕ
lesser x None = x
lesser x (Some y) = if nat_lt y x then y else x

-- the least of some numbers
abbrev pub least : List ℕ → Option ℕ
least [] = None
least (x ∷ xs) = Some (lesser x (least xs))

-- the destination neither waits nor is out
abbrev pub without_task : ℕ → List Task → List Task
without_task x tasks = filter (λ (t : Task). not (t.dest == x)) tasks

-- the destination waits again, last
abbrev pub put_last : ℕ → List Task → List Task
put_last x tasks = without_task x tasks ++ waiting_task x ∷ []
