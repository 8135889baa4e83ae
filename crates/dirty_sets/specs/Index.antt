-- What an index holds, and what it tells. Values that contracts compare can hold no functions, so they are read by these.
use Rattle.std.specs.Prelude.{◌≡◌, ℕ, ◌==◌, ◌&&◌, ◌⊎◌, IsTrue, Bool, false, is_some, All, List, [], if◌then◌else◌, map}
use Rattle.std.specs.Option.{option_map_or}
use Rattle.net_items.specs.declared.items.Point.{Point}
use Rattle.net_items.specs.declared.items.LinkSet.{LinkSet}
use Rattle.net_items.specs.declared.items.Plan.{Plan}
use Rattle.net_items.specs.Keyed.{at_key}
use Rattle.net_items.specs.Lookups.{plan_at, row_at, set_at, is_stp}
use Rattle.net_data.specs.Network.{Network}
use Rattle.excerpts.specs.Excerpt.{is_read_by}
use Rattle.dirty_sets.specs.declared.readers.Reader.{Reader}
use Rattle.dirty_sets.specs.Bits.{is_marked, meets}
use Rattle.dirty_sets.specs.Touch.{Reads}

-- the readers in rising destination, and how many more go in without memory
pub record TouchIndexValue : Type 0 where
  pub readers : List Reader
  pub room : ℕ

-- what the reader of a destination tells of a set
abbrev pub reads_among : List Reader → ℕ → ℕ → Bool
reads_among readers x id = option_map_or (λ (r : Reader). is_marked r.ids id) (at_key (λ (r : Reader). r.dest) x readers) false

-- the reader of a destination reads one of some sets
abbrev pub reads_any : List Reader → List Bool → ℕ → Bool
reads_any readers ids x = option_map_or (λ (r : Reader). meets ids r.ids) (at_key (λ (r : Reader). r.dest) x readers) false

-- what an index tells
abbrev pub reads_of : TouchIndexValue → Reads
reads_of held = record { planned = map (λ (r : Reader). r.dest) held.readers; reads = reads_among held.readers; room = held.room }

-- the table of a destination would read the set
abbrev pub would_read : Network → LinkSet → ℕ → Bool
would_read net set x = option_map_or (λ plan. is_read_by net.points plan set) (plan_at net.plans x) false

-- each via of each row is the destination, or a transfer point with a row
abbrev pub LeadsOn : List Point → Plan → Type 0
LeadsOn points plan = All (λ row. All (All (λ via. (via ≡ plan.dest) ⊎ IsTrue (is_stp points via && is_some (row_at plan.rows via)))) row.classes) plan.rows

-- a set with these ends
abbrev pub bare_set : ℕ → ℕ → ℕ → LinkSet
bare_set id a b = record { id = id; a = a; b = b; links = [] }

-- a reader after the answer to one set was put into it
pub record IsWithId (id : ℕ) (test : ℕ → Bool) (old new : Reader) : Type 0 where
  pub dest : new.dest ≡ old.dest
  pub ids : (n : ℕ) → is_marked new.ids n ≡ (if n == id then test old.dest else is_marked old.ids n)

-- a reader of a plan, among those points and sets
pub record IsReaderOf (points : List Point) (sets : List LinkSet) (plan : Plan) (reader : Reader) : Type 0 where
  pub dest : reader.dest ≡ plan.dest
  pub ids : (n : ℕ) → is_marked reader.ids n ≡ option_map_or (is_read_by points plan) (set_at sets n) false
