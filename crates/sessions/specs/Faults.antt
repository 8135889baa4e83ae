-- How faults are printed: a number, a name, and the values of those that have some.
use Rattle.std.specs.Prelude.{ℕ, List, ◌∷◌, ◌++◌, codes}
use Rattle.std.specs.Fmt.{decimal}
use Rattle.net_text.specs.declared.faults.Key.{Key}
use Rattle.net_text.specs.declared.faults.Key.TheVariants as key
use Rattle.net_text.specs.declared.faults.LoadFault.{LoadFault}
use Rattle.net_text.specs.declared.faults.LoadFault.TheVariants as load
use Rattle.answers.specs.Refusals.{refusal_text}
use Rattle.sessions.specs.declared.faults.Fault.{Fault}
use Rattle.sessions.specs.declared.faults.Fault.TheVariants as fault

-- a key of a network text
abbrev pub key_text : Key → List ℕ
key_text key.Format = codes "format"
key_text key.Ni = codes "ni"
key_text key.Tfr = codes "tfr"
key_text key.Points = codes "points"
key_text key.Pairs = codes "pairs"
key_text key.Sets = codes "sets"
key_text key.Plans = codes "plans"
key_text key.Unknown = codes "unknown"

-- a key and the place of an entry
abbrev pub place_text : Key → ℕ → List ℕ
place_text key place = key_text key ++ 32 ∷ decimal place

-- a fault of a network text
abbrev pub load_text : LoadFault → List ℕ
load_text load.NotToml = codes "60 NotToml"
load_text (load.BadKey key) = codes "61 BadKey " ++ key_text key
load_text (load.BadLine key place) = codes "62 BadLine " ++ place_text key place
load_text (load.Refused key place refusal) = place_text key place ++ (codes ": " ++ refusal_text refusal)
load_text load.Read = codes "63 Read"
load_text load.OutOfMemory = codes "1 OutOfMemory"

-- a fault of a run
abbrev pub fault_text : Fault → List ℕ
fault_text fault.OutOfMemory = codes "1 OutOfMemory"
fault_text fault.Read = codes "63 Read"
fault_text fault.Write = codes "64 Write"
fault_text fault.NoPlace = codes "50 NoPlace"
fault_text (fault.Load e) = load_text e
