-- The title of what each fault, cause and complaint is told by. Those of refusals are in the crate answers (`refusal_name`, `desk_name`, `reason_name`).
use Rattle.std.specs.Prelude.{ℕ, List, ◌∷◌, ◌++◌, codes}
use Rattle.answers.specs.Refusals.{refusal_name, cause_letter}
use Rattle.answers.specs.Audits.{clause_letter}
use Rattle.plan_rows.specs.declared.causes.Cause.{Cause}
use Rattle.plan_rows.specs.declared.causes.Cause.TheVariants as cause
use Rattle.transfer_state.specs.declared.complaints.Clause.{Clause}
use Rattle.transfer_state.specs.declared.complaints.Clause.TheVariants as clause
use Rattle.net_text.specs.declared.faults.LoadFault.{LoadFault}
use Rattle.net_text.specs.declared.faults.LoadFault.TheVariants as load
use Rattle.sessions.specs.declared.faults.Fault.{Fault}
use Rattle.sessions.specs.declared.faults.Fault.TheVariants as fault

-- of a fault of a network text, the number and the name; of an entry that is refused, those of the refusal
abbrev pub load_name : LoadFault → List ℕ
load_name load.NotToml = codes "60 NotToml"
load_name (load.BadKey key) = codes "61 BadKey"
load_name (load.BadLine key place) = codes "62 BadLine"
load_name (load.Refused key place refusal) = refusal_name refusal
load_name load.Read = codes "63 Read"
load_name load.OutOfMemory = codes "1 OutOfMemory"

-- of a fault of a run, the number and the name
abbrev pub fault_name : Fault → List ℕ
fault_name fault.OutOfMemory = codes "1 OutOfMemory"
fault_name fault.Read = codes "63 Read"
fault_name fault.Write = codes "64 Write"
fault_name fault.NoPlace = codes "50 NoPlace"
fault_name (fault.Load e) = load_name e

-- the name of a cause
abbrev pub cause_name : Cause → List ℕ
cause_name cause.IsDest = codes "IsDest"
cause_name cause.Twice = codes "Twice"
cause_name cause.NotJoined = codes "NotJoined"
cause_name cause.ViaTwice = codes "ViaTwice"
cause_name cause.NotLower = codes "NotLower"
cause_name cause.ViaMate = codes "ViaMate"
cause_name cause.BadMate = codes "BadMate"
cause_name cause.NoRoute = codes "NoRoute"

-- of a cause, the letter that is printed and the name
abbrev pub cause_title : Cause → List ℕ
cause_title cause = cause_letter cause ++ 32 ∷ cause_name cause

-- the word of what is wrong with a table
abbrev pub clause_name : Clause → List ℕ
clause_name clause.Points = codes "points"
clause_name clause.Route = codes "route"
clause_name clause.Status = codes "status"
clause_name clause.Links = codes "links"
clause_name clause.Messages = codes "messages"

-- of a complaint, the letter that is printed and the word
abbrev pub complaint_title : Clause → List ℕ
complaint_title clause = clause_letter clause ++ 32 ∷ clause_name clause
