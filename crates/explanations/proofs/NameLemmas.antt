-- Titles stand in the texts that are printed, and letters find causes.
use Rattle.std.proofs.Common.{◌≡◌, ◌++◌, ◌∷◌, [], true, codes, refl, sym, append_assoc}
use Rattle.answers.specs.Refusals.{refusal_name, refusal_values, cause_letter}
use Rattle.plan_rows.specs.declared.causes.Cause.{Cause}
use Rattle.plan_rows.specs.declared.causes.Cause.TheVariants as cause
use Rattle.answers.specs.Answers.{reason_name, reason_text, reason_values}
use Rattle.answers.specs.declared.answer.Reason.{Reason}
use Rattle.sessions.specs.Faults.{key_text, place_text, load_text, fault_text}
use Rattle.net_text.specs.declared.faults.LoadFault.{LoadFault}
use Rattle.net_text.specs.declared.faults.LoadFault.TheVariants as load
use Rattle.sessions.specs.declared.faults.Fault.{Fault}
use Rattle.sessions.specs.declared.faults.Fault.TheVariants as fault
use Rattle.explanations.specs.Names.{cause_title, load_name, fault_name}
use Rattle.explanations.specs.Titles.{BeginsWith, StandsIn, is_found_by}

-- what is printed of why a line is refused begins with its title
pub reason_begins : (why : Reason) → BeginsWith (reason_text why) (codes "refused " ++ reason_name why)
reason_begins why = (reason_values why, sym (append_assoc (codes "refused ") (reason_name why) (reason_values why)))

-- in what is printed of a fault of a network text stands its title
pub load_stands : (fault : LoadFault) → StandsIn (load_text fault) (load_name fault)
load_stands load.NotToml = ([], [], refl)
load_stands (load.BadKey key) = ([], 32 ∷ key_text key, refl)
load_stands (load.BadLine key place) = ([], 32 ∷ place_text key place, refl)
load_stands (load.Refused key place refusal) =
    (place_text key place ++ codes ": ", refusal_values refusal, sym (append_assoc (place_text key place) (codes ": ") (refusal_name refusal ++ refusal_values refusal)))
load_stands load.Read = ([], [], refl)
load_stands load.OutOfMemory = ([], [], refl)

-- in what is printed of a fault of a run stands its title
pub fault_stands : (fault : Fault) → StandsIn (fault_text fault) (fault_name fault)
fault_stands fault.OutOfMemory = ([], [], refl)
fault_stands fault.Read = ([], [], refl)
fault_stands fault.Write = ([], [], refl)
fault_stands fault.NoPlace = ([], [], refl)
fault_stands (fault.Load e) = load_stands e

-- the letter of a cause finds it
pub letter_finds : (one : Cause) → is_found_by (cause_title one) (cause_letter one) ≡ true
letter_finds cause.IsDest = refl
letter_finds cause.Twice = refl
letter_finds cause.NotJoined = refl
letter_finds cause.ViaTwice = refl
letter_finds cause.NotLower = refl
letter_finds cause.ViaMate = refl
letter_finds cause.BadMate = refl
letter_finds cause.NoRoute = refl
