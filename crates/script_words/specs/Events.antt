-- EVENT: the words of an event.
use Rattle.std.specs.Prelude.{ℕ, true, false, if◌then◌else◌, List, [], ◌∷◌, length, ◌==◌, Option, Some, None, option_map, option_and_then, codes}
use Rattle.std.specs.Str.{bytes_eq}
use Rattle.link_state.specs.declared.marks.End.TheVariants.{First, Second}
use Rattle.link_state.specs.declared.marks.LinkChange.{LinkChange}
use Rattle.link_state.specs.declared.marks.LinkChange.TheVariants.{Fail, Restore, Block, Unblock, Inhibit, Uninhibit}
use Rattle.net_data.specs.declared.events.Event.{Event}
use Rattle.net_data.specs.declared.events.Event.TheVariants as on
use Rattle.point_codes.specs.Codes.{code_of}
use Rattle.tokens.specs.Kinds.{kind_of}
use Rattle.tokens.specs.Numbers.{id_of, slc_of}
use Rattle.tokens.specs.Pieces.{all_of}
use Rattle.tokens.specs.Rows.{row_of}
use Rattle.script_words.specs.declared.verbs.Verb.{Verb}
use Rattle.script_words.specs.declared.verbs.Verb.TheVariants as verb

-- the first word of an event
abbrev pub verb_of : List ℕ → Option Verb
verb_of word =
    if bytes_eq word (codes "fail") then Some verb.Fail
    else if bytes_eq word (codes "restore") then Some verb.Restore
    else if bytes_eq word (codes "block") then Some verb.Block
    else if bytes_eq word (codes "unblock") then Some verb.Unblock
    else if bytes_eq word (codes "inhibit") then Some verb.Inhibit
    else if bytes_eq word (codes "uninhibit") then Some verb.Uninhibit
    else if bytes_eq word (codes "point") then Some verb.Point
    else if bytes_eq word (codes "pair") then Some verb.Pair
    else if bytes_eq word (codes "unpair") then Some verb.Unpair
    else if bytes_eq word (codes "set") then Some verb.Set
    else if bytes_eq word (codes "link") then Some verb.Link
    else if bytes_eq word (codes "plan") then Some verb.Plan
    else if bytes_eq word (codes "tfr") then Some verb.Tfr
    else None

-- the change of the link with this id and link code
abbrev pub change_by : LinkChange → List ℕ → List ℕ → Option Event
change_by change id slc = option_and_then (λ i. option_map (λ s. on.Link i s change) (slc_of slc)) (id_of id)

-- `ID SLC`
abbrev pub change_of : LinkChange → List (List ℕ) → Option Event
change_of change (id ∷ slc ∷ []) = change_by change id slc
change_of change _ = None

-- the first of two changes at `a`, the second at `b`
abbrev pub at_end : LinkChange → LinkChange → List ℕ → Option LinkChange
at_end first second word = if bytes_eq word (codes "a") then Some first else if bytes_eq word (codes "b") then Some second else None

-- `ID SLC`, `ID SLC a` or `ID SLC b`: the first of two changes if no end is named
abbrev pub end_change_of : LinkChange → LinkChange → List (List ℕ) → Option Event
end_change_of first second (id ∷ slc ∷ []) = change_by first id slc
end_change_of first second (id ∷ slc ∷ end ∷ []) = option_and_then (λ change. change_by change id slc) (at_end first second end)
end_change_of first second _ = None

-- `CODE KIND`
abbrev pub added_point_of : List (List ℕ) → Option Event
added_point_of (code ∷ kind ∷ []) = option_and_then (λ c. option_map (λ k. on.AddPoint c k) (kind_of kind)) (code_of code)
added_point_of _ = None

-- `CODE`
abbrev pub dropped_point_of : List (List ℕ) → Option Event
dropped_point_of (code ∷ []) = option_map (λ c. on.RemovePoint c) (code_of code)
dropped_point_of _ = None

-- `add CODE KIND` or `drop CODE`
abbrev pub point_event_of : List (List ℕ) → Option Event
point_event_of (what ∷ rest) = if bytes_eq what (codes "add") then added_point_of rest else if bytes_eq what (codes "drop") then dropped_point_of rest else None
point_event_of [] = None

-- `CODE CODE`
abbrev pub pair_of : List (List ℕ) → Option Event
pair_of (one ∷ other ∷ []) = option_and_then (λ p. option_map (λ q. on.Pair p q) (code_of other)) (code_of one)
pair_of _ = None

-- `CODE`
abbrev pub unpaired_of : List (List ℕ) → Option Event
unpaired_of (code ∷ []) = option_map (λ c. on.Unpair c) (code_of code)
unpaired_of _ = None

-- the new set of these values, if each is there
abbrev pub set_from : List ℕ → Option ℕ → Option ℕ → Option ℕ → Option Event
set_from slcs id a b = option_and_then (λ i. option_and_then (λ p. option_map (λ q. on.AddSet i p q slcs) b) a) id

-- `ID CODE CODE SLC SLC ..`, at least one SLC
abbrev pub added_set_of : List (List ℕ) → Option Event
added_set_of (id ∷ a ∷ b ∷ slcs) =
    if length slcs == 0 then None else option_and_then (λ ss. set_from ss (id_of id) (code_of a) (code_of b)) (all_of slc_of slcs)
added_set_of _ = None

-- `ID`
abbrev pub dropped_set_of : List (List ℕ) → Option Event
dropped_set_of (id ∷ []) = option_map (λ i. on.RemoveSet i) (id_of id)
dropped_set_of _ = None

-- `add ID CODE CODE SLC SLC ..` or `drop ID`
abbrev pub set_event_of : List (List ℕ) → Option Event
set_event_of (what ∷ rest) = if bytes_eq what (codes "add") then added_set_of rest else if bytes_eq what (codes "drop") then dropped_set_of rest else None
set_event_of [] = None

-- `ID SLC`
abbrev pub added_link_of : List (List ℕ) → Option Event
added_link_of (id ∷ slc ∷ []) = option_and_then (λ i. option_map (λ s. on.AddLink i s) (slc_of slc)) (id_of id)
added_link_of _ = None

-- `ID SLC`
abbrev pub dropped_link_of : List (List ℕ) → Option Event
dropped_link_of (id ∷ slc ∷ []) = option_and_then (λ i. option_map (λ s. on.RemoveLink i s) (slc_of slc)) (id_of id)
dropped_link_of _ = None

-- `add ID SLC` or `drop ID SLC`
abbrev pub link_event_of : List (List ℕ) → Option Event
link_event_of (what ∷ rest) = if bytes_eq what (codes "add") then added_link_of rest else if bytes_eq what (codes "drop") then dropped_link_of rest else None
link_event_of [] = None

-- `CODE ROW ROW ..`; no ROW is an empty plan
abbrev pub plan_of : List (List ℕ) → Option Event
plan_of (dest ∷ rows) = option_and_then (λ c. option_map (λ rs. on.SetPlan (record { dest = c; rows = rs })) (all_of row_of rows)) (code_of dest)
plan_of [] = None

-- `CODE`
abbrev pub dropped_plan_of : List (List ℕ) → Option Event
dropped_plan_of (code ∷ []) = option_map (λ c. on.DropPlan c) (code_of code)
dropped_plan_of _ = None

-- `set CODE ROW ROW ..` or `drop CODE`
abbrev pub plan_event_of : List (List ℕ) → Option Event
plan_event_of (what ∷ rest) = if bytes_eq what (codes "set") then plan_of rest else if bytes_eq what (codes "drop") then dropped_plan_of rest else None
plan_event_of [] = None

-- `on` or `off`
abbrev pub tfr_of : List (List ℕ) → Option Event
tfr_of (what ∷ []) = if bytes_eq what (codes "on") then Some (on.SetTfr true) else if bytes_eq what (codes "off") then Some (on.SetTfr false) else None
tfr_of _ = None

-- the event of a first word and the words after it
abbrev pub event_by : Verb → List (List ℕ) → Option Event
event_by verb.Fail rest = change_of Fail rest
event_by verb.Restore rest = change_of Restore rest
event_by verb.Block rest = end_change_of (Block First) (Block Second) rest
event_by verb.Unblock rest = end_change_of (Unblock First) (Unblock Second) rest
event_by verb.Inhibit rest = end_change_of (Inhibit First) (Inhibit Second) rest
event_by verb.Uninhibit rest = end_change_of (Uninhibit First) (Uninhibit Second) rest
event_by verb.Point rest = point_event_of rest
event_by verb.Pair rest = pair_of rest
event_by verb.Unpair rest = unpaired_of rest
event_by verb.Set rest = set_event_of rest
event_by verb.Link rest = link_event_of rest
event_by verb.Plan rest = plan_event_of rest
event_by verb.Tfr rest = tfr_of rest

-- the event that words say: its first word and what comes after it
abbrev pub event_of : List (List ℕ) → Option Event
event_of (word ∷ rest) = option_and_then (λ v. event_by v rest) (verb_of word)
event_of [] = None
