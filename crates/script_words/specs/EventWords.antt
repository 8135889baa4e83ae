-- How an event is written, and which events can be.
use Rattle.std.specs.Prelude.{◌≡◌, ◌<◌, ◌≤◌, ◌⊎◌, ℕ, true, false, List, [], ◌∷◌, length, map, codes}
use Rattle.std.specs.Fmt.{decimal}
use Rattle.std.specs.List.{AllByRecursion}
use Rattle.link_state.specs.declared.marks.End.{End}
use Rattle.link_state.specs.declared.marks.End.TheVariants.{First, Second}
use Rattle.link_state.specs.declared.marks.LinkChange.{LinkChange}
use Rattle.link_state.specs.declared.marks.LinkChange.TheVariants.{Fail, Restore, Block, Unblock, Inhibit, Uninhibit}
use Rattle.net_data.specs.declared.events.Event.{Event}
use Rattle.net_data.specs.declared.events.Event.TheVariants as on
use Rattle.point_codes.specs.Codes.{code_text, IsCode}
use Rattle.tokens.specs.Kinds.{kind_text}
use Rattle.tokens.specs.Rows.{row_text, IsRow}

-- how an end is written
abbrev pub end_text : End → List ℕ
end_text First = codes "a"
end_text Second = codes "b"

-- the words of a change of a link with this id and link code
abbrev pub change_words : List ℕ → List ℕ → LinkChange → List (List ℕ)
change_words id slc Fail = codes "fail" ∷ id ∷ slc ∷ []
change_words id slc Restore = codes "restore" ∷ id ∷ slc ∷ []
change_words id slc (Block end) = codes "block" ∷ id ∷ slc ∷ end_text end ∷ []
change_words id slc (Unblock end) = codes "unblock" ∷ id ∷ slc ∷ end_text end ∷ []
change_words id slc (Inhibit end) = codes "inhibit" ∷ id ∷ slc ∷ end_text end ∷ []
change_words id slc (Uninhibit end) = codes "uninhibit" ∷ id ∷ slc ∷ end_text end ∷ []

-- the words of an event in full: each end is named
abbrev pub event_words : Event → List (List ℕ)
event_words (on.Link id slc change) = change_words (decimal id) (decimal slc) change
event_words (on.AddPoint code kind) = codes "point" ∷ codes "add" ∷ code_text code ∷ kind_text kind ∷ []
event_words (on.RemovePoint code) = codes "point" ∷ codes "drop" ∷ code_text code ∷ []
event_words (on.Pair one other) = codes "pair" ∷ code_text one ∷ code_text other ∷ []
event_words (on.Unpair code) = codes "unpair" ∷ code_text code ∷ []
event_words (on.AddSet id a b slcs) = codes "set" ∷ codes "add" ∷ decimal id ∷ code_text a ∷ code_text b ∷ map decimal slcs
event_words (on.RemoveSet id) = codes "set" ∷ codes "drop" ∷ decimal id ∷ []
event_words (on.AddLink id slc) = codes "link" ∷ codes "add" ∷ decimal id ∷ decimal slc ∷ []
event_words (on.RemoveLink id slc) = codes "link" ∷ codes "drop" ∷ decimal id ∷ decimal slc ∷ []
event_words (on.SetPlan plan) = codes "plan" ∷ codes "set" ∷ code_text plan.dest ∷ map row_text plan.rows
event_words (on.DropPlan dest) = codes "plan" ∷ codes "drop" ∷ code_text dest ∷ []
event_words (on.SetTfr true) = codes "tfr" ∷ codes "on" ∷ []
event_words (on.SetTfr false) = codes "tfr" ∷ codes "off" ∷ []

-- the words of a change in short: the first end is not named
abbrev pub short_change : List ℕ → List ℕ → LinkChange → List (List ℕ)
short_change id slc (Block First) = codes "block" ∷ id ∷ slc ∷ []
short_change id slc (Unblock First) = codes "unblock" ∷ id ∷ slc ∷ []
short_change id slc (Inhibit First) = codes "inhibit" ∷ id ∷ slc ∷ []
short_change id slc (Uninhibit First) = codes "uninhibit" ∷ id ∷ slc ∷ []
short_change id slc change = change_words id slc change

-- the words of an event in short: if no first end is named, they are the same as in full
abbrev pub short_words : Event → List (List ℕ)
short_words (on.Link id slc change) = short_change (decimal id) (decimal slc) change
short_words event = event_words event

-- what is written of an event, in full or in short
abbrev pub IsWritten : Event → List (List ℕ) → Type 0
IsWritten event words = (words ≡ event_words event) ⊎ (words ≡ short_words event)

-- the ranges of link set ids and of link codes
abbrev pub IsId : ℕ → Type 0
IsId n = n ≤ 65535

abbrev pub IsSlc : ℕ → Type 0
IsSlc n = n ≤ 255

-- what can be written: each value in the range of its token, and at least one link code of a new set
abbrev pub IsEvent : Event → Type 0
IsEvent (on.Link id slc change) = IsId id × IsSlc slc
IsEvent (on.AddPoint code kind) = IsCode code
IsEvent (on.RemovePoint code) = IsCode code
IsEvent (on.Pair one other) = IsCode one × IsCode other
IsEvent (on.Unpair code) = IsCode code
IsEvent (on.AddSet id a b slcs) = IsId id × IsCode a × IsCode b × (0 < length slcs) × AllByRecursion IsSlc slcs
IsEvent (on.RemoveSet id) = IsId id
IsEvent (on.AddLink id slc) = IsId id × IsSlc slc
IsEvent (on.RemoveLink id slc) = IsId id × IsSlc slc
IsEvent (on.SetPlan plan) = IsCode plan.dest × AllByRecursion IsRow plan.rows
IsEvent (on.DropPlan dest) = IsCode dest
IsEvent (on.SetTfr tfr) = Unit {0}
