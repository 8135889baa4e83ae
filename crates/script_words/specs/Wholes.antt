-- The words of a change of a whole set or point, and of what stands in a list of events.
use Rattle.std.specs.Prelude.{ℕ, List, [], ◌∷◌, Option, Some, None, option_map, option_and_then}
use Rattle.std.specs.Option.{option_map_or}
use Rattle.link_state.specs.declared.marks.End.TheVariants.{First, Second}
use Rattle.link_state.specs.declared.marks.LinkChange.{LinkChange}
use Rattle.link_state.specs.declared.marks.LinkChange.TheVariants.{Fail, Restore, Block, Unblock, Inhibit, Uninhibit}
use Rattle.net_building.specs.declared.wholes.Whole.{Whole}
use Rattle.net_building.specs.declared.wholes.Whole.TheVariants as whole
use Rattle.net_building.specs.declared.wholes.Listed.{Listed}
use Rattle.net_building.specs.declared.wholes.Listed.TheVariants as listed
use Rattle.point_codes.specs.Codes.{code_of}
use Rattle.tokens.specs.Numbers.{id_of}
use Rattle.script_words.specs.Events.{at_end, event_by, verb_of}
use Rattle.script_words.specs.declared.verbs.Verb.{Verb}
use Rattle.script_words.specs.declared.verbs.Verb.TheVariants as verb

-- nothing more is said of the change
abbrev pub change_alone : LinkChange → List (List ℕ) → Option LinkChange
change_alone change [] = Some change
change_alone change _ = None

-- `END`, or nothing, which names the first end
abbrev pub change_at_end : LinkChange → LinkChange → List (List ℕ) → Option LinkChange
change_at_end first second [] = Some first
change_at_end first second (end ∷ []) = at_end first second end
change_at_end first second _ = None

-- the change that a word names, with the words after ID or CODE
abbrev pub change_named : Verb → List (List ℕ) → Option LinkChange
change_named verb.Fail end = change_alone Fail end
change_named verb.Restore end = change_alone Restore end
change_named verb.Block end = change_at_end (Block First) (Block Second) end
change_named verb.Unblock end = change_at_end (Unblock First) (Unblock Second) end
change_named verb.Inhibit end = change_at_end (Inhibit First) (Inhibit Second) end
change_named verb.Uninhibit end = change_at_end (Uninhibit First) (Uninhibit Second) end
change_named _ end = None

-- a set by its ID, or a point by its CODE
abbrev pub whole_named : Verb → LinkChange → List ℕ → Option Whole
whole_named verb.Set change id = option_map (λ i. whole.Set i change) (id_of id)
whole_named verb.Point change code = option_map (λ c. whole.Point c change) (code_of code)
whole_named _ change name = None

-- `CHANGE ID`, `CHANGE CODE`, and either with `END`, after `set` or `point`
abbrev pub whole_by : Verb → List (List ℕ) → Option Whole
whole_by subject (what ∷ name ∷ end) = option_and_then (λ v. option_and_then (λ change. whole_named subject change name) (change_named v end)) (verb_of what)
whole_by subject _ = None

-- an event, or the change of a whole set or point, by its first word
abbrev pub listed_by : Verb → List (List ℕ) → Option Listed
listed_by v rest = option_map_or (λ event. Some (listed.Event event)) (event_by v rest) (option_map (λ changed. listed.Whole changed) (whole_by v rest))

abbrev pub listed_of : List (List ℕ) → Option Listed
listed_of (word ∷ rest) = option_and_then (λ v. listed_by v rest) (verb_of word)
listed_of [] = None
