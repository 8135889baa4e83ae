-- The entries of a network text, as events.
use Rattle.std.specs.Prelude.{ℕ, ◌==◌, length, if◌then◌else◌, List, [], ◌∷◌, Option, None, option_map, option_and_then}
use Rattle.net_items.specs.declared.items.LinkSet.{LinkSet}
use Rattle.net_items.specs.declared.links.Link.{Link}
use Rattle.net_data.specs.declared.events.Event.{Event}
use Rattle.net_building.specs.Building.{set_events}
use Rattle.tokens.specs.Words.{words_of}
use Rattle.tokens.specs.Numbers.{id_of}
use Rattle.point_codes.specs.Codes.{code_of}
use Rattle.tokens.specs.Marked.{marked_of}
use Rattle.tokens.specs.declared.marked.Format.{Format}
use Rattle.tokens.specs.Pieces.{all_of}
use Rattle.script_words.specs.Events.{added_point_of, pair_of, plan_of}
use Rattle.net_text.specs.declared.faults.Key.{Key}
use Rattle.net_text.specs.declared.faults.Key.TheVariants.{Points, Pairs, Sets, Plans}

-- the set of these values, if each is there
abbrev pub set_from : List Link → Option ℕ → Option ℕ → Option ℕ → Option LinkSet
set_from links id a b = option_and_then (λ i. option_and_then (λ p. option_map (λ q. record { id = i; a = p; b = q; links = links }) b) a) id

-- `ID CODE CODE MARKED MARKED ..`, at least one MARKED
abbrev pub set_of : Format → List (List ℕ) → Option LinkSet
set_of format (id ∷ a ∷ b ∷ links) =
    if length links == 0 then None else option_and_then (λ ls. set_from ls (id_of id) (code_of a) (code_of b)) (all_of (marked_of format) links)
set_of format _ = None

-- that event and no other
abbrev pub only_event : Event → List Event
only_event e = e ∷ []

-- the events that the words of an entry say
abbrev pub events_of_words : Key → Format → List (List ℕ) → Option (List Event)
events_of_words Points format words = option_map only_event (added_point_of words)
events_of_words Pairs format words = option_map only_event (pair_of words)
events_of_words Sets format words = option_map set_events (set_of format words)
events_of_words Plans format words = option_map only_event (plan_of words)
events_of_words _ format words = None

-- the events that an entry says
abbrev pub entry_of : Key → Format → List ℕ → Option (List Event)
entry_of key format text = events_of_words key format (words_of text)
