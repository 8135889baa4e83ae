-- What a network text says.
use Rattle.std.specs.Prelude.{◌≡◌, ℕ, ◌+◌, true, List, [], ◌∷◌, Option, Some, None, Result, Ok, Err}
use Rattle.std.specs.Str.{IsUtf8}
use Rattle.toml.specs.Data.{Members}
use Rattle.toml.specs.Parse.{parse_document}
use Rattle.net_data.specs.declared.events.Event.{Event}
use Rattle.net_data.specs.declared.events.Event.TheVariants.{SetTfr}
use Rattle.net_data.specs.declared.events.Refusal.{Refusal}
use Rattle.net_data.specs.Network.{Network}
use Rattle.net_data.specs.Edits.{changed, apply_all}
use Rattle.tokens.specs.declared.marked.Format.{Format}
use Rattle.net_text.specs.Faults.{Answer, chain}
use Rattle.net_text.specs.Keys.{Held, held_by}
use Rattle.net_text.specs.Entries.{entry_of}
use Rattle.net_text.specs.declared.faults.Key.{Key}
use Rattle.net_text.specs.declared.faults.Key.TheVariants.{Points, Pairs, Sets, Plans}
use Rattle.net_text.specs.declared.faults.LoadFault.TheVariants.{NotToml, BadLine, Refused}

-- a refusal, with the key and the place of its entry
abbrev pub named : Key → ℕ → Result Network Refusal → Answer Network
named key place (Ok net) = Ok net
named key place (Err refusal) = Err (Refused key place refusal)

-- one entry: it can't be read, or its first refusal, or the changed network
abbrev pub apply_entry : Key → ℕ → Network → Option (List Event) → Answer Network
apply_entry key place net None = Err (BadLine key place)
apply_entry key place net (Some events) = named key place (apply_all net events)

-- the entries of a key from a place on
abbrev pub apply_entries : Key → Format → ℕ → Network → List (List ℕ) → Answer Network
apply_entries key format place net [] = Ok net
apply_entries key format place net (text ∷ texts) = chain (apply_entry key place net (entry_of key format text)) (λ more. apply_entries key format (place + 1) more texts)

-- the empty network with its options
abbrev pub start : Held → Network
start h = changed (record { ni = h.ni; tfr = true; points = []; sets = []; plans = [] }) (SetTfr h.tfr)

-- the entries of the arrays before the plans, in their order, or their first fault; places count from 1
abbrev pub apply_parts : Held → Network → Answer Network
apply_parts h net =
    chain (apply_entries Points h.format 1 net h.points) (λ net.
    chain (apply_entries Pairs h.format 1 net h.pairs) (λ net.
    apply_entries Sets h.format 1 net h.sets))

-- the entries of all arrays in their order, or their first fault
abbrev pub apply_fields : Held → Network → Answer Network
apply_fields h net =
    chain (apply_entries Points h.format 1 net h.points) (λ net.
    chain (apply_entries Pairs h.format 1 net h.pairs) (λ net.
    chain (apply_entries Sets h.format 1 net h.sets) (λ net.
    apply_entries Plans h.format 1 net h.plans)))

-- the network of the entries, or their first fault
abbrev pub build : Held → Answer Network
build h = apply_fields h (start h)

-- what a document says, or its first fault: all keys come before all entries
abbrev pub network_of : Members → Answer Network
network_of doc = chain (held_by doc) build

-- the document that a text is; if it is no UTF-8 it is none
abbrev pub IsDocument : List ℕ → Option Members → Type 0
IsDocument text None = IsUtf8 text → parse_document text ≡ None
IsDocument text (Some doc) = IsUtf8 text × (parse_document text ≡ Some doc)

-- what a document says, if the text is one
abbrev pub answer_of : Option Members → Answer Network
answer_of None = Err NotToml
answer_of (Some doc) = network_of doc

-- what a text says: a network or the first fault
abbrev pub Says : List ℕ → Answer Network → Type 0
Says text answer = (doc : Option Members) × IsDocument text doc × (answer_of doc ≡ answer)
