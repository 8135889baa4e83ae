-- Lists of events in which whole sets and points stand.
use Rattle.std.proofs.Common.{◌≡◌, ℕ, ◌+◌, ◌<◌, List, ◌∷◌, ◌++◌, length, get_or, drop, Result, Ok, Err, ap, sym, ◌∙◌, append_assoc, refl, add-one, drop-cons}
use Rattle.net_data.specs.declared.events.Event.{Event}
use Rattle.net_data.specs.declared.events.Refusal.{Refusal}
use Rattle.net_data.specs.Network.{Network}
use Rattle.net_data.specs.Edits.{apply_all}
use Rattle.net_building.specs.Wholes.{meant}
use Rattle.net_building.specs.declared.wholes.Listed.{Listed}
use Rattle.what_if.specs.declared.reports.Refused.{Refused}
use Rattle.what_if.specs.Listed.{at_entry, before_more, if_accepted, meant_from}

-- events before others are events before all of these
before_twice : (es fs : List Event) (later : Result (List Event) Refused) → before_more es (before_more fs later) ≡ before_more (es ++ fs) later
before_twice es fs (Ok more) = ap Ok (sym (append_assoc es fs more))
before_twice es fs (Err refused) = refl

-- one entry more is accepted
pub one_more : (place : ℕ) (net new : Network) (entry : Listed) (entries : List Listed) (before events : List Event) (total : Result (List Event) Refused)
    → meant net entry ≡ Ok events → apply_all net events ≡ Ok new → before_more before (meant_from place net (entry ∷ entries)) ≡ total
    → before_more (before ++ events) (meant_from (place + 1) new entries) ≡ total
one_more place net new entry entries before events total is made whole =
    sym (before_twice before events (meant_from (place + 1) new entries))
    ∙ ap (λ (r : Result Network Refusal). before_more before (if_accepted place events r (λ n. meant_from (place + 1) n entries))) (sym made)
    ∙ ap (λ (r : Result (List Event) Refusal). before_more before (at_entry place net r (λ n. meant_from (place + 1) n entries))) (sym is)
    ∙ whole

-- an entry is refused
pub one_refused : (place : ℕ) (net : Network) (entry : Listed) (entries : List Listed) (before : List Event) (refusal : Refusal) (total : Result (List Event) Refused)
    → at_entry place net (meant net entry) (λ n. meant_from (place + 1) n entries) ≡ Err (record { place = place; refusal = refusal })
    → before_more before (meant_from place net (entry ∷ entries)) ≡ total → total ≡ Err (record { place = place; refusal = refusal })
one_refused place net entry entries before refusal total is whole = sym whole ∙ ap (before_more before) is

-- the entries from a place on begin with the one there
pub rest_here : (entries : List Listed) (i : ℕ) (entry : Listed) → i < length entries → entry ≡ get_or entries i entry → drop i entries ≡ entry ∷ drop (i + 1) entries
rest_here entries i entry low is =
    drop-cons entries i entry low ∙ ap (λ n. get_or entries i entry ∷ drop n entries) (sym (add-one i)) ∙ ap (λ (e : Listed). e ∷ drop (i + 1) entries) (sym is)
