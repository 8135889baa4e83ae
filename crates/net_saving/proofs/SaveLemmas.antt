-- What is written of a network reads as that network.
use Rattle.std.proofs.Common.{◌≡◌, ℕ, ◌+◌, ltb, Bool, true, false, cond, List, [], ◌∷◌, ◌++◌, map, Option, Some, None, Ok, Err, ◌⊎◌, inl, inr, sym, ap, refl, ◌∙◌}
use Rattle.std.specs.List.{AllByRecursion, flat_map}
use Rattle.std.specs.Option.{option_map_or}
use Rattle.net_items.specs.declared.items.Point.{Point}
use Rattle.net_data.specs.declared.events.Event.{Event}
use Rattle.net_data.specs.declared.events.Event.TheVariants as on
use Rattle.net_data.specs.declared.events.Refusal.{Refusal}
use Rattle.net_data.specs.Network.{Network}
use Rattle.net_data.specs.Edits.{refusal_of, changed, apply_all, unless_refused}
use Rattle.net_data.specs.Valid.{IsValid}
use Rattle.point_codes.specs.Codes.{IsCode}
use Rattle.tokens.specs.declared.marked.Format.TheVariants.{Two}
use Rattle.net_text.specs.Faults.{chain}
use Rattle.net_text.specs.Keys.{Held}
use Rattle.net_text.specs.Entries.{entry_of, only_event}
use Rattle.net_text.specs.Reading.{named, apply_entry, apply_entries, start, build, network_of}
use Rattle.net_text.specs.declared.faults.Key.{Key}
use Rattle.net_text.specs.declared.faults.Key.TheVariants.{Points, Pairs, Sets, Plans}
use Rattle.net_building.specs.Building.{point_event, pair_events, set_events, plan_event}
use Rattle.net_building.proofs.RebuildingLemmas.{network_made}
use Rattle.tokens.specs.Entries.{point_text, pair_text, set_text, plan_text}
use Rattle.net_saving.specs.Writing.{pair_texts, document_of}
use Rattle.net_saving.proofs.EntryLemmas.{point_reads, pair_reads, set_reads, plan_reads, IsSetText, IsPlanText}
use Rattle.net_saving.proofs.HeldLemmas.{held_of, held_back}
use Rattle.net_saving.proofs.WritableLemmas.{IsPairText, pairs_right, sets_writable, plans_writable}

-- ---- what the events do

split_here : (net new : Network) (e : Event) (es fs : List Event) (r : Option Refusal) → refusal_of net e ≡ r → apply_all net (e ∷ (es ++ fs)) ≡ Ok new
    → (apply_all (changed net e) (es ++ fs) ≡ Ok new → (mid : Network) × (apply_all (changed net e) es ≡ Ok mid) × (apply_all mid fs ≡ Ok new))
    → (mid : Network) × (apply_all net (e ∷ es) ≡ Ok mid) × (apply_all mid fs ≡ Ok new)
split_here net new e es fs None same h next =
    let rest = next (ap (λ r. unless_refused r (apply_all (changed net e) (es ++ fs))) (sym same) ∙ h) in
    (rest.0, ap (λ r. unless_refused r (apply_all (changed net e) es)) same ∙ rest.1, rest.2)
split_here net new e es fs (Some x) same h next =
    let bad : Err x ≡ Ok new = ap (λ r. unless_refused r (apply_all (changed net e) (es ++ fs))) (sym same) ∙ h in
    absurd (cc)

apply_split : (net new : Network) (es fs : List Event) → apply_all net (es ++ fs) ≡ Ok new → (mid : Network) × (apply_all net es ≡ Ok mid) × (apply_all mid fs ≡ Ok new)
apply_split net new [] fs h = (net, refl, h)
apply_split net new (e ∷ es) fs h = split_here net new e es fs (refusal_of net e) refl h (λ k. apply_split (changed net e) new es fs k)

-- ---- what the entries say

-- no entry and no event, or one entry that says the events
abbrev Writes : Key → List (List ℕ) → List Event → Type 0
Writes key texts events = ((texts ≡ []) × (events ≡ [])) ⊎ ((text : List ℕ) × (texts ≡ text ∷ []) × (entry_of key Two text ≡ Some events))

entries_applied : {X : Type 0} (key : Key) (texts : X → List (List ℕ)) (events : X → List Event) (Is : X → Type 0) → ((x : X) → Is x → Writes key (texts x) (events x))
    → (xs : List X) → AllByRecursion Is xs → (place : ℕ) (net new : Network) → apply_all net (flat_map events xs) ≡ Ok new → apply_entries key Two place net (flat_map texts xs) ≡ Ok new
entries_applied key texts events Is writes [] h place net new done = let same : net ≡ new = cc in ap Ok same
entries_applied {X} key texts events Is writes (x ∷ xs) h place net new done = go (writes x h.0) (λ at from. entries_applied key texts events Is writes xs h.1 at from new)
  where
    go : Writes key (texts x) (events x) → ((at : ℕ) (from : Network) → apply_all from (flat_map events xs) ≡ Ok new → apply_entries key Two at from (flat_map texts xs) ≡ Ok new)
        → apply_entries key Two place net (flat_map texts (x ∷ xs)) ≡ Ok new
    go (inl none) next =
        ap (λ ts. apply_entries key Two place net (ts ++ flat_map texts xs)) none.0 ∙ next place net (ap (λ es. apply_all net (es ++ flat_map events xs)) (sym none.1) ∙ done)
    go (inr one) next =
        let parts = apply_split net new (events x) (flat_map events xs) done in
        let others = flat_map texts xs in
        ap (λ ts. apply_entries key Two place net (ts ++ others)) one.1
        ∙ ap (λ o. chain (apply_entry key place net o) (λ n. apply_entries key Two (place + 1) n others)) one.2
        ∙ ap (λ r. chain (named key place r) (λ n. apply_entries key Two (place + 1) n others)) parts.1 ∙ next (place + 1) parts.0 parts.2

flat_single : {A B : Type 0} (f : A → B) (xs : List A) → flat_map (λ x. f x ∷ []) xs ≡ map f xs
flat_single f [] = refl
flat_single f (x ∷ xs) = ap (λ l. f x ∷ l) (flat_single f xs)

-- an entry for each
each_applied : {X : Type 0} (key : Key) (text : X → List ℕ) (events : X → List Event) (Is : X → Type 0) → ((x : X) → Is x → entry_of key Two (text x) ≡ Some (events x))
    → (xs : List X) → AllByRecursion Is xs → (net new : Network) → apply_all net (flat_map events xs) ≡ Ok new → apply_entries key Two 1 net (map text xs) ≡ Ok new
each_applied key text events Is reads xs h net new done =
    ap (apply_entries key Two 1 net) (sym (flat_single text xs)) ∙ entries_applied key (λ x. text x ∷ []) events Is (λ x i. inr (text x, refl, reads x i)) xs h 1 net new done

pair_at : (p m : ℕ) (lower : Bool) → IsCode p → IsCode m → Writes Pairs (cond lower (pair_text p m ∷ []) []) (cond lower (on.Pair p m ∷ []) [])
pair_at p m false h k = inl (refl, refl)
pair_at p m true h k = inr (pair_text p m, refl, pair_reads p m h k)

mate_writes : (p : ℕ) (mate : Option ℕ) → ((m : ℕ) → mate ≡ Some m → IsCode p × IsCode m)
    → Writes Pairs (option_map_or (λ m. cond (ltb p m) (pair_text p m ∷ []) []) mate []) (option_map_or (λ m. cond (ltb p m) (on.Pair p m ∷ []) []) mate [])
mate_writes p None h = inl (refl, refl)
mate_writes p (Some m) h = let small = h m refl in pair_at p m (ltb p m) small.0 small.1

pair_writes : (p : Point) → IsPairText p → Writes Pairs (pair_texts p) (pair_events p)
pair_writes p h = mate_writes p.code p.mate h

built_by : (h : Held) (n1 n2 n3 n4 : Network) → apply_entries Points h.format 1 (start h) h.points ≡ Ok n1 → apply_entries Pairs h.format 1 n1 h.pairs ≡ Ok n2 → apply_entries Sets h.format 1 n2 h.sets ≡ Ok n3
    → apply_entries Plans h.format 1 n3 h.plans ≡ Ok n4 → build h ≡ Ok n4
built_by h n1 n2 n3 n4 e1 e2 e3 e4 = rw (e1, e2, e3, e4) refl

-- what is written of a network is read as that network
pub network_reads : (net : Network) → IsValid net → network_of (document_of net) ≡ Ok net
network_reads net v =
    let h = network_made net v in
    let h0 = held_of net in
    let p1 = apply_split (start h0) net (map point_event net.points) _ h in
    let p2 = apply_split p1.0 net (flat_map pair_events net.points) _ p1.2 in
    let p3 = apply_split p2.0 net (flat_map set_events net.sets) _ p2.2 in
    ap (λ r. chain r build) (held_back net v.ni_small)
    ∙ built_by h0 p1.0 p2.0 p3.0 net
    (each_applied Points point_text (λ (p : Point). only_event (point_event p)) (λ (p : Point). IsCode p.code) point_reads net.points v.codes_small (start h0) p1.0
    (ap (apply_all (start h0)) (flat_single point_event net.points) ∙ p1.1))
    (entries_applied Pairs pair_texts pair_events IsPairText pair_writes net.points (pairs_right net v) 1 p1.0 p2.0 p2.1)
    (each_applied Sets set_text set_events IsSetText set_reads net.sets (sets_writable net v) p2.0 p3.0 p3.1)
    (each_applied Plans plan_text (λ p. only_event (plan_event p)) IsPlanText plan_reads net.plans (plans_writable net v) p3.0 net
    (ap (apply_all p3.0) (flat_single plan_event net.plans) ∙ p3.2))
