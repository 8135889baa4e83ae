-- What the entries of points tell of their sets.
use Rattle.std.proofs.Common.{◌≡◌, ℕ, ◌+◌, ◌<◌, Bool, true, false, Option, Some, None, List, refl, sym, ap, ◌∙◌, arith, inl, inr, slice_get}
use Rattle.std.specs.Option.{option_map_or}
use Rattle.std.proofs.lemmas.Bool.{cases_eq}
use Rattle.std.proofs.lemmas.Option.{same_Some}
use Rattle.net_items.specs.declared.items.LinkSet.{LinkSet}
use Rattle.net_items.specs.Lookups.{joins, set_between}
use Rattle.link_sets.specs.Availability.{set_available, connected}
use Rattle.excerpts.specs.Index.{AreSameEnds}
use Rattle.excerpts.specs.Intact.{told_intact, TellIntact}
use Rattle.excerpts.proofs.SharedLemmas.{same_adjacent}
use Rattle.excerpts.proofs.TurnedLemmas.{ends_of_joint, place_found}

-- entries are right of other sets with the same ends, if an available set joins two points in both or in neither
pub intact_stays : (before after : List LinkSet) (entries : List Bool) → AreSameEnds before after → ((y z : ℕ) → connected after y z ≡ connected before y z) → TellIntact before entries → TellIntact after entries
intact_stays before after entries ends same tells y told z there = same y z ∙ tells y told z (same_adjacent before after y z ends ∙ there)

module _ (sets : List LinkSet) where
  -- of the sets in the first places both ends are noted, if they aren't available
  abbrev pub AreNoted : List Bool → ℕ → Type 0
  AreNoted entries i = (k : ℕ) (s : LinkSet) → k < i → slice_get sets k ≡ Some s → set_available s ≡ false → (told_intact entries s.a ≡ false) × (told_intact entries s.b ≡ false)

  -- one more set
  pub noted_more : (before after : List Bool) (i : ℕ) (s : LinkSet) → slice_get sets i ≡ Some s
      → ((y : ℕ) → told_intact before y ≡ false → told_intact after y ≡ false)
      → (set_available s ≡ false → told_intact after s.a ≡ false) → (set_available s ≡ false → told_intact after s.b ≡ false)
      → AreNoted before i → AreNoted after (i + 1)
  noted_more before after i s at kept first second noted k t low is down =
      elim (cases_eq k i) [
        | inl e ↦
            let same : s ≡ t = same_Some s t (sym at ∙ ap (slice_get sets) (sym e) ∙ is) in
            let down_too : set_available s ≡ false = ap set_available same ∙ down in
            (rw same at (first down_too), rw same at (second down_too))
        | inr ne ↦ let was = noted k t (omega arith) is down in (kept t.a was.0, kept t.b was.1)
      ]

  -- all sets
  pub all_noted : (entries : List Bool) (n : ℕ) → ((k : ℕ) (s : LinkSet) → slice_get sets k ≡ Some s → k < n) → AreNoted entries n → TellIntact sets entries
  all_noted entries n within noted y told z there = go (set_between sets y z) refl
    where
      known : {b : Bool} → b ≡ true → b ≡ false → ⊥
      known t f = let no : true ≡ false = sym t ∙ f in cc

      found : (s : LinkSet) → set_between sets y z ≡ Some s → (b : Bool) → set_available s ≡ b → set_available s ≡ true
      found s e true up = up
      found s e false down =
          let place = place_found (joins y z) sets s e in
          let ends = noted place.0 s (within place.0 s place.1) place.1 down in
          elim (ends_of_joint y z s place.2) [
            | inl w ↦ absurd (known told (rw w.0 at ends.0))
            | inr w ↦ absurd (known told (rw w.1 at ends.1))
          ]

      go : (o : Option LinkSet) → set_between sets y z ≡ o → connected sets y z ≡ true
      go None e = let none : false ≡ true = rw e at there in cc
      go (Some s) e = ap (λ (o : Option LinkSet). option_map_or set_available o false) e ∙ found s e (set_available s) refl
