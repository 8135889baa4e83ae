-- The pairs of a network's points are told, each at its lower code.
use Rattle.std.proofs.Common.{◌≡◌, ℕ, ◌<◌, ◌≤◌, Bool, true, false, not, ◌&&◌, ◌||◌, eqb, ltb, Option, Some, None, is_some, List, [], ◌∷◌, ◌++◌, cond, refl, ap, sym, ◌∙◌, subst, arith, ⊎_elim}
use Rattle.std.specs.List.{AllByRecursion, flat_map}
use Rattle.std.specs.Option.{option_and_then}
use Rattle.std.proofs.lemmas.Bool.{and_from, or_from, or_cases, ne_eqb, eqb-true, cases_Bool, ltb-true, ltb-false, not_from_true, false_from_ne_true, lt-ltb}
use Rattle.net_items.specs.declared.items.Point.{Point}
use Rattle.net_items.specs.Keyed.{IsRising}
use Rattle.net_items.specs.Lookups.{point_at, has_point, is_stp, mate_of}
use Rattle.net_data.specs.declared.events.Event.{Event}
use Rattle.net_data.specs.declared.events.Event.TheVariants as on
use Rattle.net_data.specs.declared.events.Refusal.TheVariants.{PairUsed}
use Rattle.net_data.specs.Edits.{refusal_of, apply_all}
use Rattle.net_data.specs.Valid.{AreMates}
use Rattle.net_data.proofs.PairLemmas.{mate_there}
use Rattle.net_building.specs.Building.{pair_events}
use Rattle.net_building.proofs.EndLemmas.{found_all}
use Rattle.net_building.proofs.StepLemmas.{step, passed, made}
use Rattle.net_building.proofs.MateLemmas.{told_mate-none, paired, also, has_point-paired, is_stp-paired, mate_of-paired}
use Rattle.net_building.proofs.PairingLemmas.{paired-made, paired-all}

-- what is told of the pairs when those of the rest are left
record IsLeft (points rest : List Point) (told : ℕ → Bool) : Type 0 where
  rise : IsRising (λ (p : Point). p.code) rest
  above : (c : ℕ) → told c ≡ true → AllByRecursion (λ (p : Point). c < p.code) rest
  left : (c m : ℕ) → mate_of points c ≡ Some m → c < m → (told c || has_point rest c) ≡ true
  found : AllByRecursion (λ (p : Point). point_at points p.code ≡ Some p) rest

-- the mate of a point that is found
own_mate : (points : List Point) (p : Point) → point_at points p.code ≡ Some p → mate_of points p.code ≡ p.mate
own_mate points p found = ap (option_and_then (λ (p : Point). p.mate)) found

-- a point that tells no pair is passed over
left-over : (points : List Point) (p : Point) (rest : List Point) (told : ℕ → Bool) → IsLeft points (p ∷ rest) told → ((m : ℕ) → p.mate ≡ Some m → ltb p.code m ≡ false) → IsLeft points rest told
left-over points p rest told h none = record {
  rise = h.rise.1;
  above = λ c e. (h.above c e).1;
  left = λ c m is lt. one c m is lt (eqb p.code c) refl (h.left c m is lt);
  found = h.found.1;
}
  where
    one : (c m : ℕ) → mate_of points c ≡ Some m → c < m → (b : Bool) → eqb p.code c ≡ b → (told c || has_point (p ∷ rest) c) ≡ true → (told c || has_point rest c) ≡ true
    one c m is lt true e some =
        let own : mate_of points p.code ≡ p.mate = own_mate points p h.found.0 in
        let same : p.code ≡ c = eqb-true p.code c e in
        let mate : p.mate ≡ Some m = sym own ∙ (ap (mate_of points) same ∙ is) in
        let off : ltb p.code m ≡ false = none m mate in
        let le : m ≤ p.code = ltb-false p.code m off in
        absurd (omega arith)
    one c m is lt false e some = rw e at some

-- a point that tells its pair passes
left-also : (points : List Point) (p : Point) (rest : List Point) (told : ℕ → Bool) → IsLeft points (p ∷ rest) told → IsLeft points rest (also p.code told)
left-also points p rest told h = record {
  rise = h.rise.1;
  above = λ c e.
      ⊎_elim
      (λ (t : told c ≡ true). (h.above c t).1)
      (λ (t : eqb p.code c ≡ true). subst (λ n. AllByRecursion (λ (q : Point). n < q.code) rest) (eqb-true p.code c t) h.rise.0)
      (or_cases (told c) (eqb p.code c) e);
  left = λ c m is lt. one c (eqb p.code c) refl (h.left c m is lt);
  found = h.found.1;
}
  where
    one : (c : ℕ) (b : Bool) → eqb p.code c ≡ b → (told c || has_point (p ∷ rest) c) ≡ true → ((told c || eqb p.code c) || has_point rest c) ≡ true
    one c true e some = rw e (grind arith)
    one c false e some = let here : (told c || has_point rest c) ≡ true = rw e at some in rw e (grind arith)

module _ (ni : ℕ) (tfr : Bool) (es : List Event) (points : List Point) (rise : IsRising (λ (p : Point). p.code) points) (mates : (p m : ℕ) → mate_of points p ≡ Some m → AreMates points p m) where
  -- a pair that isn't told yet is accepted
  accepted : (told : ℕ → Bool) (p q : ℕ) → p < q → mate_of points p ≡ Some q → told p ≡ false → refusal_of (made ni tfr (paired told points) [] []) (on.Pair p q) ≡ None
  accepted told p q below is off =
      let pair = mates p q is in
      let back = mates q p pair.back in
      let p_there : has_point (paired told points) p ≡ true = has_point-paired told points p ∙ mate_there points p q is in
      let q_there : has_point (paired told points) q ≡ true = has_point-paired told points q ∙ mate_there points q p pair.back in
      let p_stp : is_stp (paired told points) p ≡ true = is_stp-paired told points p ∙ pair.stp in
      let q_stp : is_stp (paired told points) q ≡ true = is_stp-paired told points q ∙ back.stp in
      let low : ltb p q ≡ true = lt-ltb p q below in
      let high : ltb q p ≡ false = false_from_ne_true (ltb q p) (λ e. let lt : q < p = ltb-true q p e in omega arith) in
      let p_off : told (cond (ltb p q) p q) ≡ false = rw low off in
      let q_off : told (cond (ltb q p) q p) ≡ false = rw high off in
      let p_free : mate_of (paired told points) p ≡ None = mate_of-paired told points p ∙ told_mate-none told p (mate_of points p) q is p_off in
      let q_free : mate_of (paired told points) q ≡ None = mate_of-paired told points q ∙ told_mate-none told q (mate_of points q) p pair.back q_off in
      passed (not (has_point (paired told points) p && has_point (paired told points) q)) _ _ (not_from_true _ (and_from _ _ p_there q_there))
      (passed (not (is_stp (paired told points) p && is_stp (paired told points) q)) _ _ (not_from_true _ (and_from _ _ p_stp q_stp))
      (passed (is_some (mate_of (paired told points) p) || is_some (mate_of (paired told points) q)) _ _ (or_from _ _ (ap is_some p_free) (ap is_some q_free))
      (passed false PairUsed _ refl
      (passed (eqb p q) _ _ (ne_eqb p q pair.differ) refl))))

  -- the pairs of the rest make the points out of those whose other pairs are told, and the events after that
  abbrev IsMade : (ℕ → Bool) → List Point → Type 0
  IsMade told rest = apply_all (made ni tfr (paired told points) [] []) (flat_map pair_events rest ++ es) ≡ apply_all (made ni tfr points [] []) es

  -- the pairs that are left are made
  pairs_made : (rest : List Point) (told : ℕ → Bool) → IsLeft points rest told → IsMade told rest
  pairs_made [] told h =
      ap (λ ps. apply_all (made ni tfr ps [] []) es) (paired-all points rise mates told (λ c m is lt. let some = h.left c m is lt in grind arith))
  pairs_made (p ∷ ps) told h = go p.mate refl (pairs_made ps told) (pairs_made ps (also p.code told))
    where
      none : pair_events p ≡ [] → flat_map pair_events (p ∷ ps) ++ es ≡ flat_map pair_events ps ++ es
      none e = ap (λ xs. (xs ++ flat_map pair_events ps) ++ es) e

      over : pair_events p ≡ [] → ((m : ℕ) → p.mate ≡ Some m → ltb p.code m ≡ false)
          → (IsLeft points ps told → IsMade told ps)
          → IsMade told (p ∷ ps)
      over e off rec = ap (λ xs. apply_all (made ni tfr (paired told points) [] []) xs) (none e) ∙ rec (left-over points p ps told h off)

      tells : (m : ℕ) → p.mate ≡ Some m → ltb p.code m ≡ true
          → (IsLeft points ps (also p.code told) → IsMade (also p.code told) ps)
          → IsMade told (p ∷ ps)
      tells m is b rec =
          let event : pair_events p ≡ on.Pair p.code m ∷ [] = rw (is, b) refl in
          let below : p.code < m = ltb-true p.code m b in
          let own : mate_of points p.code ≡ Some m = own_mate points p h.found.0 ∙ is in
          let off : told p.code ≡ false = false_from_ne_true (told p.code) (λ e. let lt : p.code < p.code = (h.above p.code e).0 in omega arith) in
          ap (λ xs. apply_all (made ni tfr (paired told points) [] []) ((xs ++ flat_map pair_events ps) ++ es)) event
          ∙ step (made ni tfr (paired told points) [] []) (made ni tfr (paired (also p.code told) points) [] []) (on.Pair p.code m) (flat_map pair_events ps ++ es)
          (accepted told p.code m below own off)
          (ap (λ qs. made ni tfr qs [] []) (paired-made points rise mates told p.code m below own))
          ∙ rec (left-also points p ps told h)

      go : (o : Option ℕ) → p.mate ≡ o
          → (IsLeft points ps told → IsMade told ps)
          → (IsLeft points ps (also p.code told) → IsMade (also p.code told) ps)
          → IsMade told (p ∷ ps)
      go None is skip tell = over (rw is refl) (λ m e. absurd (cc)) skip
      go (Some m) is skip tell =
          ⊎_elim
          (λ (b : ltb p.code m ≡ true). tells m is b tell)
          (λ (b : ltb p.code m ≡ false). over (rw (is, b) refl) (λ n e. let same : m ≡ n = cc in subst (λ k. ltb p.code k ≡ false) same b) skip)
          (cases_Bool (ltb p.code m))

  -- all pairs are made, if none was told
  pub all_paired : apply_all (made ni tfr (paired (λ c. false) points) [] []) (flat_map pair_events points ++ es) ≡ apply_all (made ni tfr points [] []) es
  all_paired = pairs_made points (λ c. false) (record {
    rise = rise;
    above = λ c e. absurd (cc);
    left = λ c m is lt. mate_there points c m is;
    found = found_all (λ (p : Point). p.code) [] points points refl rise;
  })
