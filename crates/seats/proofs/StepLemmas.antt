-- Each step keeps the rule of the minutes.
use Rattle.std.proofs.Common.{◌≡◌, ◌≢◌, ◌⊎◌, ℕ, ◌+◌, ◌<◌, zero, suc, List, [], ◌∷◌, ◌++◌, set, true, false, true≢false, refl, sym, ap, ◌∙◌, subst, ⊎_elim, inl, inr, length, arith, append-nil, append_assoc}
use Rattle.std.specs.Prelude.{◌==◌, if◌then◌else◌}
use mathlib.Core.Option.{some, some-ne-none, some-injective}
use lib.ListN.{get_elem?}
use Rattle.crossbeam_utils.specs.Register.{Turns, Forks, Merges}
use Rattle.atomic_table.proofs.Lists.{at_set}
use Rattle.seats.specs.declared.rule.Side.{Side}
use Rattle.seats.specs.declared.rule.Sight.{Sight}
use Rattle.seats.specs.Minutes.{AreBelow, Fits, IsKeeper, IsOrderly, IsSeat, NoneOf, OnlyOthersSince, SeesThese, keeper_cut, knowing, new_seat, nobody, opening, seat_left, sights, taken_in, with_seat}

off : false ≡ true → ⊥
off e = true≢false (sym e)

-- one place of a chart is another
abbrev put : (ℕ → ℕ) → ℕ → ℕ → ℕ → ℕ
put chair me by k = if k == me then by else chair k

put_here : (chair : ℕ → ℕ) (me by : ℕ) → put chair me by me ≡ by
put_here chair me by = grind arith

put_else : (chair : ℕ → ℕ) (me by k : ℕ) → k ≢ me → put chair me by k ≡ chair k
put_else chair me by k apart = grind arith

module _ {T : Type 0} where
  none_append : (me : ℕ) (xs ys : List (Sight T)) → NoneOf me xs → NoneOf me ys → NoneOf me (xs ++ ys)
  none_append me [] ys a b = b
  none_append me (x ∷ xs) ys a b = (a.0, none_append me xs ys a.1 b)

  none_sights : (me by : ℕ) (said : List T) → by ≢ me → NoneOf me (sights by said)
  none_sights me by [] apart = tt
  none_sights me by (x ∷ xs) apart = (apart, none_sights me by xs apart)

  below_append : (n : ℕ) (xs ys : List (Sight T)) → AreBelow n xs → AreBelow n ys → AreBelow n (xs ++ ys)
  below_append n [] ys a b = b
  below_append n (x ∷ xs) ys a b = (a.0, below_append n xs ys a.1 b)

  below_sights : (n by : ℕ) (said : List T) → by < n → AreBelow n (sights by said)
  below_sights n by [] low = tt
  below_sights n by (x ∷ xs) low = (low, below_sights n by xs low)

  below_more : (n : ℕ) (xs : List (Sight T)) → AreBelow n xs → AreBelow (n + 1) xs
  below_more n [] a = tt
  below_more n (x ∷ xs) a = let low = a.0 in (omega arith, below_more n xs a.1)

  -- sights of another seat come behind
  since_more : (me : ℕ) (saw log more : List (Sight T)) → OnlyOthersSince me saw log → NoneOf me more → OnlyOthersSince me saw (log ++ more)
  since_more me saw log more h none = record {
    since = h.since ++ more;
    whole = ap (λ l. l ++ more) h.whole ∙ append_assoc saw h.since more;
    others = none_append me h.since more h.others none;
  }

  since_now : (me : ℕ) (log : List (Sight T)) → OnlyOthersSince me log log
  since_now me log = record { since = []; whole = sym (append-nil log); others = tt }

  fits_set : (k : ℕ) (chair : ℕ → ℕ) (log : List (Sight T)) (n : ℕ) (views : List (Side T)) (by : ℕ) (w : Side T)
      → ((j : ℕ) (u : Side T) → j ≢ by → get_elem? views j ≡ some u → Fits k chair log n j u) → Fits k chair log n by w
      → (j : ℕ) (u : Side T) → get_elem? (set views by w) j ≡ some u → Fits k chair log n j u
  fits_set k chair log n views by w others mine j u e =
      ⊎_elim
      (λ (x : (j ≡ by) × (w ≡ u)). subst (λ (y : ℕ × Side T). Fits k chair log n y.0 y.1) (λ i. (sym x.0 i, x.1 i)) mine)
      (λ (x : (j ≢ by) × (get_elem? views j ≡ some u)). others j u x.0 x.1)
      (at_set views by j w u e)

  at_end : (l : List (Side T)) (a b : Side T) (j : ℕ) → get_elem? (l ++ a ∷ []) j ≡ some b → ((j ≢ length l) × (get_elem? l j ≡ some b)) ⊎ ((j ≡ length l) × (a ≡ b))
  at_end [] a b zero e = inr (refl, some-injective a b e)
  at_end [] a b (suc j) e = absurd (some-ne-none b (sym e))
  at_end (x ∷ xs) a b zero e = inl ((λ h. omega arith), e)
  at_end (x ∷ xs) a b (suc j) e = ⊎_elim (λ t. let n = t.0 in inl ((λ h. n (omega arith)), t.1)) (λ t. inr (ap suc t.0, t.1)) (at_end xs a b j e)

  at_length : (l : List (Side T)) (b : Side T) (j : ℕ) → get_elem? l j ≡ some b → j < length l
  at_length [] b j e = absurd (some-ne-none b (sym e))
  at_length (x ∷ xs) b zero e = omega arith
  at_length (x ∷ xs) b (suc j) e = let low = at_length xs b j e in omega arith

  length_set : (l : List (Side T)) (i : ℕ) (a : Side T) → length (set l i a) ≡ length l
  length_set [] i a = refl
  length_set (x ∷ xs) zero a = refl
  length_set (x ∷ xs) (suc i) a = ap suc (length_set xs i a)

  -- a new pass at the end, and one that was changed
  fits_cut : (k : ℕ) (chair : ℕ → ℕ) (log : List (Sight T)) (n : ℕ) (views : List (Side T)) (by : ℕ) (w r : Side T)
      → ((j : ℕ) (u : Side T) → j ≢ by → get_elem? views j ≡ some u → Fits k chair log n j u) → Fits k chair log n by w → Fits k chair log n (length views) r
      → (j : ℕ) (u : Side T) → get_elem? (set views by w ++ r ∷ []) j ≡ some u → Fits k chair log n j u
  fits_cut k chair log n views by w r others mine new j u e =
      ⊎_elim
      (λ (t : (j ≢ length (set views by w)) × (get_elem? (set views by w) j ≡ some u)). fits_set k chair log n views by w others mine j u t.1)
      (λ (t : (j ≡ length (set views by w)) × (r ≡ u)). subst (λ (y : ℕ × Side T). Fits k chair log n y.0 y.1) (λ i. (sym (t.0 ∙ length_set views by w) i, t.1 i)) new)
      (at_end (set views by w) r u j e)

  pub begins : (words : List ℕ) → IsOrderly words (opening {T = T} ∷ [])
  begins words = record { keeper = 0; chair = λ k. k; log = []; seats = 0; below = tt; fits = one }
    where
      one : (by : ℕ) (v : Side T) → get_elem? (opening {T = T} ∷ []) by ≡ some v → Fits 0 (λ k. k) [] 0 by v
      one zero v e = subst (Fits 0 (λ k. k) [] 0 0) (some-injective _ _ e) ((λ _. (refl, refl, refl)), (λ is. absurd (off is)))
      one (suc by) v e = absurd (some-ne-none v (sym e))

  -- a seat that has the keeper with it adds what it says
  pub says : (by : ℕ) (v : Side T) (said : List T) → v.keeps ≡ true → v.sits ≡ true → Turns IsOrderly by v (λ x. x) (λ v x y w. SeesThese said v w)
  says by v said keeps sits words views h at =
      let keeper = h.keeper in
      let chair = h.chair in
      let log = h.log in
      let n = h.seats in
      let mine = h.fits by v at in
      let k = mine.0 keeps in
      let s = mine.1 sits in
      let more : List (Sight T) = sights v.me said in
      let new : List (Sight T) = v.log ++ more in
      let new_is : new ≡ log ++ more = ap (λ l. l ++ more) k.1 in
      let found : OnlyOthersSince v.me v.saw v.log = subst (OnlyOthersSince v.me v.saw) (sym k.1) s.2 in
      let low : v.me < n = s.1 in (
        knowing v new,
        record {
          keeper = keeper;
          chair = chair;
          log = new;
          seats = n;
          below = subst (AreBelow n) (sym new_is) (below_append n log more h.below (below_sights n v.me said low));
          fits = fits_set keeper chair new n views by (knowing v new)
              (λ j u apart e.
              let theirs = h.fits j u e in (
                (λ is. absurd (apart ((theirs.0 is).0 ∙ sym k.0))),
                (λ is.
                    let t = theirs.1 is in (
                      t.0,
                      t.1,
                      subst (OnlyOthersSince u.me u.saw) (sym new_is)
                          (since_more u.me u.saw log more t.2 (none_sights u.me v.me said (λ (same : v.me ≡ u.me). apart (sym t.0 ∙ (ap chair (sym same) ∙ s.0))))),
                    )),
              ))
              ((λ _. (k.0, refl, k.2)), (λ _. (s.0, s.1, since_now v.me new)));
        },
        record { found = found; seat = subst (λ c. v.me < c) (sym k.2) low; below = subst (λ (y : ℕ × List (Sight T)). AreBelow y.0 y.1) (λ i. (sym k.2 i, sym k.1 i)) h.below; after = refl },
      )

  -- the keeper is cut off
  pub parts : (by : ℕ) (v : Side T) → v.keeps ≡ true → v.sits ≡ true → Forks IsOrderly by v (seat_left v) (keeper_cut v)
  parts by v keeps sits words views h at =
      let mine = h.fits by v at in
      let k = mine.0 keeps in
      let s = mine.1 sits in record {
        keeper = length views;
        chair = h.chair;
        log = h.log;
        seats = h.seats;
        below = h.below;
        fits = fits_cut (length views) h.chair h.log h.seats views by (seat_left v) (keeper_cut v)
            (λ j u apart e. ((λ is. absurd (apart (((h.fits j u e).0 is).0 ∙ sym k.0))), (h.fits j u e).1))
            ((λ is. absurd (off is)), (λ _. s))
            ((λ _. (refl, k.1, k.2)), (λ is. absurd (off is)));
      }

  -- a seat takes the keeper in
  pub meets : (by : ℕ) (v : Side T) (other : ℕ) (w : Side T) → IsSeat v → IsKeeper w → Merges IsOrderly by v other w (taken_in v w) nobody
  meets by v other w seat keeper words views h at apart there =
      let s = (h.fits by v at).1 seat.1 in
      let theirs = ⊎_elim {C = get_elem? views other ≡ some w} (λ (t : (other ≡ by) × (taken_in v w ≡ w)). absurd (apart t.0)) (λ (t : (other ≢ by) × (get_elem? views other ≡ some w)). t.1) (at_set views by other (taken_in v w) w there) in
      let k = (h.fits other w theirs).0 keeper.0 in record {
        keeper = by;
        chair = h.chair;
        log = h.log;
        seats = h.seats;
        below = h.below;
        fits = fits_set by h.chair h.log h.seats (set views by (taken_in v w)) other nobody
            (λ j u away e. ⊎_elim
            (λ (x : (j ≡ by) × (taken_in v w ≡ u)). subst (λ (y : ℕ × Side T). Fits by h.chair h.log h.seats y.0 y.1) (λ i. (sym x.0 i, x.1 i)) ((λ _. (refl, k.1, k.2)), (λ _. s)))
            (λ (x : (j ≢ by) × (get_elem? views j ≡ some u)). ((λ is. absurd (away (((h.fits j u x.1).0 is).0 ∙ sym k.0))), (h.fits j u x.1).1))
            (at_set views by j (taken_in v w) u e))
            ((λ is. absurd (off is)), (λ is. absurd (off is)));
      }

  -- all that the keeper knows is cut off
  pub cuts : (by : ℕ) (v : Side T) → IsKeeper v → Forks IsOrderly by v nobody v
  cuts by v keeper words views h at =
      let k = (h.fits by v at).0 keeper.0 in record {
        keeper = length views;
        chair = h.chair;
        log = h.log;
        seats = h.seats;
        below = h.below;
        fits = fits_cut (length views) h.chair h.log h.seats views by nobody v
            (λ j u apart e. ((λ is. absurd (apart (((h.fits j u e).0 is).0 ∙ sym k.0))), (h.fits j u e).1))
            ((λ is. absurd (off is)), (λ is. absurd (off is)))
            ((λ _. (refl, k.1, k.2)), (λ is. absurd (true≢false (sym is ∙ keeper.1))));
      }

  -- one seat more
  pub sits_down : (by : ℕ) (v : Side T) → IsKeeper v → Forks IsOrderly by v (with_seat v) (new_seat v)
  sits_down by v keeper words views h at =
      let k = (h.fits by v at).0 keeper.0 in
      let chair : ℕ → ℕ = put h.chair h.seats (length views) in record {
        keeper = h.keeper;
        chair = chair;
        log = h.log;
        seats = h.seats + 1;
        below = below_more h.seats h.log h.below;
        fits = fits_cut h.keeper chair h.log (h.seats + 1) views by (with_seat v) (new_seat v)
            (λ j u apart e.
            let theirs = h.fits j u e in (
              (λ is. absurd (apart ((theirs.0 is).0 ∙ sym k.0))),
              (λ is. let t = theirs.1 is in let low = t.1 in (put_else h.chair h.seats (length views) u.me (λ (same : u.me ≡ h.seats). omega arith) ∙ t.0, omega arith, t.2)),
            ))
            ((λ _. (k.0, k.1, ap (λ c. c + 1) k.2)), (λ is. absurd (true≢false (sym is ∙ keeper.1)))) (
              (λ is. absurd (off is)),
              (λ _. (
                ap chair k.2 ∙ put_here h.chair h.seats (length views),
                let same = k.2 in omega arith,
                subst (λ l. OnlyOthersSince v.seats l h.log) (sym k.1) (since_now v.seats h.log),
              )),
            );
      }
