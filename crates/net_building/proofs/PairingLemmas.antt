-- The pairs of a network's points are made one after the other.
use Rattle.std.proofs.Common.{◌≡◌, ◌≢◌, ℕ, ◌<◌, ◌≤◌, Bool, true, false, eqb, ltb, Option, Some, None, List, [], cond, refl, ap, sym, ◌∙◌, arith, ⊎_elim}
use Rattle.std.specs.Option.{option_and_then}
use Rattle.std.proofs.lemmas.Bool.{eq-eqb, ne_eqb, cases_eq, cases_Bool, cond_both, ltb-true, ltb-false}
use Rattle.std.proofs.lemmas.Bool.Decides.{nat_tests}
use Rattle.net_items.specs.declared.items.Point.{Point}
use Rattle.net_items.specs.Keyed.{IsRising}
use Rattle.net_items.specs.Lookups.{point_at, mate_of}
use Rattle.net_data.specs.Edits.{with_mate, set_mate}
use Rattle.net_data.specs.Valid.{AreMates}
use Rattle.net_building.proofs.EndLemmas.{found_all, map-same}
use Rattle.net_building.proofs.MateLemmas.{told_mate, told_point, paired, also, set_mate-map, map-where}

-- what both changes of a pair make of a point: x and its mate o, the pair of p and q
module _ (told : ℕ → Bool) (p q : ℕ) (below : p < q) where
  -- a point of neither end
  other_end : (x : ℕ) (o : Option ℕ) → x ≢ p → (o ≡ Some p → x ≡ q) → x ≢ q → told_mate told x o ≡ told_mate (also p told) x o
  other_end x None not_p back not_q = refl
  other_end x (Some m) not_p back not_q =
      let not_mate : m ≢ p = λ e. not_q (back (ap Some e)) in
      let off : cond (ltb x m) x m ≢ p = grind (arith, nat_tests) in
      rw (ne_eqb p (cond (ltb x m) x m) (λ e. off (sym e))) (grind arith)

  -- the lower end
  low_end : (x : ℕ) (o : Option ℕ) → x ≡ p → o ≡ Some q → Some q ≡ told_mate (also p told) x o
  low_end x o at e = rw (e, at) (grind (arith, nat_tests))

  -- the higher end
  high_end : (x : ℕ) (o : Option ℕ) → x ≡ q → o ≡ Some p → Some p ≡ told_mate (also p told) x o
  high_end x o at e = rw (e, at) (grind (arith, nat_tests))

-- the points, with mates of each other
module _ (points : List Point) (rise : IsRising (λ (p : Point). p.code) points) (mates : (p m : ℕ) → mate_of points p ≡ Some m → AreMates points p m) where
  -- a pair of mates is made
  pub paired-made : (told : ℕ → Bool) (p q : ℕ) → p < q → mate_of points p ≡ Some q → set_mate p (Some q) (set_mate q (Some p) (paired told points)) ≡ paired (also p told) points
  paired-made told p q below is =
      let code : Point → ℕ = λ (x : Point). x.code in
      let high : Point → Point = λ x. cond (eqb x.code q) (with_mate (Some p) (told_point told x)) (told_point told x) in
      let both : Point → Point = λ x. cond (eqb x.code p) (with_mate (Some q) (high x)) (high x) in
      let keeps : (x : Point) → (high x).code ≡ x.code = λ x. cond_both (eqb x.code q) (with_mate (Some p) (told_point told x)) (told_point told x) (λ (y : Point). y.code ≡ x.code) (λ e. refl) (λ e. refl) in
      ap (λ ps. set_mate p (Some q) ps) (set_mate-map q (Some p) (told_point told) (λ x. refl) points rise)
      ∙ set_mate-map p (Some q) high keeps points rise
      ∙ map-where (λ (x : Point). point_at points x.code ≡ Some x) both (told_point (also p told))
      (λ x found.
      let own : mate_of points x.code ≡ x.mate = ap (option_and_then (λ (p : Point). p.mate)) found in
      ⊎_elim
      (λ (at : x.code ≡ p).
      let not_q : eqb x.code q ≡ false = ne_eqb x.code q (λ e. omega arith) in
      let yes : eqb x.code p ≡ true = eq-eqb x.code p at in
      let mate : x.mate ≡ Some q = sym own ∙ (ap (mate_of points) at ∙ is) in
      rw (yes, not_q) (ap (λ m. with_mate m x) (low_end told p q below x.code x.mate at mate)))
      (λ (not_p : x.code ≢ p).
      let no : eqb x.code p ≡ false = ne_eqb x.code p not_p in
      ⊎_elim
      (λ (at : x.code ≡ q).
      let yes : eqb x.code q ≡ true = eq-eqb x.code q at in
      let pair = mates p q is in
      let mate : x.mate ≡ Some p = sym own ∙ (ap (mate_of points) at ∙ pair.back) in
      rw (no, yes) (ap (λ m. with_mate m x) (high_end told p q below x.code x.mate at mate)))
      (λ (not_q : x.code ≢ q).
      let off : eqb x.code q ≡ false = ne_eqb x.code q not_q in
      let back : x.mate ≡ Some p → x.code ≡ q = λ e. let pair = mates x.code p (own ∙ e) in let other = pair.back in let same : Some x.code ≡ Some q = sym other ∙ is in cc in
      rw (no, off) (ap (λ m. with_mate m x) (other_end told p q below x.code x.mate not_p back not_q)))
      (cases_eq x.code q))
      (cases_eq x.code p))
      points (found_all code [] points points refl rise)

  -- a point's mate is told where the lower code of the two passes
  told_all : (told : ℕ → Bool) (x : ℕ) (o : Option ℕ) → mate_of points x ≡ o → ((c m : ℕ) → mate_of points c ≡ Some m → c < m → told c ≡ true) → told_mate told x o ≡ o
  told_all told x None is all = refl
  told_all told x (Some m) is all =
      let pair = mates x m is in
      let other = pair.differ in
      ⊎_elim
      (λ (b : ltb x m ≡ true). rw (b, all x m is (ltb-true x m b)) refl)
      (λ (b : ltb x m ≡ false). let le : m ≤ x = ltb-false x m b in rw (b, all m x pair.back (omega arith)) refl)
      (cases_Bool (ltb x m))

  -- if all passes, the points have their mates
  pub paired-all : (told : ℕ → Bool) → ((c m : ℕ) → mate_of points c ≡ Some m → c < m → told c ≡ true) → paired told points ≡ points
  paired-all told all =
      map-where (λ (x : Point). point_at points x.code ≡ Some x) (told_point told) (λ x. x)
      (λ x found. ap (λ m. with_mate m x) (told_all told x.code x.mate (ap (option_and_then (λ (p : Point). p.mate)) found) all))
      points (found_all (λ (x : Point). x.code) [] points points refl rise)
      ∙ map-same (λ x. x) (λ x. refl) points
