-- Which sets a table reads, row by row and found by their ends.
use Rattle.std.proofs.Common.{◌≡◌, ℕ, ◌+◌, ◌<◌, Bool, true, false, ◌&&◌, ◌||◌, eqb, List, [], ◌∷◌, ◌++◌, length, map, take, get_or, cond, refl, ap, sym, ◌∙◌, subst, arith}
use Rattle.std.specs.Prelude.{filter}
use Rattle.std.specs.List.{AllByRecursion, list_any}
use Rattle.std.specs.Option.{option_map_or}
use Rattle.std.proofs.lemmas.Bool.{eqb-true}
use Rattle.std.proofs.lemmas.Bool.Decides.{nat_tests}
use Rattle.std.proofs.lemmas.List.{map-append, take_more}
use Rattle.std.proofs.lemmas.List.Elements.{filter-append}
use Rattle.plan_rows.proofs.SeenLemmas.{take_push}
use Rattle.net_items.specs.declared.items.LinkSet.{LinkSet}
use Rattle.net_items.specs.declared.lists.Row.{Row}
use Rattle.net_items.specs.Keyed.{IsRising}
use Rattle.net_items.specs.Lookups.{joins, row_at, is_via}
use Rattle.excerpts.specs.Excerpt.{leads}

-- a set between a point and a via of a class
in_class : (set : LinkSet) (y : ℕ) (vias : List ℕ) → list_any (λ via. joins y via set) vias
    ≡ ((eqb y set.a && list_any (λ v. eqb v set.b) vias) || (eqb y set.b && list_any (λ v. eqb v set.a) vias))
in_class set y [] = grind arith
in_class set y (via ∷ vias) = grind (arith, nat_tests, in_class set y vias)

-- a set between a point and a via of some classes
in_classes : (set : LinkSet) (y : ℕ) (classes : List (List ℕ)) → list_any (λ vias. list_any (λ via. joins y via set) vias) classes
    ≡ ((eqb y set.a && list_any (λ vias. list_any (λ v. eqb v set.b) vias) classes) || (eqb y set.b && list_any (λ vias. list_any (λ v. eqb v set.a) vias) classes))
in_classes set y [] = grind arith
in_classes set y (vias ∷ classes) = let here = in_class set y vias in let rest = in_classes set y classes in rw (here, rest) (grind arith)

-- no later row has the point of a first one
none_later : (t : Row → Bool) (y : ℕ) (rows : List Row) → AllByRecursion (λ (r : Row). y < r.point) rows → list_any (λ (r : Row). eqb r.point y && t r) rows ≡ false
none_later t y [] all = refl
none_later t y (r ∷ rs) all = let above : y < r.point = all.0 in let rest = none_later t y rs all.1 in grind (arith, nat_tests)

-- what a row of the point passes is what the row that is found passes
pub at_once : (t : Row → Bool) (y : ℕ) (rows : List Row) → IsRising (λ (r : Row). r.point) rows → list_any (λ (r : Row). eqb r.point y && t r) rows ≡ option_map_or t (row_at rows y) false
at_once t y [] up = refl
at_once t y (r ∷ rs) up = go (eqb r.point y) refl (at_once t y rs up.1)
  where
    go : (b : Bool) → eqb r.point y ≡ b → list_any (λ (r : Row). eqb r.point y && t r) rs ≡ option_map_or t (row_at rs y) false
        → list_any (λ (r : Row). eqb r.point y && t r) (r ∷ rs) ≡ option_map_or t (row_at (r ∷ rs) y) false
    go true e rec =
        let same : r.point ≡ y = eqb-true r.point y e in
        let none : list_any (λ (r : Row). eqb r.point y && t r) rs ≡ false = none_later t y rs (subst (λ n. AllByRecursion (λ (x : Row). n < x.point) rs) same up.0) in
        rw (e, none) (grind arith)
    go false e rec =
        rw e rec

-- two tests together
any_or : (p q : Row → Bool) (rows : List Row) → list_any (λ r. p r || q r) rows ≡ (list_any p rows || list_any q rows)
any_or p q [] = refl
any_or p q (r ∷ rs) = let rest = any_or p q rs in rw rest (grind arith)

any_same : (p q : Row → Bool) → ((r : Row) → p r ≡ q r) → (rows : List Row) → list_any p rows ≡ list_any q rows
any_same p q same [] = refl
any_same p q same (r ∷ rs) = let here = same r in let rest = any_same p q same rs in rw (here, rest) refl

-- the set joins a row's point with one of its vias
pub row_leads : (set : LinkSet) (rows : List Row) → IsRising (λ (r : Row). r.point) rows
    → list_any (λ (row : Row). list_any (λ vias. list_any (λ via. joins row.point via set) vias) row.classes) rows ≡ (leads rows set.a set.b || leads rows set.b set.a)
row_leads set rows up =
    any_same _ (λ (r : Row). (eqb r.point set.a && is_via r set.b) || (eqb r.point set.b && is_via r set.a)) (λ r. in_classes set r.point r.classes) rows
    ∙ (any_or (λ (r : Row). eqb r.point set.a && is_via r set.b) (λ (r : Row). eqb r.point set.b && is_via r set.a) rows
    ∙ rw (at_once (λ (r : Row). is_via r set.b) set.a rows up, at_once (λ (r : Row). is_via r set.a) set.b rows up) refl)

-- one more of a list is filtered
pub filter-next : (p : LinkSet → Bool) (sets : List LinkSet) (i : ℕ) (s d : LinkSet) → i < length sets → s ≡ get_or sets i d → filter p (take (i + 1) sets) ≡ filter p (take i sets) ++ cond (p s) (s ∷ []) []
filter-next p sets i s d within is =
    ap (filter p) (take_more sets i d within) ∙ (filter-append p (take i sets) (get_or sets i d ∷ []) ∙ rw (sym is) refl)

-- one more of a list is mapped
pub map-push : {X Y : Type 0} (f : X → Y) (xs : List X) (i : ℕ) (x : X) (ys : List Y) (y : Y) → i < length xs → x ≡ get_or xs i x → y ≡ f x → ys ≡ map f (take i xs) → ys ++ y ∷ [] ≡ map f (take (i + 1) xs)
map-push {X} {Y} f xs i x ys y within is one so_far =
    ap (λ (l : List Y). l ++ y ∷ []) so_far
    ∙ ap (λ (z : Y). map f (take i xs) ++ z ∷ []) one
    ∙ sym (map-append f (take i xs) (x ∷ []))
    ∙ ap (map f) (sym (take_push xs i x x within is))

-- a list is compared with what of another passes a test, from the front
module _ (p : LinkSet → Bool) (X : Type 0) (left rest : List LinkSet) (s : LinkSet) (others : List LinkSet) (front : rest ≡ s ∷ others)
    (to : left ≡ filter p rest → X) (from : X → left ≡ filter p rest) where
  passing : p s ≡ true → filter p rest ≡ s ∷ filter p others
  passing t = rw (front, t) refl

  failing : p s ≡ false → filter p rest ≡ filter p others
  failing t = rw (front, t) refl

  pub skipped-to : p s ≡ false → left ≡ filter p others → X
  skipped-to t e = to (e ∙ sym (failing t))

  pub skipped-from : p s ≡ false → X → left ≡ filter p others
  skipped-from t x = from x ∙ failing t

  pub ended : p s ≡ true → length left ≡ 0 → X → ⊥
  ended t none x = let e : left ≡ s ∷ filter p others = from x ∙ passing t in absurd (omega (arith, ap length e))

  pub other_first : p s ≡ true → (first : LinkSet) (more : List LinkSet) → left ≡ first ∷ more → (first ≡ s → ⊥) → X → ⊥
  other_first t first more e differ x = let both : first ∷ more ≡ s ∷ filter p others = sym e ∙ (from x ∙ passing t) in differ cc

  pub same_first-to : p s ≡ true → (first : LinkSet) (more : List LinkSet) → left ≡ first ∷ more → first ≡ s → more ≡ filter p others → X
  same_first-to t first more e same m = to (e ∙ (rw (same, m) refl ∙ sym (passing t)))

  pub same_first-from : p s ≡ true → (first : LinkSet) (more : List LinkSet) → left ≡ first ∷ more → X → more ≡ filter p others
  same_first-from t first more e x = let both : first ∷ more ≡ s ∷ filter p others = sym e ∙ (from x ∙ passing t) in cc
