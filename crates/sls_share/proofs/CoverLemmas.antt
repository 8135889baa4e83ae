-- The probe order tries every position, so an available set has a link for each share number.
use Rattle.std.proofs.Common.{◌≡◌, ℕ, zero, suc, ◌+◌, ◌<◌, ◌≤◌, ◌/◌, ◌*◌, ◌%◌, List, [], ◌∷◌, Option, Some, None, map, cond, eqb, Bool, true, false, ◌||◌, refl, sym, ap, ◌∙◌, arith, length, slice_get}
use Rattle.std.specs.Prelude.{find, ◌==◌}
use Rattle.std.specs.List.{list_any, list_all, range_with_len}
use Rattle.std.specs.Option.{option_map_or}
use Rattle.std.proofs.lemmas.Bool.{eqb-true, eqb-false}
use Rattle.std.proofs.lemmas.Option.{slice_get_within}
use Rattle.net_items.specs.declared.links.Link.{Link}
use Rattle.net_items.specs.Links.{link_available, available_at}
use Rattle.sls_share.specs.Share.{probe, probe_order, position_for, link_for, share_of}
use Rattle.link_sets.proofs.ListLemmas.{find_gives, and_first, and_second, any_weaker}

abbrev pub covers : ℕ → ℕ → Bool
covers t n = list_all (λ i. list_any (λ j. probe t n j == i) (range_with_len 0 n)) (range_with_len 0 n)

pub each_covers : list_all (λ n. list_all (λ t. covers t n) (range_with_len 0 16)) (range_with_len 1 16) ≡ true
each_covers = refl

-- what holds of a whole range holds of each number in it
pub all_range : (f : ℕ → Bool) (a m k : ℕ) → list_all f (range_with_len a m) ≡ true → a ≤ k → k < a + m → f k ≡ true
all_range f a zero k all low high = absurd (omega arith)
all_range f a (suc m) k all low high = go (eqb a k) refl (all_range f (a + 1) m k (and_second (f a) (list_all f (range_with_len (a + 1) m)) all))
  where
    go : (b : Bool) → eqb a k ≡ b → (a + 1 ≤ k → k < a + 1 + m → f k ≡ true) → f k ≡ true
    go true e rec = ap f (sym (eqb-true a k e)) ∙ and_first (f a) (list_all f (range_with_len (a + 1) m)) all
    go false e rec =
        let apart : a ≡ k → ⊥ = eqb-false a k e in
        rec (omega (arith, apart, low)) (omega arith)

pub any_map : {X Y : Type 0} (f : X → Y) (p : Y → Bool) (xs : List X) → list_any (λ x. p (f x)) xs ≡ true → list_any p (map f xs) ≡ true
any_map f p [] e = e
any_map f p (x ∷ xs) e = go (p (f x)) refl (any_map f p xs)
  where
    go : (b : Bool) → p (f x) ≡ b → (list_any (λ x. p (f x)) xs ≡ true → list_any p (map f xs) ≡ true) → (p (f x) || list_any p (map f xs)) ≡ true
    go true t rec = rw t refl
    go false t rec = rw t (rec (rw t at e))

pub any_finds : {X : Type 0} (p : X → Bool) (xs : List X) → list_any p xs ≡ true → (x : X) × (find p xs ≡ Some x)
any_finds p [] e = cc
any_finds p (x ∷ xs) e = go (p x) refl (any_finds p xs)
  where
    go : (b : Bool) → p x ≡ b → (list_any p xs ≡ true → (y : _) × (find p xs ≡ Some y)) → (y : _) × (cond (p x) (Some x) (find p xs) ≡ Some y)
    go true t rec = (x, rw t refl)
    go false t rec = let r = rec (rw t at e) in (r.0, rw t r.1)

pub any_place : {X : Type 0} (p : X → Bool) (xs : List X) → list_any p xs ≡ true → (k : ℕ) × ((x : X) × (slice_get xs k ≡ Some x) × (p x ≡ true))
any_place p [] e = cc
any_place p (x ∷ xs) e = go (p x) refl (any_place p xs)
  where
    go : (b : Bool) → p x ≡ b → (list_any p xs ≡ true → (k : ℕ) × ((y : _) × (slice_get xs k ≡ Some y) × (p y ≡ true))) → (k : ℕ) × ((y : _) × (slice_get (x ∷ xs) k ≡ Some y) × (p y ≡ true))
    go true t rec = (0, (x, refl, t))
    go false t rec = let r = rec (rw t at e) in (suc r.0, r.1)

pub link_there : (links : List Link) (t : ℕ) → list_any link_available links ≡ true → length links ≤ 16 → t < 16 → (slc : ℕ) × (link_for links t ≡ Some slc)
link_there links t up few share =
    let position = any_place link_available links up in
    let i : ℕ = position.0 in
    let within : i < length links = slice_get_within links i position.1.0 position.1.1 in
    let here : available_at links i ≡ true = ap (λ (o : Option Link). option_map_or link_available o false) position.1.1 ∙ position.1.2 in
    let sizes : list_all (λ u. covers u (length links)) (range_with_len 0 16) ≡ true = all_range (λ n. list_all (λ u. covers u n) (range_with_len 0 16)) 1 16 (length links) each_covers (omega (arith, within)) (omega (arith, few)) in
    let shares : covers t (length links) ≡ true = all_range (λ u. covers u (length links)) 0 16 t sizes (omega arith) (omega (arith, share)) in
    let turn : list_any (λ j. eqb (probe t (length links) j) i) (range_with_len 0 (length links)) ≡ true
    = all_range (λ i. list_any (λ j. eqb (probe t (length links) j) i) (range_with_len 0 (length links))) 0 (length links) i shares (omega arith) (omega (arith, within)) in
    let found = any_finds (available_at links) (probe_order t (length links))
    (any_map (probe t (length links)) (available_at links) (range_with_len 0 (length links))
    (any_weaker (λ j. eqb (probe t (length links) j) i) (λ j. available_at links (probe t (length links) j)) (range_with_len 0 (length links))
    (λ j e. ap (available_at links) (eqb-true (probe t (length links) j) i e) ∙ here) turn)) in
    let passes : available_at links found.0 ≡ true = (find_gives (available_at links) (λ _. Unit {0}) (probe_order t (length links)) found.0 (λ k d h. tt) found.1).0 in
    go found.0 found.1 (slice_get links found.0) refl passes
  where
    go : (i : ℕ) → position_for links t ≡ Some i → (o : Option Link) → slice_get links i ≡ o → available_at links i ≡ true → (slc : ℕ) × (link_for links t ≡ Some slc)
    go i at None e passes = let no_link : false ≡ true = rw e at passes in cc
    go i at (Some link) e passes = (link.slc, rw (at, e) refl)

pub share_low : (size s : ℕ) → s < 16 → share_of size s < 16
share_low size s low = go (eqb size 1)
  where
    go : (b : Bool) → cond b s (s / 2 + 8 * (s % 2)) < 16
    go true = low
    go false = omega arith

-- what passes in a range stands in it
pub any_in_range : (p : ℕ → Bool) (a n : ℕ) → list_any p (range_with_len a n) ≡ true → (k : ℕ) × (k < a + n) × (p k ≡ true)
any_in_range p a zero e = cc
any_in_range p a (suc n) e = go (p a) refl (any_in_range p (a + 1) n)
  where
    go : (b : Bool) → p a ≡ b → (list_any p (range_with_len (a + 1) n) ≡ true → (k : ℕ) × (k < a + 1 + n) × (p k ≡ true)) → (k : ℕ) × (k < a + suc n) × (p k ≡ true)
    go true t rec = (a, omega arith, t)
    go false t rec =
        let r = rec (rw t at e) in
        (r.0, omega (arith, r.1), r.2)

pub probe_found : (n t i : ℕ) → n ≤ 16 → t < 16 → i < n → (j : ℕ) × (j < n) × (probe t n j ≡ i)
probe_found n t i few share within =
    let sizes : list_all (λ u. covers u n) (range_with_len 0 16) ≡ true = all_range (λ n. list_all (λ u. covers u n) (range_with_len 0 16)) 1 16 n each_covers (omega arith) (omega arith) in
    let shares : covers t n ≡ true = all_range (λ u. covers u n) 0 16 t sizes (omega arith) (omega arith) in
    let turn : list_any (λ j. eqb (probe t n j) i) (range_with_len 0 n) ≡ true
    = all_range (λ i. list_any (λ j. eqb (probe t n j) i) (range_with_len 0 n)) 0 n i shares (omega arith) (omega arith) in
    let r = any_in_range (λ j. eqb (probe t n j) i) 0 n turn in
    (r.0, omega (arith, r.1), eqb-true (probe t n r.0) i r.2)
