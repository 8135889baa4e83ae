-- The mates of a network's points are told one pair after the other.
use Rattle.std.proofs.Common.{map, ◌≡◌, ℕ, ◌<◌, Bool, true, false, ◌||◌, eqb, ltb, Option, Some, None, is_some, List, [], ◌∷◌, cond, refl, ap, ◌∙◌, subst, arith}
use Rattle.std.specs.List.{AllByRecursion}
use Rattle.std.specs.Option.{option_map, option_map_or, option_and_then}
use Rattle.std.proofs.lemmas.Bool.{ne_eqb, eqb-true}
use Rattle.net_items.specs.declared.items.Point.{Point}
use Rattle.net_items.specs.Keyed.{IsRising}
use Rattle.net_items.specs.Lookups.{point_at, has_point, is_stp, kind_is_stp, mate_of}
use Rattle.net_data.specs.Edits.{with_mate, set_mate}

-- the mate of the point of that code, where the lower code of the two passes
abbrev pub told_mate : (ℕ → Bool) → ℕ → Option ℕ → Option ℕ
told_mate told c None = None
told_mate told c (Some m) = cond (told (cond (ltb c m) c m)) (Some m) None

-- a point with its mate, where the lower code of the two passes
abbrev pub told_point : (ℕ → Bool) → Point → Point
told_point told p = with_mate (told_mate told p.code p.mate) p

-- the points, each with its mate where the lower code of the two passes
abbrev pub paired : (ℕ → Bool) → List Point → List Point
paired told points = map (told_point told) points

-- one code more passes
abbrev pub also : ℕ → (ℕ → Bool) → ℕ → Bool
also k told c = told c || eqb k c

-- the point that is found is the one that stood there, with its mate if it was told
pub point_at-paired : (told : ℕ → Bool) (points : List Point) (c : ℕ) → point_at (paired told points) c ≡ option_map (told_point told) (point_at points c)
point_at-paired told [] c = refl
point_at-paired told (p ∷ ps) c = go (eqb p.code c) refl (point_at-paired told ps c)
  where
    go : (b : Bool) → eqb p.code c ≡ b → point_at (paired told ps) c ≡ option_map (told_point told) (point_at ps c) → point_at (paired told (p ∷ ps)) c ≡ option_map (told_point told) (point_at (p ∷ ps) c)
    go true e rec = rw e refl
    go false e rec = rw e rec

is_some-told : (told : ℕ → Bool) (o : Option Point) → is_some (option_map (told_point told) o) ≡ is_some o
is_some-told told None = refl
is_some-told told (Some p) = refl

is_stp-told : (told : ℕ → Bool) (o : Option Point) → option_map_or (λ (p : Point). kind_is_stp p.kind) (option_map (told_point told) o) false ≡ option_map_or (λ (p : Point). kind_is_stp p.kind) o false
is_stp-told told None = refl
is_stp-told told (Some p) = refl

pub has_point-paired : (told : ℕ → Bool) (points : List Point) (c : ℕ) → has_point (paired told points) c ≡ has_point points c
has_point-paired told points c = ap is_some (point_at-paired told points c) ∙ is_some-told told (point_at points c)

pub is_stp-paired : (told : ℕ → Bool) (points : List Point) (c : ℕ) → is_stp (paired told points) c ≡ is_stp points c
is_stp-paired told points c = ap (λ o. option_map_or (λ (p : Point). kind_is_stp p.kind) o false) (point_at-paired told points c) ∙ is_stp-told told (point_at points c)

-- a found point has the code that was looked for
told_at : (told : ℕ → Bool) (points : List Point) (c : ℕ) → option_and_then (λ (p : Point). p.mate) (option_map (told_point told) (point_at points c)) ≡ told_mate told c (mate_of points c)
told_at told [] c = refl
told_at told (p ∷ ps) c = go (eqb p.code c) refl (told_at told ps c)
  where
    go : (b : Bool) → eqb p.code c ≡ b → option_and_then (λ (p : Point). p.mate) (option_map (told_point told) (point_at ps c)) ≡ told_mate told c (mate_of ps c)
        → option_and_then (λ (p : Point). p.mate) (option_map (told_point told) (point_at (p ∷ ps) c)) ≡ told_mate told c (mate_of (p ∷ ps) c)
    go true e rec = rw e (ap (λ n. told_mate told n p.mate) (eqb-true p.code c e))
    go false e rec = rw e rec

pub mate_of-paired : (told : ℕ → Bool) (points : List Point) (c : ℕ) → mate_of (paired told points) c ≡ told_mate told c (mate_of points c)
mate_of-paired told points c = ap (option_and_then (λ (p : Point). p.mate)) (point_at-paired told points c) ∙ told_at told points c

-- a mate that isn't told
pub told_mate-none : (told : ℕ → Bool) (c : ℕ) (o : Option ℕ) (m : ℕ) → o ≡ Some m → told (cond (ltb c m) c m) ≡ false → told_mate told c o ≡ None
told_mate-none told c o m is off = rw is (rw off refl)

-- one mate of points in rising codes is changed
pub set_mate-map : (c : ℕ) (m : Option ℕ) (g : Point → Point) → ((p : Point) → (g p).code ≡ p.code) → (points : List Point) → IsRising (λ (p : Point). p.code) points
    → set_mate c m (map g points) ≡ map (λ (p : Point). cond (eqb p.code c) (with_mate m (g p)) (g p)) points
set_mate-map c m g keeps [] up = refl
set_mate-map c m g keeps (p ∷ ps) up = go (eqb p.code c) refl (set_mate-map c m g keeps ps up.1)
  where
    others : (qs : List Point) → AllByRecursion (λ (q : Point). c < q.code) qs → map g qs ≡ map (λ (p : Point). cond (eqb p.code c) (with_mate m (g p)) (g p)) qs
    others [] above = refl
    others (q ∷ qs) above =
        let high : c < q.code = above.0 in
        rw (ne_eqb q.code c (λ e. omega arith)) (ap (λ rs. g q ∷ rs) (others qs above.1))

    go : (b : Bool) → eqb p.code c ≡ b → set_mate c m (map g ps) ≡ map (λ (p : Point). cond (eqb p.code c) (with_mate m (g p)) (g p)) ps
        → set_mate c m (map g (p ∷ ps)) ≡ map (λ (p : Point). cond (eqb p.code c) (with_mate m (g p)) (g p)) (p ∷ ps)
    go true e rec =
        let above : AllByRecursion (λ (q : Point). c < q.code) ps = subst (λ n. AllByRecursion (λ (q : Point). n < q.code) ps) (eqb-true p.code c e) up.0 in
        let here : eqb (g p).code c ≡ true = ap (λ n. eqb n c) (keeps p) ∙ e in
        rw (here, e) (ap (λ rs. with_mate m (g p) ∷ rs) (others ps above))
    go false e rec =
        let here : eqb (g p).code c ≡ false = ap (λ n. eqb n c) (keeps p) ∙ e in
        rw (here, e) (ap (λ rs. g p ∷ rs) rec)

-- maps that agree where a fact holds
pub map-where : {X Y : Type 0} (P : X → Type 0) (f g : X → Y) → ((x : X) → P x → f x ≡ g x) → (xs : List X) → AllByRecursion P xs → map f xs ≡ map g xs
map-where P f g same [] all = refl
map-where P f g same (x ∷ xs) all = rw (same x all.0, map-where P f g same xs all.1) refl
