-- What a table of the codes seen says of a list.
use Rattle.std.proofs.Common.{map, ◌≡◌, ◌≢◌, ℕ, zero, suc, ◌+◌, append_assoc, append-nil, add-one, ◌<◌, Bool, true, false, not, ◌||◌, eqb, List, [], ◌∷◌, ◌++◌, length, get_or, set, take, drop, refl, ap, sym, ◌∙◌, subst, arith, ⊎_elim}
use Rattle.std.specs.List.{list_any, list_all}
use Rattle.net_items.specs.declared.items.Point.{Point}
use Rattle.net_items.specs.declared.lists.Row.{Row}
use Rattle.std.proofs.lemmas.Bool.{and_parts, or_left, or_right, or_cases, cases_eq, eqb-true, eq-eqb, ne_eqb, and_right}
use Rattle.std.proofs.lemmas.Bool.Decides.{nat_tests}
use Rattle.std.proofs.lemmas.List.{get_or-set_same, get_or-set_other, take_more}
use Rattle.std.proofs.lemmas.List.Folds.{list_any-append}
use Rattle.net_sets.specs.Sets.{is_distinct}
use Rattle.net_items.specs.Lookups.{concat_vias, has_point}
use Rattle.plan_rows.specs.Seen.{IsSeen}

-- one that is there already stands twice
pub is_distinct-twice : (xs : List ℕ) (z : ℕ) (ys : List ℕ) → list_any (λ y. eqb y z) xs ≡ true → is_distinct (xs ++ z ∷ ys) ≡ false
is_distinct-twice [] z ys h = absurd (cc)
is_distinct-twice (x ∷ xs) z ys h =
    ⊎_elim
    (λ e. let same : z ≡ x = sym (eqb-true x z e) in
    let here : list_any (λ y. eqb y x) (xs ++ z ∷ ys) ≡ true = list_any-append (λ y. eqb y x) xs (z ∷ ys) ∙ or_right (list_any (λ y. eqb y x) xs) _ (or_left (eqb z x) _ (eq-eqb z x same)) in
    rw here refl)
    (λ e. and_right (not (list_any (λ y. eqb y x) (xs ++ z ∷ ys))) _ (is_distinct-twice xs z ys e))
    (or_cases (eqb x z) _ h)

-- a new one keeps them apart
pub is_distinct-push : (xs : List ℕ) (z : ℕ) → is_distinct xs ≡ true → list_any (λ y. eqb y z) xs ≡ false → is_distinct (xs ++ z ∷ []) ≡ true
is_distinct-push [] z h none = refl
is_distinct-push (x ∷ xs) z h none =
    grind (arith, nat_tests, is_distinct-push xs z, list_any-append (λ y. eqb y x) xs (z ∷ []))

-- after a code is marked
pub IsSeen-push : (seen : List Bool) (done : List ℕ) (z : ℕ) → length seen ≡ 16384 → z < 16384 → IsSeen seen done → IsSeen (set seen z true) (done ++ z ∷ [])
IsSeen-push seen done z long small is_seen = λ y within.
    let others = list_any-append (λ x. eqb x y) done (z ∷ []) in
    ⊎_elim
    (λ (same : y ≡ z). subst (λ n. get_or (set seen z true) n false ≡ list_any (λ x. eqb x n) (done ++ z ∷ [])) (sym same)
    (get_or-set_same seen z true false (omega arith) ∙ sym (list_any-append (λ x. eqb x z) done (z ∷ []) ∙ or_right (list_any (λ x. eqb x z) done) _ (or_left (eqb z z) _ (eq-eqb z z refl)))))
    (λ (other : y ≢ z).
    let off : eqb z y ≡ false = ne_eqb z y (λ e. other (sym e)) in
    let old = is_seen y within in
    get_or-set_other seen z y true false other ∙ old ∙ sym (others ∙ rw off (grind arith)))
    (cases_eq y z)

-- one more of a list
pub take_push : {X : Type 0} (xs : List X) (i : ℕ) (z d : X) → i < length xs → z ≡ get_or xs i d → take (i + 1) xs ≡ take i xs ++ z ∷ []
take_push xs i z d within is = take_more xs i d within ∙ ap (λ y. take i xs ++ y ∷ []) (sym is)

pub push_done : (done xs : List ℕ) (i z d : ℕ) → i < length xs → z ≡ get_or xs i d → done ++ take (i + 1) xs ≡ (done ++ take i xs) ++ z ∷ []
push_done done xs i z d within is = ap (λ ys. done ++ ys) (take_push xs i z d within is) ∙ sym (append_assoc done (take i xs) (z ∷ []))

split_at : {X : Type 0} (xs : List X) (i : ℕ) (z d : X) → i < length xs → z ≡ get_or xs i d → xs ≡ take i xs ++ z ∷ drop (suc i) xs
split_at [] i z d within is = absurd (omega arith)
split_at (x ∷ xs) zero z d within is = ap (λ y. y ∷ xs) (sym is)
split_at (x ∷ xs) (suc i) z d within is = ap (λ ys. x ∷ ys) (split_at xs i z d (omega arith) is)

-- a list in which one stands that was there before
pub is_distinct-at : (done xs : List ℕ) (i z d : ℕ) → i < length xs → z ≡ get_or xs i d → list_any (λ y. eqb y z) (done ++ take i xs) ≡ true → is_distinct (done ++ xs) ≡ false
is_distinct-at done xs i z d within is there =
    subst (λ ys. is_distinct (done ++ ys) ≡ false) (sym (split_at xs i z d within is))
    (subst (λ ys. is_distinct ys ≡ false) (append_assoc done (take i xs) (z ∷ drop (suc i) xs)) (is_distinct-twice (done ++ take i xs) z (drop (suc i) xs) there))

-- a longer list isn't apart either
pub is_distinct-more : (xs ys : List ℕ) → is_distinct xs ≡ false → is_distinct (xs ++ ys) ≡ false
is_distinct-more [] ys h = absurd (cc)
is_distinct-more (x ∷ xs) ys h = grind (arith, is_distinct-more xs ys, list_any-append (λ y. eqb y x) xs ys)

-- the vias of one more class
concat_push_suc : (xs : List (List ℕ)) (i : ℕ) (v d : List ℕ) → i < length xs → v ≡ get_or xs i d → concat_vias (take (suc i) xs) ≡ concat_vias (take i xs) ++ v
concat_push_suc [] i v d within is = absurd (omega arith)
concat_push_suc (x ∷ xs) zero v d within is = append-nil x ∙ sym is
concat_push_suc (x ∷ xs) (suc i) v d within is = ap (λ ys. x ++ ys) (concat_push_suc xs i v d (omega arith) is) ∙ sym (append_assoc x (concat_vias (take i xs)) v)

pub concat_push : (xs : List (List ℕ)) (i : ℕ) (v d : List ℕ) → i < length xs → v ≡ get_or xs i d → concat_vias (take (i + 1) xs) ≡ concat_vias (take i xs) ++ v
concat_push xs i v d within is = rw (add-one i) (concat_push_suc xs i v d within is)

pub concat_split : (xs : List (List ℕ)) (i : ℕ) (v d : List ℕ) → i < length xs → v ≡ get_or xs i d → concat_vias xs ≡ (concat_vias (take i xs) ++ v) ++ concat_vias (drop (suc i) xs)
concat_split [] i v d within is = absurd (omega arith)
concat_split (x ∷ xs) zero v d within is = ap (λ y. y ++ concat_vias xs) (sym is)
concat_split (x ∷ xs) (suc i) v d within is =
    ap (λ ys. x ++ ys) (concat_split xs i v d (omega arith) is)
    ∙ (ap (λ ys. x ++ ys) (append_assoc (concat_vias (take i xs)) v (concat_vias (drop (suc i) xs)))
    ∙ (sym (append_assoc x (concat_vias (take i xs)) (v ++ concat_vias (drop (suc i) xs)))
    ∙ sym (append_assoc (x ++ concat_vias (take i xs)) v (concat_vias (drop (suc i) xs)))))

-- a test of the vias of classes
concat_any : (p : ℕ → Bool) (classes : List (List ℕ)) → list_any p (concat_vias classes) ≡ list_any (λ vias. list_any p vias) classes
concat_any p [] = refl
concat_any p (vias ∷ classes) = list_any-append p vias (concat_vias classes) ∙ ap (λ b. list_any p vias || b) (concat_any p classes)

both_any : (p : ℕ → Bool) (others : List ℕ) (later : List (List ℕ)) → list_any p (others ++ concat_vias later) ≡ (list_any p others || list_any (λ vias. list_any p vias) later)
both_any p others later = list_any-append p others (concat_vias later) ∙ ap (λ b. list_any p others || b) (concat_any p later)

-- a first via that stands nowhere later
pub new_first : (z : ℕ) (others : List ℕ) (later : List (List ℕ)) → list_any (λ y. eqb y z) others ≡ false → list_any (λ vias. list_any (λ y. eqb y z) vias) later ≡ false
    → is_distinct ((z ∷ others) ++ concat_vias later) ≡ is_distinct (others ++ concat_vias later)
new_first z others later none none_later =
    let no : list_any (λ y. eqb y z) (others ++ concat_vias later) ≡ false = both_any (λ y. eqb y z) others later ∙ rw (none, none_later) refl in
    rw no refl

-- a first via that stands later too
pub twice_first : (z : ℕ) (others : List ℕ) (later : List (List ℕ)) → (list_any (λ y. eqb y z) others || list_any (λ vias. list_any (λ y. eqb y z) vias) later) ≡ true
    → is_distinct ((z ∷ others) ++ concat_vias later) ≡ false
twice_first z others later some =
    let yes : list_any (λ y. eqb y z) (others ++ concat_vias later) ≡ true = both_any (λ y. eqb y z) others later ∙ some in
    rw yes refl

-- a point is there exactly if its code is among the codes
codes_there : (points : List Point) (c : ℕ) → list_any (λ y. eqb y c) (map (λ (p : Point). p.code) points) ≡ has_point points c
codes_there [] c = refl
codes_there (p ∷ ps) c = go (eqb p.code c) refl (codes_there ps c)
  where
    go : (b : Bool) → eqb p.code c ≡ b → list_any (λ y. eqb y c) (map (λ (p : Point). p.code) ps) ≡ has_point ps c
        → list_any (λ y. eqb y c) (map (λ (p : Point). p.code) (p ∷ ps)) ≡ has_point (p ∷ ps) c
    go true e rec = rw e refl
    go false e rec = rw e rec

-- one more row of which the point is there
pub there-next : (points : List Point) (rows : List Row) (i : ℕ) (r : Row) (b : Bool) → i < length rows → r ≡ get_or rows i r → b ≡ list_any (λ y. eqb y r.point) (map (λ (p : Point). p.code) points) → b ≡ true
    → list_all (λ (r : Row). has_point points r.point) (take i rows) ≡ true → list_all (λ (r : Row). has_point points r.point) (take (i + 1) rows) ≡ true
there-next points rows i r b within is said seen before =
    let here : has_point points r.point ≡ true = sym (codes_there points r.point) ∙ (sym said ∙ seen) in
    subst (λ xs. list_all (λ (r : Row). has_point points r.point) xs ≡ true) (sym (take_push rows i r r within is))
    (all-append (λ (r : Row). has_point points r.point) (take i rows) r before here)
  where
    all-append : (t : Row → Bool) (xs : List Row) (x : Row) → list_all t xs ≡ true → t x ≡ true → list_all t (xs ++ x ∷ []) ≡ true
    all-append t [] x h one = rw one refl
    all-append t (y ∷ ys) x h one = let both = and_parts (t y) _ h in rw both.0 (all-append t ys x both.1 one)

-- a row of which the point is not there
pub there-not : (points : List Point) (rows : List Row) (i : ℕ) (r : Row) (b : Bool) → i < length rows → r ≡ get_or rows i r → b ≡ list_any (λ y. eqb y r.point) (map (λ (p : Point). p.code) points) → b ≡ false
    → list_all (λ (r : Row). has_point points r.point) rows ≡ false
there-not points rows i r b within is said missing = at rows i r within is (sym (codes_there points r.point) ∙ (sym said ∙ missing))
  where
    at : (rows : List Row) (i : ℕ) (r : Row) → i < length rows → r ≡ get_or rows i r → has_point points r.point ≡ false → list_all (λ (r : Row). has_point points r.point) rows ≡ false
    at [] i r within is none = absurd (omega arith)
    at (x ∷ xs) zero r within is none = let e : has_point points x.point ≡ false = subst (λ (u : Row). has_point points u.point ≡ false) is none in rw e refl
    at (x ∷ xs) (suc i) r within is none = let rest = at xs i r (omega arith) is none in rw rest (grind arith)
