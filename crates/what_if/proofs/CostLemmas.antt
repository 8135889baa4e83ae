-- What lists of links take, and the one of several lists that takes least.
use Rattle.std.proofs.Common.{◌≡◌, ℕ, ◌+◌, ◌*◌, ◌<◌, ◌≤◌, ◌++◌, List, [], ◌∷◌, Option, Some, None, All, map, cond, eqb, ltb, Bool, true, false, ◌&&◌, ◌||◌, refl, sym, ap, ◌∙◌, arith, inl, inr, ◌⊎◌, subst, length, length-append, get_or, drop}
use Rattle.std.specs.List.{Contains, count_by, sum_by}
use Rattle.std.proofs.lemmas.Bool.{eq-eqb, eqb-true, and_from, or_left, or_right, or_cases, true≢false, lt-ltb, ltb-true, cases_lt}
use Rattle.std.proofs.lemmas.List.Elements.{All-head, All-tail, All-nil, All-cons, All-weaker, All-contains_itself}
use Rattle.std.proofs.lemmas.List.Sums.{sum_by-append, sum_by-le, count_by-le-length}
use Rattle.std.proofs.lemmas.List.{drop_more}
use Rattle.link_state.specs.declared.marks.Marks.{Marks}
use Rattle.link_sets.proofs.ListLemmas.{and_first, and_second}
use Rattle.what_if.specs.declared.costs.Cost.{Cost}
use Rattle.what_if.specs.declared.mending.SetLink.{SetLink}
use Rattle.what_if.specs.Mending.{mark_count, cost, sum_of_costs, takes_less, cheaper, least_of}

-- ---- the order

-- the first takes no more than the second
pub record NoMore (one other : Cost) : Type 0 where
  pub links : one.links ≤ other.links
  pub repairs : one.links ≡ other.links → one.repairs ≤ other.repairs
  pub marks : one.links ≡ other.links → one.repairs ≡ other.repairs → one.marks ≤ other.marks

less_cases : (one other : Cost) → takes_less one other ≡ true
    → (one.links < other.links) ⊎ ((one.links ≡ other.links) × ((one.repairs < other.repairs) ⊎ ((one.repairs ≡ other.repairs) × (one.marks < other.marks))))
less_cases one other e =
    let marks : Bool = eqb one.repairs other.repairs && ltb one.marks other.marks in
    let rest : Bool = ltb one.repairs other.repairs || marks in
    elim (or_cases (ltb one.links other.links) (eqb one.links other.links && rest) e) [
      | inl h ↦ inl (ltb-true one.links other.links h)
      | inr h ↦ inr (
        eqb-true one.links other.links (and_first (eqb one.links other.links) rest h),
        elim (or_cases (ltb one.repairs other.repairs) marks (and_second (eqb one.links other.links) rest h)) [
          | inl r ↦ inl (ltb-true one.repairs other.repairs r)
          | inr r ↦ inr (eqb-true one.repairs other.repairs (and_first (eqb one.repairs other.repairs) (ltb one.marks other.marks) r), ltb-true one.marks other.marks (and_second (eqb one.repairs other.repairs) (ltb one.marks other.marks) r))
        ],
      )
    ]

pub less_no_more : (one other : Cost) → takes_less one other ≡ true → NoMore one other
less_no_more one other e = elim (less_cases one other e) [
  | inl h ↦ record { links = omega (arith, h); repairs = λ l. omega (arith, h, l); marks = λ l r. omega (arith, h, l) }
  | inr w ↦ elim w.1 [
    | inl h ↦ record { links = omega (arith, w.0); repairs = λ l. omega (arith, h); marks = λ l r. omega (arith, h, r) }
    | inr h ↦ record { links = omega (arith, w.0); repairs = λ l. omega (arith, h.0); marks = λ l r. omega (arith, h.1) }
  ]
]

pub no_more_is : (one other : Cost) → NoMore one other → takes_less other one ≡ false
no_more_is one other n = go (takes_less other one) refl
  where
    go : (b : Bool) → takes_less other one ≡ b → takes_less other one ≡ false
    go false e = e
    go true e = absurd (elim (less_cases other one e) [
      | inl h ↦ omega (arith, h, n.links)
      | inr w ↦
          let l : one.links ≡ other.links = sym w.0 in
          elim w.1 [
            | inl h ↦ omega (arith, h, n.repairs l)
            | inr h ↦ omega (arith, h.1, n.marks l (sym h.0))
          ]
    ])

pub no_more_from : (one other : Cost) → takes_less other one ≡ false → NoMore one other
no_more_from one other e = record {
  links = elim (cases_lt other.links one.links) [
    | inl h ↦ absurd (true≢false (sym (or_left (ltb other.links one.links) (eqb other.links one.links && rest) (lt-ltb other.links one.links h)) ∙ e))
    | inr h ↦ h
  ];
  repairs = λ l. elim (cases_lt other.repairs one.repairs) [
    | inl h ↦ absurd (true≢false (sym (same_links l (or_left (ltb other.repairs one.repairs) marks_less (lt-ltb other.repairs one.repairs h))) ∙ e))
    | inr h ↦ h
  ];
  marks = λ l r. elim (cases_lt other.marks one.marks) [
    | inl h ↦
        absurd (true≢false (sym (same_links l (or_right (ltb other.repairs one.repairs) marks_less (and_from (eqb other.repairs one.repairs) (ltb other.marks one.marks) (eq-eqb other.repairs one.repairs (sym r)) (lt-ltb other.marks one.marks h)))) ∙ e))
    | inr h ↦ h
  ];
}
  where
    marks_less : Bool
    marks_less = eqb other.repairs one.repairs && ltb other.marks one.marks

    rest : Bool
    rest = ltb other.repairs one.repairs || marks_less

    same_links : one.links ≡ other.links → rest ≡ true → takes_less other one ≡ true
    same_links l r = or_right (ltb other.links one.links) (eqb other.links one.links && rest) (and_from (eqb other.links one.links) rest (eq-eqb other.links one.links (sym l)) r)

pub no_more_trans : (a b c : Cost) → NoMore a b → NoMore b c → NoMore a c
no_more_trans a b c p q = record {
  links = omega (arith, p.links, q.links);
  repairs = λ l. omega (arith, p.repairs (one l), q.repairs (other l));
  marks = λ l r. omega (arith, p.marks (one l) (omega (arith, r, p.repairs (one l), q.repairs (other l))), q.marks (other l) (omega (arith, r, p.repairs (one l), q.repairs (other l))));
}
  where
    one : a.links ≡ c.links → a.links ≡ b.links
    one l = omega (arith, l, p.links, q.links)

    other : a.links ≡ c.links → b.links ≡ c.links
    other l = omega (arith, l, p.links, q.links)

-- what takes no more in two parts takes no more in all
pub no_more_sum : (a b c d : Cost) → NoMore a c → NoMore b d → NoMore (sum_of_costs a b) (sum_of_costs c d)
no_more_sum a b c d p q = record {
  links = omega (arith, p.links, q.links);
  repairs = λ l. omega (arith, p.repairs (one l), q.repairs (other l));
  marks = λ l r. omega (arith, p.marks (one l) (omega (arith, r, p.repairs (one l), q.repairs (other l))), q.marks (other l) (omega (arith, r, p.repairs (one l), q.repairs (other l))));
}
  where
    one : a.links + b.links ≡ c.links + d.links → a.links ≡ c.links
    one l = omega (arith, l, p.links, q.links)

    other : a.links + b.links ≡ c.links + d.links → b.links ≡ d.links
    other l = omega (arith, l, p.links, q.links)

-- ---- what lists take

pub cost-append : (xs ys : List SetLink) → cost (xs ++ ys) ≡ sum_of_costs (cost xs) (cost ys)
cost-append xs ys =
    let links : length (xs ++ ys) ≡ length xs + length ys = length-append xs ys in
    let repairs : count_by failed (xs ++ ys) ≡ count_by failed xs + count_by failed ys = sum_by-append (λ l. cond (failed l) 1 0) xs ys in
    let marks : sum_by marks_of (xs ++ ys) ≡ sum_by marks_of xs + sum_by marks_of ys = sum_by-append marks_of xs ys in
    rw (links, repairs, marks) refl
  where
    failed : SetLink → Bool
    failed l = l.link.marks.failed

    marks_of : SetLink → ℕ
    marks_of l = mark_count l.link.marks

-- a list takes at most what so many links with each mark take
pub record IsSmall (list : List SetLink) : Type 0 where
  pub links : (cost list).links ≡ length list
  pub repairs : (cost list).repairs ≤ length list
  pub marks : (cost list).marks ≤ length list * 5

mark_count_small : (m : Marks) → mark_count m ≤ 5
mark_count_small m = go m.failed m.blocked_a m.blocked_b m.inhibited_a m.inhibited_b
  where
    one : (b : Bool) → cond b 1 0 ≤ 1
    one true = omega arith
    one false = omega arith

    go : (a b c d e : Bool) → cond a 1 0 + cond b 1 0 + cond c 1 0 + cond d 1 0 + cond e 1 0 ≤ 5
    go a b c d e = omega (arith, one a, one b, one c, one d, one e)

pub cost_small : (list : List SetLink) → IsSmall list
cost_small list = record {
  links = refl;
  repairs = count_by-le-length (λ (l : SetLink). l.link.marks.failed) list;
  marks = sum_by-le (λ (l : SetLink). mark_count l.link.marks) 5 list (All-weaker (Contains list) (λ (l : SetLink). mark_count l.link.marks ≤ 5) (λ l here. mark_count_small l.link.marks) list (All-contains_itself list));
}

-- ---- the one that takes less of two

pub cheaper_none : (one : Option (List SetLink)) → cheaper one None ≡ one
cheaper_none None = refl
cheaper_none (Some one) = refl

-- the second of two if it takes less, and else the first
cheaper_now : (one other : List SetLink) → takes_less (cost other) (cost one) ≡ true → cheaper (Some one) (Some other) ≡ Some other
cheaper_now one other less = rw less refl

cheaper_kept : (one other : List SetLink) → takes_less (cost other) (cost one) ≡ false → cheaper (Some one) (Some other) ≡ Some one
cheaper_kept one other high = rw high refl

pub cheaper_assoc : (a b c : Option (List SetLink)) → cheaper (cheaper a b) c ≡ cheaper a (cheaper b c)
cheaper_assoc None b c = refl
cheaper_assoc (Some a) None c = refl
cheaper_assoc (Some a) (Some b) None = cheaper_none (cheaper (Some a) (Some b))
cheaper_assoc (Some a) (Some b) (Some c) = go (takes_less (cost b) (cost a)) refl (takes_less (cost c) (cost b)) refl
  where
    no_more : (one other : List SetLink) → takes_less (cost other) (cost one) ≡ false → NoMore (cost one) (cost other)
    no_more one other high = no_more_from (cost one) (cost other) high

    -- what takes less than what takes less takes less
    less : takes_less (cost b) (cost a) ≡ true → takes_less (cost c) (cost b) ≡ true → takes_less (cost c) (cost a) ≡ true
    less ba cb = by (takes_less (cost c) (cost a)) refl
      where
        by : (t : Bool) → takes_less (cost c) (cost a) ≡ t → takes_less (cost c) (cost a) ≡ true
        by true e = e
        by false e =
            let back = no_more_is (cost a) (cost b) (no_more_trans (cost a) (cost c) (cost b) (no_more a c e) (less_no_more (cost c) (cost b) cb)) in
            absurd (true≢false (sym ba ∙ back))

    go : (s : Bool) → takes_less (cost b) (cost a) ≡ s → (t : Bool) → takes_less (cost c) (cost b) ≡ t → cheaper (cheaper (Some a) (Some b)) (Some c) ≡ cheaper (Some a) (cheaper (Some b) (Some c))
    go true ba true cb = ap (λ o. cheaper o (Some c)) (cheaper_now a b ba) ∙ (cheaper_now b c cb ∙ (sym (cheaper_now a c (less ba cb)) ∙ ap (cheaper (Some a)) (sym (cheaper_now b c cb))))
    go true ba false bc =
        let keep : cheaper (Some b) (Some c) ≡ Some b = cheaper_kept b c bc in
        ap (λ o. cheaper o (Some c)) (cheaper_now a b ba) ∙ (keep ∙ (sym (cheaper_now a b ba) ∙ ap (cheaper (Some a)) (sym keep)))
    go false ab true cb = ap (λ o. cheaper o (Some c)) (cheaper_kept a b ab) ∙ ap (cheaper (Some a)) (sym (cheaper_now b c cb))
    go false ab false bc =
        let first : cheaper (Some a) (Some b) ≡ Some a = cheaper_kept a b ab in
        let far : takes_less (cost c) (cost a) ≡ false = no_more_is (cost a) (cost c) (no_more_trans (cost a) (cost b) (cost c) (no_more a b ab) (no_more b c bc)) in
        ap (λ o. cheaper o (Some c)) first ∙ (cheaper_kept a c far ∙ (sym first ∙ ap (cheaper (Some a)) (sym (cheaper_kept b c bc))))

-- it is one of them
pub cheaper_cases : (one other : Option (List SetLink)) (list : List SetLink) → cheaper one other ≡ Some list → (one ≡ Some list) ⊎ (other ≡ Some list)
cheaper_cases None other list e = inr e
cheaper_cases (Some one) None list e = inl e
cheaper_cases (Some one) (Some other) list e = go (takes_less (cost other) (cost one)) refl
  where
    go : (b : Bool) → takes_less (cost other) (cost one) ≡ b → (Some one ≡ Some list) ⊎ (Some other ≡ Some list)
    go true t = inr (rw t at e)
    go false f = inl (rw f at e)

-- a list that takes no more than this
pub record IsWithin (found : Option (List SetLink)) (bound : Cost) : Type 0 where
  pub list : List SetLink
  pub is : found ≡ Some list
  pub low : NoMore (cost list) bound

pub within_more : (found : Option (List SetLink)) (bound more : Cost) → NoMore bound more → IsWithin found bound → IsWithin found more
within_more found bound more up w = record { list = w.list; is = w.is; low = no_more_trans (cost w.list) bound more w.low up }

pub cheaper_first : (one other : Option (List SetLink)) (bound : Cost) → IsWithin one bound → IsWithin (cheaper one other) bound
cheaper_first one other bound w = subst (λ (o : Option (List SetLink)). IsWithin (cheaper o other) bound) (sym w.is) (go other)
  where
    go : (o : Option (List SetLink)) → IsWithin (cheaper (Some w.list) o) bound
    go None = record { list = w.list; is = refl; low = w.low }
    go (Some v) = by (takes_less (cost v) (cost w.list)) refl
      where
        by : (b : Bool) → takes_less (cost v) (cost w.list) ≡ b → IsWithin (cheaper (Some w.list) (Some v)) bound
        by true t = record { list = v; is = rw t refl; low = no_more_trans (cost v) (cost w.list) bound (less_no_more (cost v) (cost w.list) t) w.low }
        by false f = record { list = w.list; is = rw f refl; low = w.low }

pub cheaper_second : (one other : Option (List SetLink)) (bound : Cost) → IsWithin other bound → IsWithin (cheaper one other) bound
cheaper_second one other bound w = subst (λ (o : Option (List SetLink)). IsWithin (cheaper one o) bound) (sym w.is) (go one)
  where
    go : (o : Option (List SetLink)) → IsWithin (cheaper o (Some w.list)) bound
    go None = record { list = w.list; is = refl; low = w.low }
    go (Some v) = by (takes_less (cost w.list) (cost v)) refl
      where
        by : (b : Bool) → takes_less (cost w.list) (cost v) ≡ b → IsWithin (cheaper (Some v) (Some w.list)) bound
        by true t = record { list = w.list; is = rw t refl; low = w.low }
        by false f = record { list = v; is = rw f refl; low = no_more_trans (cost v) (cost w.list) bound (no_more_from (cost v) (cost w.list) f) w.low }

-- ---- the one that takes least of several

module _ {X : Type 0} (F : X → Option (List SetLink)) where
  -- it takes no more than that of any element
  pub least_within : (xs : List X) → All (λ x. (bound : Cost) → IsWithin (F x) bound → IsWithin (least_of (map F xs)) bound) xs
  least_within [] = All-nil (λ x. (bound : Cost) → IsWithin (F x) bound → IsWithin None bound)
  least_within (x ∷ xs) =
      All-cons (λ y. (bound : Cost) → IsWithin (F y) bound → IsWithin (cheaper (F x) (least_of (map F xs))) bound) x xs (λ bound w. cheaper_first (F x) (least_of (map F xs)) bound w)
      (All-weaker (λ y. (bound : Cost) → IsWithin (F y) bound → IsWithin (least_of (map F xs)) bound) (λ y. (bound : Cost) → IsWithin (F y) bound → IsWithin (cheaper (F x) (least_of (map F xs))) bound)
      (λ y rest bound w. cheaper_second (F x) (least_of (map F xs)) bound (rest bound w)) xs (least_within xs))

  -- it is that of some element, of which all that holds of the elements holds
  pub least_from : (P : X → Type 0) (xs : List X) (list : List SetLink) → All P xs → least_of (map F xs) ≡ Some list → (x : X) × P x × (F x ≡ Some list)
  least_from P [] list each e = let none : None ≡ Some list = e in cc
  least_from P (x ∷ xs) list each e = elim (cheaper_cases (F x) (least_of (map F xs)) list e) [
    | inl here ↦ (x, All-head P x xs each, here)
    | inr later ↦ least_from P xs list (All-tail P x xs each) later
  ]

  -- one element more
  pub least_more : (xs : List X) (i : ℕ) (d : X) (least more all : Option (List SetLink)) → i < length xs → more ≡ cheaper least (F (get_or xs i d))
      → cheaper least (least_of (map F (drop i xs))) ≡ all → cheaper more (least_of (map F (drop (i + 1) xs))) ≡ all
  least_more xs i d least more all low made so_far =
      ap (λ o. cheaper o (least_of (map F (drop (i + 1) xs)))) made
      ∙ (cheaper_assoc least (F (get_or xs i d)) (least_of (map F (drop (i + 1) xs)))
      ∙ (ap (λ rest. cheaper least (least_of (map F rest))) (sym (drop_more xs i d low)) ∙ so_far))

pub least-append : (xs ys : List (Option (List SetLink))) → least_of (xs ++ ys) ≡ cheaper (least_of xs) (least_of ys)
least-append [] ys = refl
least-append (x ∷ xs) ys = ap (cheaper x) (least-append xs ys) ∙ sym (cheaper_assoc x (least_of xs) (least_of ys))
