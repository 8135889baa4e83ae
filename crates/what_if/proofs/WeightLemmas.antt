-- What listed links weigh, set by set, and the ranks of a set's ends.
use Rattle.std.proofs.Common.{◌≡◌, ℕ, ◌+◌, ◌<◌, ◌≤◌, List, [], ◌∷◌, Option, Some, None, All, cond, eqb, leb, ltb, Bool, true, false, ◌&&◌, ◌||◌, refl, sym, ap, ◌∙◌, arith, inl, inr, ◌⊎◌, subst}
use Rattle.std.specs.List.{AllByRecursion, find}
use Rattle.std.specs.Option.{option_map_or}
use Rattle.std.proofs.lemmas.Bool.{eq-eqb, ne_eqb, eqb-true, and_from, or_cases, true≢false, le-leb, leb-true, lt-ltb, ltb-true}
use Rattle.std.proofs.lemmas.List.Elements.{All-head, All-tail}
use Rattle.std.proofs.lemmas.Option.{same_Some}
use Rattle.net_items.specs.declared.items.LinkSet.{LinkSet}
use Rattle.net_items.specs.Keyed.{IsRising}
use Rattle.net_items.specs.Lookups.{joins, set_between, set_at}
use Rattle.link_sets.proofs.ListLemmas.{and_first, and_second}
use Rattle.profile.specs.Status.{Source, source_rank}
use Rattle.what_if.specs.declared.costs.Cost.{Cost}
use Rattle.what_if.specs.declared.mending.SetLink.{SetLink}
use Rattle.what_if.specs.Mending.{sum_of_costs}
use Rattle.what_if.proofs.CostLemmas.{NoMore, no_more_trans}
use Rattle.what_if.proofs.RestoringLemmas.{names_of}

-- ---- what the listed links of sets that pass weigh

-- of one number of each
abbrev pub part : (SetLink → ℕ) → (ℕ → Bool) → List SetLink → ℕ
part f p [] = 0
part f p (l ∷ list) = cond (p l.id) (f l + part f p list) (part f p list)

part_weaker : (f : SetLink → ℕ) (p s : ℕ → Bool) → ((id : ℕ) → p id ≡ true → s id ≡ true) → (list : List SetLink) → part f p list ≤ part f s list
part_weaker f p s weaker [] = omega arith
part_weaker f p s weaker (l ∷ list) = go (p l.id) refl (s l.id) refl (part_weaker f p s weaker list)
  where
    go : (b : Bool) → p l.id ≡ b → (d : Bool) → s l.id ≡ d → part f p list ≤ part f s list → cond b (f l + part f p list) (part f p list) ≤ cond d (f l + part f s list) (part f s list)
    go true e true g low = omega (arith, low)
    go true e false g low = absurd (true≢false (sym (weaker l.id e) ∙ g))
    go false e true g low = omega (arith, low)
    go false e false g low = low

-- no set passes both of two tests
part_apart : (f : SetLink → ℕ) (p q s : ℕ → Bool) → ((id : ℕ) → p id ≡ true → s id ≡ true) → ((id : ℕ) → q id ≡ true → s id ≡ true) → ((id : ℕ) → p id ≡ true → q id ≡ true → ⊥) → (list : List SetLink) → part f p list + part f q list ≤ part f s list
part_apart f p q s one other apart [] = omega arith
part_apart f p q s one other apart (l ∷ list) = go (p l.id) refl (q l.id) refl (s l.id) refl (part_apart f p q s one other apart list)
  where
    go : (a : Bool) → p l.id ≡ a → (b : Bool) → q l.id ≡ b → (d : Bool) → s l.id ≡ d → part f p list + part f q list ≤ part f s list
        → cond a (f l + part f p list) (part f p list) + cond b (f l + part f q list) (part f q list) ≤ cond d (f l + part f s list) (part f s list)
    go true e true g d h low = absurd (apart l.id e g)
    go true e false g true h low = omega (arith, low)
    go true e false g false h low = absurd (true≢false (sym (one l.id e) ∙ h))
    go false e true g true h low = omega (arith, low)
    go false e true g false h low = absurd (true≢false (sym (other l.id g) ∙ h))
    go false e false g true h low = omega (arith, low)
    go false e false g false h low = low

module _ (weight : SetLink → Cost) where
  -- all that they weigh
  abbrev pub weigh : (ℕ → Bool) → List SetLink → Cost
  weigh p list = record { links = part (λ l. (weight l).links) p list; repairs = part (λ l. (weight l).repairs) p list; marks = part (λ l. (weight l).marks) p list }

  pub weigh_weaker : (p s : ℕ → Bool) → ((id : ℕ) → p id ≡ true → s id ≡ true) → (list : List SetLink) → NoMore (weigh p list) (weigh s list)
  weigh_weaker p s weaker list = record {
    links = part_weaker (λ l. (weight l).links) p s weaker list;
    repairs = λ e. part_weaker (λ l. (weight l).repairs) p s weaker list;
    marks = λ e r. part_weaker (λ l. (weight l).marks) p s weaker list;
  }

  pub weigh_apart : (p q s : ℕ → Bool) → ((id : ℕ) → p id ≡ true → s id ≡ true) → ((id : ℕ) → q id ≡ true → s id ≡ true) → ((id : ℕ) → p id ≡ true → q id ≡ true → ⊥) → (list : List SetLink)
      → NoMore (sum_of_costs (weigh p list) (weigh q list)) (weigh s list)
  weigh_apart p q s one other apart list = record {
    links = part_apart (λ l. (weight l).links) p q s one other apart list;
    repairs = λ e. part_apart (λ l. (weight l).repairs) p q s one other apart list;
    marks = λ e r. part_apart (λ l. (weight l).marks) p q s one other apart list;
  }

  -- of a set of which a link is listed they weigh as much as each of its links does at least
  pub weigh_named : (id : ℕ) (least : Cost) (list : List SetLink) → All (λ (l : SetLink). l.id ≡ id → NoMore least (weight l)) list → names_of list id ≡ true → NoMore least (weigh (λ k. eqb k id) list)
  weigh_named id least [] each e = absurd (true≢false (sym e))
  weigh_named id least (l ∷ list) each e =
      go (eqb l.id id) refl e (weigh_named id least list (All-tail (λ (l : SetLink). l.id ≡ id → NoMore least (weight l)) l list each))
    where
      rest : (SetLink → ℕ) → ℕ
      rest f = part f (λ k. eqb k id) list

      go : (b : Bool) → eqb l.id id ≡ b → (b || names_of list id) ≡ true → (names_of list id ≡ true → NoMore least (weigh (λ k. eqb k id) list)) → NoMore least (record {
        links = cond b ((weight l).links + rest (λ l. (weight l).links)) (rest (λ l. (weight l).links));
        repairs = cond b ((weight l).repairs + rest (λ l. (weight l).repairs)) (rest (λ l. (weight l).repairs));
        marks = cond b ((weight l).marks + rest (λ l. (weight l).marks)) (rest (λ l. (weight l).marks));
      })
      go true same named later =
          no_more_trans least (weight l) (record {
            links = (weight l).links + rest (λ l. (weight l).links);
            repairs = (weight l).repairs + rest (λ l. (weight l).repairs);
            marks = (weight l).marks + rest (λ l. (weight l).marks);
          }) (All-head (λ (l : SetLink). l.id ≡ id → NoMore least (weight l)) l list each (eqb-true l.id id same))
          (record { links = omega arith; repairs = λ e. omega arith; marks = λ e r. omega arith })
      go false other named later = later named

-- ---- sets are found by their ids

-- no element of a later key has this one
none_here : (key : LinkSet → ℕ) (x : LinkSet) (xs : List LinkSet) (p : LinkSet → Bool) (s : LinkSet) → AllByRecursion (λ y. key x < key y) xs → find p xs ≡ Some s → eqb (key x) (key s) ≡ false
none_here key x [] p s above e = let none : None ≡ Some s = e in cc
none_here key x (y ∷ xs) p s above e = go (p y) refl (none_here key x xs p s above.1)
  where
    go : (b : Bool) → p y ≡ b → (find p xs ≡ Some s → eqb (key x) (key s) ≡ false) → eqb (key x) (key s) ≡ false
    go true t later =
        let same : y ≡ s = same_Some y s (rw t at e) in
        ne_eqb (key x) (key s) (λ eq. let up : key x < key y = above.0 in omega (arith, up, eq, ap key same))
    go false f later = later (rw f at e)

pub found_by_id : (sets : List LinkSet) (p : LinkSet → Bool) (s : LinkSet) → IsRising (λ (set : LinkSet). set.id) sets → find p sets ≡ Some s → set_at sets s.id ≡ Some s
found_by_id [] p s rising e = let none : None ≡ Some s = e in cc
found_by_id (x ∷ sets) p s rising e = go (p x) refl (found_by_id sets p s rising.1)
  where
    go : (b : Bool) → p x ≡ b → (find p sets ≡ Some s → set_at sets s.id ≡ Some s) → set_at (x ∷ sets) s.id ≡ Some s
    go true t rest =
        let same : x ≡ s = same_Some x s (rw t at e) in
        let here : eqb x.id s.id ≡ true = eq-eqb x.id s.id (ap (λ (y : LinkSet). y.id) same) in
        rw here (ap Some same)
    go false f rest =
        let later : find p sets ≡ Some s = rw f at e in
        let other : eqb x.id s.id ≡ false = none_here (λ (set : LinkSet). set.id) x sets p s rising.0 later in
        rw other (rest later)

-- the ends of a set that joins two points
joins_cases : (y z : ℕ) (s : LinkSet) → joins y z s ≡ true → ((s.a ≡ y) × (s.b ≡ z)) ⊎ ((s.a ≡ z) × (s.b ≡ y))
joins_cases y z s e = elim (or_cases (eqb s.a y && eqb s.b z) (eqb s.a z && eqb s.b y) e) [
  | inl h ↦ inl (eqb-true s.a y (and_first (eqb s.a y) (eqb s.b z) h), eqb-true s.b z (and_second (eqb s.a y) (eqb s.b z) h))
  | inr h ↦ inr (eqb-true s.a z (and_first (eqb s.a z) (eqb s.b y) h), eqb-true s.b y (and_second (eqb s.a z) (eqb s.b y) h))
]

find_true : (p : LinkSet → Bool) (sets : List LinkSet) (s : LinkSet) → find p sets ≡ Some s → p s ≡ true
find_true p [] s e = let none : None ≡ Some s = e in cc
find_true p (x ∷ sets) s e = go (p x) refl (find_true p sets s)
  where
    go : (b : Bool) → p x ≡ b → (find p sets ≡ Some s → p s ≡ true) → p s ≡ true
    go true t rest = let same : x ≡ s = same_Some x s (rw t at e) in subst (λ (y : LinkSet). p y ≡ true) same t
    go false f rest = rest (rw f at e)

-- ---- ranks of a set's ends

-- both ends of the set of this id have at most this rank
abbrev pub both_up_to : Source → ℕ → ℕ → Bool
both_up_to src n id = option_map_or (λ (s : LinkSet). leb (source_rank src s.a) n && leb (source_rank src s.b) n) (set_at src.sets id) false

-- and not both have it
abbrev pub not_both : Source → ℕ → ℕ → Bool
not_both src n id = option_map_or (λ (s : LinkSet). (leb (source_rank src s.a) n && leb (source_rank src s.b) n) && ltb (source_rank src s.a + source_rank src s.b) (n + n)) (set_at src.sets id) false

pub up_to_from : (src : Source) (n id : ℕ) (s : LinkSet) → set_at src.sets id ≡ Some s → source_rank src s.a ≤ n → source_rank src s.b ≤ n → both_up_to src n id ≡ true
up_to_from src n id s at one other = rw at (and_from (leb (source_rank src s.a) n) (leb (source_rank src s.b) n) (le-leb (source_rank src s.a) n one) (le-leb (source_rank src s.b) n other))

pub up_to_gives : (src : Source) (n id : ℕ) → both_up_to src n id ≡ true → (s : LinkSet) × (set_at src.sets id ≡ Some s) × (source_rank src s.a ≤ n) × (source_rank src s.b ≤ n)
up_to_gives src n id e = go (set_at src.sets id) refl
  where
    go : (o : Option LinkSet) → set_at src.sets id ≡ o → (s : LinkSet) × (set_at src.sets id ≡ Some s) × (source_rank src s.a ≤ n) × (source_rank src s.b ≤ n)
    go None f = let no : false ≡ true = rw f at e in absurd (true≢false (sym no))
    go (Some s) f =
        let both : (leb (source_rank src s.a) n && leb (source_rank src s.b) n) ≡ true = rw f at e in
        (s, f, leb-true (source_rank src s.a) n (and_first (leb (source_rank src s.a) n) (leb (source_rank src s.b) n) both), leb-true (source_rank src s.b) n (and_second (leb (source_rank src s.a) n) (leb (source_rank src s.b) n) both))

pub not_both_from : (src : Source) (n id : ℕ) (s : LinkSet) → set_at src.sets id ≡ Some s → source_rank src s.a ≤ n → source_rank src s.b ≤ n → source_rank src s.a + source_rank src s.b < n + n → not_both src n id ≡ true
not_both_from src n id s at one other sum =
    rw at (and_from (leb (source_rank src s.a) n && leb (source_rank src s.b) n) (ltb (source_rank src s.a + source_rank src s.b) (n + n))
    (and_from (leb (source_rank src s.a) n) (leb (source_rank src s.b) n) (le-leb (source_rank src s.a) n one) (le-leb (source_rank src s.b) n other))
    (lt-ltb (source_rank src s.a + source_rank src s.b) (n + n) sum))

pub not_both_gives : (src : Source) (n id : ℕ) → not_both src n id ≡ true
    → (s : LinkSet) × (set_at src.sets id ≡ Some s) × (source_rank src s.a ≤ n) × (source_rank src s.b ≤ n) × (source_rank src s.a + source_rank src s.b < n + n)
not_both_gives src n id e = go (set_at src.sets id) refl
  where
    go : (o : Option LinkSet) → set_at src.sets id ≡ o → (s : LinkSet) × (set_at src.sets id ≡ Some s) × (source_rank src s.a ≤ n) × (source_rank src s.b ≤ n) × (source_rank src s.a + source_rank src s.b < n + n)
    go None f = let no : false ≡ true = rw f at e in absurd (true≢false (sym no))
    go (Some s) f =
        let all : ((leb (source_rank src s.a) n && leb (source_rank src s.b) n) && ltb (source_rank src s.a + source_rank src s.b) (n + n)) ≡ true = rw f at e in
        let both : (leb (source_rank src s.a) n && leb (source_rank src s.b) n) ≡ true = and_first (leb (source_rank src s.a) n && leb (source_rank src s.b) n) (ltb (source_rank src s.a + source_rank src s.b) (n + n)) all in (
          s,
          f,
          leb-true (source_rank src s.a) n (and_first (leb (source_rank src s.a) n) (leb (source_rank src s.b) n) both),
          leb-true (source_rank src s.b) n (and_second (leb (source_rank src s.a) n) (leb (source_rank src s.b) n) both),
          ltb-true (source_rank src s.a + source_rank src s.b) (n + n) (and_second (leb (source_rank src s.a) n && leb (source_rank src s.b) n) (ltb (source_rank src s.a + source_rank src s.b) (n + n)) all),
        )

-- the ranks of the ends of a set that joins two points, in either order
pub record HasRanks (src : Source) (y z : ℕ) (s : LinkSet) : Type 0 where
  pub at : set_at src.sets s.id ≡ Some s
  pub sum : source_rank src s.a + source_rank src s.b ≡ source_rank src y + source_rank src z
  pub one : (n : ℕ) → source_rank src y ≤ n → source_rank src z ≤ n → (source_rank src s.a ≤ n) × (source_rank src s.b ≤ n)
  pub high : (n : ℕ) → source_rank src s.a ≤ n → source_rank src s.b ≤ n → (source_rank src y ≤ n) × (source_rank src z ≤ n)

pub has_ranks : (src : Source) → IsRising (λ (set : LinkSet). set.id) src.sets → (y z : ℕ) (s : LinkSet) → set_between src.sets y z ≡ Some s → HasRanks src y z s
has_ranks src rising y z s e = elim (joins_cases y z s (find_true (joins y z) src.sets s e)) [
  | inl w ↦
      let a : source_rank src s.a ≡ source_rank src y = ap (source_rank src) w.0 in
      let b : source_rank src s.b ≡ source_rank src z = ap (source_rank src) w.1 in
      record {
        at = found_by_id src.sets (joins y z) s rising e;
        sum = omega (arith, a, b);
        one = λ n f g. (omega (arith, a, f), omega (arith, b, g));
        high = λ n f g. (omega (arith, a, f), omega (arith, b, g));
      }
  | inr w ↦
      let a : source_rank src s.a ≡ source_rank src z = ap (source_rank src) w.0 in
      let b : source_rank src s.b ≡ source_rank src y = ap (source_rank src) w.1 in
      record {
        at = found_by_id src.sets (joins y z) s rising e;
        sum = omega (arith, a, b);
        one = λ n f g. (omega (arith, a, g), omega (arith, b, f));
        high = λ n f g. (omega (arith, b, g), omega (arith, a, f));
      }
]
