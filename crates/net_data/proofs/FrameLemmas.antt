-- What stays right when points, sets or rows change.
use Rattle.std.proofs.Common.{⊎_elim, ◌≡◌, ℕ, Bool, true, false, not, ◌&&◌, ◌||◌, eqb, ltb, Option, Some, None, List, [], ◌∷◌, refl, subst, arith}
use Rattle.std.specs.List.{AllByRecursion, list_all, list_any}
use Rattle.std.specs.Option.{option_map_or}
use Rattle.std.proofs.lemmas.Bool.{and_parts, and_from, or_parts, eq-eqb, eqb-true, or_cases, or_left, or_right, cases_Bool}
use Rattle.net_items.specs.declared.items.Point.{Point}
use Rattle.net_items.specs.declared.items.LinkSet.{LinkSet}
use Rattle.net_items.specs.declared.items.Plan.{Plan}
use Rattle.net_items.specs.declared.lists.Row.{Row}
use Rattle.net_items.specs.Lookups.{has_point, is_stp, mate_of, adjacent, is_via}
use Rattle.plan_rows.specs.Rows.{all_vias, is_lower, is_free, has_equal_row, has_mate_row}
use Rattle.net_data.specs.Valid.{IsRightRow, IsRightPlan, IsRightSet}
use Rattle.net_items.proofs.KeyedLemmas.{All-then}

-- what all pass, and what follows for another test
pub list_all-then : {X : Type 0} (p q : X → Bool) → ((x : X) → p x ≡ true → q x ≡ true) → (xs : List X) → list_all p xs ≡ true → list_all q xs ≡ true
list_all-then p q f [] all = refl
list_all-then p q f (x ∷ xs) all =
    let both = and_parts (p x) (list_all p xs) all in
    and_from (q x) (list_all q xs) (f x both.0) (list_all-then p q f xs both.1)

pub all_vias-then : (p q : ℕ → Bool) → ((z : ℕ) → p z ≡ true → q z ≡ true) → (r : Row) → all_vias p r ≡ true → all_vias q r ≡ true
all_vias-then p q f r h = list_all-then (λ vias. list_all p vias) (λ vias. list_all q vias) (λ vias. list_all-then p q f vias) r.classes h

-- an option's test, which follows for another
pub option_map_or-then : {X : Type 0} (p q : X → Bool) → ((x : X) → p x ≡ true → q x ≡ true) → (o : Option X) → option_map_or p o false ≡ true → option_map_or q o false ≡ true
option_map_or-then p q f None h = h
option_map_or-then p q f (Some x) h = f x h

-- a test that held only where another holds, holds there too
no_flag : (b x y : Bool) → (x ≡ true → y ≡ true) → (b && not x) ≡ false → (b && not y) ≡ false
no_flag b x y f h = grind arith

module _ (points points' : List Point) (sets sets' : List LinkSet) (dest : ℕ) (rows rows' : List Row) (r : Row)
    (stps : (p : ℕ) → is_stp points p ≡ true → is_stp points' p ≡ true)
    (joins_stay : (z : ℕ) → adjacent sets r.point z ≡ true → adjacent sets' r.point z ≡ true)
    (mate_stays : mate_of points' r.point ≡ mate_of points r.point)
    (rows_stay : (t : Row → Bool) → list_any t rows ≡ true → list_any t rows' ≡ true) where
  is_lower-then : (z : ℕ) → is_lower points dest rows r z ≡ true → is_lower points' dest rows' r z ≡ true
  is_lower-then z h =
      ⊎_elim (λ e. or_left (eqb z dest) _ e)
      (λ e. let both = and_parts (is_stp points z) _ e in
      or_right (eqb z dest) _ (and_from (is_stp points' z) _ (stps z both.0) (rows_stay (λ other. eqb other.point z && ltb other.rank r.rank) both.1)))
      (or_cases (eqb z dest) _ h)

  has_mate_row-then : has_mate_row points sets dest rows r ≡ true → has_mate_row points' sets' dest rows' r ≡ true
  has_mate_row-then h =
      let both = and_parts (is_stp points r.point) _ h in
      let of_mate : ℕ → Bool = λ m. adjacent sets r.point m && (not (eqb m dest) && has_equal_row rows m r.rank) in
      let of_mate' : ℕ → Bool = λ m. adjacent sets' r.point m && (not (eqb m dest) && has_equal_row rows' m r.rank) in
      and_from (is_stp points' r.point) _ (stps r.point both.0)
      (rw mate_stays (option_map_or-then of_mate of_mate' (λ m t. let parts = and_parts (adjacent sets r.point m) _ t in let rest = and_parts (not (eqb m dest)) _ parts.1 in and_from _ _ (joins_stay m parts.0) (and_from _ _ rest.0 (rows_stay (λ other. eqb other.point m && eqb other.rank r.rank) rest.1))) (mate_of points r.point) both.1))

  -- a row stays right where points, transfer points and joints stay, its mate and the plan's rows
  pub IsRightRow-then : ((p : ℕ) → has_point points p ≡ true → has_point points' p ≡ true) → IsRightRow points sets dest rows r → IsRightRow points' sets' dest rows' r
  IsRightRow-then there right = record {
    is_there = there r.point right.is_there;
    small = right.small;
    not_dest = right.not_dest;
    vias_joined = all_vias-then (adjacent sets r.point) (adjacent sets' r.point) joins_stay r right.vias_joined;
    vias_once = right.vias_once;
    vias_lower = all_vias-then (is_lower points dest rows r) (is_lower points' dest rows' r) is_lower-then r right.vias_lower;
    vias_not_mate = all_vias-then (is_free points dest r.point) (is_free points' dest r.point) (λ z h. rw mate_stays h) r right.vias_not_mate;
    mate_right = no_flag r.mate (has_mate_row points sets dest rows r) (has_mate_row points' sets' dest rows' r) has_mate_row-then right.mate_right;
    has_route = right.has_route;
  }

-- a plan stays right where points, transfer points and joints stay, and all mates
pub IsRightPlan-then : (points points' : List Point) (sets sets' : List LinkSet) (p : Plan)
    → ((c : ℕ) → has_point points c ≡ true → has_point points' c ≡ true)
    → ((c : ℕ) → is_stp points c ≡ true → is_stp points' c ≡ true)
    → ((y z : ℕ) → adjacent sets y z ≡ true → adjacent sets' y z ≡ true)
    → ((c : ℕ) → mate_of points' c ≡ mate_of points c)
    → IsRightPlan points sets p → IsRightPlan points' sets' p
IsRightPlan-then points points' sets sets' p there stps joins_stay mates right = record {
  is_there = there p.dest right.is_there;
  rows_rise = right.rows_rise;
  rows_right = All-then (λ (r : Row). r.point) (IsRightRow points sets p.dest p.rows) (IsRightRow points' sets' p.dest p.rows)
      (λ r h. IsRightRow-then points points' sets sets' p.dest p.rows p.rows r stps (joins_stay r.point) (mates r.point) (λ t h. h) there h)
      p.rows right.rows_right;
}

pub IsRightSet-then : (points points' : List Point) (s : LinkSet)
    → ((c : ℕ) → has_point points c ≡ true → has_point points' c ≡ true)
    → IsRightSet points s → IsRightSet points' s
IsRightSet-then points points' s there right = record {
  small = right.small;
  a_there = there s.a right.a_there;
  b_there = there s.b right.b_there;
  ends_differ = right.ends_differ;
  some_link = right.some_link;
  few_links = right.few_links;
  links_rise = right.links_rise;
  links_small = right.links_small;
}

-- each via passes, and what follows for the vias that are there
all_in : (p q : ℕ → Bool) (vias : List ℕ) → ((z : ℕ) → list_any (λ via. eqb via z) vias ≡ true → p z ≡ true → q z ≡ true) → list_all p vias ≡ true → list_all q vias ≡ true
all_in p q [] f h = refl
all_in p q (z ∷ vias) f h =
    let both = and_parts (p z) (list_all p vias) h in
    and_from (q z) (list_all q vias) (f z (or_left (eqb z z) _ (eq-eqb z z refl)) both.0) (all_in p q vias (λ y m t. f y (or_right (eqb z y) _ m) t) both.1)

all_classes-in : (p q : ℕ → Bool) (classes : List (List ℕ)) → ((z : ℕ) → list_any (λ vias. list_any (λ via. eqb via z) vias) classes ≡ true → p z ≡ true → q z ≡ true) → list_all (λ vias. list_all p vias) classes ≡ true → list_all (λ vias. list_all q vias) classes ≡ true
all_classes-in p q [] f h = refl
all_classes-in p q (vias ∷ classes) f h =
    let both = and_parts (list_all p vias) _ h in
    and_from (list_all q vias) _ (all_in p q vias (λ z m t. f z (or_left (list_any (λ via. eqb via z) vias) _ m) t) both.0) (all_classes-in p q classes (λ z m t. f z (or_right (list_any (λ via. eqb via z) vias) _ m) t) both.1)

pub all_vias-in : (p q : ℕ → Bool) (r : Row) → ((z : ℕ) → is_via r z ≡ true → p z ≡ true → q z ≡ true) → all_vias p r ≡ true → all_vias q r ≡ true
all_vias-in p q r f h = all_classes-in p q r.classes f h

-- a via of the row passes what all do
passes : (p : ℕ → Bool) (z : ℕ) (vias : List ℕ) → list_any (λ via. eqb via z) vias ≡ true → list_all p vias ≡ true → p z ≡ true
passes p z [] m h = absurd (cc)
passes p z (y ∷ vias) m h =
    let both = and_parts (p y) _ h in
    ⊎_elim (λ e. subst (λ n. p n ≡ true) (eqb-true y z e) both.0) (λ e. passes p z vias e both.1) (or_cases (eqb y z) _ m)

passes_class : (p : ℕ → Bool) (z : ℕ) (classes : List (List ℕ)) → list_any (λ vias. list_any (λ via. eqb via z) vias) classes ≡ true → list_all (λ vias. list_all p vias) classes ≡ true → p z ≡ true
passes_class p z [] m h = absurd (cc)
passes_class p z (vias ∷ classes) m h =
    let both = and_parts (list_all p vias) _ h in
    ⊎_elim (λ e. passes p z vias e both.0) (λ e. passes_class p z classes e both.1) (or_cases (list_any (λ via. eqb via z) vias) _ m)

pub via_passes : (p : ℕ → Bool) (z : ℕ) (r : Row) → is_via r z ≡ true → all_vias p r ≡ true → p z ≡ true
via_passes p z r m h = passes_class p z r.classes m h

-- what holds of all, and follows for another fact where a test fails
pub All-unless : {X : Type 0} (P Q : X → Type 0) (t : X → Bool) → ((x : X) → t x ≡ false → P x → Q x) → (xs : List X) → list_any t xs ≡ false → AllByRecursion P xs → AllByRecursion Q xs
All-unless P Q t f [] none all = tt
All-unless P Q t f (x ∷ xs) none all = let both = or_parts (t x) (list_any t xs) none in (f x both.0 all.0, All-unless P Q t f xs both.1 all.1)

-- neither test passes
pub neither : {X : Type 0} (t u : X → Bool) (xs : List X) → list_any t xs ≡ false → list_any u xs ≡ false → list_any (λ x. t x || u x) xs ≡ false
neither t u [] h k = refl
neither t u (x ∷ xs) h k =
    let a = or_parts (t x) _ h in
    let b = or_parts (u x) _ k in
    rw (a.0, b.0) (neither t u xs a.1 b.1)

-- a row of the same plan stays right where what it uses stays
module _ (points points' : List Point) (sets sets' : List LinkSet) (dest : ℕ) (rows : List Row) (r : Row)
    (stps : (z : ℕ) → adjacent sets r.point z ≡ true → is_stp points z ≡ true → is_stp points' z ≡ true)
    (joins_stay : (z : ℕ) → is_via r z ≡ true → adjacent sets r.point z ≡ true → adjacent sets' r.point z ≡ true)
    (free_stays : (z : ℕ) → is_via r z ≡ true → is_free points dest r.point z ≡ true → is_free points' dest r.point z ≡ true)
    (flag_stays : (r.mate && not (has_mate_row points sets dest rows r)) ≡ false → (r.mate && not (has_mate_row points' sets' dest rows r)) ≡ false) where
  is_lower-kept : (z : ℕ) → adjacent sets r.point z ≡ true → is_lower points dest rows r z ≡ true → is_lower points' dest rows r z ≡ true
  is_lower-kept z j h = grind (arith, stps z j)

  pub IsRightRow-kept : has_point points' r.point ≡ true → IsRightRow points sets dest rows r → IsRightRow points' sets' dest rows r
  IsRightRow-kept there right = record {
    is_there = there;
    small = right.small;
    not_dest = right.not_dest;
    vias_joined = all_vias-in (adjacent sets r.point) (adjacent sets' r.point) r joins_stay right.vias_joined;
    vias_once = right.vias_once;
    vias_lower = all_vias-in (is_lower points dest rows r) (is_lower points' dest rows r) r (λ z m h. is_lower-kept z (via_passes (adjacent sets r.point) z r m right.vias_joined) h) right.vias_lower;
    vias_not_mate = all_vias-in (is_free points dest r.point) (is_free points' dest r.point) r free_stays right.vias_not_mate;
    mate_right = flag_stays right.mate_right;
    has_route = right.has_route;
  }

-- a plan stays right where its rows do
pub IsRightPlan-kept : (points points' : List Point) (sets sets' : List LinkSet) (p : Plan) (t : Row → Bool)
    → has_point points' p.dest ≡ true
    → list_any t p.rows ≡ false
    → ((r : Row) → t r ≡ false → IsRightRow points sets p.dest p.rows r → IsRightRow points' sets' p.dest p.rows r)
    → IsRightPlan points sets p → IsRightPlan points' sets' p
IsRightPlan-kept points points' sets sets' p t there none f right = record {
  is_there = there;
  rows_rise = right.rows_rise;
  rows_right = All-unless (IsRightRow points sets p.dest p.rows) (IsRightRow points' sets' p.dest p.rows) t f p.rows none right.rows_right;
}

-- without the flag there is nothing to be right
pub flag-off : (b x y : Bool) → b ≡ false → (b && not x) ≡ false → (b && not y) ≡ false
flag-off b x y off h = rw off

-- an option's test, which follows for another test at the value
pub option_map_or-at : {X : Type 0} (p q : X → Bool) (o : Option X) → ((x : X) → o ≡ Some x → p x ≡ true → q x ≡ true) → option_map_or p o false ≡ true → option_map_or q o false ≡ true
option_map_or-at p q None f h = h
option_map_or-at p q (Some x) f h = f x refl h

-- the flag is right where transfer points stay, the mate, and the joint with it
pub flag-kept : (points points' : List Point) (sets sets' : List LinkSet) (dest : ℕ) (rows : List Row) (r : Row)
    → (is_stp points r.point ≡ true → is_stp points' r.point ≡ true)
    → mate_of points' r.point ≡ mate_of points r.point
    → ((m : ℕ) → r.mate ≡ true → mate_of points r.point ≡ Some m → adjacent sets r.point m ≡ true → adjacent sets' r.point m ≡ true)
    → (r.mate && not (has_mate_row points sets dest rows r)) ≡ false → (r.mate && not (has_mate_row points' sets' dest rows r)) ≡ false
flag-kept points points' sets sets' dest rows r stps mate joint h =
    let of_mate : ℕ → Bool = λ m. adjacent sets r.point m && (not (eqb m dest) && has_equal_row rows m r.rank) in
    let of_mate' : ℕ → Bool = λ m. adjacent sets' r.point m && (not (eqb m dest) && has_equal_row rows m r.rank) in
    ⊎_elim
    (λ on. no_flag r.mate (has_mate_row points sets dest rows r) (has_mate_row points' sets' dest rows r)
    (λ has. let both = and_parts (is_stp points r.point) _ has in
    and_from (is_stp points' r.point) _ (stps both.0)
    (rw mate (option_map_or-at of_mate of_mate' (mate_of points r.point) (λ m e t. let parts = and_parts (adjacent sets r.point m) _ t in and_from _ _ (joint m on e parts.0) parts.1) both.1))) h)
    (λ off. flag-off r.mate (has_mate_row points sets dest rows r) (has_mate_row points' sets' dest rows r) off h)
    (cases_Bool r.mate)
