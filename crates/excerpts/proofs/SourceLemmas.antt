-- A valid network is a valid source of each of its plans.
use Rattle.std.proofs.Common.{◌≡◌, ◌≢◌, ℕ, zero, suc, ◌<◌, ◌≤◌, Bool, true, false, not, ◌&&◌, eqb, ltb, leb, Option, Some, None, is_some, List, [], ◌∷◌, length, All, ◌⊎◌, inl, inr, refl, ap, sym, ◌∙◌, subst, arith, ⊎_elim}
use Rattle.std.specs.Prelude.{IsSome}
use Rattle.std.specs.List.{AllByRecursion, AllPairs, list_all}
use Rattle.std.specs.Option.{option_map_or}
use Rattle.std.proofs.lemmas.Bool.{and_parts, or_cases, cases_Bool, eqb-true, eqb-false, eq-eqb, not-true, not-false, leb-true, ltb-true}
use Rattle.std.proofs.lemmas.List.Elements.{All-from_recursion}
use Rattle.net_items.specs.declared.items.Point.{Point}
use Rattle.net_items.specs.declared.items.LinkSet.{LinkSet}
use Rattle.net_items.specs.declared.items.Plan.{Plan}
use Rattle.net_items.specs.declared.lists.Row.{Row}
use Rattle.net_items.specs.declared.links.Link.{Link}
use Rattle.net_items.specs.Keyed.{IsRising}
use Rattle.net_items.specs.Lookups.{has_point, is_stp, mate_of, adjacent, set_between, row_at, plan_at}
use Rattle.net_items.proofs.KeyedLemmas.{found_holds}
use Rattle.net_data.specs.Network.{Network}
use Rattle.net_sets.specs.Sets.{is_nil}
use Rattle.plan_rows.specs.Rows.{is_lower, is_free, is_mate, is_small_class, has_equal_row, has_mate_row}
use Rattle.net_data.specs.Valid.{IsRightRow, IsRightPlan, IsRightSet}
use Rattle.net_data.specs.Valid.{IsValid as IsValidNet}
use Rattle.profile.specs.Status.{Source}
use Rattle.profile.specs.Valid.{IsLower, HasMate, IsVia, IsValidRow, IsValidSource, HasFewLinks, HasLinksInOrder}
use Rattle.excerpts.specs.Excerpt.{network_source}
use Rattle.excerpts.proofs.ReadLemmas.{at_once}

-- keys that rise, place by place
pub pairs_rise : (rows : List Row) → IsRising (λ (r : Row). r.point) rows → AllPairs (λ (above below : Row). above.point < below.point) rows
pairs_rise [] up i j d less within = absurd (omega arith)
pairs_rise (x ∷ xs) up zero zero d less within = absurd (omega arith)
pairs_rise (x ∷ xs) up zero (suc j) d less within = All-from_recursion (λ (y : Row). x.point < y.point) xs up.0 j d (omega arith)
pairs_rise (x ∷ xs) up (suc i) zero d less within = absurd (omega arith)
pairs_rise (x ∷ xs) up (suc i) (suc j) d less within = pairs_rise xs up.1 i j d (omega arith) (omega arith)

-- something is there
some_there : {X : Type 0} (o : Option X) → is_some o ≡ true → IsSome o
some_there o e = e

-- a row that is found has the point
pub row_point_is : (rows : List Row) (z : ℕ) (r : Row) → row_at rows z ≡ Some r → r.point ≡ z
row_point_is [] z r e = absurd (cc)
row_point_is (x ∷ xs) z r e = go (eqb x.point z) refl (row_point_is xs z r)
  where
    go : (b : Bool) → eqb x.point z ≡ b → (row_at xs z ≡ Some r → r.point ≡ z) → r.point ≡ z
    go true t rec = let here : Some x ≡ Some r = rw t at e in let same : x ≡ r = cc in ap (λ (u : Row). u.point) (sym same) ∙ eqb-true x.point z t
    go false t rec = rec (rw t at e)

-- the row that is found passes the test
passing : (t : Row → Bool) (o : Option Row) → option_map_or t o false ≡ true → (r : Row) × (o ≡ Some r) × (t r ≡ true)
passing t None e = absurd (cc)
passing t (Some r) e = (r, refl, e)

-- three tests of each make a fact of each
each_of : (p q u : ℕ → Bool) (P : ℕ → Type 0) → ((z : ℕ) → p z ≡ true → q z ≡ true → u z ≡ true → P z) → (vias : List ℕ)
    → list_all p vias ≡ true → list_all q vias ≡ true → list_all u vias ≡ true → AllByRecursion P vias
each_of p q u P f [] a b c = tt
each_of p q u P f (z ∷ vias) a b c =
    let one = and_parts (p z) _ a in
    let two = and_parts (q z) _ b in
    let three = and_parts (u z) _ c in
    (f z one.0 two.0 three.0, each_of p q u P f vias one.1 two.1 three.1)

each_class : (p q u : ℕ → Bool) (P : ℕ → Type 0) → ((z : ℕ) → p z ≡ true → q z ≡ true → u z ≡ true → P z) → (classes : List (List ℕ))
    → list_all (λ vias. list_all p vias) classes ≡ true → list_all (λ vias. list_all q vias) classes ≡ true → list_all (λ vias. list_all u vias) classes ≡ true
    → AllByRecursion (All P) classes
each_class p q u P f [] a b c = tt
each_class p q u P f (vias ∷ classes) a b c =
    let one = and_parts (list_all p vias) _ a in
    let two = and_parts (list_all q vias) _ b in
    let three = and_parts (list_all u vias) _ c in
    (All-from_recursion P vias (each_of p q u P f vias one.0 two.0 three.0), each_class p q u P f classes one.1 two.1 three.1)

small_classes : (classes : List (List ℕ)) → list_all is_small_class classes ≡ true → AllByRecursion (λ (vias : List ℕ). length vias ≤ 2) classes
small_classes [] e = tt
small_classes (vias ∷ classes) e =
    let both = and_parts (is_small_class vias) _ e in
    let here = and_parts (not (is_nil vias)) _ both.0 in
    (leb-true _ _ here.1, small_classes classes both.1)

some_class : (classes : List (List ℕ)) → is_nil classes ≡ false → 0 < length classes
some_class [] e = absurd (cc)
some_class (vias ∷ classes) e = omega arith

coded_point : (points : List Point) (c : ℕ) → AllByRecursion (λ (p : Point). p.code < 16384) points → has_point points c ≡ true → c < 16384
coded_point [] c small there = absurd (cc)
coded_point (p ∷ ps) c small there = go (eqb p.code c) refl (coded_point ps c small.1)
  where
    go : (b : Bool) → eqb p.code c ≡ b → (has_point ps c ≡ true → c < 16384) → c < 16384
    go true t rec = subst (λ n. n < 16384) (eqb-true p.code c t) small.0
    go false t rec = rec (rw t at there)

module _ (net : Network) (v : IsValidNet net) (plan : Plan) (right : IsRightPlan net.points net.sets plan) where
  abbrev src : Source
  src = network_source net plan

  -- a point with a row of lower rank
  lower_is : (r : Row) (z : ℕ) → is_lower net.points plan.dest plan.rows r z ≡ true → (z ≡ plan.dest) ⊎ IsLower src r z
  lower_is r z e =
      ⊎_elim
      (λ t. inl (eqb-true z plan.dest t))
      (λ t. let both = and_parts (is_stp net.points z) _ t in
      let found = passing (λ (other : Row). ltb other.rank r.rank) (row_at plan.rows z) (sym (at_once (λ (other : Row). ltb other.rank r.rank) z plan.rows right.rows_rise) ∙ both.1) in
      inr (record { transfers = both.0; below = found.0; planned = found.1; lower = ltb-true found.0.rank r.rank found.2 }))
      (or_cases (eqb z plan.dest) _ e)

  not_mate_is : (r : Row) (z : ℕ) → is_free net.points plan.dest r.point z ≡ true → mate_of net.points r.point ≡ Some z → z ≡ plan.dest
  not_mate_is r z e paired =
      ⊎_elim
      (λ t. eqb-true z plan.dest t)
      (λ t. let mate : is_mate net.points r.point z ≡ true = rw (paired, eq-eqb z z refl) refl in let no : is_mate net.points r.point z ≡ false = not-true _ t in absurd (cc))
      (or_cases (eqb z plan.dest) _ e)

  via_is : (r : Row) (z : ℕ) → adjacent net.sets r.point z ≡ true → is_lower net.points plan.dest plan.rows r z ≡ true → is_free net.points plan.dest r.point z ≡ true → IsVia src r z
  via_is r z a b c = record { joined = some_there (set_between net.sets r.point z) a; leads = lower_is r z b; not_mate = not_mate_is r z c }

  -- the mate of a row with the flag
  mate_is : (r : Row) → has_mate_row net.points net.sets plan.dest plan.rows r ≡ true → HasMate src r
  mate_is r e =
      let both = and_parts (is_stp net.points r.point) _ e in
      go both.0 (mate_of net.points r.point) refl both.1
    where
      go : is_stp net.points r.point ≡ true → (o : Option ℕ) → mate_of net.points r.point ≡ o
          → option_map_or (λ m. adjacent net.sets r.point m && (not (eqb m plan.dest) && has_equal_row plan.rows m r.rank)) o false ≡ true → HasMate src r
      go stp None at h = absurd (cc)
      go stp (Some m) at h =
          let one = and_parts (adjacent net.sets r.point m) _ h in
          let two = and_parts (not (eqb m plan.dest)) _ one.1 in
          let found = passing (λ (other : Row). eqb other.rank r.rank) (row_at plan.rows m) (sym (at_once (λ (other : Row). eqb other.rank r.rank) m plan.rows right.rows_rise) ∙ two.1) in
          let point : found.0.point ≡ m = row_point_is plan.rows m found.0 found.1 in
          record {
            transfers = stp;
            mate = found.0;
            paired = at ∙ ap Some (sym point);
            planned = ap (row_at plan.rows) point ∙ found.1;
            same_rank = eqb-true found.0.rank r.rank found.2;
            joined = subst (λ n. IsSome (set_between net.sets r.point n)) (sym point) (some_there (set_between net.sets r.point m) one.0);
          }

  flag_is : (r : Row) → (r.mate && not (has_mate_row net.points net.sets plan.dest plan.rows r)) ≡ false → r.mate ≡ true → HasMate src r
  flag_is r none flag = mate_is r (not-false _ (rw flag at none))

  led_is : (r : Row) → (is_nil r.classes && not r.mate) ≡ false → (0 < length r.classes) ⊎ (r.mate ≡ true)
  led_is r none =
      ⊎_elim (λ t. inr (not-false _ (rw t at none))) (λ t. inl (some_class r.classes t)) (cases_Bool (is_nil r.classes))

  row_is : (r : Row) → IsRightRow net.points net.sets plan.dest plan.rows r → IsValidRow src r
  row_is r h =
      let small = and_parts (not (eqb r.rank 0) && leb r.rank 255) _ h.small in
      let ranks = and_parts (not (eqb r.rank 0)) _ small.0 in
      let sizes = and_parts (leb (length r.classes) 4) _ small.1 in
      let some_rank : r.rank ≢ 0 = eqb-false r.rank 0 (not-true _ ranks.0) in
      record {
        apart = eqb-false r.point plan.dest h.not_dest;
        coded = coded_point net.points r.point v.codes_small h.is_there;
        ranked = omega arith;
        topped = leb-true r.rank 255 ranks.1;
        vias = All-from_recursion (All (IsVia src r)) r.classes (each_class (adjacent net.sets r.point) (is_lower net.points plan.dest plan.rows r) (is_free net.points plan.dest r.point) (IsVia src r) (via_is r) r.classes h.vias_joined h.vias_lower h.vias_not_mate);
        flagged = flag_is r h.mate_right;
        few = leb-true (length r.classes) 4 sizes.0;
        small = All-from_recursion (λ (vias : List ℕ). length vias ≤ 2) r.classes (small_classes r.classes sizes.1);
        led = led_is r h.has_route;
      }

  rows_are : (rows : List Row) → AllByRecursion (IsRightRow net.points net.sets plan.dest plan.rows) rows → AllByRecursion (IsValidRow src) rows
  rows_are [] all = tt
  rows_are (r ∷ rs) all = (row_is r all.0, rows_are rs all.1)

  pub source_valid : IsValidSource (network_source net plan)
  source_valid = record {
    rows = All-from_recursion (IsValidRow src) plan.rows (rows_are plan.rows right.rows_right);
    once = pairs_rise plan.rows right.rows_rise;
    mates = λ p q r one two. let back = (v.mates p q one).back in let same : Some p ≡ Some r = sym back ∙ two in cc;
    mates_transfer = λ p q one. (v.mates q p (v.mates p q one).back).stp;
  }

few_all : (points : List Point) (sets : List LinkSet) → AllByRecursion (IsRightSet points) sets → AllByRecursion HasFewLinks sets
few_all points [] all = tt
few_all points (s ∷ ss) all = (record { few = all.0.few_links }, few_all points ss all.1)

-- each set has at most sixteen links
pub sets_few : (net : Network) → IsValidNet net → AllByRecursion HasFewLinks net.sets
sets_few net v = few_all net.points net.sets v.sets_right

ordered_all : (points : List Point) (sets : List LinkSet) → AllByRecursion (IsRightSet points) sets → AllByRecursion HasLinksInOrder sets
ordered_all points [] all = tt
ordered_all points (s ∷ ss) all = (record { rising = all.0.links_rise; small = All-from_recursion (λ (l : Link). l.slc < 16) s.links all.0.links_small }, ordered_all points ss all.1)

-- the links of each set rise in signalling link code, each below sixteen
pub sets_ordered : (net : Network) → IsValidNet net → AllByRecursion HasLinksInOrder net.sets
sets_ordered net v = ordered_all net.points net.sets v.sets_right

-- a plan that is found is right
pub plan_right : (net : Network) → IsValidNet net → (dest : ℕ) (plan : Plan) → plan_at net.plans dest ≡ Some plan → IsRightPlan net.points net.sets plan
plan_right net v dest plan at = found_holds (λ (p : Plan). p.dest) (IsRightPlan net.points net.sets) dest net.plans plan v.plans_right at
