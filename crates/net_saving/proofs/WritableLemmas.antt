-- Each number of a valid network is in the range of its token.
use Rattle.std.proofs.Common.{◌≡◌, ℕ, ◌<◌, ◌≤◌, Bool, true, false, not, eqb, leb, ◌&&◌, Some, List, [], ◌∷◌, length, refl, ap, ◌∙◌, subst, arith, ⊎_elim}
use Rattle.std.specs.List.{AllByRecursion, list_all}
use Rattle.std.specs.Option.{option_and_then}
use Rattle.std.proofs.lemmas.Bool.{and_parts, or_cases, eqb-true, leb-true}
use Rattle.std.proofs.lemmas.Bool.Decides.{nat_tests}
use Rattle.net_items.specs.declared.items.Point.{Point}
use Rattle.net_items.specs.declared.items.LinkSet.{LinkSet}
use Rattle.net_items.specs.declared.items.Plan.{Plan}
use Rattle.net_items.specs.declared.links.Link.{Link}
use Rattle.net_items.specs.declared.lists.Row.{Row}
use Rattle.net_items.specs.Keyed.{IsRising, at_key}
use Rattle.net_items.specs.Lookups.{point_at, has_point, joins, adjacent}
use Rattle.net_items.proofs.KeyedLemmas.{All-then}
use Rattle.net_sets.specs.Sets.{is_nil}
use Rattle.plan_rows.specs.Rows.{is_small_class}
use Rattle.net_data.specs.Network.{Network}
use Rattle.net_data.specs.Valid.{IsRightRow, IsRightPlan, IsRightSet, IsValid}
use Rattle.net_data.proofs.PairLemmas.{mate_there}
use Rattle.point_codes.specs.Codes.{IsCode}
use Rattle.tokens.specs.declared.marked.Format.TheVariants.{Two}
use Rattle.tokens.specs.Marked.{IsMarked}
use Rattle.tokens.specs.Rows.{IsClass, IsRow}
use Rattle.net_saving.proofs.EntryLemmas.{IsSetText, IsPlanText}

-- a point and its mate can be written
abbrev pub IsPairText : Point → Type 0
IsPairText p = (m : ℕ) → p.mate ≡ Some m → IsCode p.code × IsCode m

-- ---- lists

both_all : {X : Type 0} (P Q R : X → Type 0) → ((x : X) → P x → Q x → R x) → (xs : List X) → AllByRecursion P xs → AllByRecursion Q xs → AllByRecursion R xs
both_all P Q R f [] p q = tt
both_all P Q R f (x ∷ xs) p q = (f x p.0 q.0, both_all P Q R f xs p.1 q.1)

found_later : {X : Type 0} (key : X → ℕ) (x : X) (xs ys : List X) → AllByRecursion (λ y. key x < key y) ys → AllByRecursion (λ y. at_key key (key y) xs ≡ Some y) ys → AllByRecursion (λ y. at_key key (key y) (x ∷ xs) ≡ Some y) ys
found_later key x xs [] up h = tt
found_later key x xs (y ∷ ys) up h =
    let above : key x < key y = up.0 in
    let other : eqb (key x) (key y) ≡ false = grind (arith, nat_tests) in
    (rw other (h.0), found_later key x xs ys up.1 h.1)

-- each element is found by its key
all_found : {X : Type 0} (key : X → ℕ) (xs : List X) → IsRising key xs → AllByRecursion (λ x. at_key key (key x) xs ≡ Some x) xs
all_found key [] up = tt
all_found key (x ∷ xs) up =
    let same : eqb (key x) (key x) ≡ true = grind (arith, nat_tests) in
    (rw same refl, found_later key x xs xs up.0 (all_found key xs up.1))

some_via : (vias : List ℕ) → not (is_nil vias) ≡ true → 0 < length vias
some_via [] h = absurd (cc)
some_via (via ∷ vias) h = omega arith

-- ---- the parts of a valid network

small_there : (points : List Point) (c : ℕ) → AllByRecursion (λ (p : Point). p.code < 16384) points → has_point points c ≡ true → c < 16384
small_there [] c small there = absurd (cc)
small_there (p ∷ ps) c small there = go (eqb p.code c) refl (small_there ps c small.1)
  where
    go : (b : Bool) → eqb p.code c ≡ b → (has_point ps c ≡ true → c < 16384) → c < 16384
    go true t next = subst (λ n. n < 16384) (eqb-true p.code c t) small.0
    go false t next = next (rw t at there)

module _ (net : Network) (v : IsValid net) where
  code_there : (c : ℕ) → has_point net.points c ≡ true → IsCode c
  code_there c there = small_there net.points c v.codes_small there

  pair_right : (p : Point) → point_at net.points p.code ≡ Some p → p.code < 16384 → IsPairText p
  pair_right p found small m e =
      let mates = v.mates p.code m (ap (option_and_then (λ (q : Point). q.mate)) found ∙ e) in
      (small, code_there m (mate_there net.points m p.code mates.back))

  pub pairs_right : AllByRecursion IsPairText net.points
  pairs_right = both_all (λ (p : Point). point_at net.points p.code ≡ Some p) (λ (p : Point). p.code < 16384) IsPairText pair_right net.points (all_found (λ (p : Point). p.code) net.points v.points_rise) v.codes_small

  set_right : (s : LinkSet) → IsRightSet net.points s → IsSetText s
  set_right s h =
      let small : s.id ≤ 4095 = h.small in (
        omega arith,
        code_there s.a h.a_there,
        code_there s.b h.b_there,
        h.some_link,
        All-then (λ (l : Link). l.slc) (λ (l : Link). l.slc < 16) (IsMarked Two) (λ l below. omega arith) s.links h.links_small,
      )

  pub sets_writable : AllByRecursion IsSetText net.sets
  sets_writable = All-then (λ (s : LinkSet). s.id) (IsRightSet net.points) IsSetText set_right net.sets v.sets_right

  code_joined : (sets : List LinkSet) (y z : ℕ) → AllByRecursion (IsRightSet net.points) sets → adjacent sets y z ≡ true → IsCode z
  code_joined [] y z right h = absurd (cc)
  code_joined (s ∷ ss) y z right h = go (joins y z s) refl (code_joined ss y z right.1)
    where
      go : (b : Bool) → joins y z s ≡ b → (adjacent ss y z ≡ true → IsCode z) → IsCode z
      go true t next =
          ⊎_elim
          (λ e. let ends = and_parts (eqb s.a y) (eqb s.b z) e in subst IsCode (eqb-true s.b z ends.1) (code_there s.b right.0.b_there))
          (λ e. let ends = and_parts (eqb s.a z) (eqb s.b y) e in subst IsCode (eqb-true s.a z ends.0) (code_there s.a right.0.a_there))
          (or_cases (eqb s.a y && eqb s.b z) (eqb s.a z && eqb s.b y) t)
      go false t next = next (rw t at h)

  vias_right : (y : ℕ) (vias : List ℕ) → list_all (adjacent net.sets y) vias ≡ true → AllByRecursion IsCode vias
  vias_right y [] h = tt
  vias_right y (z ∷ zs) h =
      let parts = and_parts (adjacent net.sets y z) (list_all (adjacent net.sets y) zs) h in
      (code_joined net.sets y z v.sets_right parts.0, vias_right y zs parts.1)

  classes_right : (y : ℕ) (classes : List (List ℕ)) → list_all is_small_class classes ≡ true → list_all (λ vias. list_all (adjacent net.sets y) vias) classes ≡ true → AllByRecursion IsClass classes
  classes_right y [] small near = tt
  classes_right y (vias ∷ classes) small near =
      let sizes = and_parts (is_small_class vias) (list_all is_small_class classes) small in
      let ways = and_parts (list_all (adjacent net.sets y) vias) (list_all (λ vias. list_all (adjacent net.sets y) vias) classes) near in
      let some = and_parts (not (is_nil vias)) (leb (length vias) 2) sizes.0 in
      ((some_via vias some.0, vias_right y vias ways.0), classes_right y classes sizes.1 ways.1)

  row_right : (dest : ℕ) (rows : List Row) (r : Row) → IsRightRow net.points net.sets dest rows r → IsRow r
  row_right dest rows r h =
      let limits = and_parts (not (eqb r.rank 0) && leb r.rank 255) (leb (length r.classes) 4 && list_all is_small_class r.classes) h.small in
      let rank = and_parts (not (eqb r.rank 0)) (leb r.rank 255) limits.0 in
      let classes = and_parts (leb (length r.classes) 4) (list_all is_small_class r.classes) limits.1 in
      (code_there r.point h.is_there, leb-true r.rank 255 rank.1, classes_right r.point r.classes classes.1 h.vias_joined)

  plan_right : (p : Plan) → IsRightPlan net.points net.sets p → IsPlanText p
  plan_right p h =
      (code_there p.dest h.is_there, All-then (λ (r : Row). r.point) (IsRightRow net.points net.sets p.dest p.rows) IsRow (row_right p.dest p.rows) p.rows h.rows_right)

  pub plans_writable : AllByRecursion IsPlanText net.plans
  plans_writable = All-then (λ (p : Plan). p.dest) (IsRightPlan net.points net.sets) IsPlanText plan_right net.plans v.plans_right
