-- A row with which nothing is wrong.
use Rattle.std.proofs.Common.{◌≡◌, ℕ, Bool, true, false, not, ◌&&◌, eqb, List, [], ◌∷◌, None, refl}
use Rattle.std.specs.List.{list_all, list_any}
use Rattle.std.proofs.lemmas.Bool.{and_parts}
use Rattle.net_items.specs.declared.items.Point.{Point}
use Rattle.net_items.specs.declared.items.LinkSet.{LinkSet}
use Rattle.net_items.specs.declared.lists.Row.{Row}
use Rattle.net_items.specs.Lookups.{adjacent, vias_of}
use Rattle.net_sets.specs.Sets.{is_distinct, is_nil}
use Rattle.plan_rows.specs.Causes.{cause_of}
use Rattle.plan_rows.specs.Rows.{all_vias, is_lower, is_free, is_right_via, has_mate_row}

-- three tests of each at once are three tests of all
three_of : (p q u : ℕ → Bool) (vias : List ℕ) → list_all (λ z. p z && (q z && u z)) vias ≡ true → (list_all p vias ≡ true) × (list_all q vias ≡ true) × (list_all u vias ≡ true)
three_of p q u [] h = (refl, refl, refl)
three_of p q u (z ∷ vias) h =
    let here = and_parts (p z && (q z && u z)) _ h in
    let one = and_parts (p z) _ here.0 in
    let two = and_parts (q z) _ one.1 in
    let rest = three_of p q u vias here.1 in
    (rw (one.0, rest.0) refl, rw (two.0, rest.1) refl, rw (two.1, rest.2) refl)

three_in : (p q u : ℕ → Bool) (classes : List (List ℕ)) → list_all (λ vias. list_all (λ z. p z && (q z && u z)) vias) classes ≡ true
    → (list_all (λ vias. list_all p vias) classes ≡ true) × (list_all (λ vias. list_all q vias) classes ≡ true) × (list_all (λ vias. list_all u vias) classes ≡ true)
three_in p q u [] h = (refl, refl, refl)
three_in p q u (vias ∷ classes) h =
    let here = and_parts (list_all (λ z. p z && (q z && u z)) vias) _ h in
    let one = three_of p q u vias here.0 in
    let rest = three_in p q u classes here.1 in
    (rw (one.0, rest.0) refl, rw (one.1, rest.1) refl, rw (one.2, rest.2) refl)

pub and_no : (b : Bool) → (b && false) ≡ false
and_no true = refl
and_no false = refl

pub nothing_wrong : (points : List Point) (sets : List LinkSet) (dest : ℕ) (rows earlier : List Row) (r : Row) → eqb r.point dest ≡ false → list_any (λ (other : Row). eqb other.point r.point) earlier ≡ false → is_distinct (vias_of r) ≡ true
    → all_vias (is_right_via points (record { point = r.point; sets = sets }) dest rows r) r ≡ true → (r.mate && not (has_mate_row points sets dest rows r)) ≡ false → (is_nil r.classes && not r.mate) ≡ false → cause_of points sets dest rows earlier r ≡ None
nothing_wrong points sets dest rows earlier r away once apart right mate routed =
    let vias = three_in (adjacent sets r.point) (is_lower points dest rows r) (is_free points dest r.point) r.classes right in
    rw (away, once, vias.0, apart, vias.1, vias.2, mate, routed) refl
