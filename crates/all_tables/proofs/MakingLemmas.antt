-- The tables of planned destinations are all there.
use Rattle.std.proofs.Common.{◌≡◌, ℕ, ◌<◌, false, eqb, List, [], ◌∷◌, ◌++◌, Option, Some, None, map, option_map, refl, ap, ◌∙◌, append-nil, arith}
use Rattle.std.specs.Prelude.{All}
use Rattle.std.specs.List.{AllByRecursion}
use Rattle.std.proofs.lemmas.List.Elements.{All-from_recursion}
use Rattle.net_items.specs.declared.items.Plan.{Plan}
use Rattle.net_items.specs.Keyed.{IsRising, at_key}
use Rattle.std.proofs.lemmas.Bool.{eq-eqb, ne_eqb}
use Rattle.std.proofs.lemmas.Simd.{map-map}
use Rattle.net_items.specs.Lookups.{plan_at}
use Rattle.net_data.specs.Network.{Network}
use Rattle.profile.specs.Whole.{scratch}
use Rattle.excerpts.specs.Excerpt.{network_source}
use Rattle.net_items.proofs.KeyedLemmas.{All-then}
use Rattle.excerpts.specs.Excerpt.{table_at}
use Rattle.all_tables.specs.Tables.{tables, those_there, IsSettledIn}

-- one more
pub those_there-append : {X : Type 0} (xs ys : List (Option X)) → those_there (xs ++ ys) ≡ those_there xs ++ those_there ys
those_there-append [] ys = refl
those_there-append (None ∷ xs) ys = those_there-append xs ys
those_there-append (Some x ∷ xs) ys = ap (λ l. x ∷ l) (those_there-append xs ys)

pub one_there : {X : Type 0} (xs : List (Option X)) (o : Option X) (x : X) → o ≡ Some x → those_there (xs ++ o ∷ []) ≡ those_there xs ++ x ∷ []
one_there xs o x e = those_there-append xs (o ∷ []) ∙ ap (λ p. those_there xs ++ those_there (p ∷ [])) e

pub none_there : {X : Type 0} (xs : List (Option X)) (o : Option X) → o ≡ None → those_there (xs ++ o ∷ []) ≡ those_there xs
none_there xs o e = those_there-append xs (o ∷ []) ∙ ap (λ p. those_there xs ++ those_there (p ∷ [])) e ∙ append-nil (those_there xs)

-- if each is there, none is lost
pub those_there-all : {X Y : Type 0} (f : Y → Option X) (g : Y → X) (ys : List Y) → AllByRecursion (λ y. f y ≡ Some (g y)) ys → those_there (map f ys) ≡ map g ys
those_there-all f g [] h = refl
those_there-all f g (y ∷ ys) h = rw (h.0) (ap (λ l. g y ∷ l) (those_there-all f g ys h.1))

later_finds : {X : Type 0} (key : X → ℕ) (x : X) (all ys : List X) → AllByRecursion (λ y. key x < key y) ys → AllByRecursion (λ y. at_key key (key y) all ≡ Some y) ys
    → AllByRecursion (λ y. at_key key (key y) (x ∷ all) ≡ Some y) ys
later_finds key x all [] above finds = tt
later_finds key x all (y ∷ ys) above finds =
    let apart : eqb (key x) (key y) ≡ false = ne_eqb (key x) (key y) (λ e. omega (arith, above.0)) in
    (rw apart finds.0, later_finds key x all ys above.1 finds.1)

-- among rising keys each element is found by its own
pub finds_own : {X : Type 0} (key : X → ℕ) (xs : List X) → IsRising key xs → AllByRecursion (λ x. at_key key (key x) xs ≡ Some x) xs
finds_own key [] up = tt
finds_own key (x ∷ xs) up = (rw (eq-eqb (key x) (key x) refl) refl, later_finds key x xs xs up.0 (finds_own key xs up.1))

-- each planned destination has its table
each_there : (net : Network) → IsRising (λ (p : Plan). p.dest) net.plans → AllByRecursion (λ (p : Plan). table_at net p.dest ≡ Some (scratch (network_source net p))) net.plans
each_there net up =
    All-then (λ (p : Plan). p.dest) (λ p. plan_at net.plans p.dest ≡ Some p) (λ p. table_at net p.dest ≡ Some (scratch (network_source net p)))
    (λ p e. ap (λ o. option_map (λ q. scratch (network_source net q)) o) e) net.plans (finds_own (λ (p : Plan). p.dest) net.plans up)

pub all_there : (net : Network) → IsRising (λ (p : Plan). p.dest) net.plans → those_there (map (table_at net) (map (λ (p : Plan). p.dest) net.plans)) ≡ tables net
all_there net up =
    ap those_there (map-map (table_at net) (λ (p : Plan). p.dest) net.plans)
    ∙ those_there-all (λ p. table_at net p.dest) (λ p. scratch (network_source net p)) net.plans (each_there net up)

settled_among : (net : Network) (plans : List Plan) → AllByRecursion (λ (p : Plan). table_at net p.dest ≡ Some (scratch (network_source net p))) plans
    → AllByRecursion (IsSettledIn net) (map (λ p. scratch (network_source net p)) plans)
settled_among net [] h = tt
settled_among net (p ∷ ps) h = (h.0, settled_among net ps h.1)

-- each of the tables is the settled one of its destination
pub all_settled : (net : Network) → IsRising (λ (p : Plan). p.dest) net.plans → All (IsSettledIn net) (tables net)
all_settled net up = All-from_recursion (IsSettledIn net) (tables net) (settled_among net net.plans (each_there net up))
