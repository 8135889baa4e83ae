-- What the table of transfer points says of the points.
use Rattle.std.proofs.Common.{◌≡◌, ◌≢◌, ℕ, zero, suc, ◌<◌, Bool, true, false, eqb, Option, Some, None, is_some, List, [], ◌∷◌, ◌++◌, length, get_or, set, take, cond, refl, ap, sym, ◌∙◌, subst, arith, ⊎_elim}
use Rattle.std.specs.List.{AllByRecursion}
use Rattle.std.specs.Option.{option_map_or, option_or}
use Rattle.std.proofs.lemmas.Bool.{cases_eq, eq-eqb, ne_eqb}
use Rattle.std.proofs.lemmas.Bool.Decides.{nat_tests}
use Rattle.std.proofs.lemmas.List.{get_or-set_same, get_or-set_other}
use Rattle.net_items.specs.declared.items.Point.{Point}
use Rattle.net_items.specs.Keyed.{IsRising}
use Rattle.net_items.specs.Lookups.{point_at, has_point, is_stp, kind_is_stp}
use Rattle.plan_rows.specs.Transfers.{IsTransfers}

-- what is found with one more point at the end
point_at-push : (points : List Point) (p : Point) (z : ℕ) → point_at (points ++ p ∷ []) z ≡ option_or (point_at points z) (cond (eqb p.code z) (Some p) None)
point_at-push [] p z = refl
point_at-push (x ∷ xs) p z = grind (arith, nat_tests, point_at-push xs p z)

none_there : (o : Option Point) → is_some o ≡ false → o ≡ None
none_there None e = refl
none_there (Some p) e = absurd (cc)

or_none : (o : Option Point) → option_or o None ≡ o
or_none None = refl
or_none (Some p) = refl

stp-push_same : (points : List Point) (p : Point) → has_point points p.code ≡ false → is_stp (points ++ p ∷ []) p.code ≡ kind_is_stp p.kind
stp-push_same points p absent =
    let none : point_at points p.code ≡ None = none_there (point_at points p.code) absent in
    let here : point_at (points ++ p ∷ []) p.code ≡ Some p = point_at-push points p p.code ∙ rw (none, eq-eqb p.code p.code refl) refl in
    ap (λ (o : Option Point). option_map_or (λ (q : Point). kind_is_stp q.kind) o false) here

stp-push_other : (points : List Point) (p : Point) (z : ℕ) → z ≢ p.code → is_stp (points ++ p ∷ []) z ≡ is_stp points z
stp-push_other points p z other =
    let here : point_at (points ++ p ∷ []) z ≡ point_at points z = point_at-push points p z ∙ rw (ne_eqb p.code z (λ e. other (sym e))) (or_none (point_at points z)) in
    ap (λ (o : Option Point). option_map_or (λ (q : Point). kind_is_stp q.kind) o false) here

-- a transfer point is noted
pub IsTransfers-note : (transfers : List Bool) (points : List Point) (p : Point) (at : ℕ) → at ≡ p.code → length transfers ≡ 16384 → at < 16384 → has_point points p.code ≡ false → kind_is_stp p.kind ≡ true
    → IsTransfers transfers points → IsTransfers (set transfers at true) (points ++ p ∷ [])
IsTransfers-note transfers points p at is long small absent stp noted = λ z within.
    ⊎_elim
    (λ (same : z ≡ at).
    let here : get_or (set transfers at true) z false ≡ true = subst (λ n. get_or (set transfers at true) n false ≡ true) (sym same) (get_or-set_same transfers at true false (omega arith)) in
    here ∙ sym (subst (λ n. is_stp (points ++ p ∷ []) n ≡ true) (sym is ∙ sym same) (stp-push_same points p absent ∙ stp)))
    (λ (other : z ≢ at).
    get_or-set_other transfers at z true false other ∙ (noted z within ∙ sym (stp-push_other points p z (λ e. other (e ∙ sym is)))))
    (cases_eq z at)

-- an end point changes nothing
pub IsTransfers-keep : (transfers : List Bool) (points : List Point) (p : Point) → has_point points p.code ≡ false → kind_is_stp p.kind ≡ false
    → IsTransfers transfers points → IsTransfers transfers (points ++ p ∷ [])
IsTransfers-keep transfers points p absent sep noted = λ z within.
    ⊎_elim
    (λ (same : z ≡ p.code).
    let none : point_at points p.code ≡ None = none_there (point_at points p.code) absent in
    let before : is_stp points z ≡ false = subst (λ n. is_stp points n ≡ false) (sym same) (ap (λ (o : Option Point). option_map_or (λ (q : Point). kind_is_stp q.kind) o false) none) in
    noted z within ∙ (before ∙ sym (subst (λ n. is_stp (points ++ p ∷ []) n ≡ false) (sym same) (stp-push_same points p absent ∙ sep))))
    (λ (other : z ≢ p.code). noted z within ∙ sym (stp-push_other points p z other))
    (cases_eq z p.code)

-- no point before a place has the code of the point there
pub none_before : (points : List Point) (i : ℕ) (p d : Point) → i < length points → p ≡ get_or points i d → IsRising (λ (p : Point). p.code) points → has_point (take i points) p.code ≡ false
none_before [] i p d within is up = absurd (omega arith)
none_before (x ∷ xs) zero p d within is up = refl
none_before (x ∷ xs) (suc i) p d within is up =
    let above : x.code < p.code = rw is (get_all xs i d up.0 (omega arith)) in
    let other : eqb x.code p.code ≡ false = ne_eqb x.code p.code (λ e. omega arith) in
    rw other (none_before xs i p d (omega arith) is up.1)
  where
    get_all : (ys : List Point) (j : ℕ) (d : Point) → AllByRecursion (λ (y : Point). x.code < y.code) ys → j < length ys → x.code < (get_or ys j d).code
    get_all [] j d all less = absurd (omega arith)
    get_all (y ∷ ys) zero d all less = all.0
    get_all (y ∷ ys) (suc j) d all less = get_all ys j d all.1 (omega arith)
