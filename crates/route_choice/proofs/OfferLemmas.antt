-- What short classes are offered, and a row class by class.
use Rattle.std.proofs.Common.{◌≡◌, ℕ, ◌+◌, ◌<◌, ◌≤◌, List, [], ◌∷◌, get_or, drop, Bool, true, false, ◌||◌, refl, sym, ap, ◌∙◌, arith, length, max}
use Rattle.std.proofs.lemmas.List.{drop_more, drop_all}
use Rattle.route_choice.specs.declared.choices.Far.{Far}
use Rattle.route_choice.specs.declared.choices.Choice.{Choice}
use Rattle.std.proofs.lemmas.Bool.{cond-true, cond-false}
use Rattle.route_choice.specs.declared.choices.Far.TheVariants.{Allowed, Restricted, Prohibited}
use Rattle.route_choice.specs.Routes.{goodness, direct_status, better_of, best_in, best, has_via, member_at, lowest, offered_in, offered}

-- a status is known by its goodness
pub far_from_goodness : (x y : Far) → goodness x ≡ goodness y → x ≡ y
far_from_goodness Allowed Allowed e = refl
far_from_goodness Allowed Restricted e = absurd (omega arith)
far_from_goodness Allowed Prohibited e = absurd (omega arith)
far_from_goodness Restricted Allowed e = absurd (omega arith)
far_from_goodness Restricted Restricted e = refl
far_from_goodness Restricted Prohibited e = absurd (omega arith)
far_from_goodness Prohibited Allowed e = absurd (omega arith)
far_from_goodness Prohibited Restricted e = absurd (omega arith)
far_from_goodness Prohibited Prohibited e = refl

pub offered_none : (vias : List ℕ) (fars : List Far) → length vias ≡ 0 → offered_in vias fars ≡ []
offered_none [] fars e = refl
offered_none (v ∷ vs) fars e = absurd (omega arith)

pub offered_one : (vias : List ℕ) (fars : List Far) (dv : ℕ) (df : Far) → length vias ≡ 1 → 1 ≤ length fars
    → offered_in vias fars ≡ record { via = get_or vias 0 dv; far = get_or fars 0 df } ∷ []
offered_one [] fars dv df e l = absurd (omega arith)
offered_one (v ∷ []) [] dv df e l = absurd (omega arith)
offered_one (v ∷ []) (f ∷ fs) dv df e l = refl
offered_one (v ∷ w ∷ vs) fars dv df e l = absurd (omega arith)

pub offered_two : (vias : List ℕ) (fars : List Far) (dv ev : ℕ) (df ef : Far) → length vias ≡ 2 → 2 ≤ length fars
    → offered_in vias fars ≡ record { via = get_or vias 0 dv; far = get_or fars 0 df } ∷ record { via = get_or vias 1 ev; far = get_or fars 1 ef } ∷ []
offered_two [] fars dv ev df ef e l = absurd (omega arith)
offered_two (v ∷ []) fars dv ev df ef e l = absurd (omega arith)
offered_two (v ∷ w ∷ []) [] dv ev df ef e l = absurd (omega arith)
offered_two (v ∷ w ∷ []) (f ∷ []) dv ev df ef e l = absurd (omega arith)
offered_two (v ∷ w ∷ []) (f ∷ g ∷ fs) dv ev df ef e l = refl
offered_two (v ∷ w ∷ x ∷ vs) fars dv ev df ef e l = absurd (omega arith)

pub better_of_none : (x : Far) → better_of x Prohibited ≡ x
better_of_none Allowed = refl
better_of_none Restricted = refl
better_of_none Prohibited = refl

pub none_better_of : (x : Far) → better_of Prohibited x ≡ x
none_better_of Allowed = refl
none_better_of Restricted = refl
none_better_of Prohibited = refl

pub goodness-better_of : (x y : Far) → goodness (better_of x y) ≡ max (goodness x) (goodness y)
goodness-better_of Allowed Allowed = refl
goodness-better_of Allowed Restricted = refl
goodness-better_of Allowed Prohibited = refl
goodness-better_of Restricted Allowed = refl
goodness-better_of Restricted Restricted = refl
goodness-better_of Restricted Prohibited = refl
goodness-better_of Prohibited Allowed = refl
goodness-better_of Prohibited Restricted = refl
goodness-better_of Prohibited Prohibited = refl

pub better_of_assoc : (x y z : Far) → better_of (better_of x y) z ≡ better_of x (better_of y z)
better_of_assoc x y z = far_from_goodness _ _
    (omega (arith, goodness-better_of (better_of x y) z, goodness-better_of x y, goodness-better_of x (better_of y z), goodness-better_of y z))

pub or_false : (b : Bool) → (b || false) ≡ b
or_false true = refl
or_false false = refl

-- one class more of a row
pub offered_more : (classes : List (List ℕ)) (fars : List (List Far)) (i : ℕ) (dv : List ℕ) (df : List Far) → i < length classes → i < length fars
    → offered (drop i classes) (drop i fars) ≡ offered_in (get_or classes i dv) (get_or fars i df) ∷ offered (drop (i + 1) classes) (drop (i + 1) fars)
offered_more classes fars i dv df lc lf = rw (drop_more classes i dv lc, drop_more fars i df lf) refl

pub offered_all : (classes : List (List ℕ)) (fars : List (List Far)) (i : ℕ) → length classes ≤ i → offered (drop i classes) (drop i fars) ≡ []
offered_all classes fars i l = rw (drop_all i classes l) refl

-- a class more in the best of a row
pub best_more : (classes : List (List ℕ)) (fars : List (List Far)) (i : ℕ) (vias : List ℕ) (df : List Far) (b c d all : Far) → i < length classes → i < length fars
    → vias ≡ get_or classes i vias → better_of b (best (offered (drop i classes) (drop i fars))) ≡ all
    → c ≡ best_in (offered_in vias (get_or fars i df)) → d ≡ better_of b c
    → better_of d (best (offered (drop (i + 1) classes) (drop (i + 1) fars))) ≡ all
best_more classes fars i vias df b c d all lc lf at so_far here is =
    let more = offered_more classes fars i vias df lc lf in
    let rest : Far = best (offered (drop (i + 1) classes) (drop (i + 1) fars)) in
    let split : best (offered (drop i classes) (drop i fars)) ≡ better_of c rest
    = ap best more ∙ ap (λ (x : Far). better_of x rest) (ap (λ (v : List ℕ). best_in (offered_in v (get_or fars i df))) (sym at) ∙ sym here) in
    ap (λ (x : Far). better_of x rest) is ∙ better_of_assoc b c rest ∙ ap (better_of b) (sym split) ∙ so_far

pub best_end : (classes : List (List ℕ)) (fars : List (List Far)) (i : ℕ) (b all : Far) → length classes ≤ i → better_of b (best (offered (drop i classes) (drop i fars))) ≡ all → b ≡ all
best_end classes fars i b all l e = sym (better_of_none b) ∙ ap (better_of b) (sym (ap best (offered_all classes fars i l))) ∙ e

-- a class that offers the status is the lowest, and one that doesn't is passed
pub lowest_here : (tfr : Bool) (b : Far) (classes : List (List ℕ)) (fars : List (List Far)) (i : ℕ) (vias : List ℕ) (df : List Far) (all : Choice) → i < length classes → i < length fars
    → vias ≡ get_or classes i vias → lowest tfr b (i + 1) (offered (drop i classes) (drop i fars)) ≡ all
    → has_via b (offered_in vias (get_or fars i df)) ≡ true
    → record { class = i + 1; members = member_at b (offered_in vias (get_or fars i df)) 0 ∷ member_at b (offered_in vias (get_or fars i df)) 1 ∷ []; status = direct_status tfr b (i + 1) } ≡ all
lowest_here tfr b classes fars i vias df all lc lf at so_far here =
    let more : offered (drop i classes) (drop i fars) ≡ offered_in vias (get_or fars i df) ∷ offered (drop (i + 1) classes) (drop (i + 1) fars)
    = offered_more classes fars i vias df lc lf ∙ ap (λ (v : List ℕ). offered_in v (get_or fars i df) ∷ offered (drop (i + 1) classes) (drop (i + 1) fars)) (sym at) in
    sym (cond-true (has_via b (offered_in vias (get_or fars i df))) _ (lowest tfr b (i + 1 + 1) (offered (drop (i + 1) classes) (drop (i + 1) fars))) here)
    ∙ sym (ap (lowest tfr b (i + 1)) more) ∙ so_far

pub lowest_past : (tfr : Bool) (b : Far) (classes : List (List ℕ)) (fars : List (List Far)) (i : ℕ) (vias : List ℕ) (df : List Far) (all : Choice) → i < length classes → i < length fars
    → vias ≡ get_or classes i vias → lowest tfr b (i + 1) (offered (drop i classes) (drop i fars)) ≡ all
    → has_via b (offered_in vias (get_or fars i df)) ≡ false
    → lowest tfr b (i + 1 + 1) (offered (drop (i + 1) classes) (drop (i + 1) fars)) ≡ all
lowest_past tfr b classes fars i vias df all lc lf at so_far here =
    let more : offered (drop i classes) (drop i fars) ≡ offered_in vias (get_or fars i df) ∷ offered (drop (i + 1) classes) (drop (i + 1) fars)
    = offered_more classes fars i vias df lc lf ∙ ap (λ (v : List ℕ). offered_in v (get_or fars i df) ∷ offered (drop (i + 1) classes) (drop (i + 1) fars)) (sym at) in
    sym (cond-false (has_via b (offered_in vias (get_or fars i df))) _ (lowest tfr b (i + 1 + 1) (offered (drop (i + 1) classes) (drop (i + 1) fars))) here)
    ∙ sym (ap (lowest tfr b (i + 1)) more) ∙ so_far
