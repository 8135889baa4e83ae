-- What a table reads stays where points change of which it doesn't read the change.
use Rattle.std.proofs.Common.{⊎_elim, ◌≡◌, ℕ, Bool, true, false, not, ◌&&◌, ◌||◌, eqb, Option, Some, None, is_some, List, [], ◌∷◌, cond, refl, ap, sym, ◌∙◌, subst, arith}
use Rattle.std.specs.Prelude.{filter, map}
use Rattle.std.specs.List.{AllByRecursion, list_any}
use Rattle.std.specs.Option.{option_map, option_map_or, option_and_then}
use Rattle.std.proofs.lemmas.Bool.{and_parts, or_parts, not-false, cases_Bool, eqb-true, eqb-false, ne_eqb}
use Rattle.net_items.specs.declared.items.Kind.{Kind}
use Rattle.net_items.specs.declared.items.Kind.TheVariants.{Sep}
use Rattle.net_items.specs.declared.items.Point.{Point}
use Rattle.net_items.specs.declared.items.LinkSet.{LinkSet}
use Rattle.net_items.specs.declared.items.Plan.{Plan}
use Rattle.net_items.specs.declared.lists.Row.{Row}
use Rattle.net_items.specs.Keyed.{put, without}
use Rattle.net_items.specs.Lookups.{point_at, has_point, is_stp, kind_is_stp, mate_of, row_at, plan_at}
use Rattle.net_items.proofs.KeyedLemmas.{at_key-put, at_key-without, found_holds}
use Rattle.net_sets.specs.Sets.{is_end}
use Rattle.plan_rows.specs.Rows.{has_mate_row}
use Rattle.plan_rows.specs.Uses.{is_row_of, uses_point, is_flagged, has_flag}
use Rattle.net_data.specs.declared.events.Event.TheVariants as on
use Rattle.net_data.specs.Network.{Network}
use Rattle.net_data.specs.Edits.{refusal_of, changed, with_mate, set_mate}
use Rattle.net_data.specs.Valid.{IsRightRow, IsRightPlan, IsValid}
use Rattle.net_data.proofs.FrameLemmas.{All-unless, neither}
use Rattle.net_data.proofs.PreservationLemmas.{when_none, not_some}
use Rattle.net_data.proofs.PairLemmas.{point_at-set_mate, has_point-set_mate, mate_of-set_mate, mate_there}
use Rattle.excerpts.specs.Excerpt.{point_kind, row_point, is_read_by, content_in, content_at}

-- whether it is a transfer point follows from the kind
stp-kind : (o : Option Point) → option_map_or (λ (p : Point). kind_is_stp p.kind) o false ≡ kind_is_stp (option_map_or (λ (p : Point). p.kind) o Sep)
stp-kind None = refl
stp-kind (Some p) = refl

-- two tests that are the same where a third passes
and_same : (a b c : Bool) → (c ≡ true → a ≡ b) → (a && c) ≡ (b && c)
and_same a b true h = rw (h refl) refl
and_same a b false h = grind arith

-- two values that are the same where a test passes
cond_same : {X : Type 0} (b : Bool) (x y z : X) → (b ≡ true → x ≡ y) → cond b x z ≡ cond b y z
cond_same true x y z h = h refl
cond_same false x y z h = refl

filter_same : (p q : LinkSet → Bool) → ((s : LinkSet) → p s ≡ q s) → (sets : List LinkSet) → filter p sets ≡ filter q sets
filter_same p q same [] = refl
filter_same p q same (s ∷ ss) = let rest = filter_same p q same ss in rw (same s, rest) refl

-- the same is read of a row's point
abbrev pub IsSameRow : List Point → List Point → Row → Type 0
IsSameRow points points' r = row_point points' r ≡ row_point points r

-- a row whose point is the same
same_point : (points points' : List Point) (r : Row) → point_at points' r.point ≡ point_at points r.point → IsSameRow points points' r
same_point points points' r e = ap (λ (o : Option Point). record { code = r.point; kind = option_map_or (λ (p : Point). p.kind) o Sep; mate = cond r.mate (option_and_then (λ (p : Point). p.mate) o) None }) e

-- a row whose point has the same kind, and the same mate if the row has the flag
same_parts : (points points' : List Point) (r : Row) → point_kind points' r.point ≡ point_kind points r.point → (r.mate ≡ true → mate_of points' r.point ≡ mate_of points r.point) → IsSameRow points points' r
same_parts points points' r kind mate =
    let mates : cond r.mate (mate_of points' r.point) None ≡ cond r.mate (mate_of points r.point) None = cond_same r.mate _ _ None mate in
    rw (kind, mates) refl

module _ (points points' : List Point) where
  -- the point of a row has the same kind
  kind_at : (rows : List Row) (y : ℕ) → AllByRecursion (IsSameRow points points') rows → is_some (row_at rows y) ≡ true → point_kind points' y ≡ point_kind points y
  kind_at [] y all there = absurd (cc)
  kind_at (r ∷ rs) y all there =
      ⊎_elim
      (λ here. subst (λ n. point_kind points' n ≡ point_kind points n) (eqb-true _ _ here) (ap (λ (p : Point). p.kind) all.0))
      (λ other. kind_at rs y all.1 (rw other at there))
      (cases_Bool (eqb r.point y))

  transfers_same : (rows : List Row) (y : ℕ) → AllByRecursion (IsSameRow points points') rows → (is_stp points' y && is_some (row_at rows y)) ≡ (is_stp points y && is_some (row_at rows y))
  transfers_same rows y all =
      and_same (is_stp points' y) (is_stp points y) (is_some (row_at rows y))
      (λ there. stp-kind (point_at points' y) ∙ (ap kind_is_stp (kind_at rows y all there) ∙ sym (stp-kind (point_at points y))))

  read_same : (plan : Plan) → AllByRecursion (IsSameRow points points') plan.rows → (s : LinkSet) → is_read_by points' plan s ≡ is_read_by points plan s
  read_same plan all s =
      let a = transfers_same plan.rows s.a all in
      let b = transfers_same plan.rows s.b all in
      rw (a, b) refl

  points_same : (rows : List Row) → AllByRecursion (IsSameRow points points') rows → map (row_point points') rows ≡ map (row_point points) rows
  points_same [] all = refl
  points_same (r ∷ rs) all = λ i. all.0 i ∷ points_same rs all.1 i

-- other points, of which each plan reads the same
content-points : (net : Network) (points' : List Point) (x : ℕ) → AllByRecursion (λ (plan : Plan). AllByRecursion (IsSameRow net.points points') plan.rows) net.plans
    → content_at (record net { points = points' }) x ≡ content_at net x
content-points net points' x all = go (plan_at net.plans x) refl
  where
    go : (o : Option Plan) → plan_at net.plans x ≡ o → option_map (content_in (record net { points = points' })) o ≡ option_map (content_in net) o
    go None e = refl
    go (Some plan) e =
        let same : AllByRecursion (IsSameRow net.points points') plan.rows = found_holds (λ (p : Plan). p.dest) (λ (plan : Plan). AllByRecursion (IsSameRow net.points points') plan.rows) x net.plans plan all e in
        let rows = points_same net.points points' plan.rows same in
        let sets = filter_same (is_read_by points' plan) (is_read_by net.points plan) (read_same net.points points' plan same) net.sets in
        λ i. Some (record { plan = plan; points = rows i; sets = sets i; tfr = net.tfr })

-- what holds of each right row of a plan that passes no test
all_rows : (net : Network) (v : IsValid net) (points' : List Point) (t : Plan → Bool) (u : Plan → Row → Bool)
    → list_any t net.plans ≡ false
    → ((plan : Plan) → t plan ≡ false → list_any (u plan) plan.rows ≡ false)
    → ((plan : Plan) (r : Row) → u plan r ≡ false → IsRightRow net.points net.sets plan.dest plan.rows r → IsSameRow net.points points' r)
    → AllByRecursion (λ (plan : Plan). AllByRecursion (IsSameRow net.points points') plan.rows) net.plans
all_rows net v points' t u none of_plan of_row =
    All-unless (IsRightPlan net.points net.sets) (λ (plan : Plan). AllByRecursion (IsSameRow net.points points') plan.rows) t
    (λ plan off right. All-unless (IsRightRow net.points net.sets plan.dest plan.rows) (IsSameRow net.points points') (u plan) (of_row plan) plan.rows (of_plan plan off) right.rows_right)
    net.plans none v.plans_right

-- no test at all
none_any : {X : Type 0} (xs : List X) → list_any (λ (x : X). false) xs ≡ false
none_any [] = refl
none_any (x ∷ xs) = none_any xs

flip : (a b : ℕ) → eqb b a ≡ false → eqb a b ≡ false
flip a b e = ne_eqb a b (λ s. eqb-false b a e (sym s))

-- the kind stays if a mate is changed
kind-with_mate : (b : Bool) (m : Option ℕ) (o : Option Point) → option_map_or (λ (p : Point). p.kind) (cond b (option_map (with_mate m) o) o) Sep ≡ option_map_or (λ (p : Point). p.kind) o Sep
kind-with_mate true m None = refl
kind-with_mate true m (Some p) = refl
kind-with_mate false m o = refl

kind_of-set_mate : (c : ℕ) (m : Option ℕ) (points : List Point) (z : ℕ) → point_kind (set_mate c m points) z ≡ point_kind points z
kind_of-set_mate c m points z = ap (λ o. option_map_or (λ (p : Point). p.kind) o Sep) (point_at-set_mate c m points z) ∙ kind-with_mate (eqb c z) m (point_at points z)

-- a row of a point without a mate has no flag
no_mate : (net : Network) (dest : ℕ) (rows : List Row) (r : Row) → IsRightRow net.points net.sets dest rows r → mate_of net.points r.point ≡ None → r.mate ≡ true → ⊥
no_mate net dest rows r right none on =
    let no_row : has_mate_row net.points net.sets dest rows r ≡ false = rw none (grind arith) in
    let wrong : (r.mate && not (has_mate_row net.points net.sets dest rows r)) ≡ true = rw (on, no_row) refl in
    let right = right.mate_right in
    absurd (cc)

-- a row with the flag that isn't flagged is of another point
unflagged : (r : Row) (c : ℕ) → r.mate ≡ true → is_flagged c r ≡ false → eqb r.point c ≡ false
unflagged r c flag off = grind (arith, flag, off)

module _ (net : Network) (v : IsValid net) (x : ℕ) where
  -- a point comes
  pub content-AddPoint : (c : ℕ) (kind : Kind) → refusal_of net (on.AddPoint c kind) ≡ None → content_at (changed net (on.AddPoint c kind)) x ≡ content_at net x
  content-AddPoint c kind none =
      let absent = (when_none (has_point net.points c) _ _ none).0 in
      let new : Point = record { code = c; kind = kind; mate = None } in
      let points' : List Point = put (λ (p : Point). p.code) new net.points in
      content-points net points' x
      (all_rows net v points' (λ (plan : Plan). false) (λ (plan : Plan) (r : Row). false) (none_any net.plans) (λ plan off. none_any plan.rows)
      (λ plan r off right.
      let other : eqb c r.point ≡ false = ne_eqb c r.point (λ same. let here : has_point net.points c ≡ true = subst (λ n. has_point net.points n ≡ true) (sym same) right.is_there in absurd (cc)) in
      same_point net.points points' r (at_key-put (λ (p : Point). p.code) new net.points r.point ∙ rw other refl)))

  -- a point goes that nothing uses
  pub content-RemovePoint : (c : ℕ) → refusal_of net (on.RemovePoint c) ≡ None → content_at (changed net (on.RemovePoint c)) x ≡ content_at net x
  content-RemovePoint c none =
      let t1 = when_none (not (has_point net.points c)) _ _ none in
      let t2 = when_none (list_any (is_end c) net.sets || list_any (uses_point c) net.plans) _ _ t1.1 in
      let unused = (or_parts (list_any (is_end c) net.sets) _ t2.0).1 in
      let points' : List Point = without (λ (p : Point). p.code) c net.points in
      content-points net points' x
      (all_rows net v points' (uses_point c) (λ (plan : Plan). is_row_of c) unused (λ plan off. (or_parts (eqb plan.dest c) _ off).1)
      (λ plan r off right.
      let other : eqb c r.point ≡ false = flip c r.point off in
      same_point net.points points' r (at_key-without (λ (p : Point). p.code) c net.points r.point v.points_rise ∙ rw other refl)))

  -- two points become mates
  pub content-Pair : (p q : ℕ) → refusal_of net (on.Pair p q) ≡ None → content_at (changed net (on.Pair p q)) x ≡ content_at net x
  content-Pair p q none =
      let t1 = when_none (not (has_point net.points p && has_point net.points q)) _ _ none in
      let t2 = when_none (not (is_stp net.points p && is_stp net.points q)) _ _ t1.1 in
      let t3 = when_none (is_some (mate_of net.points p) || is_some (mate_of net.points q)) _ _ t2.1 in
      let ends = and_parts (has_point net.points p) (has_point net.points q) (not-false _ t1.0) in
      let free = or_parts (is_some (mate_of net.points p)) _ t3.0 in
      let p_free : mate_of net.points p ≡ None = not_some _ free.0 in
      let q_free : mate_of net.points q ≡ None = not_some _ free.1 in
      let points1 : List Point = set_mate q (Some p) net.points in
      let points' : List Point = set_mate p (Some q) points1 in
      let mates : (c : ℕ) → mate_of points' c ≡ cond (eqb p c) (Some q) (cond (eqb q c) (Some p) (mate_of net.points c)) = λ c.
      mate_of-set_mate p (Some q) points1 c (has_point-set_mate q (Some p) net.points p ∙ ends.0)
      ∙ ap (λ o. cond (eqb p c) (Some q) o) (mate_of-set_mate q (Some p) net.points c ends.1) in
      content-points net points' x
      (all_rows net v points' (λ (plan : Plan). false) (λ (plan : Plan) (r : Row). false) (none_any net.plans) (λ plan off. none_any plan.rows)
      (λ plan r off right.
      same_parts net.points points' r
      (kind_of-set_mate p (Some q) points1 r.point ∙ kind_of-set_mate q (Some p) net.points r.point)
      (λ flag.
      let not_p : eqb p r.point ≡ false = ne_eqb p r.point (λ s. no_mate net plan.dest plan.rows r right (subst (λ n. mate_of net.points n ≡ None) s p_free) flag) in
      let not_q : eqb q r.point ≡ false = ne_eqb q r.point (λ s. no_mate net plan.dest plan.rows r right (subst (λ n. mate_of net.points n ≡ None) s q_free) flag) in
      mates r.point ∙ rw (not_p, not_q) refl)))

  -- no row of either of two mates has the flag
  content-unpaired : (p m : ℕ) → mate_of net.points p ≡ Some m → list_any (has_flag p) net.plans ≡ false → list_any (has_flag m) net.plans ≡ false
      → content_at (record net { points = set_mate p None (set_mate m None net.points) }) x ≡ content_at net x
  content-unpaired p m is_mate p_off m_off =
      let pm = v.mates p m is_mate in
      let p_there : has_point net.points p ≡ true = mate_there net.points p m is_mate in
      let m_there : has_point net.points m ≡ true = mate_there net.points m p pm.back in
      let points1 : List Point = set_mate m None net.points in
      let points' : List Point = set_mate p None points1 in
      let mates : (c : ℕ) → mate_of points' c ≡ cond (eqb p c) None (cond (eqb m c) None (mate_of net.points c)) = λ c.
      mate_of-set_mate p None points1 c (has_point-set_mate m None net.points p ∙ p_there)
      ∙ ap (λ o. cond (eqb p c) None o) (mate_of-set_mate m None net.points c m_there) in
      content-points net points' x
      (all_rows net v points' (λ (plan : Plan). has_flag p plan || has_flag m plan) (λ (plan : Plan) (r : Row). is_flagged p r || is_flagged m r)
      (neither (has_flag p) (has_flag m) net.plans p_off m_off)
      (λ plan off. let parts = or_parts (has_flag p plan) _ off in neither (is_flagged p) (is_flagged m) plan.rows parts.0 parts.1)
      (λ plan r off right.
      let parts = or_parts (is_flagged p r) _ off in
      same_parts net.points points' r
      (kind_of-set_mate p None points1 r.point ∙ kind_of-set_mate m None net.points r.point)
      (λ flag.
      let not_p : eqb p r.point ≡ false = flip p r.point (unflagged r p flag parts.0) in
      let not_m : eqb m r.point ≡ false = flip m r.point (unflagged r m flag parts.1) in
      mates r.point ∙ rw (not_p, not_m) refl)))

  -- a pair ends
  pub content-Unpair : (p : ℕ) → refusal_of net (on.Unpair p) ≡ None → content_at (changed net (on.Unpair p)) x ≡ content_at net x
  content-Unpair p none = go (mate_of net.points p) refl
    where
      go : (o : Option ℕ) → mate_of net.points p ≡ o → content_at (option_map_or (λ m. record net { points = set_mate p None (set_mate m None net.points) }) o net) x ≡ content_at net x
      go None e = refl
      go (Some m) e =
          let t1 = when_none (not (has_point net.points p)) _ _ none in
          let t2 = when_none (not (is_some (mate_of net.points p))) _ _ t1.1 in
          let t3 = when_none (list_any (has_flag p) net.plans || option_map_or (λ m. list_any (has_flag m) net.plans) (mate_of net.points p) false) _ _ t2.1 in
          let off = or_parts (list_any (has_flag p) net.plans) _ t3.0 in
          content-unpaired p m e off.0 (subst (λ o. option_map_or (λ m. list_any (has_flag m) net.plans) o false ≡ false) e off.1)
