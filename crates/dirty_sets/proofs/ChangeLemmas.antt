-- What the tables read of a network after an event.
use Rattle.std.proofs.Common.{◌≡◌, ℕ, Bool, true, false, not, ◌&&◌, ◌||◌, eqb, Option, Some, None, is_some, ⊎_elim, List, [], ◌∷◌, ◌++◌, cond, refl, ap, sym, ◌∙◌, subst, arith}
use Rattle.std.specs.List.{list_any}
use Rattle.std.specs.Option.{option_map_or, option_map}
use Rattle.std.proofs.lemmas.Bool.{or_parts, cond_both, eqb-true, ne_eqb}
use Rattle.std.proofs.lemmas.Bool.Decides.{nat_tests}
use Rattle.std.proofs.lemmas.List.Folds.{list_any-append}
use Rattle.std.proofs.lemmas.Option.{same_Some, none-some}
use Rattle.net_items.specs.declared.items.Kind.{Kind}
use Rattle.net_items.specs.declared.items.Point.{Point}
use Rattle.net_items.specs.declared.items.LinkSet.{LinkSet}
use Rattle.net_items.specs.declared.items.Plan.{Plan}
use Rattle.net_items.specs.declared.lists.Row.{Row}
use Rattle.link_state.specs.declared.marks.LinkChange.{LinkChange}
use Rattle.net_items.specs.Keyed.{at_key, put, without}
use Rattle.net_items.specs.Lookups.{point_at, has_point, is_stp, kind_is_stp, mate_of, set_at, plan_at, row_at, joins}
use Rattle.net_items.proofs.KeyedLemmas.{at_key-put, at_key-edit, at_key-without, found_holds, put_new}
use Rattle.net_sets.specs.Sets.{edit_set, with_change, with_link, without_link, new_links}
use Rattle.plan_rows.specs.Causes.{cause_of, wrong_row}
use Rattle.plan_rows.specs.Uses.{uses_point, is_row_of}
use Rattle.net_data.specs.declared.events.Event.TheVariants as on
use Rattle.net_data.specs.Network.{Network}
use Rattle.net_data.specs.Valid.{IsValid, IsRightPlan, IsRightRow}
use Rattle.net_data.specs.Edits.{refusal_of, changed, in_order, put_rows, set_mate}
use Rattle.net_data.proofs.OrderLemmas.{any_put}
use Rattle.net_data.proofs.PairLemmas.{is_stp-set_mate}
use Rattle.net_data.proofs.PreservationLemmas.{when_none, or_none, map_none, not_some}
use Rattle.excerpts.specs.Excerpt.{is_read_by}
use Rattle.dirty_sets.specs.Touch.{reads_set}
use Rattle.dirty_sets.specs.Index.{would_read, bare_set}

-- tests that agree
pub option_same : {X : Type 0} (p q : X → Bool) (o : Option X) → ((x : X) → o ≡ Some x → p x ≡ q x) → option_map_or p o false ≡ option_map_or q o false
option_same p q None same = refl
option_same p q (Some x) same = same x refl

-- what is found has the key
pub key_of : {X : Type 0} (key : X → ℕ) (k : ℕ) (xs : List X) (x : X) → at_key key k xs ≡ Some x → key x ≡ k
key_of key k [] x e = elim (none-some x e) [ ]
key_of key k (y ∷ ys) x e =
    cond_both (eqb (key y) k) (Some y) (at_key key k ys) (λ o. o ≡ Some x → key x ≡ k)
    (λ b h. ap key (sym (same_Some y x h)) ∙ eqb-true (key y) k b) (λ b h. key_of key k ys x h) e

-- a row of the point is there exactly if one is found
some_row : (rows : List Row) (y : ℕ) → is_some (row_at rows y) ≡ list_any (λ (r : Row). eqb r.point y) rows
some_row [] y = refl
some_row (r ∷ rs) y = let rest = some_row rs y in grind (arith, nat_tests)

-- ---- sets

same_edited : (p : LinkSet → Bool) (f : LinkSet → LinkSet) → ((s : LinkSet) → p (f s) ≡ p s) → (b : Bool) (o : Option LinkSet) → option_map_or p (cond b (option_map f o) o) false ≡ option_map_or p o false
same_edited p f same true None = refl
same_edited p f same true (Some s) = same s
same_edited p f same false o = refl

-- other links of a set
module _ (net : Network) where
  edited : (k : ℕ) (f : LinkSet → LinkSet) → ((s : LinkSet) → (f s).id ≡ s.id) → ((points : List Point) (plan : Plan) (s : LinkSet) → is_read_by points plan (f s) ≡ is_read_by points plan s)
      → (x id : ℕ) → reads_set (record net { sets = edit_set k f net.sets }) x id ≡ reads_set net x id
  edited k f keeps same x id =
      option_same _ _ (plan_at net.plans x) (λ plan e.
      ap (λ o. option_map_or (is_read_by net.points plan) o false) (at_key-edit (λ (s : LinkSet). s.id) k f keeps net.sets id)
      ∙ same_edited (is_read_by net.points plan) f (same net.points plan) (eqb k id) (set_at net.sets id))

  pub reads-Link : (k slc : ℕ) (change : LinkChange) (x id : ℕ) → reads_set (changed net (on.Link k slc change)) x id ≡ reads_set net x id
  reads-Link k slc change = edited k (with_change slc change) (λ s. refl) (λ points plan s. refl)

  pub reads-AddLink : (k slc : ℕ) (x id : ℕ) → reads_set (changed net (on.AddLink k slc)) x id ≡ reads_set net x id
  reads-AddLink k slc = edited k (with_link slc) (λ s. refl) (λ points plan s. refl)

  pub reads-RemoveLink : (k slc : ℕ) (x id : ℕ) → reads_set (changed net (on.RemoveLink k slc)) x id ≡ reads_set net x id
  reads-RemoveLink k slc = edited k (without_link slc) (λ s. refl) (λ points plan s. refl)

  -- a new set is read as its ends tell
  pub reads-AddSet : (k a b : ℕ) (slcs : List ℕ) (x id : ℕ) → reads_set (changed net (on.AddSet k a b slcs)) x id ≡ cond (eqb k id) (would_read net (bare_set k a b) x) (reads_set net x id)
  reads-AddSet k a b slcs x id = go (plan_at net.plans x)
    where
      new : LinkSet
      new = record { id = k; a = a; b = b; links = new_links slcs }

      one : (plan : Plan) (c : Bool) (o : Option LinkSet) → option_map_or (is_read_by net.points plan) (cond c (Some new) o) false ≡ cond c (is_read_by net.points plan (bare_set k a b)) (option_map_or (is_read_by net.points plan) o false)
      one plan true o = refl
      one plan false o = refl

      same : (c : Bool) → false ≡ cond c false false
      same true = refl
      same false = refl

      go : (o : Option Plan) → option_map_or (λ plan. option_map_or (is_read_by net.points plan) (set_at (put (λ (s : LinkSet). s.id) new net.sets) id) false) o false
          ≡ cond (eqb k id) (option_map_or (λ plan. is_read_by net.points plan (bare_set k a b)) o false) (option_map_or (λ plan. option_map_or (is_read_by net.points plan) (set_at net.sets id) false) o false)
      go None = same (eqb k id)
      go (Some plan) = ap (λ o. option_map_or (is_read_by net.points plan) o false) (at_key-put (λ (s : LinkSet). s.id) new net.sets id) ∙ one plan (eqb k id) (set_at net.sets id)

  -- a set that isn't there isn't read
  pub reads_none : (x id : ℕ) → set_at net.sets id ≡ None → reads_set net x id ≡ false
  reads_none x id none = go (plan_at net.plans x)
    where
      go : (o : Option Plan) → option_map_or (λ plan. option_map_or (is_read_by net.points plan) (set_at net.sets id) false) o false ≡ false
      go None = refl
      go (Some plan) = ap (λ o. option_map_or (is_read_by net.points plan) o false) none

  -- a set that went isn't read
  pub reads-RemoveSet : (v : IsValid net) (k : ℕ) (x id : ℕ) → reads_set (changed net (on.RemoveSet k)) x id ≡ cond (eqb k id) false (reads_set net x id)
  reads-RemoveSet v k x id = go (plan_at net.plans x)
    where
      one : (p : LinkSet → Bool) (c : Bool) (o : Option LinkSet) → option_map_or p (cond c None o) false ≡ cond c false (option_map_or p o false)
      one p true o = refl
      one p false o = refl

      same : (c : Bool) → false ≡ cond c false false
      same true = refl
      same false = refl

      go : (o : Option Plan) → option_map_or (λ plan. option_map_or (is_read_by net.points plan) (set_at (without (λ (s : LinkSet). s.id) k net.sets) id) false) o false
          ≡ cond (eqb k id) false (option_map_or (λ plan. option_map_or (is_read_by net.points plan) (set_at net.sets id) false) o false)
      go None = same (eqb k id)
      go (Some plan) = ap (λ o. option_map_or (is_read_by net.points plan) o false) (at_key-without (λ (s : LinkSet). s.id) k net.sets id v.sets_rise) ∙ one (is_read_by net.points plan) (eqb k id) (set_at net.sets id)

-- ---- points

and_same : (s t row : Bool) → (row ≡ true → s ≡ t) → (s && row) ≡ (t && row)
and_same s t true same = rw (same refl) refl
and_same s t false same = grind arith

-- the points of rows alone are looked at
same_read : (points points' : List Point) (plan : Plan) → ((y : ℕ) → is_some (row_at plan.rows y) ≡ true → is_stp points' y ≡ is_stp points y) → (set : LinkSet) → is_read_by points' plan set ≡ is_read_by points plan set
same_read points points' plan same set =
    let a = and_same (is_stp points' set.a) (is_stp points set.a) (is_some (row_at plan.rows set.a)) (same set.a) in
    let b = and_same (is_stp points' set.b) (is_stp points set.b) (is_some (row_at plan.rows set.b)) (same set.b) in
    ap (λ x. (x || (is_stp points' set.b && is_some (row_at plan.rows set.b))) || list_any (λ (row : Row). list_any (λ vias. list_any (λ via. joins row.point via set) vias) row.classes) plan.rows) a
    ∙ ap (λ x. ((is_stp points set.a && is_some (row_at plan.rows set.a)) || x) || list_any (λ (row : Row). list_any (λ vias. list_any (λ via. joins row.point via set) vias) row.classes) plan.rows) b

module _ (net : Network) (v : IsValid net) where
  -- a plan that is found is right
  right_plan : (x : ℕ) (plan : Plan) → plan_at net.plans x ≡ Some plan → IsRightPlan net.points net.sets plan
  right_plan x plan e = found_holds (λ (p : Plan). p.dest) (IsRightPlan net.points net.sets) x net.plans plan v.plans_right e

  -- the point of a row is there
  row_there : (x : ℕ) (plan : Plan) (y : ℕ) → plan_at net.plans x ≡ Some plan → is_some (row_at plan.rows y) ≡ true → has_point net.points y ≡ true
  row_there x plan y e there = go (row_at plan.rows y) refl there
    where
      right : IsRightPlan net.points net.sets plan
      right = right_plan x plan e

      go : (o : Option Row) → row_at plan.rows y ≡ o → is_some o ≡ true → has_point net.points y ≡ true
      go None f h = absurd (cc)
      go (Some r) f h =
          let row = found_holds (λ (r : Row). r.point) (IsRightRow net.points net.sets plan.dest plan.rows) y plan.rows r right.rows_right f in
          subst (λ n. has_point net.points n ≡ true) (key_of (λ (r : Row). r.point) y plan.rows r f) row.is_there

  -- other points, among which the rows' are the same
  other_points : (points' : List Point) → ((x : ℕ) (plan : Plan) (y : ℕ) → plan_at net.plans x ≡ Some plan → is_some (row_at plan.rows y) ≡ true → is_stp points' y ≡ is_stp net.points y)
      → (x id : ℕ) → reads_set (record net { points = points' }) x id ≡ reads_set net x id
  other_points points' same x id =
      option_same _ _ (plan_at net.plans x) (λ plan e.
      option_same _ _ (set_at net.sets id) (λ set f. same_read net.points points' plan (λ y. same x plan y e) set))

  pub reads-AddPoint : (c : ℕ) (kind : Kind) → refusal_of net (on.AddPoint c kind) ≡ None → (x id : ℕ) → reads_set (changed net (on.AddPoint c kind)) x id ≡ reads_set net x id
  reads-AddPoint c kind none =
      let new : Point = record { code = c; kind = kind; mate = None } in
      let tests = when_none (has_point net.points c) _ _ none in
      let absent : point_at net.points c ≡ None = not_some (point_at net.points c) tests.0 in
      other_points (put (λ (p : Point). p.code) new net.points) (λ x plan y e there.
      let here : is_some (point_at net.points y) ≡ true = row_there x plan y e there in
      ⊎_elim
      (λ same. ap (λ o. option_map_or (λ (p : Point). kind_is_stp p.kind) o false) same)
      (λ gone. let off : is_some (point_at net.points y) ≡ false = ap is_some gone.0 in absurd (cc))
      (put_new (λ (p : Point). p.code) new net.points y absent))

  pub reads-RemovePoint : (c : ℕ) → refusal_of net (on.RemovePoint c) ≡ None → (x id : ℕ) → reads_set (changed net (on.RemovePoint c)) x id ≡ reads_set net x id
  reads-RemovePoint c none =
      let t1 = when_none (not (has_point net.points c)) _ _ none in
      let t2 = when_none (list_any _ net.sets || list_any (uses_point c) net.plans) _ _ t1.1 in
      let unused = or_parts (list_any _ net.sets) (list_any (uses_point c) net.plans) t2.0 in
      other_points (without (λ (p : Point). p.code) c net.points) (λ x plan y e there.
      let free : uses_point c plan ≡ false = not_used (uses_point c) x net.plans plan unused.1 e in
      let no_row : list_any (is_row_of c) plan.rows ≡ false = (or_parts (eqb plan.dest c) (list_any (is_row_of c) plan.rows) free).1 in
      let other : eqb c y ≡ false = ne_eqb c y (λ same.
      let row : list_any (is_row_of c) plan.rows ≡ true = sym (some_row plan.rows c) ∙ subst (λ n. is_some (row_at plan.rows n) ≡ true) (sym same) there in cc) in
      ap (λ o. option_map_or (λ (p : Point). kind_is_stp p.kind) o false) (at_key-without (λ (p : Point). p.code) c net.points y v.points_rise ∙ rw other refl))
    where
      not_used : (t : Plan → Bool) (x : ℕ) (plans : List Plan) (plan : Plan) → list_any t plans ≡ false → plan_at plans x ≡ Some plan → t plan ≡ false
      not_used t x [] plan off e = elim (none-some plan e) [ ]
      not_used t x (p ∷ ps) plan off e =
          let parts = or_parts (t p) (list_any t ps) off in
          cond_both (eqb p.dest x) (Some p) (plan_at ps x) (λ o. o ≡ Some plan → t plan ≡ false)
          (λ b h. subst (λ q. t q ≡ false) (same_Some p plan h) parts.0) (λ b h. not_used t x ps plan parts.1 h) e

  pub reads-Pair : (p q : ℕ) (x id : ℕ) → reads_set (changed net (on.Pair p q)) x id ≡ reads_set net x id
  reads-Pair p q = other_points (set_mate p (Some q) (set_mate q (Some p) net.points)) (λ x plan y e there.
      is_stp-set_mate p (Some q) (set_mate q (Some p) net.points) y ∙ is_stp-set_mate q (Some p) net.points y)

  pub reads-Unpair : (p : ℕ) (x id : ℕ) → reads_set (changed net (on.Unpair p)) x id ≡ reads_set net x id
  reads-Unpair p x id = go (mate_of net.points p)
    where
      go : (o : Option ℕ) → reads_set (option_map_or (λ m. record net { points = set_mate p None (set_mate m None net.points) }) o net) x id ≡ reads_set net x id
      go None = refl
      go (Some m) = other_points (set_mate p None (set_mate m None net.points)) (λ x plan y e there.
          is_stp-set_mate p None (set_mate m None net.points) y ∙ is_stp-set_mate m None net.points y) x id

  -- ---- plans

  -- the plan of a destination is another one
  pub reads-SetPlan : (p : Plan) (x id : ℕ) → reads_set (changed net (on.SetPlan p)) x id ≡ cond (eqb p.dest x) (option_map_or (is_read_by net.points (record p { rows = in_order p.rows })) (set_at net.sets id) false) (reads_set net x id)
  reads-SetPlan p x id =
      ap (λ o. option_map_or (λ plan. option_map_or (is_read_by net.points plan) (set_at net.sets id) false) o false) (at_key-put (λ (q : Plan). q.dest) (record p { rows = in_order p.rows }) net.plans x)
      ∙ go (eqb p.dest x)
    where
      go : (c : Bool) → option_map_or (λ plan. option_map_or (is_read_by net.points plan) (set_at net.sets id) false) (cond c (Some (record p { rows = in_order p.rows })) (plan_at net.plans x)) false
          ≡ cond c (option_map_or (is_read_by net.points (record p { rows = in_order p.rows })) (set_at net.sets id) false) (reads_set net x id)
      go true = refl
      go false = refl

  -- a plan that went reads nothing
  pub reads-DropPlan : (dest x id : ℕ) → reads_set (changed net (on.DropPlan dest)) x id ≡ cond (eqb dest x) false (reads_set net x id)
  reads-DropPlan dest x id =
      ap (λ o. option_map_or (λ plan. option_map_or (is_read_by net.points plan) (set_at net.sets id) false) o false) (at_key-without (λ (q : Plan). q.dest) dest net.plans x v.plans_rise)
      ∙ go (eqb dest x)
    where
      go : (c : Bool) → option_map_or (λ plan. option_map_or (is_read_by net.points plan) (set_at net.sets id) false) (cond c None (plan_at net.plans x)) false ≡ cond c false (reads_set net x id)
      go true = refl
      go false = refl

-- ---- rows in order

-- a test passes a row among rows in order if it passes one of them
any_put_rows : (points : List Point) (sets : List LinkSet) (dest : ℕ) (rows : List Row) (t : Row → Bool) (earlier rs others : List Row) → wrong_row points sets dest rows earlier rs ≡ None
    → ((z : ℕ) → list_any (λ (x : Row). eqb x.point z) others ≡ list_any (λ (x : Row). eqb x.point z) earlier)
    → list_any t (put_rows rs others) ≡ (list_any t rs || list_any t others)
any_put_rows points sets dest rows t earlier [] others none same = refl
any_put_rows points sets dest rows t earlier (r ∷ rs) others none same =
    let both = or_none (option_map _ (cause_of points sets dest rows earlier r)) _ none in
    let t1 = when_none (eqb r.point dest) _ _ (map_none _ (cause_of points sets dest rows earlier r) both.0) in
    let t2 = when_none (list_any (λ (other : Row). eqb other.point r.point) earlier) _ _ t1.1 in
    let absent : list_any (λ (x : Row). eqb x.point r.point) others ≡ false = same r.point ∙ t2.0 in
    let now : (u : Row → Bool) → list_any u (put (λ (r : Row). r.point) r others) ≡ (u r || list_any u others) = λ u. any_put u r others absent in
    any_put_rows points sets dest rows t (earlier ++ r ∷ []) rs (put (λ (r : Row). r.point) r others) both.1
    (λ z. now (λ (x : Row). eqb x.point z) ∙ rw (same z, list_any-append (λ (x : Row). eqb x.point z) earlier (r ∷ [])) (grind arith))
    ∙ rw (now t) (moved (t r) (list_any t rs) (list_any t others))
  where
    moved : (a b c : Bool) → (b || (a || c)) ≡ ((a || b) || c)
    moved a b c = grind arith

or_none_right : (b : Bool) → (b || false) ≡ b
or_none_right true = refl
or_none_right false = refl

-- the table of an accepted plan reads a set whatever the order of its rows
pub read_in_order : (net : Network) (p : Plan) → refusal_of net (on.SetPlan p) ≡ None → (set : LinkSet) → is_read_by net.points (record p { rows = in_order p.rows }) set ≡ is_read_by net.points p set
read_in_order net p none set =
    let t1 = when_none (not _) _ _ none in
    let t2 = or_none (option_map _ (wrong_row net.points net.sets p.dest p.rows [] p.rows)) _ t1.1 in
    let right = map_none _ (wrong_row net.points net.sets p.dest p.rows [] p.rows) t2.0 in
    let any : (t : Row → Bool) → list_any t (in_order p.rows) ≡ list_any t p.rows = λ t. any_put_rows net.points net.sets p.dest p.rows t [] p.rows [] right (λ z. refl) ∙ or_none_right (list_any t p.rows) in
    let row : (y : ℕ) → is_some (row_at (in_order p.rows) y) ≡ is_some (row_at p.rows y) = λ y. some_row (in_order p.rows) y ∙ (any (λ (r : Row). eqb r.point y) ∙ sym (some_row p.rows y)) in
    rw (row set.a, row set.b, any (λ (r : Row). list_any (λ vias. list_any (λ via. joins r.point via set) vias) r.classes)) refl
