-- Edits keep a network valid.
use Rattle.std.proofs.Common.{◌≡◌, ℕ, ◌<◌, Bool, true, false, not, ◌&&◌, ◌||◌, eqb, ltb, leb, Option, Some, None, is_some, ⊎_elim, List, [], ◌∷◌, ◌++◌, length, All, refl, ap, sym, ◌∙◌, arith}
use Rattle.std.specs.List.{AllByRecursion, list_all, list_any}
use Rattle.std.specs.Option.{option_map_or, option_map, option_or, option_and_then}
use Rattle.std.proofs.lemmas.Bool.{and_parts, or_parts, or_left, not-false, cond_both, eqb-false, ltb-true, ltb-false, leb-false}
use Rattle.std.proofs.lemmas.Bool.Decides.{nat_tests}
use Rattle.net_items.specs.declared.items.Kind.{Kind}
use Rattle.net_items.specs.declared.items.Point.{Point}
use Rattle.net_items.specs.declared.items.LinkSet.{LinkSet}
use Rattle.net_items.specs.declared.items.Plan.{Plan}
use Rattle.net_items.specs.declared.lists.Row.{Row}
use Rattle.net_items.specs.declared.links.Link.{Link}
use Rattle.link_state.specs.declared.marks.LinkChange.{LinkChange}
use Rattle.net_data.specs.declared.events.Event.TheVariants as on
use Rattle.net_items.specs.Keyed.{put, edit}
use Rattle.link_state.specs.Marks.{marks_after}
use Rattle.net_data.specs.Network.{Network}
use Rattle.net_items.specs.Lookups.{point_at, has_point, is_stp, kind_is_stp, mate_of, joins, set_at, set_between, adjacent, vias_of}
use Rattle.plan_rows.specs.Rows.{all_vias, is_lower, is_free, has_mate_row, is_small_row}
use Rattle.net_data.specs.Valid.{IsRightRow, IsRightPlan, IsRightSet, IsValid}
use Rattle.net_sets.specs.Sets.{is_distinct, is_nil, new_link, new_links, with_change, IsOnePerPair}
use Rattle.net_sets.proofs.SetLemmas.{IsRising-new_links}
use Rattle.std.proofs.lemmas.List.Elements.{All-from_recursion}
use Rattle.plan_rows.specs.Causes.{when, cause_of, wrong_row}
use Rattle.net_data.specs.Edits.{refusal_of, changed, in_order, put_rows}
use Rattle.net_items.proofs.KeyedLemmas.{All-put, All-then, All-edit, IsRising-put, IsRising-edit, length-put, length-put_pos, length-edit, is_some-put, put_new, some_find-put, none_find-put, some_find-edit}
use Rattle.std.proofs.lemmas.List.Folds.{list_any-append}
use Rattle.net_data.proofs.OrderLemmas.{links_few, any_put, IsRising-put_rows, All-put_rows}
use Rattle.net_data.proofs.FrameLemmas.{IsRightRow-then, IsRightPlan-then, IsRightSet-then}

-- a test that refuses nothing failed
pub when_none : {R : Type 0} (b : Bool) (r : R) (o : Option R) → option_or (when b r) o ≡ None → (b ≡ false) × (o ≡ None)
when_none true r o h = absurd (cc)
when_none false r o h = (refl, h)

pub or_none : {R : Type 0} (o p : Option R) → option_or o p ≡ None → (o ≡ None) × (p ≡ None)
or_none None p h = (refl, h)
or_none (Some r) p h = absurd (cc)

pub map_none : {R S : Type 0} (f : R → S) (o : Option R) → option_map f o ≡ None → o ≡ None
map_none f None h = refl
map_none f (Some r) h = absurd (cc)

pub not_some : {R : Type 0} (o : Option R) → is_some o ≡ false → o ≡ None
not_some None h = refl
not_some (Some r) h = absurd (cc)

stp_none : (points : List Point) (p : ℕ) → point_at points p ≡ None → is_stp points p ≡ true → ⊥
stp_none points p e h = let no : is_stp points p ≡ false = ap (λ o. option_map_or (λ (p : Point). kind_is_stp p.kind) o false) e in cc

module _ (net : Network) (v : IsValid net) where
  -- a new point
  pub valid-AddPoint : (c : ℕ) (kind : Kind) → c < 16384 → refusal_of net (on.AddPoint c kind) ≡ None → IsValid (changed net (on.AddPoint c kind))
  valid-AddPoint c kind small none =
      let tests = when_none (has_point net.points c) _ _ none in
      let room = when_none (leb 1024 (length net.points)) _ _ tests.1 in
      let few : length net.points < 1024 = leb-false _ _ room.0 in
      let key : Point → ℕ = λ p. p.code in
      let new : Point = record { code = c; kind = kind; mate = None } in
      let points' : List Point = put (λ p. p.code) new net.points in
      let absent : point_at net.points c ≡ None = not_some (point_at net.points c) tests.0 in
      let there : (p : ℕ) → has_point net.points p ≡ true → has_point points' p ≡ true = λ p h. is_some-put (λ p. p.code) new net.points p h in
      let stps : (p : ℕ) → is_stp net.points p ≡ true → is_stp points' p ≡ true = λ p h. ⊎_elim (λ e. rw e h) (λ e. absurd (stp_none net.points p e.0 h)) (put_new (λ p. p.code) new net.points p absent) in
      let mates : (p : ℕ) → mate_of points' p ≡ mate_of net.points p = λ p. ⊎_elim (λ e. ap (option_and_then (λ (p : Point). p.mate)) e) (λ e. ap (option_and_then (λ (p : Point). p.mate)) e.1 ∙ sym (ap (option_and_then (λ (p : Point). p.mate)) e.0)) (put_new (λ p. p.code) new net.points p absent) in
      record {
        ni_small = v.ni_small;
        few_points = let l = length-put (λ (p : Point). p.code) new net.points in omega arith;
        points_rise = IsRising-put (λ p. p.code) new net.points v.points_rise;
        codes_small = All-put (λ (p : Point). p.code) (λ (p : Point). p.code < 16384) new net.points small v.codes_small;
        mates = λ p m e. let old = v.mates p m (sym (mates p) ∙ e) in record { differ = old.differ; stp = stps p old.stp; back = mates m ∙ old.back };
        sets_rise = v.sets_rise;
        sets_right = All-then (λ (s : LinkSet). s.id) (IsRightSet net.points) (IsRightSet points') (λ s h. IsRightSet-then net.points points' s there h) net.sets v.sets_right;
        one_per_pair = v.one_per_pair;
        plans_rise = v.plans_rise;
        plans_right = All-then (λ (p : Plan). p.dest) (IsRightPlan net.points net.sets) (IsRightPlan points' net.sets)
            (λ p h. IsRightPlan-then net.points points' net.sets net.sets p there stps (λ y z h. h) mates h) net.plans v.plans_right;
      }

  -- the option
  pub valid-SetTfr : (b : Bool) → IsValid (changed net (on.SetTfr b))
  valid-SetTfr b = record {
    ni_small = v.ni_small;
    few_points = v.few_points;
    points_rise = v.points_rise;
    codes_small = v.codes_small;
    mates = v.mates;
    sets_rise = v.sets_rise;
    sets_right = v.sets_right;
    one_per_pair = v.one_per_pair;
    plans_rise = v.plans_rise;
    plans_right = v.plans_right;
  }

-- a change of a link keeps its set's id, ends and codes
pub IsRightSet-with_change : (points : List Point) (slc : ℕ) (change : LinkChange) (s : LinkSet) → IsRightSet points s → IsRightSet points (with_change slc change s)
IsRightSet-with_change points slc change s right =
    let mark : Link → Link = λ l. record l { marks = marks_after change l.marks } in
    record {
      small = right.small;
      a_there = right.a_there;
      b_there = right.b_there;
      ends_differ = right.ends_differ;
      some_link = let e = length-edit (λ (l : Link). l.slc) slc mark s.links in let some = right.some_link in omega arith;
      few_links = let e = length-edit (λ (l : Link). l.slc) slc mark s.links in let few = right.few_links in omega arith;
      links_rise = IsRising-edit (λ (l : Link). l.slc) slc mark (λ l. refl) s.links right.links_rise;
      links_small = All-edit (λ (l : Link). l.slc) (λ l. l.slc < 16) slc mark (λ l h. h) s.links right.links_small;
    }

-- a change of a link joins no other points
adjacent-with_change : (id slc : ℕ) (change : LinkChange) (sets : List LinkSet) (y z : ℕ) → adjacent (edit (λ (s : LinkSet). s.id) id (with_change slc change) sets) y z ≡ adjacent sets y z
adjacent-with_change id slc change sets y z = some_find-edit (λ (s : LinkSet). s.id) (joins y z) id (with_change slc change) (λ s. refl) sets

IsOnePerPair-with_change : (id slc : ℕ) (change : LinkChange) (sets : List LinkSet) → IsOnePerPair sets → IsOnePerPair (edit (λ (s : LinkSet). s.id) id (with_change slc change) sets)
IsOnePerPair-with_change id slc change [] one = tt
IsOnePerPair-with_change id slc change (s ∷ ss) one =
    cond_both (eqb s.id id) _ _ IsOnePerPair (λ b. one) (λ b. (adjacent-with_change id slc change ss s.a s.b ∙ one.0, IsOnePerPair-with_change id slc change ss one.1))

module _ (net : Network) (v : IsValid net) where
  -- a change of a link
  pub valid-Link : (id slc : ℕ) (change : LinkChange) → IsValid (changed net (on.Link id slc change))
  valid-Link id slc change =
      let sets' : List LinkSet = edit (λ (s : LinkSet). s.id) id (with_change slc change) net.sets in
      record {
        ni_small = v.ni_small;
        few_points = v.few_points;
        points_rise = v.points_rise;
        codes_small = v.codes_small;
        mates = v.mates;
        sets_rise = IsRising-edit (λ (s : LinkSet). s.id) id (with_change slc change) (λ s. refl) net.sets v.sets_rise;
        sets_right = All-edit (λ (s : LinkSet). s.id) (IsRightSet net.points) id (with_change slc change) (IsRightSet-with_change net.points slc change) net.sets v.sets_right;
        one_per_pair = IsOnePerPair-with_change id slc change net.sets v.one_per_pair;
        plans_rise = v.plans_rise;
        plans_right = All-then (λ (p : Plan). p.dest) (IsRightPlan net.points net.sets) (IsRightPlan net.points sets')
            (λ p h. IsRightPlan-then net.points net.points net.sets sets' p (λ c h. h) (λ c h. h) (λ y z h. adjacent-with_change id slc change net.sets y z ∙ h) (λ c. refl) h) net.plans v.plans_right;
      }

-- new links
new_links-small : (slcs : List ℕ) → list_all (λ c. ltb c 16) slcs ≡ true → AllByRecursion (λ (l : Link). l.slc < 16) (new_links slcs)
new_links-small [] h = tt
new_links-small (slc ∷ slcs) h =
    let both = and_parts (ltb slc 16) _ h in
    All-put (λ (l : Link). l.slc) (λ l. l.slc < 16) (new_link slc) (new_links slcs) (ltb-true _ _ both.0) (new_links-small slcs both.1)

codes-small : (slcs : List ℕ) → list_all (λ c. ltb c 16) slcs ≡ true → AllByRecursion (λ (c : ℕ). c < 16) slcs
codes-small [] h = tt
codes-small (slc ∷ slcs) h = let both = and_parts (ltb slc 16) _ h in (ltb-true _ _ both.0, codes-small slcs both.1)

-- the codes of a set that isn't refused are small
pub added-small : (net : Network) (id a b : ℕ) (slcs : List ℕ) → refusal_of net (on.AddSet id a b slcs) ≡ None → All (λ (c : ℕ). c < 16) slcs
added-small net id a b slcs none =
    let t1 = when_none (not (has_point net.points a && has_point net.points b)) _ _ none in
    let t2 = when_none (is_some (set_at net.sets id)) _ _ t1.1 in
    let t3 = or_none (option_map _ (set_between net.sets a b)) _ t2.1 in
    let t4 = when_none (eqb a b) _ _ t3.1 in
    let t5 = when_none (is_nil slcs || not (list_all (λ c. ltb c 16) slcs && is_distinct slcs)) _ _ t4.1 in
    let links = or_parts (is_nil slcs) _ t5.0 in
    let codes = and_parts (list_all (λ c. ltb c 16) slcs) _ (not-false _ links.1) in
    All-from_recursion (λ (c : ℕ). c < 16) slcs (codes-small slcs codes.0)

new_links-some : (slcs : List ℕ) → is_nil slcs ≡ false → 0 < length (new_links slcs)
new_links-some [] h = absurd (cc)
new_links-some (slc ∷ slcs) h = length-put_pos (λ (l : Link). l.slc) (new_link slc) (new_links slcs)

-- a set is between the same points from either end
pub joins_back : (s t : LinkSet) → joins s.a s.b t ≡ joins t.a t.b s
joins_back s t = grind (arith, nat_tests)

IsOnePerPair-put : (t : LinkSet) (ss : List LinkSet) → adjacent ss t.a t.b ≡ false → IsOnePerPair ss → IsOnePerPair (put (λ (s : LinkSet). s.id) t ss)
IsOnePerPair-put t [] apart one = (refl, tt)
IsOnePerPair-put t (s ∷ ss) apart one =
    let not_here : joins t.a t.b s ≡ false = grind arith in
    let not_later : adjacent ss t.a t.b ≡ false = grind arith in
    cond_both (ltb t.id s.id) _ _ IsOnePerPair (λ b. (apart, one))
    (λ b. cond_both (eqb t.id s.id) _ _ IsOnePerPair (λ c. (not_later, one.1))
    (λ c. (none_find-put (λ (s : LinkSet). s.id) (joins s.a s.b) t ss one.0 (joins_back s t ∙ not_here), IsOnePerPair-put t ss not_later one.1)))

module _ (net : Network) (v : IsValid net) where
  -- a new set
  pub valid-AddSet : (id a b : ℕ) (slcs : List ℕ) → refusal_of net (on.AddSet id a b slcs) ≡ None → IsValid (changed net (on.AddSet id a b slcs))
  valid-AddSet id a b slcs none =
      let t1 = when_none (not (has_point net.points a && has_point net.points b)) _ _ none in
      let t2 = when_none (is_some (set_at net.sets id)) _ _ t1.1 in
      let t3 = or_none (option_map _ (set_between net.sets a b)) _ t2.1 in
      let t4 = when_none (eqb a b) _ _ t3.1 in
      let t5 = when_none (is_nil slcs || not (list_all (λ c. ltb c 16) slcs && is_distinct slcs)) _ _ t4.1 in
      let t6 = when_none (ltb 4095 id) _ _ t5.1 in
      let ends = and_parts (has_point net.points a) (has_point net.points b) (not-false _ t1.0) in
      let links = or_parts (is_nil slcs) _ t5.0 in
      let codes = and_parts (list_all (λ c. ltb c 16) slcs) _ (not-false _ links.1) in
      let absent : set_at net.sets id ≡ None = not_some _ t2.0 in
      let apart : adjacent net.sets a b ≡ false = ap is_some (map_none _ _ t3.0) in
      let new : LinkSet = record { id = id; a = a; b = b; links = new_links slcs } in
      let sets' : List LinkSet = put (λ (s : LinkSet). s.id) new net.sets in
      record {
        ni_small = v.ni_small;
        few_points = v.few_points;
        points_rise = v.points_rise;
        codes_small = v.codes_small;
        mates = v.mates;
        sets_rise = IsRising-put (λ (s : LinkSet). s.id) new net.sets v.sets_rise;
        sets_right = All-put (λ (s : LinkSet). s.id) (IsRightSet net.points) new net.sets
            (record {
              small = ltb-false 4095 id t6.0;
              a_there = ends.0;
              b_there = ends.1;
              ends_differ = eqb-false a b t4.0;
              some_link = new_links-some slcs links.0;
              few_links = links_few (new_links slcs) (IsRising-new_links slcs) (new_links-small slcs codes.0);
              links_rise = IsRising-new_links slcs;
              links_small = new_links-small slcs codes.0;
            }) v.sets_right;
        one_per_pair = IsOnePerPair-put new net.sets apart v.one_per_pair;
        plans_rise = v.plans_rise;
        plans_right = All-then (λ (p : Plan). p.dest) (IsRightPlan net.points net.sets) (IsRightPlan net.points sets')
            (λ p h. IsRightPlan-then net.points net.points net.sets sets' p (λ c h. h) (λ c h. h) (λ y z h. some_find-put (λ (s : LinkSet). s.id) (joins y z) new net.sets absent h) (λ c. refl) h) net.plans v.plans_right;
      }

-- what one of the rows passes, one of them passes after they were put among others: none has the point of an earlier one
any_put_rows : (points : List Point) (sets : List LinkSet) (dest : ℕ) (rows : List Row) (t : Row → Bool) (earlier rs others : List Row) → wrong_row points sets dest rows earlier rs ≡ None
    → ((z : ℕ) → list_any (λ (x : Row). eqb x.point z) others ≡ list_any (λ (x : Row). eqb x.point z) earlier)
    → (list_any t rs || list_any t others) ≡ true → list_any t (put_rows rs others) ≡ true
any_put_rows points sets dest rows t earlier [] others none same h = h
any_put_rows points sets dest rows t earlier (r ∷ rs) others none same h =
    let both = or_none (option_map _ (cause_of points sets dest rows earlier r)) _ none in
    let t1 = when_none (eqb r.point dest) _ _ (map_none _ (cause_of points sets dest rows earlier r) both.0) in
    let t2 = when_none (list_any (λ (other : Row). eqb other.point r.point) earlier) _ _ t1.1 in
    let absent : list_any (λ (x : Row). eqb x.point r.point) others ≡ false = same r.point ∙ t2.0 in
    let now : (u : Row → Bool) → list_any u (put (λ (r : Row). r.point) r others) ≡ (u r || list_any u others) = λ u. any_put u r others absent in
    any_put_rows points sets dest rows t (earlier ++ r ∷ []) rs (put (λ (r : Row). r.point) r others) both.1
    (λ z. now (λ (x : Row). eqb x.point z) ∙ rw (same z, list_any-append (λ (x : Row). eqb x.point z) earlier (r ∷ [])) (grind arith))
    (rw (now t) (any_moved (t r) (list_any t rs) (list_any t others) h))
  where
    any_moved : (a b c : Bool) → ((a || b) || c) ≡ true → (b || (a || c)) ≡ true
    any_moved a b c e = grind arith

-- rows with no cause are right
rows_right_from : (points : List Point) (sets : List LinkSet) (dest : ℕ) (rows earlier rs : List Row) → wrong_row points sets dest rows earlier rs ≡ None → list_all (λ (r : Row). has_point points r.point) rs ≡ true → list_all is_small_row rs ≡ true → AllByRecursion (IsRightRow points sets dest rows) rs
rows_right_from points sets dest rows earlier [] none there small = tt
rows_right_from points sets dest rows earlier (r ∷ rs) none there small =
    let both = or_none (option_map _ (cause_of points sets dest rows earlier r)) _ none in
    let t1 = when_none (eqb r.point dest) _ _ (map_none _ (cause_of points sets dest rows earlier r) both.0) in
    let t2 = when_none (list_any (λ (other : Row). eqb other.point r.point) earlier) _ _ t1.1 in
    let t3 = when_none (not (all_vias (adjacent sets r.point) r)) _ _ t2.1 in
    let t4 = when_none (not (is_distinct (vias_of r))) _ _ t3.1 in
    let t5 = when_none (not (all_vias (is_lower points dest rows r) r)) _ _ t4.1 in
    let t6 = when_none (not (all_vias (is_free points dest r.point) r)) _ _ t5.1 in
    let t7 = when_none (r.mate && not (has_mate_row points sets dest rows r)) _ _ t6.1 in
    let t8 = when_none (is_nil r.classes && not r.mate) _ _ t7.1 in
    let here = and_parts (has_point points r.point) _ there in
    let fits = and_parts (is_small_row r) _ small in (
      record {
        is_there = here.0;
        small = fits.0;
        not_dest = t1.0;
        vias_joined = not-false _ t3.0;
        vias_once = not-false _ t4.0;
        vias_lower = not-false _ t5.0;
        vias_not_mate = not-false _ t6.0;
        mate_right = t7.0;
        has_route = t8.0;
      },
      rows_right_from points sets dest rows (earlier ++ r ∷ []) rs both.1 here.1 fits.1,
    )

-- the rows of a plan that isn't refused are right, in the order given
pub accepted_rows : (net : Network) (p : Plan) → refusal_of net (on.SetPlan p) ≡ None → AllByRecursion (IsRightRow net.points net.sets p.dest p.rows) p.rows
accepted_rows net p none =
    let t1 = when_none (not (has_point net.points p.dest && list_all (λ (r : Row). has_point net.points r.point) p.rows)) _ _ none in
    let t2 = or_none (option_map _ (wrong_row net.points net.sets p.dest p.rows [] p.rows)) _ t1.1 in
    let right_rows = map_none _ (wrong_row net.points net.sets p.dest p.rows [] p.rows) t2.0 in
    let t3 = when_none (not (list_all is_small_row p.rows)) _ _ t2.1 in
    let there = and_parts (has_point net.points p.dest) _ (not-false _ t1.0) in
    rows_right_from net.points net.sets p.dest p.rows [] p.rows right_rows there.1 (not-false _ t3.0)

module _ (net : Network) (v : IsValid net) where
  -- a plan
  pub valid-SetPlan : (p : Plan) → refusal_of net (on.SetPlan p) ≡ None → IsValid (changed net (on.SetPlan p))
  valid-SetPlan p none =
      let t1 = when_none (not (has_point net.points p.dest && list_all (λ (r : Row). has_point net.points r.point) p.rows)) _ _ none in
      let t2 = or_none (option_map _ (wrong_row net.points net.sets p.dest p.rows [] p.rows)) _ t1.1 in
      let right_rows = map_none _ (wrong_row net.points net.sets p.dest p.rows [] p.rows) t2.0 in
      let there = and_parts (has_point net.points p.dest) _ (not-false _ t1.0) in
      let right = accepted_rows net p none in
      let new : Plan = record p { rows = in_order p.rows } in
      record {
        ni_small = v.ni_small;
        few_points = v.few_points;
        points_rise = v.points_rise;
        codes_small = v.codes_small;
        mates = v.mates;
        sets_rise = v.sets_rise;
        sets_right = v.sets_right;
        one_per_pair = v.one_per_pair;
        plans_rise = IsRising-put (λ (p : Plan). p.dest) new net.plans v.plans_rise;
        plans_right = All-put (λ (p : Plan). p.dest) (IsRightPlan net.points net.sets) new net.plans
            (record {
              is_there = there.0;
              rows_rise = IsRising-put_rows p.rows [] tt;
              rows_right = All-then (λ (r : Row). r.point) (IsRightRow net.points net.sets p.dest p.rows) (IsRightRow net.points net.sets p.dest (in_order p.rows))
                  (λ r h. IsRightRow-then net.points net.points net.sets net.sets p.dest p.rows (in_order p.rows) r (λ c h. h) (λ z h. h) refl (λ t h. any_put_rows net.points net.sets p.dest p.rows t [] p.rows [] right_rows (λ z. refl) (or_left (list_any t p.rows) false h)) (λ c h. h) h)
                  (in_order p.rows) (All-put_rows (IsRightRow net.points net.sets p.dest p.rows) p.rows [] right tt);
            }) v.plans_right;
      }
