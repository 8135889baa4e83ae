-- Removals, and other links of a set, keep a network valid.
use Rattle.std.proofs.Common.{◌≡◌, ℕ, ◌<◌, ◌≤◌, Bool, true, false, not, ◌&&◌, ◌||◌, eqb, ltb, leb, Option, Some, None, is_some, ⊎_elim, List, [], ◌∷◌, length, cond, refl, ap, sym, ◌∙◌, subst, arith}
use Rattle.std.specs.List.{list_any}
use Rattle.std.specs.Option.{option_map_or, option_and_then}
use Rattle.std.proofs.lemmas.Bool.{and_parts, and_from, or_cases, or_parts, or_left, or_right, cases_Bool, or_from, false_from_ne_true, both_ways, not-false, cond_both, eqb-true, eqb-false, ltb-false, leb-false, eq-eqb, ne_eqb}
use Rattle.net_items.specs.declared.items.Point.{Point}
use Rattle.net_items.specs.declared.items.LinkSet.{LinkSet}
use Rattle.net_items.specs.declared.items.Plan.{Plan}
use Rattle.net_items.specs.declared.lists.Row.{Row}
use Rattle.net_items.specs.declared.links.Link.{Link}
use Rattle.net_data.specs.declared.events.Event.TheVariants as on
use Rattle.net_items.specs.Keyed.{put, without}
use Rattle.net_data.specs.Network.{Network}
use Rattle.net_items.specs.Lookups.{point_at, has_point, is_stp, kind_is_stp, mate_of, joins, set_at, adjacent, is_via}
use Rattle.plan_rows.specs.Rows.{is_mate}
use Rattle.net_data.specs.Valid.{IsRightRow, IsRightPlan, IsRightSet, AreMates, IsValid}
use Rattle.net_sets.specs.Sets.{is_end, has_link, has_last_link, set_passes, new_link, with_link, without_link, edit_set, IsOnePerPair}
use Rattle.plan_rows.specs.Uses.{is_row_of, uses_point, either_leads, uses_set}
use Rattle.net_data.specs.Edits.{refusal_of, changed}
use Rattle.net_data.proofs.OrderLemmas.{links_few}
use Rattle.net_data.proofs.FrameLemmas.{IsRightRow-kept, IsRightPlan-kept, IsRightPlan-then, All-unless, flag-kept}
use Rattle.net_data.proofs.PreservationLemmas.{when_none, not_some}
use Rattle.net_items.proofs.KeyedLemmas.{All-then, All-without, All-edit_at, IsRising-put, IsRising-without, length-without, at_key-without, some_find-without, none_find-without, IsRising-edit, some_find-edit, All-put, length-put_pos, length-without_pos}

flip : (a b : ℕ) → eqb b a ≡ false → eqb a b ≡ false
flip a b e = ne_eqb a b (λ s. eqb-false b a e (sym s))

some_value : {X : Type 0} (o : Option X) → is_some o ≡ true → (x : X) × (o ≡ Some x)
some_value None h = absurd (cc)
some_value (Some x) h = (x, refl)

-- a point that is no end is joined to none
joined_not_end : (c : ℕ) (sets : List LinkSet) (y z : ℕ) → list_any (is_end c) sets ≡ false → adjacent sets y z ≡ true → eqb c z ≡ false
joined_not_end c [] y z none j = absurd (cc)
joined_not_end c (s ∷ ss) y z none j =
    let parts = or_parts (is_end c s) _ none in
    let ends = or_parts (eqb s.a c) _ parts.0 in
    ⊎_elim
    (λ here. ⊎_elim
    (λ e. let b = and_parts (eqb s.a y) (eqb s.b z) e in flip c z (subst (λ n. eqb n c ≡ false) (eqb-true s.b z b.1) ends.1))
    (λ e. let b = and_parts (eqb s.a z) (eqb s.b y) e in flip c z (subst (λ n. eqb n c ≡ false) (eqb-true s.a z b.0) ends.0))
    (or_cases (eqb s.a y && eqb s.b z) _ here))
    (λ off. joined_not_end c ss y z parts.1 (rw off at j))
    (cases_Bool (joins y z s))

IsOnePerPair-edit : (id : ℕ) (f : LinkSet → LinkSet) → ((s : LinkSet) → ((f s).a ≡ s.a) × ((f s).b ≡ s.b)) → ((y z : ℕ) (s : LinkSet) → joins y z (f s) ≡ joins y z s) → (sets : List LinkSet) → IsOnePerPair sets → IsOnePerPair (edit_set id f sets)
IsOnePerPair-edit id f same ends [] one = tt
IsOnePerPair-edit id f same ends (s ∷ ss) one =
    cond_both (eqb s.id id) _ _ IsOnePerPair
    (λ b. (let ab = same s in rw (ab.0, ab.1) one.0, one.1))
    (λ b. (some_find-edit (λ (s : LinkSet). s.id) (joins s.a s.b) id f (ends s.a s.b) ss ∙ one.0, IsOnePerPair-edit id f same ends ss one.1))

IsOnePerPair-without : (id : ℕ) (sets : List LinkSet) → IsOnePerPair sets → IsOnePerPair (without (λ (s : LinkSet). s.id) id sets)
IsOnePerPair-without id [] one = tt
IsOnePerPair-without id (s ∷ ss) one =
    cond_both (eqb s.id id) _ _ IsOnePerPair (λ b. one.1)
    (λ b. (none_find-without (λ (s : LinkSet). s.id) (joins s.a s.b) id ss one.0, IsOnePerPair-without id ss one.1))

-- a set whose ends no row joins isn't between the row's point and what it leads to
leads_not : (a b y z : ℕ) (via : ℕ → Bool) (mate : ℕ → ℕ → Bool) → ((eqb y a && (via b || mate a b)) || (eqb y b && (via a || mate b a))) ≡ false → (via z || mate y z) ≡ true → ((eqb a y && eqb b z) || (eqb a z && eqb b y)) ≡ false
leads_not a b y z via mate unused leads =
    let parts = or_parts (eqb y a && (via b || mate a b)) _ unused in
    or_from _ _
    (false_from_ne_true _ (λ t.
    let e = and_parts (eqb a y) (eqb b z) t in
    let ay : a ≡ y = eqb-true a y e.0 in
    let bz : b ≡ z = eqb-true b z e.1 in
    let on : (via b || mate a b) ≡ true = subst (λ n. (via n || mate a n) ≡ true) (sym bz) (subst (λ n. (via z || mate n z) ≡ true) (sym ay) leads) in
    let yes : eqb y a ≡ true = eq-eqb y a (sym ay) in
    let no = parts.0 in both_ways _ no (and_from _ _ yes on)))
    (false_from_ne_true _ (λ t.
    let e = and_parts (eqb a z) (eqb b y) t in
    let az : a ≡ z = eqb-true a z e.0 in
    let by : b ≡ y = eqb-true b y e.1 in
    let on : (via a || mate b a) ≡ true = subst (λ n. (via n || mate b n) ≡ true) (sym az) (subst (λ n. (via z || mate n z) ≡ true) (sym by) leads) in
    let yes : eqb y b ≡ true = eq-eqb y b (sym by) in
    let no = parts.1 in both_ways _ no (and_from _ _ yes on)))

module _ (net : Network) (v : IsValid net) where
  -- a plan goes
  pub valid-DropPlan : (dest : ℕ) → IsValid (changed net (on.DropPlan dest))
  valid-DropPlan dest = record {
    ni_small = v.ni_small;
    few_points = v.few_points;
    points_rise = v.points_rise;
    codes_small = v.codes_small;
    mates = v.mates;
    sets_rise = v.sets_rise;
    sets_right = v.sets_right;
    one_per_pair = v.one_per_pair;
    plans_rise = IsRising-without (λ (p : Plan). p.dest) dest net.plans v.plans_rise;
    plans_right = All-without (λ (p : Plan). p.dest) (IsRightPlan net.points net.sets) dest net.plans v.plans_right;
  }

  -- the code of a link that isn't refused is small
  pub added-link-small : (id slc : ℕ) → refusal_of net (on.AddLink id slc) ≡ None → slc < 16
  added-link-small id slc none =
      let t1 = when_none (not (is_some (set_at net.sets id))) _ _ none in
      let t2 = when_none (ltb 15 slc) _ _ t1.1 in
      let small : slc ≤ 15 = ltb-false 15 slc t2.0 in omega arith

  -- a set changes, but not its id and ends
  valid-edit_set : (id : ℕ) (f : LinkSet → LinkSet) → ((s : LinkSet) → (f s).id ≡ s.id) → ((s : LinkSet) → ((f s).a ≡ s.a) × ((f s).b ≡ s.b)) → ((y z : ℕ) (s : LinkSet) → joins y z (f s) ≡ joins y z s)
      → ((s : LinkSet) → set_at net.sets id ≡ Some s → IsRightSet net.points s → IsRightSet net.points (f s))
      → IsValid (record net { sets = edit_set id f net.sets })
  valid-edit_set id f keeps same ends right =
      let sets' : List LinkSet = edit_set id f net.sets in
      record {
        ni_small = v.ni_small;
        few_points = v.few_points;
        points_rise = v.points_rise;
        codes_small = v.codes_small;
        mates = v.mates;
        sets_rise = IsRising-edit (λ (s : LinkSet). s.id) id f keeps net.sets v.sets_rise;
        sets_right = All-edit_at (λ (s : LinkSet). s.id) (IsRightSet net.points) id f net.sets right v.sets_right;
        one_per_pair = IsOnePerPair-edit id f same ends net.sets v.one_per_pair;
        plans_rise = v.plans_rise;
        plans_right = All-then (λ (p : Plan). p.dest) (IsRightPlan net.points net.sets) (IsRightPlan net.points sets')
            (λ p h. IsRightPlan-then net.points net.points net.sets sets' p (λ c h. h) (λ c h. h) (λ y z h. some_find-edit (λ (s : LinkSet). s.id) (joins y z) id f (ends y z) net.sets ∙ h) (λ c. refl) h) net.plans v.plans_right;
      }

  -- a link is added
  pub valid-AddLink : (id slc : ℕ) → refusal_of net (on.AddLink id slc) ≡ None → IsValid (changed net (on.AddLink id slc))
  valid-AddLink id slc none =
      let t1 = when_none (not (is_some (set_at net.sets id))) _ _ none in
      let t2 = when_none (ltb 15 slc) _ _ t1.1 in
      let small : slc ≤ 15 = ltb-false 15 slc t2.0 in
      valid-edit_set id (with_link slc) (λ s. refl) (λ s. (refl, refl)) (λ y z s. refl)
      (λ s e right. record {
        small = right.small;
        a_there = right.a_there;
        b_there = right.b_there;
        ends_differ = right.ends_differ;
        some_link = length-put_pos (λ (l : Link). l.slc) (new_link slc) s.links;
        few_links = links_few (put (λ (l : Link). l.slc) (new_link slc) s.links) (IsRising-put (λ (l : Link). l.slc) (new_link slc) s.links right.links_rise) (All-put (λ (l : Link). l.slc) (λ l. l.slc < 16) (new_link slc) s.links (omega arith) right.links_small);
        links_rise = IsRising-put (λ (l : Link). l.slc) (new_link slc) s.links right.links_rise;
        links_small = All-put (λ (l : Link). l.slc) (λ l. l.slc < 16) (new_link slc) s.links (omega arith) right.links_small;
      })

  -- a link goes that isn't the last
  pub valid-RemoveLink : (id slc : ℕ) → refusal_of net (on.RemoveLink id slc) ≡ None → IsValid (changed net (on.RemoveLink id slc))
  valid-RemoveLink id slc none =
      let t1 = when_none (not (is_some (set_at net.sets id))) _ _ none in
      let t2 = when_none (not (set_passes (has_link slc) net.sets id)) _ _ t1.1 in
      let t3 = when_none (set_passes has_last_link net.sets id) _ _ t2.1 in
      valid-edit_set id (without_link slc) (λ s. refl) (λ s. (refl, refl)) (λ y z s. refl)
      (λ s e right.
      let more : leb (length s.links) 1 ≡ false = subst (λ o. option_map_or has_last_link o false ≡ false) e t3.0 in
      let two : 1 < length s.links = leb-false _ _ more in
      record {
        small = right.small;
        a_there = right.a_there;
        b_there = right.b_there;
        ends_differ = right.ends_differ;
        some_link = length-without_pos (λ (l : Link). l.slc) slc s.links two;
        few_links = links_few (without (λ (l : Link). l.slc) slc s.links) (IsRising-without (λ (l : Link). l.slc) slc s.links right.links_rise) (All-without (λ (l : Link). l.slc) (λ l. l.slc < 16) slc s.links right.links_small);
        links_rise = IsRising-without (λ (l : Link). l.slc) slc s.links right.links_rise;
        links_small = All-without (λ (l : Link). l.slc) (λ l. l.slc < 16) slc s.links right.links_small;
      })

  -- a point goes that nothing uses
  pub valid-RemovePoint : (c : ℕ) → refusal_of net (on.RemovePoint c) ≡ None → IsValid (changed net (on.RemovePoint c))
  valid-RemovePoint c none =
      let t1 = when_none (not (has_point net.points c)) _ _ none in
      let t2 = when_none (list_any (is_end c) net.sets || list_any (uses_point c) net.plans) _ _ t1.1 in
      let t3 = when_none (is_some (mate_of net.points c)) _ _ t2.1 in
      let unused = or_parts (list_any (is_end c) net.sets) _ t2.0 in
      let alone : mate_of net.points c ≡ None = not_some _ t3.0 in
      let points' : List Point = without (λ (p : Point). p.code) c net.points in
      let at : (z : ℕ) → point_at points' z ≡ cond (eqb c z) None (point_at net.points z) = λ z. at_key-without (λ (p : Point). p.code) c net.points z v.points_rise in
      let other : (z : ℕ) → eqb c z ≡ false → point_at points' z ≡ point_at net.points z = λ z e. at z ∙ rw e refl in
      let there : (z : ℕ) → eqb c z ≡ false → has_point points' z ≡ has_point net.points z = λ z e. ap is_some (other z e) in
      let stps : (z : ℕ) → eqb c z ≡ false → is_stp points' z ≡ is_stp net.points z = λ z e. ap (λ o. option_map_or (λ (p : Point). kind_is_stp p.kind) o false) (other z e) in
      let mates : (z : ℕ) → eqb c z ≡ false → mate_of points' z ≡ mate_of net.points z = λ z e. ap (option_and_then (λ (p : Point). p.mate)) (other z e) in
      let mates' : (p m : ℕ) → mate_of points' p ≡ Some m → AreMates points' p m = λ p m e.
      ⊎_elim
      (λ same. let gone : mate_of points' p ≡ None = ap (option_and_then (λ (p : Point). p.mate)) (at p ∙ ap (λ b. cond b None (point_at net.points p)) same) in absurd (cc))
      (λ apart.
      let old = v.mates p m (sym (mates p apart) ∙ e) in
      let back = old.back in
      let m_apart : eqb c m ≡ false = ne_eqb c m (λ s. let f : mate_of net.points m ≡ None = subst (λ n. mate_of net.points n ≡ None) s alone in cc) in
      record { differ = old.differ; stp = stps p apart ∙ old.stp; back = mates m m_apart ∙ old.back })
      (cases_Bool (eqb c p)) in
      let row : (dest : ℕ) (rows : List Row) (r : Row) → is_row_of c r ≡ false → IsRightRow net.points net.sets dest rows r → IsRightRow points' net.sets dest rows r = λ dest rows r u right.
      let here : eqb c r.point ≡ false = flip c r.point u in
      IsRightRow-kept net.points points' net.sets net.sets dest rows r
      (λ z j h. stps z (joined_not_end c net.sets r.point z unused.0 j) ∙ h)
      (λ z m j. j)
      (λ z m h. rw (mates r.point here) h)
      (flag-kept net.points points' net.sets net.sets dest rows r (λ h. stps r.point here ∙ h) (mates r.point here) (λ m on e j. j))
      (there r.point here ∙ right.is_there) right in
      record {
        ni_small = v.ni_small;
        few_points = let l = length-without (λ (p : Point). p.code) c net.points in let few = v.few_points in omega arith;
        points_rise = IsRising-without (λ (p : Point). p.code) c net.points v.points_rise;
        codes_small = All-without (λ (p : Point). p.code) (λ (p : Point). p.code < 16384) c net.points v.codes_small;
        mates = mates';
        sets_rise = v.sets_rise;
        sets_right = All-unless (IsRightSet net.points) (IsRightSet points') (is_end c)
            (λ s u right. let ends = or_parts (eqb s.a c) (eqb s.b c) u in record {
              small = right.small;
              a_there = there s.a (flip c s.a ends.0) ∙ right.a_there;
              b_there = there s.b (flip c s.b ends.1) ∙ right.b_there;
              ends_differ = right.ends_differ;
              some_link = right.some_link;
              few_links = right.few_links;
              links_rise = right.links_rise;
              links_small = right.links_small;
            }) net.sets unused.0 v.sets_right;
        one_per_pair = v.one_per_pair;
        plans_rise = v.plans_rise;
        plans_right = All-unless (IsRightPlan net.points net.sets) (IsRightPlan points' net.sets) (uses_point c)
            (λ p u right. let parts = or_parts (eqb p.dest c) _ u in
            IsRightPlan-kept net.points points' net.sets net.sets p (is_row_of c) (there p.dest (flip c p.dest parts.0) ∙ right.is_there) parts.1 (λ r k h. row p.dest p.rows r k h) right) net.plans unused.1 v.plans_right;
      }

  -- a set goes that no row uses
  valid-RemoveSet_of : (id : ℕ) (s : LinkSet) → set_at net.sets id ≡ Some s → list_any (uses_set net.points s) net.plans ≡ false → IsValid (changed net (on.RemoveSet id))
  valid-RemoveSet_of id s is_s unused =
      let sets' : List LinkSet = without (λ (s : LinkSet). s.id) id net.sets in
      let stays : (y z : ℕ) → joins y z s ≡ false → adjacent net.sets y z ≡ true → adjacent sets' y z ≡ true = λ y z off j.
      some_find-without (λ (s : LinkSet). s.id) (joins y z) id net.sets (λ t e. let same : s ≡ t = cc in subst (λ t. joins y z t ≡ false) same off) j in
      let row : (dest : ℕ) (rows : List Row) (r : Row) → either_leads net.points s r ≡ false → IsRightRow net.points net.sets dest rows r → IsRightRow net.points sets' dest rows r = λ dest rows r u right.
      IsRightRow-kept net.points net.points net.sets sets' dest rows r
      (λ z j h. h)
      (λ z m j. stays r.point z (leads_not s.a s.b r.point z (λ y. is_via r y) (λ y w. r.mate && is_mate net.points y w) u (or_left (is_via r z) _ m)) j)
      (λ z m h. h)
      (flag-kept net.points net.points net.sets sets' dest rows r (λ h. h) refl
      (λ m on e j. stays r.point m (leads_not s.a s.b r.point m (λ y. is_via r y) (λ y w. r.mate && is_mate net.points y w) u (or_right (is_via r m) _ (rw (on, e) (eq-eqb m m refl)))) j))
      right.is_there right in
      record {
        ni_small = v.ni_small;
        few_points = v.few_points;
        points_rise = v.points_rise;
        codes_small = v.codes_small;
        mates = v.mates;
        sets_rise = IsRising-without (λ (s : LinkSet). s.id) id net.sets v.sets_rise;
        sets_right = All-without (λ (s : LinkSet). s.id) (IsRightSet net.points) id net.sets v.sets_right;
        one_per_pair = IsOnePerPair-without id net.sets v.one_per_pair;
        plans_rise = v.plans_rise;
        plans_right = All-unless (IsRightPlan net.points net.sets) (IsRightPlan net.points sets') (uses_set net.points s)
            (λ p u right. IsRightPlan-kept net.points net.points net.sets sets' p (either_leads net.points s) right.is_there u (λ r k h. row p.dest p.rows r k h) right) net.plans unused v.plans_right;
      }

  pub valid-RemoveSet : (id : ℕ) → refusal_of net (on.RemoveSet id) ≡ None → IsValid (changed net (on.RemoveSet id))
  valid-RemoveSet id none =
      let t1 = when_none (not (is_some (set_at net.sets id))) _ _ none in
      let t2 = when_none (option_map_or (λ s. list_any (uses_set net.points s) net.plans) (set_at net.sets id) false) _ _ t1.1 in
      let s = some_value (set_at net.sets id) (not-false _ t1.0) in
      valid-RemoveSet_of id s.0 s.1 (subst (λ o. option_map_or (λ s. list_any (uses_set net.points s) net.plans) o false ≡ false) s.1 t2.0)
