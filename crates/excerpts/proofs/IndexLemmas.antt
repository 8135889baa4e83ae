-- What the index tells of the sets.
use Rattle.std.proofs.Common.{◌≡◌, ℕ, zero, suc, ◌+◌, ◌-◌, ◌<◌, ◌≤◌, Bool, true, false, ◌&&◌, ◌||◌, cond, eqb, Option, Some, None, List, [], ◌∷◌, length, get_or, drop, slice_get, refl, ap, sym, ◌∙◌, arith}
use Rattle.std.specs.Prelude.{find}
use Rattle.std.specs.List.{AllByRecursion, range_with_len}
use Rattle.std.specs.Option.{option_map_or}
use Rattle.std.proofs.lemmas.List.{drop_more}
use Rattle.std.proofs.lemmas.Option.{slice_get_read}
use Rattle.std.proofs.Math.Bool.{and_comm}
use Rattle.net_items.specs.declared.items.LinkSet.{LinkSet}
use Rattle.net_items.specs.declared.items.Point.{Point}
use Rattle.net_items.specs.Keyed.{at_key, put}
use Rattle.net_items.specs.Lookups.{set_between}
use Rattle.net_items.proofs.KeyedLemmas.{All-then, at_key-put, IsRising-put}
use Rattle.net_sets.specs.Joints.{joint_of}
use Rattle.net_sets.proofs.JointLemmas.{joint_same}
use Rattle.link_sets.specs.Availability.{set_available, connected}
use Rattle.link_sets.specs.Neighbours.{next_from, code_count}
use Rattle.link_sets.proofs.NeighbourLemmas.{count_is}
use Rattle.net_data.specs.Network.{Network}
use Rattle.net_data.specs.Valid.{IsRightSet, IsValid}
use Rattle.net_data.proofs.OrderLemmas.{rising_few}
use Rattle.excerpts.specs.declared.index.Joint.{Joint}
use Rattle.excerpts.specs.Index.{IsHeld, IsIndexFrom, IsJointIndex, is_up, joint_from, leads_up}

small_ids : (points : List Point) (sets : List LinkSet) → AllByRecursion (IsRightSet points) sets → AllByRecursion (λ (s : LinkSet). s.id < 4096) sets
small_ids points [] all = tt
small_ids points (s ∷ ss) all = let small = all.0.small in (omega arith, small_ids points ss all.1)

-- the numbers of sets rise below 4,096, so there are no more sets
pub few_sets : (net : Network) → IsValid net → length net.sets ≤ 4096
few_sets net valid =
    let small = small_ids net.points net.sets valid.sets_right in
    let few : length net.sets ≤ 4096 - 0 = rising_few (λ (s : LinkSet). s.id) net.sets 0 4096 valid.sets_rise (All-then (λ (s : LinkSet). s.id) (λ (s : LinkSet). s.id < 4096) (λ (s : LinkSet). 0 ≤ s.id) (λ s h. omega arith) net.sets small) small in
    omega arith

-- what is held of a pair, where a set stands before the others
held_put : (joints : List Joint) (sets : List LinkSet) (position : ℕ) (s : LinkSet) (ss : List LinkSet) (y z : ℕ) → s.a < 16384 → s.b < 16384 → z < 16384
    → slice_get sets position ≡ Some s
    → IsHeld sets (set_between ss y z) (at_key (λ (j : Joint). j.pair) (joint_of y z) joints)
    → IsHeld sets (set_between (s ∷ ss) y z) (at_key (λ (j : Joint). j.pair) (joint_of y z) (put (λ (j : Joint). j.pair) (joint_from position s.a s.b) (put (λ (j : Joint). j.pair) (joint_from position s.b s.a) joints)))
held_put joints sets position s ss y z a_small b_small z_small there rest =
    rw (at_key-put (λ (j : Joint). j.pair) (joint_from position s.a s.b) (put (λ (j : Joint). j.pair) (joint_from position s.b s.a) joints) (joint_of y z), at_key-put (λ (j : Joint). j.pair) (joint_from position s.b s.a) joints (joint_of y z), joint_same s.a s.b y z b_small z_small, joint_same s.b s.a y z a_small z_small, and_comm (eqb s.b y) (eqb s.a z))
    (go (eqb s.a y && eqb s.b z) (eqb s.a z && eqb s.b y))
  where
    go : (forth back : Bool)
        → IsHeld sets (cond (forth || back) (Some s) (set_between ss y z)) (cond forth (Some (joint_from position s.a s.b)) (cond back (Some (joint_from position s.b s.a)) (at_key (λ (j : Joint). j.pair) (joint_of y z) joints)))
    go true back = there
    go false true = there
    go false false = rest

pub IsIndex-put : (joints : List Joint) (sets : List LinkSet) (position : ℕ) (s : LinkSet) → position < length sets → s ≡ get_or sets position s → s.a < 16384 → s.b < 16384 → IsIndexFrom (position + 1) joints sets
    → IsIndexFrom position (put (λ (j : Joint). j.pair) (joint_from position s.a s.b) (put (λ (j : Joint). j.pair) (joint_from position s.b s.a) joints)) sets
IsIndex-put joints sets position s within is a_small b_small are =
    let here : drop position sets ≡ s ∷ drop (position + 1) sets = drop_more sets position s within ∙ ap (λ (t : LinkSet). t ∷ drop (position + 1) sets) (sym is) in
    record {
      rise = IsRising-put (λ (j : Joint). j.pair) (joint_from position s.a s.b) _ (IsRising-put (λ (j : Joint). j.pair) (joint_from position s.b s.a) joints are.rise);
      tells = λ y z y_small z_small. rw here (held_put joints sets position s (drop (position + 1) sets) y z a_small b_small z_small (slice_get_read sets (length sets) position s refl within is) (are.tells y z y_small z_small));
    }

-- whether what is held leads to an available set is whether the set is available
held_up : (sets : List LinkSet) (between : Option LinkSet) (held : Option Joint) → IsHeld sets between held → option_map_or (leads_up sets) held false ≡ option_map_or set_available between false
held_up sets None held is = ap (λ (o : Option Joint). option_map_or (leads_up sets) o false) is
held_up sets (Some s) None is = absurd is
held_up sets (Some s) (Some j) is = ap (λ (o : Option LinkSet). option_map_or set_available o false) is

-- whether a pair is up is whether its points are joined
up_joined : (joints : List Joint) (sets : List LinkSet) (y z : ℕ) → y < 16384 → z < 16384 → IsJointIndex joints sets → is_up sets joints y z ≡ connected sets y z
up_joined joints sets y z y_small z_small are = held_up sets (set_between sets y z) (at_key (λ (j : Joint). j.pair) (joint_of y z) joints) (are.tells y z y_small z_small)

-- tests that agree in a range find the same there
find_agreed : (p q : ℕ → Bool) (a n : ℕ) → ((w : ℕ) → a ≤ w → w < a + n → p w ≡ q w) → find p (range_with_len a n) ≡ find q (range_with_len a n)
find_agreed p q a zero same = refl
find_agreed p q a (suc n) same =
    let here : p a ≡ q a = same a (omega arith) (omega arith) in
    let rest : find p (range_with_len (a + 1) n) ≡ find q (range_with_len (a + 1) n) = find_agreed p q (a + 1) n (λ w low high. same w (omega arith) (omega arith)) in
    rw (here, rest) refl

-- the next point over joints of y that tell what the index does
pub next_agreed : (around joints : List Joint) (sets : List LinkSet) (y from : ℕ) → y < 16384 → IsJointIndex joints sets
    → ((z : ℕ) → z < 16384 → at_key (λ (j : Joint). j.pair) (joint_of y z) around ≡ at_key (λ (j : Joint). j.pair) (joint_of y z) joints)
    → next_from (is_up sets around y) from ≡ next_from (connected sets y) from
next_agreed around joints sets y from y_small are same =
    find_agreed (is_up sets around y) (connected sets y) from (code_count - from)
    (λ w low high.
    let small : w < 16384 = omega (arith, low, high, count_is) in
    ap (λ (o : Option Joint). option_map_or (leads_up sets) o false) (same w small) ∙ up_joined joints sets y w y_small small are)
