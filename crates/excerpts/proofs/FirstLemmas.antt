-- Where the joints of a point stand in the index.
use Rattle.std.proofs.Common.{◌≡◌, ℕ, zero, suc, ◌+◌, ◌-◌, ◌*◌, ◌<◌, ◌≤◌, Bool, true, false, cond, eqb, ltb, Option, Some, None, List, [], ◌∷◌, ◌++◌, length, get_or, take, drop, refl, ap, sym, ◌∙◌, arith, length-drop, slice_index, subst, inl, inr}
use Rattle.std.specs.List.{AllByRecursion, AllWithin}
use Rattle.std.proofs.Math.Seq.{get_or-append_seam}
use Rattle.std.proofs.lemmas.Bool.{cases_eq, ltb-true, ltb-false, ne_eqb}
use Rattle.std.proofs.lemmas.List.{get_or_append_left, get_or-drop, get_or_default}
use Rattle.net_items.specs.Keyed.{IsRising, at_key}
use Rattle.net_sets.specs.Joints.{joint_of}
use Rattle.excerpts.specs.declared.index.Joint.{Joint}
use Rattle.excerpts.specs.Index.{IsFirstJoint, AreFirsts}
use Rattle.excerpts.proofs.NextLemmas.{IsRising-drop, never_fall, found_after}

-- what a read past the end would give
abbrev unread : Joint
unread = record { pair = 0; position = 0 }

-- the first joints of those that rise
All-take : (P : Joint → Type 0) (n : ℕ) (js : List Joint) → AllByRecursion P js → AllByRecursion P (take n js)
All-take P zero js all = tt
All-take P (suc n) [] all = tt
All-take P (suc n) (j ∷ js) all = (all.0, All-take P n js all.1)

IsRising-take : (n : ℕ) (js : List Joint) → IsRising (λ (j : Joint). j.pair) js → IsRising (λ (j : Joint). j.pair) (take n js)
IsRising-take zero js up = tt
IsRising-take (suc n) [] up = tt
IsRising-take (suc n) (j ∷ js) up = (All-take (λ (k : Joint). j.pair < k.pair) n js up.0, IsRising-take n js up.1)

pub IsRising-range : (a b : ℕ) (js : List Joint) → IsRising (λ (j : Joint). j.pair) js → IsRising (λ (j : Joint). j.pair) (take (b - a) (drop a js))
IsRising-range a b js up = IsRising-take (b - a) (drop a js) (IsRising-drop a js up)

-- a smaller pair is none of those
none_from : (js : List Joint) (q : ℕ) → ((k : ℕ) (d : Joint) → k < length js → q < (get_or js k d).pair) → at_key (λ (j : Joint). j.pair) q js ≡ None
none_from [] q more = refl
none_from (j ∷ js) q more =
    let above : q < j.pair = more 0 j (omega arith) in
    rw (ne_eqb j.pair q (λ e. omega arith)) (none_from js q (λ k d lt. more (suc k) d (omega arith)))

-- what is found before pairs that are all greater
found_before : (n : ℕ) (js : List Joint) (q : ℕ) → ((k : ℕ) (d : Joint) → n ≤ k → k < length js → q < (get_or js k d).pair) → at_key (λ (j : Joint). j.pair) q (take n js) ≡ at_key (λ (j : Joint). j.pair) q js
found_before zero js q more = sym (none_from js q (λ k d lt. more k d (omega arith) lt))
found_before (suc n) [] q more = refl
found_before (suc n) (j ∷ js) q more = ap (λ (o : Option Joint). cond (eqb j.pair q) (Some j) o) (found_before n js q (λ k d low lt. more (suc k) d (omega arith) (omega arith)))

-- the joints from a pair on begin before those from a greater pair on
in_order : (js : List Joint) (m n a b : ℕ) → m ≤ n → IsFirstJoint m js a → IsFirstJoint n js b → a ≤ b
in_order js m n a b low one other = go (ltb b a) refl
  where
    go : (t : Bool) → ltb b a ≡ t → a ≤ b
    go true e =
        let past : b < a = ltb-true b a e in
        let less : (get_or js b unread).pair < m = one.parts.0 b unread (omega arith) past in
        let more : n ≤ (get_or js b unread).pair = other.parts.1 b unread (omega arith) (omega (arith, past, one.within)) in
        absurd (omega (arith, less, more, low))
    go false e = ltb-false b a e

-- a pair between two is found among the joints between
found_in_range : (js : List Joint) (m n a b q : ℕ) → a ≤ b → IsFirstJoint m js a → IsFirstJoint n js b → m ≤ q → q < n
    → at_key (λ (j : Joint). j.pair) q (take (b - a) (drop a js)) ≡ at_key (λ (j : Joint). j.pair) q js
found_in_range js m n a b q order one other low high =
    found_before (b - a) (drop a js) q
    (λ k d late lt.
    let more : n ≤ (get_or js (a + k) d).pair = other.parts.1 (a + k) d (omega arith) (omega (arith, length-drop a js, one.within)) in
    let here : (get_or (drop a js) k d).pair ≡ (get_or js (a + k) d).pair = ap (λ (j : Joint). j.pair) (get_or-drop a js k d) in
    omega (arith, more, here, high))
    ∙ found_after a js q one.within (λ k d lt. let less : (get_or js k d).pair < m = one.parts.0 k d (omega arith) lt in omega (arith, less, low))

-- where the next joint is no smaller, the others aren't either
pub first_here : (js : List Joint) (pair at : ℕ) → IsRising (λ (j : Joint). j.pair) js → at ≤ length js → AllWithin (λ (j : Joint). j.pair < pair) js 0 at
    → (at < length js → pair ≤ (get_or js at unread).pair) → IsFirstJoint pair js at
first_here js pair at up within less here = record {
  within = within;
  parts = (
    less,
    λ k d low lt.
        let first : pair ≤ (get_or js at unread).pair = here (omega arith) in
        let same : (get_or js at d).pair ≡ (get_or js at unread).pair = ap (λ (j : Joint). j.pair) (get_or_default js at d unread (omega arith)) in
        let rest : (get_or js at d).pair ≤ (get_or js k d).pair = never_fall js up at k d low lt in
        omega (arith, first, same, rest),
  );
}

-- where the joint before is smaller and the next one isn't, those from a pair on begin
pub begins_here : (js : List Joint) (pair at : ℕ) → IsRising (λ (j : Joint). j.pair) js → at ≤ length js → (0 < at → (get_or js (at - 1) unread).pair < pair)
    → (at < length js → pair ≤ (get_or js at unread).pair) → IsFirstJoint pair js at
begins_here js pair at up within last here = first_here js pair at up within before here
  where
    before : AllWithin (λ (j : Joint). j.pair < pair) js 0 at
    before k d low lt =
        let below : (get_or js (at - 1) unread).pair < pair = last (omega arith) in
        let same : (get_or js (at - 1) d).pair ≡ (get_or js (at - 1) unread).pair = ap (λ (j : Joint). j.pair) (get_or_default js (at - 1) d unread (omega arith)) in
        let rest : (get_or js k d).pair ≤ (get_or js (at - 1) d).pair = never_fall js up k (at - 1) d (omega arith) (omega arith) in
        omega (arith, below, same, rest)

-- one more place is written down
pub firsts_push : (js : List Joint) (firsts : List ℕ) (y at : ℕ) → length firsts ≡ y → ((k : ℕ) → k < y → IsFirstJoint (joint_of k 0) js (slice_index firsts k)) → IsFirstJoint (y * 16384) js at
    → (k : ℕ) → k < y + 1 → IsFirstJoint (joint_of k 0) js (slice_index (firsts ++ at ∷ []) k)
firsts_push js firsts y at long right here k low =
    elim (cases_eq k y) [
      | inl is ↦
          let read : slice_index (firsts ++ at ∷ []) k ≡ at = ap (slice_index (firsts ++ at ∷ [])) (is ∙ sym long) ∙ get_or-append_seam firsts at [] 0 in
          let pair : y * 16384 ≡ joint_of k 0 = omega (arith, is) in
          rw read (subst (λ n. IsFirstJoint n js at) pair here)
      | inr not ↦ rw (get_or_append_left firsts (at ∷ []) 0 k (omega arith)) (right k (omega arith))
    ]

-- the joints of a point stand from the one place to the other
pub record IsAround (js : List Joint) (y from to : ℕ) : Type 0 where
  pub begin : IsFirstJoint (joint_of y 0) js from
  pub end : IsFirstJoint (joint_of (y + 1) 0) js to
  pub ordered : from ≤ to

pub around : (js : List Joint) (firsts : List ℕ) (y position : ℕ) → y < 16384 → AreFirsts firsts js → position ≡ y → IsAround js y (slice_index firsts position) (slice_index firsts (position + 1))
around js firsts y position small are here =
    let begin : IsFirstJoint (joint_of y 0) js (slice_index firsts position) = subst (λ n. IsFirstJoint (joint_of y 0) js (slice_index firsts n)) (sym here) (are.right y (omega arith)) in
    let end : IsFirstJoint (joint_of (y + 1) 0) js (slice_index firsts (position + 1)) = subst (λ n. IsFirstJoint (joint_of (y + 1) 0) js (slice_index firsts (n + 1))) (sym here) (are.right (y + 1) (omega arith)) in
    record { begin = begin; end = end; ordered = in_order js (joint_of y 0) (joint_of (y + 1) 0) _ _ (omega arith) begin end }

pub found_around : (js : List Joint) (y z from to : ℕ) → z < 16384 → IsAround js y from to
    → at_key (λ (j : Joint). j.pair) (joint_of y z) (take (to - from) (drop from js)) ≡ at_key (λ (j : Joint). j.pair) (joint_of y z) js
found_around js y z from to small are = found_in_range js (joint_of y 0) (joint_of (y + 1) 0) from to (joint_of y z) are.ordered are.begin are.end (omega arith) (omega arith)
