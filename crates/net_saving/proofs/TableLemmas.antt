-- The table of a network.
use Rattle.std.proofs.Common.{◌≡◌, ℕ, pos, Bool, codes, ◌≤◌, lit≤, List, [], ◌∷◌, map, String, Global, string_bytes, Ordering, Less, Equal, Greater, max, refl, ap, ◌∙◌}
use Rattle.std.proofs.Math.Nat.{max-le}
use Rattle.std.specs.BTreeMap.{insert_entry}
use Rattle.std.specs.String.{string_cmp}
use Rattle.std.specs.Ordering.{match_ordering}
use Rattle.std.specs.List.{flat_map}
use Rattle.toml.specs.Data.{Data, Members, no_members, member, string, integer, boolean, array, items_depth, members_depth}
use Rattle.toml.specs.View.{members_view, items_of, view}
use Rattle.toml.specs.declared.value.Value.{Value}
use Rattle.net_data.specs.Network.{Network}
use Rattle.tokens.specs.Entries.{point_text, set_text, plan_text}
use Rattle.net_saving.specs.Writing.{insert_member, insert_array, insert_points, insert_pairs, insert_sets, insert_plans, insert_arrays, with_entries, document_of, pair_texts}

-- ---- a key is set

inserted_as : (o : Ordering) (k : String Global) (v : Value) (e : String Global × Value) (es rest : List (String Global × Value)) → members_view rest ≡ insert_member (string_bytes k) (view v) (members_view es)
    → members_view (match_ordering o ((k, v) ∷ e ∷ es) ((e.0, v) ∷ es) (e ∷ rest))
    ≡ match_ordering o (member (string_bytes k) (view v) (members_view (e ∷ es))) (member (string_bytes e.0) (view v) (members_view es)) (member (string_bytes e.0) (view e.1) (insert_member (string_bytes k) (view v) (members_view es)))
inserted_as Less k v e es rest h = refl
inserted_as Equal k v e es rest h = refl
inserted_as Greater k v e es rest h = ap (member (string_bytes e.0) (view e.1)) h

pub inserted_view : (k : String Global) (v : Value) (es : List (String Global × Value)) → members_view (insert_entry string_cmp es k v) ≡ insert_member (string_bytes k) (view v) (members_view es)
inserted_view k v [] = refl
inserted_view k v (e ∷ es) = inserted_as (string_cmp k e.0) k v e es (insert_entry string_cmp es k v) (inserted_view k v es)

-- ---- keys set in falling order

-- a key set before all others
abbrev IsFirst : List ℕ → Members → Type 0
IsFirst k ms = (d : Data) → insert_member k d ms ≡ member k d ms

first_array : (k : List ℕ) (ms : Members) → IsFirst k ms → (ts : List (List ℕ)) → insert_array k (map string ts) ms ≡ with_entries k ts ms
first_array k ms first [] = refl
first_array k ms first (t ∷ ts) = first (array (items_of (map string (t ∷ ts))))

-- the members from sets on, and those before
abbrev pub last_members : Bool → Members
last_members tfr = member (codes "tfr") (boolean tfr) no_members

abbrev pub sets_on : List (List ℕ) → Bool → Members
sets_on ss tfr = with_entries (codes "sets") ss (last_members tfr)

abbrev pub points_on : List (List ℕ) → List (List ℕ) → Bool → Members
points_on ps ss tfr = with_entries (codes "points") ps (sets_on ss tfr)

abbrev pub plans_on : List (List ℕ) → List (List ℕ) → List (List ℕ) → Bool → Members
plans_on ls ps ss tfr = with_entries (codes "plans") ls (points_on ps ss tfr)

abbrev pub pairs_on : List (List ℕ) → List (List ℕ) → List (List ℕ) → List (List ℕ) → Bool → Members
pairs_on qs ls ps ss tfr = with_entries (codes "pairs") qs (plans_on ls ps ss tfr)

sets_first : (tfr : Bool) → IsFirst (codes "sets") (last_members tfr)
sets_first tfr d = refl

points_first : (ss : List (List ℕ)) (tfr : Bool) → IsFirst (codes "points") (sets_on ss tfr)
points_first [] tfr d = refl
points_first (s ∷ ss) tfr d = refl

plans_first : (ps ss : List (List ℕ)) (tfr : Bool) → IsFirst (codes "plans") (points_on ps ss tfr)
plans_first [] [] tfr d = refl
plans_first [] (s ∷ ss) tfr d = refl
plans_first (p ∷ ps) ss tfr d = refl

pairs_first : (ls ps ss : List (List ℕ)) (tfr : Bool) → IsFirst (codes "pairs") (plans_on ls ps ss tfr)
pairs_first [] [] [] tfr d = refl
pairs_first [] [] (s ∷ ss) tfr d = refl
pairs_first [] (p ∷ ps) ss tfr d = refl
pairs_first (l ∷ ls) ps ss tfr d = refl

ni_first : (qs ls ps ss : List (List ℕ)) (tfr : Bool) → IsFirst (codes "ni") (pairs_on qs ls ps ss tfr)
ni_first [] [] [] [] tfr d = refl
ni_first [] [] [] (s ∷ ss) tfr d = refl
ni_first [] [] (p ∷ ps) ss tfr d = refl
ni_first [] (l ∷ ls) ps ss tfr d = refl
ni_first (q ∷ qs) ls ps ss tfr d = refl

texts_of : {A : Type 0} (f : A → List ℕ) (xs : List A) → map (λ x. string (f x)) xs ≡ map string (map f xs)
texts_of f [] = refl
texts_of f (x ∷ xs) = ap (λ l. string (f x) ∷ l) (texts_of f xs)

array_set : (k : List ℕ) (ds : List Data) (ts : List (List ℕ)) (old new ms : Members) → IsFirst k ms → new ≡ insert_array k ds old → ds ≡ map string ts → old ≡ ms → new ≡ with_entries k ts ms
array_set k ds ts old new ms first h e o = h ∙ rw (e, o) (first_array k ms first ts)

-- the arrays set before the truth value of `tfr`
arrays_first : (net : Network) → insert_arrays net (last_members net.tfr) ≡ pairs_on (flat_map pair_texts net.points) (map plan_text net.plans) (map point_text net.points) (map set_text net.sets) net.tfr
arrays_first net =
    let points = map point_text net.points in
    let pairs = flat_map pair_texts net.points in
    let sets = map set_text net.sets in
    let plans = map plan_text net.plans in
    let t1 = last_members net.tfr in
    let t2 = insert_sets net.sets t1 in
    let t3 = insert_points net.points t2 in
    let t4 = insert_plans net.plans t3 in
    let t5 = insert_pairs net.points t4 in
    let m2 : t2 ≡ sets_on sets net.tfr = array_set (codes "sets") _ sets t1 t2 t1 (sets_first net.tfr) refl (texts_of set_text net.sets) refl in
    let m3 : t3 ≡ points_on points sets net.tfr = array_set (codes "points") _ points t2 t3 (sets_on sets net.tfr) (points_first sets net.tfr) refl (texts_of point_text net.points) m2 in
    let m4 : t4 ≡ plans_on plans points sets net.tfr = array_set (codes "plans") _ plans t3 t4 (points_on points sets net.tfr) (plans_first points sets net.tfr) refl (texts_of plan_text net.plans) m3 in
    array_set (codes "pairs") _ pairs t4 t5 (plans_on plans points sets net.tfr) (pairs_first plans points sets net.tfr) refl refl m4

pub document_made : (net : Network) (t0 t1 t2 t3 t4 : Members) (ni : ℕ) (tfr : Bool) → ni ≡ net.ni → tfr ≡ net.tfr → t0 ≡ no_members → t1 ≡ insert_member (codes "tfr") (boolean tfr) t0
    → t2 ≡ insert_arrays net t1 → t3 ≡ insert_member (codes "ni") (integer (pos ni)) t2 → t4 ≡ insert_member (codes "format") (integer (pos 2)) t3 → t4 ≡ document_of net
document_made net t0 t1 t2 t3 t4 ni tfr e1 e2 h0 h1 h2 h3 h4 =
    let points = map point_text net.points in
    let pairs = flat_map pair_texts net.points in
    let sets = map set_text net.sets in
    let plans = map plan_text net.plans in
    let m1 : t1 ≡ last_members net.tfr = h1 ∙ rw (h0, e2) refl in
    let m2 : t2 ≡ pairs_on pairs plans points sets net.tfr = h2 ∙ ap (insert_arrays net) m1 ∙ arrays_first net in
    let m3 : t3 ≡ member (codes "ni") (integer (pos net.ni)) (pairs_on pairs plans points sets net.tfr) = h3 ∙ rw (m2, e1) (ni_first pairs plans points sets net.tfr (integer (pos net.ni))) in
    h4 ∙ ap (insert_member (codes "format") (integer (pos 2))) m3

-- ---- texts in an array aren't deep

texts_depth : (ts : List (List ℕ)) → items_depth (items_of (map string ts)) ≡ 0
texts_depth [] = refl
texts_depth (t ∷ ts) = ap (λ n. max 0 n) (texts_depth ts)

low_with : (k : List ℕ) (ts : List (List ℕ)) (ms : Members) → members_depth ms ≤ 80 → members_depth (with_entries k ts ms) ≤ 80
low_with k [] ms h = h
low_with k (t ∷ ts) ms h = rw (texts_depth ts) (max-le (lit≤ tt) h)

pub document_depth : (net : Network) → members_depth (document_of net) ≤ 80
document_depth net =
    let end = low_with (codes "sets") (map set_text net.sets) (last_members net.tfr) (lit≤ tt) in
    let from_points = low_with (codes "points") (map point_text net.points) (sets_on (map set_text net.sets) net.tfr) end in
    let from_plans = low_with (codes "plans") (map plan_text net.plans) (points_on (map point_text net.points) (map set_text net.sets) net.tfr) from_points in
    let from_pairs = low_with (codes "pairs") (flat_map pair_texts net.points) (plans_on (map plan_text net.plans) (map point_text net.points) (map set_text net.sets) net.tfr) from_plans in
    max-le (lit≤ tt) (max-le (lit≤ tt) from_pairs)
