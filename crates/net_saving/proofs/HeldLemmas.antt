-- What the keys of the document of a network hold.
use Rattle.std.proofs.Common.{◌≡◌, ℕ, ◌<◌, Bool, true, false, leb, List, [], ◌∷◌, map, Option, None, Ok, codes, Ordering, Less, Equal, Greater, ap, refl, ◌∙◌, arith}
use Rattle.std.proofs.lemmas.Bool.Decides.{nat_tests}
use Rattle.std.specs.List.{list_all, flat_map}
use Rattle.std.specs.Ordering.{nat_cmp, match_ordering}
use Rattle.std.specs.Cmp.Lexicographic.{slice_cmp}
use Rattle.toml.specs.Data.{Data, Members, get_member, string}
use Rattle.toml.specs.View.{items_of}
use Rattle.net_data.specs.Network.{Network}
use Rattle.tokens.specs.declared.marked.Format.TheVariants.{Two}
use Rattle.net_text.specs.Keys.{Held, at, unsigned_of, keys_format, is_known, has_known_keys, format_from, ni_from, tfr_from, texts_from, list_of, is_text, text_of, held_by}
use Rattle.net_text.specs.declared.faults.Key.{Key}
use Rattle.net_text.specs.declared.faults.Key.TheVariants.{Points, Pairs, Sets, Plans}
use Rattle.tokens.specs.Entries.{point_text, set_text, plan_text}
use Rattle.net_saving.specs.Writing.{with_entries, document_of, pair_texts}
use Rattle.net_saving.proofs.TableLemmas.{last_members, sets_on, points_on, plans_on}

-- ---- one key

abbrev differ : Ordering → Bool
differ Equal = false
differ _ = true

either_way : (o : Ordering) (x y : Option Data) → differ o ≡ true → match_ordering o x y x ≡ x
either_way Less x y h = refl
either_way Equal x y h = absurd (cc)
either_way Greater x y h = refl

-- another key is passed over
passed : (k l : List ℕ) (ts : List (List ℕ)) (ms : Members) → differ (slice_cmp nat_cmp k l) ≡ true → get_member k (with_entries l ts ms) ≡ get_member k ms
passed k l [] ms h = refl
passed k l (t ∷ ts) ms h = either_way (slice_cmp nat_cmp k l) (get_member k ms) _ h

texts_are : (ts : List (List ℕ)) → list_all is_text (list_of (items_of (map string ts))) ≡ true
texts_are [] = refl
texts_are (t ∷ ts) = texts_are ts

texts_back : (ts : List (List ℕ)) → map text_of (list_of (items_of (map string ts))) ≡ ts
texts_back [] = refl
texts_back (t ∷ ts) = ap (λ l. t ∷ l) (texts_back ts)

-- the entries at their key
found : (key : Key) (k : List ℕ) (ts : List (List ℕ)) (ms : Members) → slice_cmp nat_cmp k k ≡ Equal → get_member k ms ≡ None → texts_from key (get_member k (with_entries k ts ms)) ≡ Ok ts
found key k [] ms same none = ap (texts_from key) none
found key k (t ∷ ts) ms same none = rw (same, texts_are ts, texts_back ts) refl

known : (k : List ℕ) (ts : List (List ℕ)) (ms : Members) → is_known Two k ≡ true → has_known_keys Two ms ≡ true → has_known_keys Two (with_entries k ts ms) ≡ true
known k [] ms h rest = rest
known k (t ∷ ts) ms h rest = rw (h, rest) refl

-- ---- all keys

abbrev pub held_of : Network → Held
held_of net = record {
  format = Two;
  ni = net.ni;
  tfr = net.tfr;
  points = map point_text net.points;
  pairs = flat_map pair_texts net.points;
  sets = map set_text net.sets;
  plans = map plan_text net.plans;
}

held_with : (doc : Members) (h : Held) → keys_format (unsigned_of (at (codes "format") doc)) ≡ Two → has_known_keys Two doc ≡ true → format_from (unsigned_of (at (codes "format") doc)) ≡ Ok h.format
    → ni_from (unsigned_of (at (codes "ni") doc)) ≡ Ok h.ni → tfr_from (at (codes "tfr") doc) ≡ Ok h.tfr → texts_from Points (at (codes "points") doc) ≡ Ok h.points → texts_from Pairs (at (codes "pairs") doc) ≡ Ok h.pairs
    → texts_from Sets (at (codes "sets") doc) ≡ Ok h.sets → texts_from Plans (at (codes "plans") doc) ≡ Ok h.plans → held_by doc ≡ Ok h
held_with doc h two known format ni tfr points pairs sets plans = rw (two, known, format, ni, tfr, points, pairs, sets, plans) refl

low_ni : (n : ℕ) → n < 4 → leb n 3 ≡ true
low_ni n h = grind (arith, nat_tests)

pub held_back : (net : Network) → net.ni < 4 → held_by (document_of net) ≡ Ok (held_of net)
held_back net small =
    let ps = map point_text net.points in
    let qs = flat_map pair_texts net.points in
    let ss = map set_text net.sets in
    let ls = map plan_text net.plans in
    let end = last_members net.tfr in
    let from_sets = sets_on ss net.tfr in
    let from_points = points_on ps ss net.tfr in
    let from_plans = plans_on ls ps ss net.tfr in
    held_with (document_of net) (held_of net) refl
    (known (codes "pairs") qs from_plans refl (known (codes "plans") ls from_points refl (known (codes "points") ps from_sets refl (known (codes "sets") ss end refl refl))))
    refl (rw (low_ni net.ni small) refl)
    (ap tfr_from (passed (codes "tfr") (codes "pairs") qs from_plans refl ∙ passed (codes "tfr") (codes "plans") ls from_points refl ∙ passed (codes "tfr") (codes "points") ps from_sets refl ∙ passed (codes "tfr") (codes "sets") ss end refl))
    (ap (texts_from Points) (passed (codes "points") (codes "pairs") qs from_plans refl ∙ passed (codes "points") (codes "plans") ls from_points refl)
    ∙ found Points (codes "points") ps from_sets refl (passed (codes "points") (codes "sets") ss end refl))
    (found Pairs (codes "pairs") qs from_plans refl (passed (codes "pairs") (codes "plans") ls from_points refl ∙ passed (codes "pairs") (codes "points") ps from_sets refl ∙ passed (codes "pairs") (codes "sets") ss end refl))
    (ap (texts_from Sets) (passed (codes "sets") (codes "pairs") qs from_plans refl ∙ passed (codes "sets") (codes "plans") ls from_points refl ∙ passed (codes "sets") (codes "points") ps from_sets refl)
    ∙ found Sets (codes "sets") ss end refl refl)
    (ap (texts_from Plans) (passed (codes "plans") (codes "pairs") qs from_plans refl)
    ∙ found Plans (codes "plans") ls from_points refl (passed (codes "plans") (codes "points") ps from_sets refl ∙ passed (codes "plans") (codes "sets") ss end refl))
