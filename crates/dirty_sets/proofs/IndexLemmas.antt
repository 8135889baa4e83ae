-- An index follows the network.
use Rattle.std.proofs.Common.{◌≡◌, ℕ, ◌<◌, ◌≤◌, Bool, true, false, not, ◌&&◌, ◌||◌, eqb, ltb, Option, Some, None, is_some, List, map, cond, refl, ap, sym, ◌∙◌, subst, arith}
use Rattle.std.specs.List.{AllZip}
use Rattle.std.specs.Option.{option_map_or, option_map}
use Rattle.std.proofs.lemmas.Bool.{not-false, ltb-false, eqb-true, eq-eqb}
use Rattle.std.proofs.lemmas.Bool.Decides.{nat_tests}
use Rattle.net_items.specs.declared.items.LinkSet.{LinkSet}
use Rattle.net_items.specs.declared.items.Plan.{Plan}
use Rattle.net_items.specs.Keyed.{IsRising, at_key, put, without}
use Rattle.net_items.specs.Lookups.{has_point, mate_of, set_at, plan_at, set_between}
use Rattle.net_items.proofs.KeyedLemmas.{at_key-put, at_key-without, found_holds}
use Rattle.net_sets.specs.Sets.{is_nil}
use Rattle.net_data.specs.declared.events.Event.{Event}
use Rattle.net_data.specs.declared.events.Event.TheVariants as on
use Rattle.net_data.specs.Network.{Network}
use Rattle.net_data.specs.Valid.{IsValid, IsRightSet}
use Rattle.net_data.specs.Edits.{refusal_of, changed, in_order, takes_none, set_mate}
use Rattle.net_data.proofs.PreservationLemmas.{when_none, or_none, not_some}
use Rattle.excerpts.specs.Excerpt.{is_read_by}
use Rattle.dirty_sets.specs.declared.readers.Reader.{Reader}
use Rattle.dirty_sets.specs.Bits.{is_marked, meets}
use Rattle.dirty_sets.specs.Touch.{Reads, IsTouchIndex, is_planned, reads_set, sets_plan, touches}
use Rattle.dirty_sets.specs.Index.{IsWithId, IsReaderOf, bare_set, reads_among, reads_any, reads_of, would_read}
use Rattle.dirty_sets.specs.Kept.{is_on_set, keeps_reads}
use Rattle.dirty_sets.proofs.ChangeLemmas.{option_same, key_of, read_in_order, reads_none, reads-Link, reads-AddLink, reads-RemoveLink, reads-AddSet, reads-RemoveSet, reads-AddPoint, reads-RemovePoint, reads-Pair, reads-Unpair, reads-SetPlan, reads-DropPlan}
use Rattle.dirty_sets.proofs.ReaderLemmas.{put_keys, without_keys, same_keys, planned_test, readers-planned, readers-reads, with_id-planned, with_id-reads}

eqb_back : (a b : ℕ) → eqb a b ≡ eqb b a
eqb_back a b = grind (arith, nat_tests)

-- an event that may add a plan takes memory
pub takes-plan : (event : Event) → sets_plan event ≡ true → takes_none event ≡ false
takes-plan (on.SetPlan plan) e = refl
takes-plan (on.Link id slc change) e = absurd (cc)
takes-plan (on.AddPoint c kind) e = absurd (cc)
takes-plan (on.RemovePoint c) e = absurd (cc)
takes-plan (on.Pair p q) e = absurd (cc)
takes-plan (on.Unpair p) e = absurd (cc)
takes-plan (on.AddSet id a b slcs) e = absurd (cc)
takes-plan (on.RemoveSet id) e = absurd (cc)
takes-plan (on.AddLink id slc) e = absurd (cc)
takes-plan (on.RemoveLink id slc) e = absurd (cc)
takes-plan (on.DropPlan dest) e = absurd (cc)
takes-plan (on.SetTfr tfr) e = absurd (cc)

-- the readers of all plans
pub index_of : (net : Network) (readers : List Reader) (room : ℕ) → AllZip (IsReaderOf net.points net.sets) net.plans readers → IsTouchIndex net (reads_of (record { readers = readers; room = room }))
index_of net readers room all = record {
  planned = readers-planned net.points net.sets net.plans readers all;
  reads = λ x id small. readers-reads net.points net.sets net.plans readers x id all;
}

-- an index tells the same of a network that reads the same
module _ (net : Network) (index : Reads) (old : IsTouchIndex net index) where
  same_index : (other : Network) → other.plans ≡ net.plans → ((x id : ℕ) → reads_set other x id ≡ reads_set net x id) → IsTouchIndex other index
  same_index other plans same = record {
    planned = old.planned ∙ ap (map (λ (p : Plan). p.dest)) (sym plans);
    reads = λ x id small. old.reads x id small ∙ sym (same x id);
  }

  unpaired : (p : ℕ) (o : Option ℕ) → (option_map_or (λ m. record net { points = set_mate p None (set_mate m None net.points) }) o net).plans ≡ net.plans
  unpaired p None = refl
  unpaired p (Some m) = refl

  pub kept : IsValid net → (event : Event) → refusal_of net event ≡ None → keeps_reads event ≡ true → IsTouchIndex (changed net event) index
  kept v (on.Link id slc change) none e = same_index (changed net (on.Link id slc change)) refl (reads-Link net id slc change)
  kept v (on.AddPoint c kind) none e = same_index (changed net (on.AddPoint c kind)) refl (reads-AddPoint net v c kind none)
  kept v (on.RemovePoint c) none e = same_index (changed net (on.RemovePoint c)) refl (reads-RemovePoint net v c none)
  kept v (on.Pair p q) none e = same_index (changed net (on.Pair p q)) refl (reads-Pair net v p q)
  kept v (on.Unpair p) none e = same_index (changed net (on.Unpair p)) (unpaired p (mate_of net.points p)) (reads-Unpair net v p)
  kept v (on.AddLink id slc) none e = same_index (changed net (on.AddLink id slc)) refl (reads-AddLink net id slc)
  kept v (on.RemoveLink id slc) none e = same_index (changed net (on.RemoveLink id slc)) refl (reads-RemoveLink net id slc)
  kept v (on.SetTfr tfr) none e = same_index (changed net (on.SetTfr tfr)) refl (λ x id. refl)
  kept v (on.AddSet id a b slcs) none e = absurd (cc)
  kept v (on.RemoveSet id) none e = absurd (cc)
  kept v (on.SetPlan plan) none e = absurd (cc)
  kept v (on.DropPlan dest) none e = absurd (cc)

-- ---- the index changes with the network

module _ (net : Network) (readers : List Reader) (room : ℕ) (old : IsTouchIndex net (reads_of (record { readers = readers; room = room }))) where
  -- a planned destination has a reader
  pub some_reader : (x : ℕ) → is_some (at_key (λ (r : Reader). r.dest) x readers) ≡ is_planned net x
  some_reader x = same_keys (λ (r : Reader). r.dest) (λ (p : Plan). p.dest) x readers net.plans old.planned

  pub index-AddSet : (id a b : ℕ) (news : List Reader) (left : ℕ) → AllZip (IsWithId id (would_read net (bare_set id a b))) readers news → (slcs : List ℕ) → IsTouchIndex (changed net (on.AddSet id a b slcs)) (reads_of (record { readers = news; room = left }))
  index-AddSet id a b news left all slcs = record {
    planned = with_id-planned id (would_read net (bare_set id a b)) readers news all ∙ old.planned;
    reads = λ x n small.
        with_id-reads id (would_read net (bare_set id a b)) readers news x n all
        ∙ (ap (λ t. cond (eqb n id) t (reads_among readers x n)) (planned_test net.plans readers (λ (p : Plan). is_read_by net.points p (bare_set id a b)) x old.planned)
        ∙ (ap (λ t. cond (eqb n id) (would_read net (bare_set id a b) x) t) (old.reads x n small)
        ∙ (ap (λ c. cond c (would_read net (bare_set id a b) x) (reads_set net x n)) (eqb_back n id)
        ∙ sym (reads-AddSet net id a b slcs x n))));
  }

  none_at : (c t : Bool) (u : Bool) → cond c (t && false) u ≡ cond c false u
  none_at c true u = refl
  none_at c false u = refl

  pub index-RemoveSet : IsValid net → (id : ℕ) (news : List Reader) (left : ℕ) → AllZip (IsWithId id (λ (x : ℕ). false)) readers news → IsTouchIndex (changed net (on.RemoveSet id)) (reads_of (record { readers = news; room = left }))
  index-RemoveSet v id news left all = record {
    planned = with_id-planned id (λ (x : ℕ). false) readers news all ∙ old.planned;
    reads = λ x n small.
        with_id-reads id (λ (x : ℕ). false) readers news x n all
        ∙ (none_at (eqb n id) (is_some (at_key (λ (r : Reader). r.dest) x readers)) (reads_among readers x n)
        ∙ (ap (λ t. cond (eqb n id) false t) (old.reads x n small)
        ∙ (ap (λ c. cond c false (reads_set net x n)) (eqb_back n id)
        ∙ sym (reads-RemoveSet net v id x n))));
  }

  pub index-SetPlan : IsValid net → (p : Plan) → refusal_of net (on.SetPlan p) ≡ None → (ids : List Bool) → ((n : ℕ) → is_marked ids n ≡ option_map_or (is_read_by net.points p) (set_at net.sets n) false)
      → (news : List Reader) (left : ℕ) → news ≡ put (λ (r : Reader). r.dest) (record { dest = p.dest; ids = ids }) readers → IsTouchIndex (changed net (on.SetPlan p)) (reads_of (record { readers = news; room = left }))
  index-SetPlan v p none ids right news left is = record {
    planned = ap (map (λ (r : Reader). r.dest)) is ∙ put_keys (λ (r : Reader). r.dest) (λ (q : Plan). q.dest) one (record p { rows = in_order p.rows }) readers net.plans old.planned refl;
    reads = λ x n small.
        ap (λ rs. reads_among rs x n) is
        ∙ (ap (λ o. option_map_or (λ (r : Reader). is_marked r.ids n) o false) (at_key-put (λ (r : Reader). r.dest) one readers x)
        ∙ (go (eqb p.dest x) x n (old.reads x n small)
        ∙ sym (reads-SetPlan net v p x n)));
  }
    where
      one : Reader
      one = record { dest = p.dest; ids = ids }

      sorted : (n : ℕ) → is_marked ids n ≡ option_map_or (is_read_by net.points (record p { rows = in_order p.rows })) (set_at net.sets n) false
      sorted n = right n ∙ sym (option_same _ _ (set_at net.sets n) (λ s e. read_in_order net p none s))

      go : (c : Bool) (x n : ℕ) → reads_among readers x n ≡ reads_set net x n
          → option_map_or (λ (r : Reader). is_marked r.ids n) (cond c (Some one) (at_key (λ (r : Reader). r.dest) x readers)) false
          ≡ cond c (option_map_or (is_read_by net.points (record p { rows = in_order p.rows })) (set_at net.sets n) false) (reads_set net x n)
      go true x n same = sorted n
      go false x n same = same

  pub index-DropPlan : IsValid net → (dest : ℕ) → IsRising (λ (r : Reader). r.dest) readers → (news : List Reader) (left : ℕ) → news ≡ without (λ (r : Reader). r.dest) dest readers → IsTouchIndex (changed net (on.DropPlan dest)) (reads_of (record { readers = news; room = left }))
  index-DropPlan v dest up news left is = record {
    planned = ap (map (λ (r : Reader). r.dest)) is ∙ without_keys (λ (r : Reader). r.dest) (λ (q : Plan). q.dest) dest readers net.plans old.planned;
    reads = λ x n small.
        ap (λ rs. reads_among rs x n) is
        ∙ (ap (λ o. option_map_or (λ (r : Reader). is_marked r.ids n) o false) (at_key-without (λ (r : Reader). r.dest) dest readers x up)
        ∙ (go (eqb dest x) x n (old.reads x n small)
        ∙ sym (reads-DropPlan net v dest x n)));
  }
    where
      go : (c : Bool) (x n : ℕ) → reads_among readers x n ≡ reads_set net x n
          → option_map_or (λ (r : Reader). is_marked r.ids n) (cond c None (at_key (λ (r : Reader). r.dest) x readers)) false ≡ cond c false (reads_set net x n)
      go true x n same = refl
      go false x n same = same

-- ---- what an event touches

module _ (net : Network) (v : IsValid net) where
  small_set : (id : ℕ) → is_some (set_at net.sets id) ≡ true → id < 4096
  small_set id there = go (set_at net.sets id) refl there
    where
      go : (o : Option LinkSet) → set_at net.sets id ≡ o → is_some o ≡ true → id < 4096
      go None e h = absurd (cc)
      go (Some s) e h =
          let right = found_holds (λ (s : LinkSet). s.id) (IsRightSet net.points) id net.sets s v.sets_right e in
          let key : s.id ≡ id = key_of (λ (s : LinkSet). s.id) id net.sets s e in
          let few : s.id ≤ 4095 = right.small in
          omega arith

  -- an accepted event is on a set of a small id
  pub small_id : (n : ℕ) (event : Event) → refusal_of net event ≡ None → is_on_set n event ≡ true → n < 4096
  small_id n (on.Link id slc change) none e = subst (λ m. m < 4096) (eqb-true id n e) (small_set id (not-false _ (when_none (not (is_some (set_at net.sets id))) _ _ none).0))
  small_id n (on.RemoveSet id) none e = subst (λ m. m < 4096) (eqb-true id n e) (small_set id (not-false _ (when_none (not (is_some (set_at net.sets id))) _ _ none).0))
  small_id n (on.AddLink id slc) none e = subst (λ m. m < 4096) (eqb-true id n e) (small_set id (not-false _ (when_none (not (is_some (set_at net.sets id))) _ _ none).0))
  small_id n (on.RemoveLink id slc) none e = subst (λ m. m < 4096) (eqb-true id n e) (small_set id (not-false _ (when_none (not (is_some (set_at net.sets id))) _ _ none).0))
  small_id n (on.AddPoint c kind) none e = absurd (cc)
  small_id n (on.RemovePoint c) none e = absurd (cc)
  small_id n (on.Pair p q) none e = absurd (cc)
  small_id n (on.Unpair p) none e = absurd (cc)
  small_id n (on.AddSet id a b slcs) none e = absurd (cc)
  small_id n (on.SetPlan plan) none e = absurd (cc)
  small_id n (on.DropPlan dest) none e = absurd (cc)
  small_id n (on.SetTfr tfr) none e = absurd (cc)

  twice : (b c : Bool) → c ≡ b → (b || c) ≡ b
  twice true c e = refl
  twice false c e = e

  gone : (b c : Bool) → c ≡ false → (b || c) ≡ b
  gone true c e = refl
  gone false c e = e

  at_id : (n id : ℕ) (x : ℕ) → eqb id n ≡ true → reads_set net x id ≡ reads_set net x n
  at_id n id x e = ap (reads_set net x) (eqb-true id n e)

  -- an event on a set that is there touches those that read it
  pub touches-set : (n : ℕ) (event : Event) → is_on_set n event ≡ true → (x : ℕ) → touches net event x ≡ reads_set net x n
  touches-set n (on.Link id slc change) e x = twice (reads_set net x id) _ (reads-Link net id slc change x id) ∙ at_id n id x e
  touches-set n (on.AddLink id slc) e x = twice (reads_set net x id) _ (reads-AddLink net id slc x id) ∙ at_id n id x e
  touches-set n (on.RemoveLink id slc) e x = twice (reads_set net x id) _ (reads-RemoveLink net id slc x id) ∙ at_id n id x e
  touches-set n (on.RemoveSet id) e x = gone (reads_set net x id) _ (reads-RemoveSet net v id x id ∙ rw (eq-eqb id id refl) refl) ∙ at_id n id x e
  touches-set n (on.AddPoint c kind) e x = absurd (cc)
  touches-set n (on.RemovePoint c) e x = absurd (cc)
  touches-set n (on.Pair p q) e x = absurd (cc)
  touches-set n (on.Unpair p) e x = absurd (cc)
  touches-set n (on.AddSet id a b slcs) e x = absurd (cc)
  touches-set n (on.SetPlan plan) e x = absurd (cc)
  touches-set n (on.DropPlan dest) e x = absurd (cc)
  touches-set n (on.SetTfr tfr) e x = absurd (cc)

-- a new set touches those that would read it
pub touches-AddSet : (net : Network) (id a b : ℕ) (slcs : List ℕ) → refusal_of net (on.AddSet id a b slcs) ≡ None → (x : ℕ) → touches net (on.AddSet id a b slcs) x ≡ would_read net (bare_set id a b) x
touches-AddSet net id a b slcs none x =
    let t1 = when_none (not (has_point net.points a && has_point net.points b)) _ _ none in
    let t2 = when_none (is_some (set_at net.sets id)) _ _ t1.1 in
    let before : reads_set net x id ≡ false = reads_none net x id (not_some (set_at net.sets id) t2.0) in
    rw before (reads-AddSet net id a b slcs x id ∙ rw (eq-eqb id id refl) refl)

-- a new set has a small id
pub small-AddSet : (net : Network) (id a b : ℕ) (slcs : List ℕ) → refusal_of net (on.AddSet id a b slcs) ≡ None → id < 4096
small-AddSet net id a b slcs none =
    let t1 = when_none (not (has_point net.points a && has_point net.points b)) _ _ none in
    let t2 = when_none (is_some (set_at net.sets id)) _ _ t1.1 in
    let t3 = or_none (option_map _ (set_between net.sets a b)) _ t2.1 in
    let t4 = when_none (eqb a b) _ _ t3.1 in
    let t5 = when_none (is_nil slcs || not _) _ _ t4.1 in
    let t6 = when_none (ltb 4095 id) _ _ t5.1 in
    let few : id ≤ 4095 = ltb-false 4095 id t6.0 in
    omega arith

-- a plan that is dropped is there
pub planned-DropPlan : (net : Network) (dest : ℕ) → refusal_of net (on.DropPlan dest) ≡ None → is_planned net dest ≡ true
planned-DropPlan net dest none =
    let t1 = when_none (not (has_point net.points dest)) _ _ none in
    let t2 = when_none (not (is_some (plan_at net.plans dest))) _ _ t1.1 in
    not-false _ t2.0

-- one more set that an event was on
pub reads_any-mark : (readers : List Reader) (old new : List Bool) (id x : ℕ) → ((others : List Bool) → meets new others ≡ (meets old others || is_marked others id))
    → reads_any readers new x ≡ (reads_any readers old x || reads_among readers x id)
reads_any-mark readers old new id x more = go (at_key (λ (r : Reader). r.dest) x readers)
  where
    go : (o : Option Reader) → option_map_or (λ (r : Reader). meets new r.ids) o false ≡ (option_map_or (λ (r : Reader). meets old r.ids) o false || option_map_or (λ (r : Reader). is_marked r.ids id) o false)
    go None = refl
    go (Some r) = more r.ids
