-- The events of the seats of a hub, one sight after the other.
use Rattle.std.proofs.Common.{◌≡◌, ◌≢◌, ℕ, ◌+◌, ◌-◌, ◌<◌, min, List, [], ◌∷◌, ◌++◌, Result, Ok, Err, inl, inr, refl, sym, ap, ◌∙◌, subst, length, drop, map, arith, append-nil, append_assoc, length-append}
use Rattle.std.specs.Prelude.{◌⊎◌, ◌==◌, ◌^◌, if◌then◌else◌, get_or, set, replicate}
use Rattle.std.specs.List.{range_with_len}
use Rattle.std.proofs.Math.Seq.{drop-append_seam}
use Rattle.std.proofs.lemmas.Bool.{cases_eq}
use Rattle.std.proofs.lemmas.Bool.Decides.{nat_tests}
use Rattle.std.proofs.lemmas.List.{get_or-replicate, get_or-set_other, get_or-set_same, length-replicate, length-set}
use Rattle.std.proofs.lemmas.List.FromFn.{fill_by_all, get_or-map-range_with_len, length-map-range_with_len}
use Rattle.net_data.specs.declared.events.Event.{Event}
use Rattle.work_units.specs.declared.replies.Posted.{Posted}
use Rattle.work_units.specs.declared.replies.Posted.TheVariants.{Again, Taken}
use Rattle.work_units.specs.declared.replies.Refusal.{Refusal}
use Rattle.desk_core.specs.declared.steps.Reply.TheVariants as reply
use Rattle.desk_core.specs.Runs.{event_taken}
use Rattle.desk_core.specs.Steps.{Posts}
use Rattle.seats.specs.Minutes.{MinutesValue, sight}
use Rattle.seats.specs.declared.rule.Sight.{Sight}
use Rattle.versions.specs.Authors.{Authored, all_by, authored, authored_in, count_of, counts_of, events_by, events_of, own_events, taken_between, was_taken}
use Rattle.versions.specs.Working.{IsHistory, IsWorkedOn, last_sight, left_at}
use Rattle.versions.specs.declared.state.DeskAndChain.{DeskAndChain}
use Rattle.versions.proofs.EventLemmas.{post_events, worked_events}

-- ---- the events of the seats

pub between : (s t : DeskAndChain) (more : List Event) → events_of t ≡ events_of s ++ more → taken_between s t ≡ more
between s t more is = ap (drop (length (events_of s))) is ∙ drop-append_seam (events_of s) more

pub by_append : (me : ℕ) (xs ys : List Authored) → events_by me (xs ++ ys) ≡ events_by me xs ++ events_by me ys
by_append me [] ys = refl
by_append me (x ∷ xs) ys =
    ap (λ (l : List Event). (if x.by == me then x.event ∷ [] else []) ++ l) (by_append me xs ys)
    ∙ sym (append_assoc (if x.by == me then x.event ∷ [] else []) (events_by me xs) (events_by me ys))

other_none : (me by : ℕ) (e : Event) → by ≢ me → (if by == me then e ∷ [] else []) ≡ []
other_none me by e apart = grind (arith, nat_tests)

own_one : (me : ℕ) (e : Event) → (if me == me then e ∷ [] else []) ≡ e ∷ []
own_one me e = grind (arith, nat_tests)

pub others_none : (me by : ℕ) (es : List Event) → by ≢ me → events_by me (all_by by es) ≡ []
others_none me by [] apart = refl
others_none me by (e ∷ es) apart = (λ i. other_none me by e apart i ++ others_none me by es apart i)

own_all : (me : ℕ) (es : List Event) → events_by me (all_by me es) ≡ es
own_all me [] = refl
own_all me (e ∷ es) = (λ i. own_one me e i ++ own_all me es i)

pub authored_append : (x : Sight DeskAndChain) (xs ys : List (Sight DeskAndChain)) → authored x (xs ++ ys) ≡ authored x xs ++ authored (last_sight x xs) ys
authored_append x [] ys = refl
authored_append x (z ∷ zs) ys =
    ap (λ (l : List Authored). all_by z.by (taken_between x.state z.state) ++ l) (authored_append z zs ys)
    ∙ sym (append_assoc (all_by z.by (taken_between x.state z.state)) (authored z zs) (authored (last_sight z zs) ys))

-- one sight more of one's own
pub own_push : (me : ℕ) (log : List (Sight DeskAndChain)) (t : DeskAndChain) → IsHistory log → own_events me (log ++ sight me t ∷ []) ≡ own_events me log ++ taken_between (left_at log) t
own_push me [] t is = absurd is
own_push me (x ∷ xs) t is =
    ap (events_by me) (authored_append x xs (sight me t ∷ []))
    ∙ by_append me (authored x xs) (all_by me (taken_between (last_sight x xs).state t) ++ [])
    ∙ ap (λ (l : List Event). events_by me (authored x xs) ++ l)
    (ap (events_by me) (append-nil (all_by me (taken_between (last_sight x xs).state t))) ∙ own_all me (taken_between (last_sight x xs).state t))

-- one sight more of another
other_push : (k me : ℕ) (log : List (Sight DeskAndChain)) (t : DeskAndChain) → IsHistory log → me ≢ k → own_events k (log ++ sight me t ∷ []) ≡ own_events k log
other_push k me [] t is apart = absurd is
other_push k me (x ∷ xs) t is apart =
    ap (events_by k) (authored_append x xs (sight me t ∷ []))
    ∙ by_append k (authored x xs) (all_by me (taken_between (last_sight x xs).state t) ++ [])
    ∙ ap (λ (l : List Event). events_by k (authored x xs) ++ l)
    (ap (events_by k) (append-nil (all_by me (taken_between (last_sight x xs).state t))) ∙ others_none k me (taken_between (last_sight x xs).state t) apart)
    ∙ append-nil (events_by k (authored x xs))

-- ---- how many they are

module _ (me : ℕ) (log : List (Sight DeskAndChain)) (t : DeskAndChain) (is : IsHistory log) where
  own_longer : (n : ℕ) → length (taken_between (left_at log) t) ≡ n → length (own_events me (log ++ sight me t ∷ [])) ≡ length (own_events me log) + n
  own_longer n more =
      ap (length {A = Event}) (own_push me log t is) ∙ length-append (own_events me log) (taken_between (left_at log) t) ∙ ap (λ (m : ℕ). length (own_events me log) + m) more

  -- of the seat that came and had one more event accepted
  own_count : length (taken_between (left_at log) t) ≡ 1 → count_of me (authored_in (log ++ sight me t ∷ [])) ≡ min (count_of me (authored_in log) + 1) (2 ^ 64 - 1)
  own_count more =
      let longer : length (own_events me (log ++ sight me t ∷ [])) ≡ length (own_events me log) + 1 = own_longer 1 more in
      omega arith

  -- of a seat where none was accepted
  same_count : (k : ℕ) → length (taken_between (left_at log) t) ≡ 0 → count_of k (authored_in (log ++ sight me t ∷ [])) ≡ count_of k (authored_in log)
  same_count k more = go (cases_eq me k)
    where
      go : (me ≡ k) ⊎ (me ≢ k) → count_of k (authored_in (log ++ sight me t ∷ [])) ≡ count_of k (authored_in log)
      go (inl same) = subst (λ (j : ℕ). count_of j (authored_in (log ++ sight me t ∷ [])) ≡ count_of j (authored_in log)) same (let longer : length (own_events me (log ++ sight me t ∷ [])) ≡ length (own_events me log) + 0 = own_longer 0 more in omega arith)
      go (inr apart) = ap (λ (l : List Event). min (length l) (2 ^ 64 - 1)) (other_push k me log t is apart)

  -- all counts after a sight that found no event more
  pub same_counts : (seats : ℕ) → length (taken_between (left_at log) t) ≡ 0 → counts_of seats (authored_in log) ≡ counts_of seats (authored_in (log ++ sight me t ∷ []))
  same_counts seats more = ap (λ (f : ℕ → ℕ). map f (range_with_len 0 seats)) (λ i k. sym (same_count k more) i)

  -- and after one that found one more
  pub more_counts : (seats : ℕ) → me < seats → length (taken_between (left_at log) t) ≡ 1
      → set (counts_of seats (authored_in log)) me (min (get_or (counts_of seats (authored_in log)) me 0 + 1) (2 ^ 64 - 1)) ≡ counts_of seats (authored_in (log ++ sight me t ∷ []))
  more_counts seats low more = fill_by_all (λ k. count_of k (authored_in (log ++ sight me t ∷ []))) new seats 0 long each
    where
      old : List ℕ
      old = counts_of seats (authored_in log)

      new : List ℕ
      new = set old me (min (get_or old me 0 + 1) (2 ^ 64 - 1))

      long_old : length old ≡ seats
      long_old = length-map-range_with_len (λ k. count_of k (authored_in log)) 0 seats

      long : length new ≡ seats
      long = length-set old me (min (get_or old me 0 + 1) (2 ^ 64 - 1)) ∙ long_old

      each : (k : ℕ) → k < seats → get_or new k 0 ≡ count_of k (authored_in (log ++ sight me t ∷ []))
      each k within = go (cases_eq me k)
        where
          at : (j : ℕ) → j < seats → get_or old j 0 ≡ count_of j (authored_in log)
          at j inside = get_or-map-range_with_len (λ k. count_of k (authored_in log)) 0 seats j j 0 inside (omega arith)

          go : (me ≡ k) ⊎ (me ≢ k) → get_or new k 0 ≡ count_of k (authored_in (log ++ sight me t ∷ []))
          go (inl same) =
              subst (λ (j : ℕ). get_or new j 0 ≡ count_of j (authored_in (log ++ sight me t ∷ []))) same
              (get_or-set_same old me (min (get_or old me 0 + 1) (2 ^ 64 - 1)) 0 (subst (λ (n : ℕ). me < n) (sym long_old) low)
              ∙ ap (λ (c : ℕ). min (c + 1) (2 ^ 64 - 1)) (at me low) ∙ sym (own_count more))
          go (inr apart) =
              get_or-set_other old me k (min (get_or old me 0 + 1) (2 ^ 64 - 1)) 0 (λ (same : k ≡ me). apart (sym same)) ∙ at k within
              ∙ sym (ap (λ (l : List Event). min (length l) (2 ^ 64 - 1)) (other_push k me log t is apart))

-- where there was one sight alone, no event was counted
pub no_counts : (seats : ℕ) (one : Sight DeskAndChain) → replicate seats 0 ≡ counts_of seats (authored_in (one ∷ []))
no_counts seats one = fill_by_all (λ k. count_of k (authored_in (one ∷ []))) (replicate seats 0) seats 0 (length-replicate seats 0) (λ k within. get_or-replicate seats k 0 0 within)

-- ---- the counts of a hub

-- nothing was accepted between two sights where only workers made steps
pub none_between : (s t : DeskAndChain) → IsWorkedOn s t → length (taken_between s t) ≡ 0
none_between s t w = ap (length {A = Event}) (between s t [] (worked_events s t w ∙ sym (append-nil (events_of s))))

-- a post was accepted, or nothing was
pub posted_between : (s t : DeskAndChain) (collector seq : ℕ) (event : Event) (result : Result Posted Refusal) → Posts s.desk collector seq event result t.desk → t.shown ≡ s.shown
    → length (taken_between s t) ≡ (if was_taken result then 1 else 0)
posted_between s t collector seq event result made shown =
    ap (length {A = Event}) (between s t (event_taken event (reply.Post result)) (post_events s t collector seq event result made shown)) ∙ long result
  where
    long : (r : Result Posted Refusal) → length (event_taken event (reply.Post r)) ≡ (if was_taken r then 1 else 0)
    long (Ok (Taken number)) = refl
    long (Ok (Again number)) = refl
    long (Err refusal) = refl

module _ (minutes after : MinutesValue DeskAndChain) (me number : ℕ) (t : DeskAndChain) (counts : List ℕ) (kept : counts ≡ counts_of minutes.seats (authored_in minutes.log)) where
  -- there is a count for each seat
  pub has_count : number ≡ me → me < minutes.seats → number < length counts
  has_count same low =
      let long : length counts ≡ minutes.seats = ap length kept ∙ length-map-range_with_len (λ k. count_of k (authored_in minutes.log)) 0 minutes.seats in
      omega arith

  module _ (told : after ≡ record minutes { log = minutes.log ++ sight me t ∷ [] }) (history : IsHistory minutes.log) where
    told_counts : counts_of minutes.seats (authored_in (minutes.log ++ sight me t ∷ [])) ≡ counts_of after.seats (authored_in after.log)
    told_counts = ap (λ (m : MinutesValue DeskAndChain). counts_of m.seats (authored_in m.log)) (sym told)

    -- they stay where nothing was accepted
    pub kept_same : length (taken_between (left_at minutes.log) t) ≡ 0 → counts ≡ counts_of after.seats (authored_in after.log)
    kept_same none = kept ∙ same_counts me minutes.log t history minutes.seats none ∙ told_counts

    -- and that of the seat grows where an event was
    pub kept_more : number ≡ me → me < minutes.seats → length (taken_between (left_at minutes.log) t) ≡ 1 → (new : List ℕ) → new ≡ set counts number (min (get_or counts number 0 + 1) (2 ^ 64 - 1))
        → new ≡ counts_of after.seats (authored_in after.log)
    kept_more same low one new is =
        is ∙ (λ i. set (kept i) (same i) (min (get_or (kept i) (same i) 0 + 1) (2 ^ 64 - 1))) ∙ more_counts me minutes.log t history minutes.seats low one ∙ told_counts
