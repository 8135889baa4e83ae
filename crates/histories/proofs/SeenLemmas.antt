-- What a seat saw, as a part of the one history, and the numbers of events.
use Rattle.std.proofs.Common.{◌≡◌, ℕ, ◌+◌, ◌<◌, suc, Bool, true, false, List, [], ◌∷◌, ◌++◌, Option, Some, None, Ok, refl, sym, ap, ◌∙◌, subst, length, append-nil, append_assoc}
use mathlib.Core.List.{IsPrefix}
use Rattle.net_data.specs.declared.events.Event.{Event}
use Rattle.net_data.specs.Network.{Network}
use Rattle.net_versions.specs.Versions.{VersionValue}
use Rattle.work_units.specs.declared.replies.Posted.{Posted}
use Rattle.work_units.specs.declared.replies.Posted.TheVariants.{Again, Taken}
use Rattle.work_units.specs.declared.replies.Refusal.{Refusal}
use Rattle.desk_core.specs.declared.posts.Last.{Last}
use Rattle.net_data.specs.Edits.{replay}
use Rattle.desk_core.specs.Desk.{DeskValue, accepted, new_desk}
use Rattle.desk_core.specs.Steps.{IsPost, IsReply, Posts, is_last, last_of, post_refusal, repeated, with_post}
use Rattle.seats.specs.Minutes.{AreBelow, SeatValue, sight}
use Rattle.seats.specs.declared.rule.Sight.{Sight}
use Rattle.versions.specs.Working.{Comes, ComesAndDoes, Follow, IsHistory, IsWholeHistory, last_sight, left_at}
use Rattle.versions.specs.declared.state.DeskAndChain.{DeskAndChain}
use Rattle.histories.specs.Right.{AreRight}
use Rattle.versions.specs.Authors.{Authored, all_by, authored, authored_in, events_in, events_of, taken_between}
use Rattle.versions.proofs.EventLemmas.{post_events, worked_events}
use Rattle.versions.proofs.AuthorLemmas.{authored_append, between}
use Rattle.versions.proofs.SeatLemmas.{left_push}
use Rattle.histories.specs.Histories.{AreOfSeats, AreRightSights, IsEnded, IsExplained, IsNth, IsOpened, IsRightHub, IsSeen}
use Rattle.histories.proofs.CountLemmas.{Counts, run_counts}
use Rattle.histories.proofs.ExplainLemmas.{Goes, Right, by_workers, first_right, goes, history_explains}
use Rattle.histories.proofs.KeepLemmas.{new_is_steady}

-- ---- a part of the history

prefix_then : (xs ys zs : List VersionValue) → IsPrefix xs ys → IsPrefix ys zs → IsPrefix xs zs
prefix_then xs ys zs p q = (p.0 ++ q.0, sym (append_assoc xs p.0 q.0) ∙ (ap (λ (l : List VersionValue). l ++ q.0) p.1 ∙ q.1))

right_front : (start : Network) (x : Sight DeskAndChain) (xs ys : List (Sight DeskAndChain)) → AreRightSights start x (xs ++ ys) → IsRightHub start (last_sight x xs).state
right_front start x [] [] h = h
right_front start x [] (y ∷ ys) h = h.0
right_front start x (z ∷ zs) ys h = right_front start z zs ys h.3

chain_to_last : (start : Network) (x : Sight DeskAndChain) (xs : List (Sight DeskAndChain)) → AreRightSights start x xs → IsPrefix x.state.shown.chain (last_sight x xs).state.shown.chain
chain_to_last start x [] h = ([], append-nil x.state.shown.chain)
chain_to_last start x (y ∷ ys) h = prefix_then x.state.shown.chain y.state.shown.chain (last_sight y ys).state.shown.chain h.2 (chain_to_last start y ys h.3)

chain_from : (start : Network) (x : Sight DeskAndChain) (xs ys : List (Sight DeskAndChain)) → AreRightSights start x (xs ++ ys)
    → IsPrefix (last_sight x xs).state.shown.chain (last_sight x (xs ++ ys)).state.shown.chain
chain_from start x [] ys h = chain_to_last start x ys h
chain_from start x (z ∷ zs) ys h = chain_from start z zs ys h.3

pub seen_in : (start : Network) (saw since : List (Sight DeskAndChain)) → IsOpened start saw → IsHistory (saw ++ since) → IsSeen start saw (saw ++ since)
seen_in start [] since opened is = absurd opened
seen_in start (x ∷ xs) since opened is =
    let h : IsExplained start x (xs ++ since) = history_explains start x (xs ++ since) opened is in
    record {
      right = right_front start x xs since h.sights;
      chain = chain_from start x xs since h.sights;
      events = (authored (last_sight x xs) since, sym (authored_append x xs since));
    }

-- ---- the numbers of events

-- the number of a post that is taken
abbrev number_of : Posted → ℕ
number_of (Taken number) = number
number_of (Again number) = number

posted_number : (s t : DeskValue) (collector seq : ℕ) (event : Event) (number : ℕ) → Posts s collector seq event (Ok (Taken number)) t → number ≡ accepted s + 1
posted_number s t collector seq event number = go (is_last s collector seq)
  where
    again : (last : Last) (same : Bool) → Ok (Taken number) ≡ repeated last same → number ≡ accepted s + 1
    again last true is = absurd (cc is)
    again last false is = absurd (cc is)

    fresh : (o : Option Refusal) → IsReply o (λ answer after. (answer ≡ Taken (accepted s + 1)) × (after ≡ with_post s collector seq event)) s (Ok (Taken number)) t → number ≡ accepted s + 1
    fresh (Some refusal) is = absurd (cc (is.0))
    fresh None is = ap number_of is.0

    go : (b : Bool) → IsPost b s collector seq event (Ok (Taken number)) t → number ≡ accepted s + 1
    go true is = again (last_of s collector) is.0 is.2
    go false is = fresh (post_refusal s collector seq event) is

as_many : (all : List Authored) → length (events_in all) ≡ length all
as_many [] = refl
as_many (a ∷ more) = ap suc (as_many more)

pub opened_more : (start : Network) (xs ys : List (Sight DeskAndChain)) → IsOpened start xs → IsOpened start (xs ++ ys)
opened_more start [] ys opened = absurd opened
opened_more start (x ∷ xs) ys opened = opened

-- so many events are accepted at the last sight as came through all seats
counted : (start : Network) (log : List (Sight DeskAndChain)) → IsOpened start log → IsHistory log → accepted (left_at log).desk ≡ length (authored_in log)
counted start [] opened is = absurd opened
counted start (x ∷ xs) opened is =
    let h : IsExplained start x xs = history_explains start x xs opened is in
    let right : IsRightHub start (last_sight x xs).state =
    right_front start x xs [] (subst (AreRightSights start x) (sym (append-nil xs)) h.sights) in
    right.count ∙ ap (length {A = Event}) h.events ∙ as_many (authored x xs)

authored_push : (log : List (Sight DeskAndChain)) (me : ℕ) (t : DeskAndChain) → IsHistory log → authored_in (log ++ sight me t ∷ []) ≡ authored_in log ++ all_by me (taken_between (left_at log) t)
authored_push [] me t is = absurd is
authored_push (x ∷ xs) me t is =
    authored_append x xs (sight me t ∷ []) ∙ ap (λ (l : List Authored). authored x xs ++ l) (append-nil (all_by me (taken_between (last_sight x xs).state t)))

-- an event by this seat
abbrev one_by : ℕ → Event → Authored
one_by me event = record { by = me; event = event }

pub nth_taken : (start : Network) (seats : ℕ) (old new : SeatValue DeskAndChain) (found left : DeskAndChain) (collector seq : ℕ) (event : Event) (number : ℕ) → IsOpened start old.saw
    → ComesAndDoes seats old found left new → Posts found.desk collector seq event (Ok (Taken number)) left.desk → left.shown ≡ found.shown
    → IsNth (authored_in new.saw) number (record { by = old.me; event = event })
nth_taken start seats old new found left collector seq event number opened came made shown =
    let there : SeatValue DeskAndChain = came.0 in
    let comes : Comes seats old found there = came.1 in
    let me : there.me ≡ old.me = ap (λ (s : SeatValue DeskAndChain). s.me) comes.saw in
    let saw : there.saw ≡ (old.saw ++ comes.since) ++ sight old.me found ∷ [] = ap (λ (s : SeatValue DeskAndChain). s.saw) comes.saw in
    let at : left_at there.saw ≡ found = ap left_at saw ∙ left_push (old.saw ++ comes.since) (sight old.me found) in
    let more : taken_between found left ≡ event ∷ [] = between found left (event ∷ []) (post_events found left collector seq event (Ok (Taken number)) made shown) in
    let first : IsOpened start there.saw = subst (IsOpened start) (sym saw) (opened_more start (old.saw ++ comes.since) (sight old.me found ∷ []) (opened_more start old.saw comes.since opened)) in
    let count : accepted found.desk ≡ length (authored_in there.saw) = ap (λ (s : DeskAndChain). accepted s.desk) (sym at) ∙ counted start there.saw first comes.history in
    let next : number ≡ accepted found.desk + 1 = posted_number found.desk left.desk collector seq event number made in
    record {
      before = authored_in there.saw;
      later = [];
      whole =
          ap (λ (s : SeatValue DeskAndChain). authored_in s.saw) came.2
          ∙ authored_push there.saw there.me left comes.history
          ∙ (λ i. authored_in there.saw ++ all_by (me i) ((ap (λ (s : DeskAndChain). taken_between s left) at ∙ more) i));
      counted = next ∙ ap (λ n. n + 1) count;
    }

pub nth_later : (all more : List Authored) (number : ℕ) (one : Authored) → IsPrefix all more → IsNth all number one → IsNth more number one
nth_later all more number one prefix is = record {
  before = is.before;
  later = is.later ++ prefix.0;
  whole = sym prefix.1 ∙ ap (λ (l : List Authored). l ++ prefix.0) is.whole ∙ append_assoc is.before (one ∷ is.later) prefix.0;
  counted = is.counted;
}

-- ---- whose events they are

of_all_by : (seats me : ℕ) (es : List Event) → me < seats → AreOfSeats seats (all_by me es)
of_all_by seats me [] low = tt
of_all_by seats me (e ∷ es) low = (low, of_all_by seats me es low)

of_append : (seats : ℕ) (xs ys : List Authored) → AreOfSeats seats xs → AreOfSeats seats ys → AreOfSeats seats (xs ++ ys)
of_append seats [] ys a b = b
of_append seats (x ∷ xs) ys a b = (a.0, of_append seats xs ys a.1 b)

of_later : (seats : ℕ) (x : Sight DeskAndChain) (xs : List (Sight DeskAndChain)) → AreBelow seats xs → AreOfSeats seats (authored x xs)
of_later seats x [] below = tt
of_later seats x (y ∷ ys) below =
    of_append seats (all_by y.by (taken_between x.state y.state)) (authored y ys) (of_all_by seats y.by (taken_between x.state y.state) below.0) (of_later seats y ys below.1)

-- ---- the end

-- all is kept at the last sight
right_last : (start : Network) (x : Sight DeskAndChain) (xs : List (Sight DeskAndChain)) → Right start x.state → Follow x xs → Right start (last_sight x xs).state
right_last start x [] h follow = h
right_last start x (y ∷ ys) h follow = right_last start y ys (goes start x y h follow.0).right follow.1

pub ended : (start : Network) (seats : ℕ) (log : List (Sight DeskAndChain)) (state : DeskAndChain) → IsOpened start log → IsWholeHistory seats log state → IsEnded start seats log state
ended start seats [] state opened whole = absurd opened
ended start seats (x ∷ xs) state opened whole =
    let last : DeskAndChain = (last_sight x xs).state in
    let kept : Right start last = right_last start x xs (first_right start x.state opened) whole.history in
    let end : Goes start last state = by_workers start last state kept whole.since in
    let events : events_of state ≡ events_in (authored x xs) = worked_events last state whole.since ∙ (history_explains start x xs opened whole.history).events in
    let counts : Counts (new_desk start) (events_of state) state.desk = run_counts (new_desk start) state.desk (events_of state) (new_is_steady start) end.right.came in
    record {
      right = subst (λ (es : List Event). AreRight (new_desk start) es None state.shown.chain) events end.right.are;
      chain = end.chain;
      network = counts.net ∙ ap (replay start) events;
      authors = of_later seats x xs whole.below.1;
    }
