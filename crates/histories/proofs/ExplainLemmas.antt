-- The one history of a hub explains what each of its guests saw.
use Rattle.std.proofs.Common.{◌≡◌, ℕ, ◌+◌, List, [], ◌∷◌, ◌++◌, Result, inl, inr, refl, sym, ap, ◌∙◌, subst, arith, append-nil, append_assoc}
use mathlib.Core.List.{IsPrefix}
use Rattle.net_data.specs.declared.events.Event.{Event}
use Rattle.net_data.specs.Network.{Network}
use Rattle.work_units.specs.declared.replies.Posted.{Posted}
use Rattle.work_units.specs.declared.replies.Refusal.{Refusal}
use Rattle.desk_core.specs.declared.steps.Step.TheVariants as step
use Rattle.desk_core.specs.declared.steps.Reply.TheVariants as reply
use Rattle.desk_core.specs.Desk.{new_desk}
use Rattle.desk_core.specs.Steps.{Posts}
use Rattle.desk_core.specs.Runs.{IsRunOf, event_taken}
use Rattle.desk_core.proofs.RunLemmas.{run_one}
use Rattle.seats.specs.Minutes.{NoneOf, OnlyOthersSince, SeatValue, sight}
use Rattle.seats.specs.declared.rule.Sight.{Sight}
use Rattle.versions.specs.Chains.{ChainPrefixValue}
use Rattle.versions.specs.Working.{Comes, ComesAndDoes, Follow, IsCall, IsHistory, IsWorkedOn, StepsTo, last_sight, left_at}
use Rattle.versions.specs.declared.state.DeskAndChain.{DeskAndChain}
use Rattle.versions.proofs.WorkedLemmas.{worked_keeps}
use Rattle.versions.proofs.AuthorLemmas.{authored_append, between, by_append, others_none, own_push}
use Rattle.versions.proofs.SeatLemmas.{left_push}
use Rattle.versions.specs.Authors.{Authored, all_by, authored, batches, events_by, events_in, events_of, own_events, taken_between}
use Rattle.versions.proofs.EventLemmas.{post_events, worked_events}
use Rattle.histories.specs.Histories.{AreRightSights, IsExplained, IsOpening, IsRightHub, IsTaken}
use Rattle.histories.proofs.CountLemmas.{Counts, post_publishes_none, run_counts}
use Rattle.histories.proofs.KeepLemmas.{Keeps, ends_same, keeps_opened, keeps_stay, keeps_worked, new_is_steady}

-- ---- what holds at each sight

-- all is kept, with the hub's own events
abbrev pub Right : Network → DeskAndChain → Type 0
Right start s = Keeps (new_desk start) (events_of s) s

first_events : (start : Network) (s : DeskAndChain) → IsOpening start s → events_of s ≡ []
first_events start s opens = λ i. batches (opens.chain i) ++ (opens.desk i).pending

pub first_right : (start : Network) (s : DeskAndChain) → IsOpening start s → Right start s
first_right start s opens = subst (λ (es : List Event). Keeps (new_desk start) es s) (sym (first_events start s opens)) (keeps_opened start s opens.desk opens.chain)

right_hub : (start : Network) (s : DeskAndChain) → Right start s → IsRightHub start s
right_hub start s h =
    let counts : Counts (new_desk start) (events_of s) s.desk = run_counts (new_desk start) s.desk (events_of s) (new_is_steady start) h.came in
    let count = counts.count in
    record { came = h.came; count = omega arith; right = h.are }

-- from one sight to the next
pub record Goes (start : Network) (s t : DeskAndChain) : Type 0 where
  pub right : Right start t
  pub more : List Event
  pub events : events_of t ≡ events_of s ++ more
  pub chain : IsPrefix s.shown.chain t.shown.chain

pub by_workers : (start : Network) (s t : DeskAndChain) → Right start s → IsWorkedOn s t → Goes start s t
by_workers start s t h w =
    let same : events_of t ≡ events_of s = worked_events s t w in
    let counts : Counts (new_desk start) (events_of s) s.desk = run_counts (new_desk start) s.desk (events_of s) (new_is_steady start) h.came in
    record {
      right = subst (λ (es : List Event). Keeps (new_desk start) es t) (sym same) (keeps_worked (new_desk start) (new_is_steady start) (events_of s) s t h w);
      more = [];
      events = same ∙ sym (append-nil (events_of s));
      chain = (worked_keeps s t counts.steady w).chain;
    }

by_post : (start : Network) (s t : DeskAndChain) → Right start s → IsCall s t → Goes start s t
by_post start s t h call =
    let more : List Event = event_taken call.event (reply.Post call.reply) in
    let is : events_of t ≡ events_of s ++ more = post_events s t call.collector call.seq call.event call.reply call.made call.shown in
    let run : IsRunOf s.desk more t.desk = run_one s.desk t.desk (step.Post call.collector call.seq call.event) (reply.Post call.reply) (call.reply, refl, call.made) in
    record {
      right = subst (λ (es : List Event). Keeps (new_desk start) es t) (sym is)
          (keeps_stay (new_desk start) (new_is_steady start) (events_of s) more s t h run call.shown
          (ends_same s t h.ends call.shown (post_publishes_none s.desk call.collector call.seq call.event call.reply t.desk call.made)));
      more = more;
      events = is;
      chain = subst (λ (x : ChainPrefixValue). IsPrefix s.shown.chain x.chain) (sym call.shown) ([], append-nil s.shown.chain);
    }

pub goes : (start : Network) (one next : Sight DeskAndChain) → Right start one.state → StepsTo one next → Goes start one.state next.state
goes start one next h (inl w) = by_workers start one.state next.state h w
goes start one next h (inr call) = by_post start one.state next.state h call.1

-- ---- the events of the seats

in_all : (me : ℕ) (es : List Event) (more : List Authored) → events_in (all_by me es ++ more) ≡ es ++ events_in more
in_all me [] more = refl
in_all me (e ∷ es) more = ap (λ (l : List Event). e ∷ l) (in_all me es more)

explained : (start : Network) (first : Sight DeskAndChain) (later : List (Sight DeskAndChain)) → Right start first.state → Follow first later
    → AreRightSights start first later × (events_of (last_sight first later).state ≡ events_of first.state ++ events_in (authored first later))
explained start first [] h follow = (right_hub start first.state h, sym (append-nil (events_of first.state)))
explained start first (next ∷ later) h follow =
    let g : Goes start first.state next.state = goes start first next h follow.0 in
    let rest = explained start next later g.right follow.1 in (
      (right_hub start first.state h, (g.more, sym g.events), g.chain, rest.0),
      rest.1
          ∙ ap (λ (l : List Event). l ++ events_in (authored next later)) g.events
          ∙ append_assoc (events_of first.state) g.more (events_in (authored next later))
          ∙ ap (λ (l : List Event). events_of first.state ++ l)
          (ap (λ (l : List Event). l ++ events_in (authored next later)) (sym (between first.state next.state g.more g.events))
          ∙ sym (in_all next.by (taken_between first.state next.state) (authored next later))),
    )

pub history_explains : (start : Network) (first : Sight DeskAndChain) (later : List (Sight DeskAndChain)) → IsOpening start first.state → Follow first later → IsExplained start first later
history_explains start first later opens follow =
    let h = explained start first later (first_right start first.state opens) follow in
    record { sights = h.0; events = h.1 ∙ ap (λ (l : List Event). l ++ events_in (authored first later)) (first_events start first.state opens) }

-- ---- one seat's own

none_after : (me : ℕ) (x : Sight DeskAndChain) (ys : List (Sight DeskAndChain)) → NoneOf me ys → events_by me (authored x ys) ≡ []
none_after me x [] none = refl
none_after me x (y ∷ ys) none =
    by_append me (all_by y.by (taken_between x.state y.state)) (authored y ys)
    ∙ (λ i. others_none me y.by (taken_between x.state y.state) none.0 i ++ none_after me y ys none.1 i)

others_later : (me : ℕ) (saw ys : List (Sight DeskAndChain)) → IsHistory saw → NoneOf me ys → own_events me (saw ++ ys) ≡ own_events me saw
others_later me [] ys is none = absurd is
others_later me (x ∷ xs) ys is none =
    ap (events_by me) (authored_append x xs ys) ∙ by_append me (authored x xs) (authored (last_sight x xs) ys)
    ∙ ap (λ (l : List Event). events_by me (authored x xs) ++ l) (none_after me (last_sight x xs) ys none) ∙ append-nil (events_by me (authored x xs))

pub others_leave : (me : ℕ) (saw log : List (Sight DeskAndChain)) → IsHistory saw → OnlyOthersSince me saw log → own_events me log ≡ own_events me saw
others_leave me saw log is since = ap (own_events me) since.whole ∙ others_later me saw since.since is since.others

history_front : (x : Sight DeskAndChain) (xs ys : List (Sight DeskAndChain)) → Follow x (xs ++ ys) → Follow x xs
history_front x [] ys follow = tt
history_front x (z ∷ zs) ys follow = (follow.0, history_front z zs ys follow.1)

longer_front : (saw since ys : List (Sight DeskAndChain)) → IsHistory saw → IsHistory ((saw ++ since) ++ ys) → IsHistory (saw ++ since)
longer_front [] since ys is whole = absurd is
longer_front (x ∷ xs) since ys is whole = history_front x (xs ++ since) ys whole

-- who comes and does nothing
pub come_own : (seats : ℕ) (old new : SeatValue DeskAndChain) (found : DeskAndChain) → IsHistory old.saw → Comes seats old found new → own_events old.me new.saw ≡ own_events old.me old.saw
come_own seats old new found is comes =
    let mid : List (Sight DeskAndChain) = old.saw ++ comes.since in
    let saw : new.saw ≡ mid ++ sight old.me found ∷ [] = ap (λ (s : SeatValue DeskAndChain). s.saw) comes.saw in
    let front : IsHistory mid = longer_front old.saw comes.since (sight old.me found ∷ []) is (subst IsHistory saw comes.history) in
    let none : taken_between (left_at mid) found ≡ [] = between (left_at mid) found [] (worked_events (left_at mid) found comes.worked ∙ sym (append-nil (events_of (left_at mid)))) in
    ap (own_events old.me) saw ∙ own_push old.me mid found front ∙ ap (λ (l : List Event). own_events old.me mid ++ l) none ∙ append-nil (own_events old.me mid)
    ∙ others_later old.me old.saw comes.since is comes.others

-- who comes and does something
pub did_own : (seats : ℕ) (old new : SeatValue DeskAndChain) (found left : DeskAndChain) (more : List Event) → IsHistory old.saw → ComesAndDoes seats old found left new → events_of left ≡ events_of found ++ more
    → own_events old.me new.saw ≡ own_events old.me old.saw ++ more
did_own seats old new found left more is came all =
    let there : SeatValue DeskAndChain = came.0 in
    let comes : Comes seats old found there = came.1 in
    let me : there.me ≡ old.me = ap (λ (s : SeatValue DeskAndChain). s.me) comes.saw in
    let at : left_at there.saw ≡ found = ap (λ (s : SeatValue DeskAndChain). left_at s.saw) comes.saw ∙ left_push (old.saw ++ comes.since) (sight old.me found) in
    let saw : new.saw ≡ there.saw ++ sight old.me left ∷ [] = ap (λ (s : SeatValue DeskAndChain). s.saw) came.2 ∙ ap (λ (n : ℕ). there.saw ++ sight n left ∷ []) me in
    ap (own_events old.me) saw ∙ own_push old.me there.saw left comes.history
    ∙ (λ i. come_own seats old there found is comes i ++ (ap (λ (s : DeskAndChain). taken_between s left) at ∙ between found left more all) i)

pub post_taken : (seats : ℕ) (old new : SeatValue DeskAndChain) (found left : DeskAndChain) (collector seq : ℕ) (event : Event) (result : Result Posted Refusal) → IsHistory old.saw
    → ComesAndDoes seats old found left new → Posts found.desk collector seq event result left.desk → left.shown ≡ found.shown → IsTaken old (event_taken event (reply.Post result)) found left new
post_taken seats old new found left collector seq event result is came made shown =
    let all : events_of left ≡ events_of found ++ event_taken event (reply.Post result) = post_events found left collector seq event result made shown in
    record { all = all; own = did_own seats old new found left (event_taken event (reply.Post result)) is came all }
