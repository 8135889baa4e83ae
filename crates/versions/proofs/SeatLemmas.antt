-- Who comes to a hub, one sight after the other.
use Rattle.std.proofs.Common.{◌≡◌, ◌≢◌, ◌⊎◌, ℕ, ◌<◌, Result, List, [], ◌∷◌, ◌++◌, refl, sym, subst, ap, ◌∙◌, inl, inr, arith, append-nil}
use Rattle.atomic_table.specs.Seated.{TableId}
use Rattle.seats.specs.Minutes.{AreBelow, MinutesValue, NoneOf, OnlyOthersSince, SeatValue, sight}
use Rattle.seats.specs.declared.rule.Sight.{Sight}
use Rattle.net_data.specs.declared.events.Event.{Event}
use Rattle.work_units.specs.declared.replies.Posted.{Posted}
use Rattle.work_units.specs.declared.replies.Refusal.{Refusal}
use Rattle.desk_core.specs.Steps.{Posts}
use Rattle.versions.specs.declared.state.DeskAndChain.{DeskAndChain}
use Rattle.versions.specs.Working.{AreKept, Comes, ComesAndDoes, Follow, IsAgreed, IsCall, IsGuest, IsHistory, IsWorkedOn, StepsTo, last_sight, leaving, left_at}

-- no step
pub stays : (s : DeskAndChain) → IsWorkedOn s s
stays s = ([], [], refl)

-- one sight more
follow_push : (x : Sight DeskAndChain) (xs : List (Sight DeskAndChain)) (y : Sight DeskAndChain) → Follow x xs → StepsTo (last_sight x xs) y → Follow x (xs ++ y ∷ [])
follow_push x [] y are is = (is, tt)
follow_push x (z ∷ zs) y are is = (are.0, follow_push z zs y are.1 is)

last_push : (x : Sight DeskAndChain) (xs : List (Sight DeskAndChain)) (y : Sight DeskAndChain) → last_sight x (xs ++ y ∷ []) ≡ y
last_push x [] y = refl
last_push x (z ∷ zs) y = last_push z zs y

pub left_push : (log : List (Sight DeskAndChain)) (y : Sight DeskAndChain) → left_at (log ++ y ∷ []) ≡ y.state
left_push [] y = refl
left_push (x ∷ xs) y = ap (λ (s : Sight DeskAndChain). s.state) (last_push x xs y)

-- who comes finds what workers made of what was left
pub came : (log : List (Sight DeskAndChain)) (me : ℕ) (found : DeskAndChain) → IsHistory log → IsWorkedOn (left_at log) found → IsHistory (log ++ sight me found ∷ [])
came [] me found is w = absurd is
came (x ∷ xs) me found is w = follow_push x xs (sight me found) is (inl w)

-- and does something
pub did : (log : List (Sight DeskAndChain)) (me : ℕ) (found left : DeskAndChain) → IsHistory (log ++ sight me found ∷ []) → IsCall found left → IsHistory ((log ++ sight me found ∷ []) ++ sight me left ∷ [])
did [] me found left is call = (inr (refl, call), tt)
did (x ∷ xs) me found left is call =
    follow_push x (xs ++ sight me found ∷ []) (sight me left) is
    (subst (λ (s : Sight DeskAndChain). StepsTo s (sight me left)) (sym (last_push x xs (sight me found))) (inr (refl, call)))

-- whoever was last there has left the minutes so
after_last : (table : TableId) (seats : ℕ) (minutes : MinutesValue DeskAndChain) (log : List (Sight DeskAndChain)) (me : ℕ) (state : DeskAndChain) → minutes.table ≡ table → minutes.seats ≡ seats
    → minutes.log ≡ log ++ sight me state ∷ [] → IsHistory (log ++ sight me state ∷ []) → AreKept table seats state (minutes ∷ [])
after_last table seats minutes log me state own count is history = (
  record {
    own = own;
    count = count;
    history = subst IsHistory (sym is) history;
    since = subst (λ (l : List (Sight DeskAndChain)). IsWorkedOn (left_at l) state) (sym is) (subst (λ s. IsWorkedOn s state) (sym (left_push log (sight me state))) (stays state));
  },
  tt,
)

-- the first seat has just seen the hub
pub first_kept : (table : TableId) (seats : ℕ) (minutes : MinutesValue DeskAndChain) (state : DeskAndChain) → minutes.table ≡ table → minutes.seats ≡ seats
    → minutes.log ≡ sight 0 state ∷ [] → AreKept table seats state (minutes ∷ [])
first_kept table seats minutes state own count is = after_last table seats minutes [] 0 state own count is tt

module _ (table : TableId) (seats : ℕ) (minutes : MinutesValue DeskAndChain) (found : DeskAndChain) (agreed : IsAgreed table seats minutes found) (old : SeatValue DeskAndChain) where
  -- who came is told in the minutes
  pub kept_seen : (new : MinutesValue DeskAndChain) → new ≡ record minutes { log = minutes.log ++ sight old.me found ∷ [] } → AreKept table seats found (new ∷ [])
  kept_seen new is =
      after_last table seats new minutes.log old.me found (ap (λ (m : MinutesValue DeskAndChain). m.table) is ∙ agreed.own) (ap (λ (m : MinutesValue DeskAndChain). m.seats) is ∙ agreed.count)
      (ap (λ (m : MinutesValue DeskAndChain). m.log) is) (came minutes.log old.me found agreed.history agreed.since)

  pub guest_seen : (new : SeatValue DeskAndChain) → new ≡ record old { saw = minutes.log ++ sight old.me found ∷ [] } → IsGuest table old → IsGuest table new
  guest_seen new is guest = record {
    own = ap (λ (s : SeatValue DeskAndChain). s.table) is ∙ guest.own;
    history = subst (λ (s : SeatValue DeskAndChain). IsHistory s.saw) (sym is) (came minutes.log old.me found agreed.history agreed.since);
  }

  -- what who comes is told
  pub comes : (new : SeatValue DeskAndChain) → OnlyOthersSince old.me old.saw minutes.log → (old.me < minutes.seats) × AreBelow minutes.seats minutes.log
      → new ≡ record old { saw = minutes.log ++ sight old.me found ∷ [] } → Comes seats old found new
  comes new since seated is = record {
    since = since.since;
    saw = is ∙ ap (λ (l : List (Sight DeskAndChain)). record old { saw = l ++ sight old.me found ∷ [] }) since.whole;
    others = since.others;
    seat = subst (λ n. old.me < n) agreed.count seated.0;
    below = subst (λ (n : ℕ). AreBelow n (old.saw ++ since.since)) agreed.count (subst (AreBelow minutes.seats) since.whole seated.1);
    history = subst (λ (s : SeatValue DeskAndChain). IsHistory s.saw) (sym is) (came minutes.log old.me found agreed.history agreed.since);
    worked = subst (λ (l : List (Sight DeskAndChain)). IsWorkedOn (left_at l) found) since.whole agreed.since;
  }

  -- who came did something, and is told once more
  module _ (left : DeskAndChain) (call : IsCall found left) (m1 m2 : MinutesValue DeskAndChain) (s1 s2 : SeatValue DeskAndChain)
      (m1_is : m1 ≡ record minutes { log = minutes.log ++ sight old.me found ∷ [] }) (s1_is : s1 ≡ record old { saw = minutes.log ++ sight old.me found ∷ [] })
      (m2_is : m2 ≡ record m1 { log = m1.log ++ sight s1.me left ∷ [] }) (s2_is : s2 ≡ record s1 { saw = m1.log ++ sight s1.me left ∷ [] }) where
    end_is : m1.log ++ sight s1.me left ∷ [] ≡ (minutes.log ++ sight old.me found ∷ []) ++ sight old.me left ∷ []
    end_is = λ i. (m1_is i).log ++ sight (s1_is i).me left ∷ []

    whole : IsHistory ((minutes.log ++ sight old.me found ∷ []) ++ sight old.me left ∷ [])
    whole = did minutes.log old.me found left (came minutes.log old.me found agreed.history agreed.since) call

    pub kept_done : AreKept table seats left (m2 ∷ [])
    kept_done =
        after_last table seats m2 (minutes.log ++ sight old.me found ∷ []) old.me left
        (ap (λ (m : MinutesValue DeskAndChain). m.table) m2_is ∙ ap (λ (m : MinutesValue DeskAndChain). m.table) m1_is ∙ agreed.own)
        (ap (λ (m : MinutesValue DeskAndChain). m.seats) m2_is ∙ ap (λ (m : MinutesValue DeskAndChain). m.seats) m1_is ∙ agreed.count)
        (ap (λ (m : MinutesValue DeskAndChain). m.log) m2_is ∙ end_is) whole

    pub guest_done : IsGuest table old → IsGuest table s2
    guest_done guest = record {
      own = ap (λ (s : SeatValue DeskAndChain). s.table) s2_is ∙ ap (λ (s : SeatValue DeskAndChain). s.table) s1_is ∙ guest.own;
      history = subst IsHistory (sym (ap (λ (s : SeatValue DeskAndChain). s.saw) s2_is ∙ end_is)) whole;
    }

    pub comes_done : OnlyOthersSince old.me old.saw minutes.log → (old.me < minutes.seats) × AreBelow minutes.seats minutes.log → ComesAndDoes seats old found left s2
    comes_done since seated = (
      s1,
      comes s1 since seated s1_is,
      s2_is ∙ (λ i. record s1 { saw = same i ++ sight s1.me left ∷ [] }),
    )
      where
        same : m1.log ≡ s1.saw
        same = ap (λ (m : MinutesValue DeskAndChain). m.log) m1_is ∙ sym (ap (λ (s : SeatValue DeskAndChain). s.saw) s1_is)

pub by_post : (found left : DeskAndChain) (collector seq : ℕ) (event : Event) (result : Result Posted Refusal) → Posts found.desk collector seq event result left.desk → left.shown ≡ found.shown → IsCall found left
by_post found left collector seq event result made shown = record { collector = collector; seq = seq; event = event; reply = result; made = made; shown = shown }

-- ---- the one guest of a hub

-- where there is one seat, nobody else came
nobody_else : (xs saw : List (Sight DeskAndChain)) → NoneOf 0 xs → AreBelow 1 (saw ++ xs) → xs ≡ []
nobody_else [] saw none below = refl
nobody_else (x ∷ xs) [] none below = let low = below.0 in absurd (none.0 (omega arith))
nobody_else (x ∷ xs) (y ∷ ys) none below = nobody_else (x ∷ xs) ys none below.1

-- who comes alone finds what it left after steps of workers
pub alone : (seats : ℕ) (old : SeatValue DeskAndChain) (found : DeskAndChain) (new : SeatValue DeskAndChain) → seats ≡ 1 → Comes seats old found new → IsWorkedOn (left_at old.saw) found
alone seats old found new one comes =
    let low = comes.seat in
    let me : old.me ≡ 0 = omega arith in
    let none : comes.since ≡ [] = nobody_else comes.since old.saw (subst (λ n. NoneOf n comes.since) me comes.others) (subst (λ (n : ℕ). AreBelow n (old.saw ++ comes.since)) one comes.below) in
    let same : old.saw ++ comes.since ≡ old.saw = ap (λ l. old.saw ++ l) none ∙ append-nil old.saw in
    subst (λ (l : List (Sight DeskAndChain)). IsWorkedOn (left_at l) found) same comes.worked

-- the last sight is one's own

pub came_last : (seats : ℕ) (old : SeatValue DeskAndChain) (found : DeskAndChain) (new : SeatValue DeskAndChain) → Comes seats old found new → left_at new.saw ≡ found
came_last seats old found new comes = ap (λ (s : SeatValue DeskAndChain). left_at s.saw) comes.saw ∙ left_push (old.saw ++ comes.since) (sight old.me found)

pub did_last : (seats : ℕ) (old : SeatValue DeskAndChain) (found left : DeskAndChain) (new : SeatValue DeskAndChain) → ComesAndDoes seats old found left new → left_at new.saw ≡ left
did_last seats old found left new d = ap (λ (s : SeatValue DeskAndChain). left_at s.saw) d.2 ∙ left_push d.0.saw (sight d.0.me left)
