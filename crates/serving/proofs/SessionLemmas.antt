-- What sessions were told, as parts of the one history.
use Rattle.std.proofs.Common.{◌≡◌, ◌≢◌, ℕ, Bool, true, false, List, [], ◌∷◌, ◌++◌, Option, Some, None, Result, Ok, Err, inl, inr, refl, sym, ap, ◌∙◌, subst, append-nil, append_assoc}
use Rattle.std.specs.Prelude.{◌⊎◌, OnErr, OnOk}
use mathlib.Core.List.{IsPrefix}
use Rattle.net_building.specs.declared.wholes.Listed.{Listed}
use Rattle.net_building.specs.declared.wholes.Listed.TheVariants as listed
use Rattle.net_data.specs.declared.events.Event.{Event}
use Rattle.net_data.specs.Network.{Network}
use Rattle.net_versions.specs.Versions.{VersionValue}
use Rattle.desk_core.specs.declared.steps.Reply.TheVariants as reply
use Rattle.desk_core.specs.Runs.{event_taken}
use Rattle.answers.specs.declared.answer.Answer.{Answer}
use Rattle.desk_console.specs.Taken.{posts_by, taken_at}
use Rattle.sessions.specs.Lines.{is_silent, is_too_long, lines_of, trimmed, whole_lines}
use Rattle.sessions.specs.Replies.{Answered, Answers, AreTexts, IsReply, Replies}
use Rattle.sessions.specs.Run.{IsBegun, IsCutAt, IsEndAt, IsFrontOf}
use Rattle.sessions.specs.declared.faults.Fault.{Fault}
use Rattle.sessions.specs.declared.faults.Fault.TheVariants.{OutOfMemory, Read, Write, NoPlace, Load}
use Rattle.seats.specs.Minutes.{OnlyOthersSince, SeatValue}
use Rattle.seats.specs.declared.rule.Sight.{Sight}
use Rattle.versions.specs.Working.{Comes, IsHistory, IsWholeHistory, left_at}
use Rattle.versions.specs.declared.state.DeskAndChain.{DeskAndChain}
use Rattle.versions.proofs.SeatLemmas.{came_last}
use Rattle.versions.specs.Authors.{Authored, authored_in, events_by, own_events}
use Rattle.versions.proofs.EventLemmas.{IsPosted, post_events, post_is}
use Rattle.histories.specs.Histories.{IsEnded, IsOpened, IsSeen}
use Rattle.histories.proofs.ExplainLemmas.{come_own, did_own, others_leave}
use Rattle.histories.proofs.SeenLemmas.{ended, seen_in}
use Rattle.beside.specs.Beside.{BesideValue, StartsBeside}
use Rattle.beside.specs.Seats.{Came, CamePosting, Goes, TakesEach, TakesNone}
use Rattle.beside.specs.Right.{Moment, told_in}
use Rattle.serving.specs.declared.channels.Rules.{Rules}
use Rattle.serving.specs.Seated.{CommandsAs, CommandsSeated, KeepsRules, LosesSeated, SeatedValue}
use Rattle.serving.specs.Served.{AreSeen, AreTold, AreWritten, IsLost, IsPosted as IsPart, IsToldSession, first_number, lines_in, taken_of}
use Rattle.serving.specs.Sittings.{Sits, final_fault}
use Rattle.beside.proofs.BesideLemmas.{prefix_then}
use Rattle.serving.proofs.LineLemmas.{LineTold, authored_grown, counted_later, history_done, line_told, numbered_later, opened_later, saw_came, saw_left, who_told}

-- who answers knows more of the same history
record Grows (b new : BesideValue) : Type 0 where
  me : new.seat.me ≡ b.seat.me
  saw : IsPrefix b.seat.saw new.seat.saw
  history : IsHistory new.seat.saw
  seen : IsPrefix b.seen new.seen

-- ---- lines that were answered

record Made (seats : ℕ) (rules : Rules) (b : BesideValue) (lines : List (List ℕ)) (told : List (Option Answer)) (new : BesideValue) : Type 0 where
  moments : List Moment
  asked : lines ≡ lines_in moments
  are_told : told ≡ told_in moments
  grows : Grows b new
  own : own_events b.seat.me new.seat.saw ≡ own_events b.seat.me b.seat.saw ++ taken_of moments
  each : (all : List Authored) → IsPrefix (authored_in new.seat.saw) all → AreTold seats rules all b.seat.me b moments
  views : (shown : List VersionValue) → IsPrefix new.seen shown → AreSeen shown moments

-- a line of a session, as one of who comes to the hub
unseated : (seats : ℕ) (line : List ℕ) (s : SeatedValue) (told : Option Answer) (new : SeatedValue) → Replies (CommandsSeated seats) line s told new
    → Replies (CommandsAs seats s.rules) line s.beside told new.beside × KeepsRules s new
unseated seats line s told new = go (is_too_long (trimmed line)) (is_silent (trimmed line))
  where
    go : (long quiet : Bool) → IsReply (CommandsSeated seats) long quiet (trimmed line) s told new
        → IsReply (CommandsAs seats s.rules) long quiet (trimmed line) s.beside told new.beside × KeepsRules s new
    go true quiet is = ((is.0, ap (λ (x : SeatedValue). x.beside) is.1), ap (λ (x : SeatedValue). x.rules) is.1)
    go false true is = ((is.0, ap (λ (x : SeatedValue). x.beside) is.1), ap (λ (x : SeatedValue). x.rules) is.1)
    go false false is = ((is.0, is.1.0, is.2), is.1.1)

module _ (start : Network) (seats : ℕ) (rules : Rules) where
  made : (s : SeatedValue) (lines : List (List ℕ)) (told : List (Option Answer)) (new : SeatedValue) → s.rules ≡ rules → IsOpened start s.beside.seat.saw → IsHistory s.beside.seat.saw
      → Answers (CommandsSeated seats) s lines told new → Made seats rules s.beside lines told new.beside
  made s [] told new r opened history is =
      let same : new.beside ≡ s.beside = ap (λ (x : SeatedValue). x.beside) is.1 in
      record {
        moments = [];
        asked = refl;
        are_told = is.0;
        grows = record {
          me = ap (λ (x : BesideValue). x.seat.me) same;
          saw = ([], append-nil s.beside.seat.saw ∙ ap (λ (x : BesideValue). x.seat.saw) (sym same));
          history = subst (λ (x : BesideValue). IsHistory x.seat.saw) (sym same) history;
          seen = ([], append-nil s.beside.seen ∙ ap (λ (x : BesideValue). x.seen) (sym same));
        };
        own = ap (λ (x : BesideValue). own_events s.beside.seat.me x.seat.saw) same ∙ sym (append-nil (own_events s.beside.seat.me s.beside.seat.saw));
        each = λ all prefix. tt;
        views = λ shown prefix. tt;
      }
  made s (line ∷ lines) told new r opened history is =
      let first : Option Answer = is.0 in
      let mid : SeatedValue = is.1 in
      let reply = unseated seats line s first mid is.3 in
      let asked : Replies (CommandsAs seats rules) line s.beside first mid.beside =
      subst (λ (x : Rules). Replies (CommandsAs seats x) line s.beside first mid.beside) r reply.0 in
      let l : LineTold s.beside (trimmed line) first mid.beside = line_told start seats rules line s.beside first mid.beside opened history asked in
      let rest : Made seats rules mid.beside lines is.2 new.beside =
      made mid lines is.2 new (reply.1 ∙ r) (opened_later start s.beside.seat.saw mid.beside.seat.saw opened l.saw) l.history is.4 in
      let m : Moment = record { line = line; told = first; after = mid.beside } in
      let before : (all : List Authored) → IsPrefix (authored_in new.beside.seat.saw) all → IsPrefix (authored_in mid.beside.seat.saw) all =
      λ all prefix.
      prefix_then (authored_in mid.beside.seat.saw) (authored_in new.beside.seat.saw) all (authored_grown mid.beside.seat.saw new.beside.seat.saw l.history rest.grows.saw) prefix in
      record {
        moments = m ∷ rest.moments;
        asked = ap (λ (ls : List (List ℕ)). line ∷ ls) rest.asked;
        are_told = is.5 ∙ ap (λ (t : List (Option Answer)). first ∷ t) rest.are_told;
        grows = record {
          me = rest.grows.me ∙ l.me;
          saw = prefix_then s.beside.seat.saw mid.beside.seat.saw new.beside.seat.saw l.saw rest.grows.saw;
          history = rest.grows.history;
          seen = prefix_then s.beside.seen mid.beside.seen new.beside.seen l.seen rest.grows.seen;
        };
        own =
            ap (λ n. own_events n new.beside.seat.saw) (sym l.me)
            ∙ rest.own
            ∙ ap (λ (es : List Event). es ++ taken_of rest.moments) (ap (λ n. own_events n mid.beside.seat.saw) l.me ∙ l.own)
            ∙ append_assoc (own_events s.beside.seat.me s.beside.seat.saw) (taken_at (trimmed line) first) (taken_of rest.moments);
        each = λ all prefix. (
          record {
            replies = asked;
            numbers = numbered_later (authored_in mid.beside.seat.saw) all s.beside.seat.me (taken_at (trimmed line) first) (first_number first) (before all prefix) l.numbers;
            counts = λ who. counted_later seats rules.names (authored_in mid.beside.seat.saw) all first (before all prefix) (who_told seats rules line s.beside first mid.beside asked who);
            back = l.seen;
          },
          subst (λ n. AreTold seats rules all n mid.beside rest.moments) l.me (rest.each all prefix),
        );
        views = λ shown prefix. (prefix_then mid.beside.seen new.beside.seen shown rest.grows.seen prefix, rest.views shown prefix);
      }

-- ---- a line whose answer was lost

record Losing (lines : List (List ℕ)) (b new : BesideValue) : Type 0 where
  lost : List Event
  is_lost : IsLost lines lost
  grows : Grows b new
  own : own_events b.seat.me new.seat.saw ≡ own_events b.seat.me b.seat.saw ++ lost

-- nothing was lost
not_lost : (lines : List (List ℕ)) → IsLost lines []
not_lost [] = refl
not_lost (line ∷ lines) = inl refl

-- who answers knows more, and these events came through its seat
record Went (b : BesideValue) (events : List Event) (new : BesideValue) : Type 0 where
  grows : Grows b new
  own : own_events b.seat.me new.seat.saw ≡ own_events b.seat.me b.seat.saw ++ events

-- the seat stayed
went_nowhere : (b new : BesideValue) → IsHistory b.seat.saw → new.seat ≡ b.seat → IsPrefix b.seen new.seen → Went b [] new
went_nowhere b new history same seen = record {
  grows = record {
    me = ap (λ (s : SeatValue DeskAndChain). s.me) same;
    saw = ([], append-nil b.seat.saw ∙ ap (λ (s : SeatValue DeskAndChain). s.saw) (sym same));
    history = subst (λ (s : SeatValue DeskAndChain). IsHistory s.saw) (sym same) history;
    seen = seen;
  };
  own = ap (λ (s : SeatValue DeskAndChain). own_events b.seat.me s.saw) same ∙ sym (append-nil (own_events b.seat.me b.seat.saw));
}

kept_all : (lines : List (List ℕ)) (b new : BesideValue) → IsHistory b.seat.saw → new.seat ≡ b.seat → IsPrefix b.seen new.seen → Losing lines b new
kept_all lines b new history same seen =
    let went = went_nowhere b new history same seen in record { lost = []; is_lost = not_lost lines; grows = went.grows; own = went.own }

module _ (seats : ℕ) (b new : BesideValue) (history : IsHistory b.seat.saw) where
  -- the seat came, and changed nothing
  went_there : Came seats b new → Went b [] new
  went_there came = record {
    grows = record {
      me = ap (λ (s : SeatValue DeskAndChain). s.me) came.comes.saw;
      saw = saw_came seats b.seat new.seat came.found came.comes;
      history = came.comes.history;
      seen = came.seen;
    };
    own = come_own seats b.seat new.seat came.found history came.comes ∙ sym (append-nil (own_events b.seat.me b.seat.saw));
  }

  -- the seat came, and posted
  went_posting : (event : Event) → (came : CamePosting seats event b new) → Went b (event_taken came.call.event (reply.Post came.call.reply)) new
  went_posting event came =
      let call = came.call in
      let there : SeatValue DeskAndChain = came.came.0 in
      let comes : Comes seats b.seat came.found there = came.came.1 in
      record {
        grows = record {
          me = ap (λ (s : SeatValue DeskAndChain). s.me) came.came.2 ∙ ap (λ (s : SeatValue DeskAndChain). s.me) comes.saw;
          saw = prefix_then b.seat.saw there.saw new.seat.saw (saw_came seats b.seat there came.found comes) (saw_left there new.seat came.left came.came.2);
          history = subst IsHistory (sym (ap (λ (s : SeatValue DeskAndChain). s.saw) came.came.2)) (history_done seats b.seat there came.found came.left comes call);
          seen = came.seen;
        };
        own = did_own seats b.seat new.seat came.found came.left (event_taken call.event (reply.Post call.reply)) history came.came
            (post_events came.found came.left call.collector call.seq call.event call.reply call.made call.shown);
      }

  -- nothing was accepted
  went_vainly : TakesNone seats b new → Went b [] new
  went_vainly (inl stays) = went_nowhere b new history stays.seat stays.seen
  went_vainly (inr (inl came)) = went_there came
  went_vainly (inr (inr vain)) =
      subst (λ (es : List Event). Went b es new) (ap (λ (e : Event). event_taken e (reply.Post vain.1.call.reply)) vain.1.posted ∙ vain.2) (went_posting vain.0 vain.1)

-- one thing after another
went_on : (b mid new : BesideValue) (xs ys : List Event) → Went b xs mid → Went mid ys new → Went b (xs ++ ys) new
went_on b mid new xs ys one other = record {
  grows = record {
    me = other.grows.me ∙ one.grows.me;
    saw = prefix_then b.seat.saw mid.seat.saw new.seat.saw one.grows.saw other.grows.saw;
    history = other.grows.history;
    seen = prefix_then b.seen mid.seen new.seen one.grows.seen other.grows.seen;
  };
  own =
      ap (λ n. own_events n new.seat.saw) (sym one.grows.me) ∙ other.own ∙ ap (λ (es : List Event). es ++ ys) (ap (λ n. own_events n mid.seat.saw) one.grows.me ∙ one.own)
      ∙ append_assoc (own_events b.seat.me b.seat.saw) xs ys;
}

-- each of these events was accepted
went_taking : (seats : ℕ) (events : List Event) (b new : BesideValue) → IsHistory b.seat.saw → TakesEach seats events b new → Went b events new
went_taking seats [] b new history is = went_vainly seats b new history is
went_taking seats (event ∷ events) b new history is =
    let posting = is.1.posting in
    let one : Went b (event ∷ []) is.0 =
    subst (λ (es : List Event). Went b es is.0) (ap (λ (e : Event). event_taken e (reply.Post posting.call.reply)) posting.posted ∙ is.1.taken) (went_posting seats b is.0 history event posting) in
    went_on b is.0 new (event ∷ []) events one (went_taking seats events is.0 new one.grows.history is.2)

module _ (seats : ℕ) (line : List ℕ) (lines : List (List ℕ)) (b new : BesideValue) (history : IsHistory b.seat.saw) where
  lost_so : (events : List Event) → IsLost (line ∷ lines) events → Went b events new → Losing (line ∷ lines) b new
  lost_so events is_lost went = record { lost = events; is_lost = is_lost; grows = went.grows; own = went.own }

  posting_lost : (event : Event) → posts_by (trimmed line) ≡ Some (listed.Event event) → CamePosting seats event b new → Losing (line ∷ lines) b new
  posting_lost event one came =
      lost_so (event_taken came.call.event (reply.Post came.call.reply)) (lost_is (post_is came.found.desk came.call.collector came.call.seq came.call.event came.call.reply came.left.desk came.call.made))
      (went_posting seats b new history event came)
    where
      lost_is : IsPosted came.found.desk came.call.collector came.call.seq came.call.event came.call.reply came.left.desk → IsLost (line ∷ lines) (event_taken came.call.event (reply.Post came.call.reply))
      lost_is (inl same) = inl same.0
      lost_is (inr put) = inr (subst (λ (o : Option Listed). IsPart o (event_taken came.call.event (reply.Post came.call.reply))) (sym one) (put.0 ∙ ap (λ (e : Event). e ∷ []) came.posted))

  goes_lost : Goes seats (posts_by (trimmed line)) b new → Losing (line ∷ lines) b new
  goes_lost (inl same) = kept_all (line ∷ lines) b new history same.seat same.seen
  goes_lost (inr (inl came)) = lost_so [] (inl refl) (went_there seats b new history came)
  goes_lost (inr (inr (inl posted))) = posting_lost posted.0 posted.1 posted.2
  goes_lost (inr (inr (inr whole))) =
      let some = whole.2 in
      lost_so some.events (inr (subst (λ (o : Option Listed). IsPart o some.events) (sym whole.1) (some.net, some.first))) (went_taking seats some.events b new history some.each)

losing : (seats : ℕ) (lines : List (List ℕ)) (s new : SeatedValue) → IsHistory s.beside.seat.saw → IsBegun (LosesSeated seats) lines s new → Losing lines s.beside new.beside
losing seats [] s new history same =
    let is : new.beside ≡ s.beside = ap (λ (x : SeatedValue). x.beside) same in
    kept_all [] s.beside new.beside history (ap (λ (x : BesideValue). x.seat) is) ([], append-nil s.beside.seen ∙ ap (λ (x : BesideValue). x.seen) (sym is))
losing seats (line ∷ lines) s new history (inl same) =
    let is : new.beside ≡ s.beside = ap (λ (x : SeatedValue). x.beside) same in
    kept_all (line ∷ lines) s.beside new.beside history (ap (λ (x : BesideValue). x.seat) is) ([], append-nil s.beside.seen ∙ ap (λ (x : BesideValue). x.seen) (sym is))
losing seats (line ∷ lines) s new history (inr lost) = goes_lost seats line lines s.beside new.beside history lost.0

-- ---- a session

-- how the lines of a session ended
record Lines (Tells : Answer → List ℕ → Type 0) (seats : ℕ) (rules : Rules) (ended : Option Fault) (left : Option (List ℕ)) (read written : List ℕ) (b after : BesideValue) : Type 0 where
  moments : List Moment
  lost : List Event
  grows : Grows b after
  own : own_events b.seat.me after.seat.saw ≡ own_events b.seat.me b.seat.saw ++ (taken_of moments ++ lost)
  each : (all : List Authored) → IsPrefix (authored_in after.seat.saw) all → AreTold seats rules all b.seat.me b moments
  views : (shown : List VersionValue) → IsPrefix after.seen shown → AreSeen shown moments
  outcome : AreWritten Tells ended left read written moments lost

module _ (Tells : Answer → List ℕ → Type 0) (start : Network) (seats : ℕ) (rules : Rules)
    (b : BesideValue) (opened : IsOpened start b.seat.saw) (history : IsHistory b.seat.saw) (left : Option (List ℕ)) (read written : List ℕ) (after : SeatedValue) where
  abbrev first : SeatedValue
  first = record { beside = b; rules = rules }

  -- all lines were answered
  whole_lines_told : (ended : Option Fault) (lines : List (List ℕ)) → Answered Tells (CommandsSeated seats) first lines written after
      → ((moments : List Moment) → lines ≡ lines_in moments → AreTexts Tells (told_in moments) written → AreWritten Tells ended left read written moments [])
      → Lines Tells seats rules ended left read written b after.beside
  whole_lines_told ended lines answered outcome =
      let m : Made seats rules b lines answered.0 after.beside = made start seats rules first lines answered.0 after refl opened history answered.1 in
      record {
        moments = m.moments;
        lost = [];
        grows = m.grows;
        own = m.own ∙ ap (λ (es : List Event). own_events b.seat.me b.seat.saw ++ es) (sym (append-nil (taken_of m.moments)));
        each = m.each;
        views = m.views;
        outcome = outcome m.moments m.asked (subst (λ (t : List (Option Answer)). AreTexts Tells t written) m.are_told answered.2);
      }

  -- the answers were cut off
  cut_lines_told : (ended : Option Fault) → IsCutAt Tells (CommandsSeated seats) (LosesSeated seats) first (lines_of read) written after
      → ((moments : List Moment) (lost : List Event) (rest : List (List ℕ)) → lines_of read ≡ lines_in moments ++ rest → IsFrontOf Tells (told_in moments) written → IsLost rest lost
      → AreWritten Tells ended left read written moments lost) → Lines Tells seats rules ended left read written b after.beside
  cut_lines_told ended cut outcome =
      let m : Made seats rules b cut.done cut.told cut.mid.beside = made start seats rules first cut.done cut.told cut.mid refl opened history cut.answers in
      let l : Losing cut.left cut.mid.beside after.beside = losing seats cut.left cut.mid after m.grows.history cut.begun in
      record {
        moments = m.moments;
        lost = l.lost;
        grows = record {
          me = l.grows.me ∙ m.grows.me;
          saw = prefix_then b.seat.saw cut.mid.beside.seat.saw after.beside.seat.saw m.grows.saw l.grows.saw;
          history = l.grows.history;
          seen = prefix_then b.seen cut.mid.beside.seen after.beside.seen m.grows.seen l.grows.seen;
        };
        own =
            ap (λ n. own_events n after.beside.seat.saw) (sym m.grows.me)
            ∙ l.own
            ∙ ap (λ (es : List Event). es ++ l.lost) (ap (λ n. own_events n cut.mid.beside.seat.saw) m.grows.me ∙ m.own)
            ∙ append_assoc (own_events b.seat.me b.seat.saw) (taken_of m.moments) l.lost;
        each = λ all prefix.
            m.each all (prefix_then (authored_in cut.mid.beside.seat.saw) (authored_in after.beside.seat.saw) all
            (authored_grown cut.mid.beside.seat.saw after.beside.seat.saw m.grows.history l.grows.saw) prefix);
        views = λ shown prefix. m.views shown (prefix_then cut.mid.beside.seen after.beside.seen shown l.grows.seen prefix);
        outcome = outcome m.moments l.lost cut.left (cut.whole ∙ ap (λ (ls : List (List ℕ)). ls ++ cut.left) m.asked)
            (subst (λ (t : List (Option Answer)). IsFrontOf Tells t written) m.are_told cut.front) l.is_lost;
      }

  lines_told : (ended : Option Fault) → IsEndAt Tells (CommandsSeated seats) (LosesSeated seats) (Unit {0}) ended first left read written after → Lines Tells seats rules ended left read written b after.beside
  lines_told None is = whole_lines_told None (lines_of read) is.1 (λ moments asked told. (is.0, asked, told, refl))
  lines_told (Some Read) is = whole_lines_told (Some Read) (whole_lines read) is (λ moments asked told. (asked, told, refl))
  lines_told (Some Write) is = cut_lines_told (Some Write) is (λ moments lost rest asked told none. (rest, asked, told, none))
  lines_told (Some OutOfMemory) is = cut_lines_told (Some OutOfMemory) is (λ moments lost rest asked told none. (rest, asked, told, none))
  lines_told (Some NoPlace) is = cut_lines_told (Some NoPlace) is.1 (λ moments lost rest asked told none. (rest, asked, told, none))
  lines_told (Some (Load e)) is = absurd is

-- from the first line to the last visit, once the hub has ended
pub session_told : (Tells : Answer → List ℕ → Type 0) (start : Network) (seats : ℕ) (rules : Rules) (b : BesideValue) (unread left held holds : Option (List ℕ)) (fault : Option Fault) (lines : ℕ)
    (seat : SeatValue DeskAndChain) → StartsBeside start b → Sits Tells seats rules b unread left held holds fault lines seat
    → (log : List (Sight DeskAndChain)) (state : DeskAndChain) → IsWholeHistory seats log state → OnlyOthersSince seat.me seat.saw log
    → IsToldSession Tells start seats rules (authored_in log) state.shown.chain b.seat.me unread left held holds fault lines × IsEnded start seats log state
session_told Tells start seats rules b unread left held holds fault lines seat opens sits log state whole since = (
  record {
    read = sits.ran.read;
    consumed = sits.ran.consumed;
    written = sits.ran.written;
    appended = sits.ran.appended;
    counted = sits.ran.counted;
    opening = b;
    opens = opens;
    moments = l.moments;
    each = l.each (authored_in log) (authored_grown after.seat.saw log l.grows.history to_log);
    seen = λ apart. l.views state.shown.chain (seen_by apart sits.told sits.parts.seen sits.parts.fault sits.fault_is);
    lost = l.lost;
    own = own;
    ended = sits.ended;
    cause = cause_is sits.told sits.parts.fault sits.fault_is;
    outcome = l.outcome;
  },
  end,
)
  where
    opened : IsOpened start b.seat.saw
    opened = subst (IsOpened start) (sym opens.seat) (record { desk = opens.desk; chain = opens.shown })

    history : IsHistory b.seat.saw
    history = subst IsHistory (sym opens.seat) tt

    after : BesideValue
    after = sits.after.beside

    l : Lines Tells seats rules sits.ended left sits.ran.read sits.ran.written b after
    l = lines_told Tells start seats rules b opened history left sits.ran.read sits.ran.written sits.after sits.ended sits.ran.outcome

    found : DeskAndChain
    found = sits.parts.found

    comes : Comes seats after.seat found seat
    comes = sits.parts.comes

    to_end : IsPrefix seat.saw log
    to_end = (since.since, sym since.whole)

    to_log : IsPrefix after.seat.saw log
    to_log = prefix_then after.seat.saw seat.saw log (saw_came seats after.seat seat found comes) to_end

    me : seat.me ≡ b.seat.me
    me = ap (λ (s : SeatValue DeskAndChain). s.me) comes.saw ∙ l.grows.me

    own : events_by b.seat.me (authored_in log) ≡ taken_of l.moments ++ l.lost
    own =
        ap (λ n. own_events n log) (sym me)
        ∙ others_leave seat.me seat.saw log comes.history since
        ∙ ap (λ n. own_events n seat.saw) (ap (λ (s : SeatValue DeskAndChain). s.me) comes.saw)
        ∙ come_own seats after.seat seat found l.grows.history comes
        ∙ ap (λ n. own_events n after.seat.saw) l.grows.me
        ∙ l.own
        ∙ ap (λ (saw : List (Sight DeskAndChain)). own_events b.seat.me saw ++ (taken_of l.moments ++ l.lost)) opens.seat

    end : IsEnded start seats log state
    end = ended start seats log state (opened_later start b.seat.saw log opened (prefix_then b.seat.saw after.seat.saw log l.grows.saw to_log)) whole

    -- what was published at the last visit begins what is published at the end
    shown : IsPrefix found.shown.chain state.shown.chain
    shown =
        let opened_seat : IsOpened start seat.saw = opened_later start b.seat.saw seat.saw opened (prefix_then b.seat.saw after.seat.saw seat.saw l.grows.saw (saw_came seats after.seat seat found comes)) in
        let part : IsSeen start seat.saw (seat.saw ++ since.since) = seen_in start seat.saw since.since opened_seat (subst IsHistory since.whole whole.history) in
        prefix_then found.shown.chain (left_at log).shown.chain state.shown.chain
        (subst (λ (x : DeskAndChain × List (Sight DeskAndChain)). IsPrefix x.0.shown.chain (left_at x.1).shown.chain) (λ i. (came_last seats after.seat found seat comes i, sym since.whole i)) part.chain) end.chain

    seen_by : fault ≢ Some NoPlace → (told : Result (Unit {0}) Fault) → OnOk told (IsPrefix after.seen found.shown.chain) → OnErr told (told ≡ Err NoPlace) → fault ≡ final_fault told sits.ended → IsPrefix after.seen state.shown.chain
    seen_by apart (Ok done) seen bad is = prefix_then after.seen found.shown.chain state.shown.chain seen shown
    seen_by apart (Err e) seen bad is = absurd (apart (is ∙ ap (λ (r : Result (Unit {0}) Fault). final_fault r sits.ended) bad))

    cause_is : (told : Result (Unit {0}) Fault) → OnErr told (told ≡ Err NoPlace) → fault ≡ final_fault told sits.ended → (fault ≡ sits.ended) ⊎ (fault ≡ Some NoPlace)
    cause_is (Ok done) bad is = inl is
    cause_is (Err e) bad is = inr (is ∙ ap (λ (r : Result (Unit {0}) Fault). final_fault r sits.ended) bad)
