-- What a line does to its seat, and to the one history.
use Rattle.std.proofs.Common.{◌≡◌, ℕ, ◌+◌, Bool, true, false, List, [], ◌∷◌, ◌++◌, Option, Some, None, Result, Ok, Err, inl, inr, refl, sym, ap, ◌∙◌, subst, length, arith, length-append, append-nil, append_assoc}
use Rattle.std.specs.Option.{option_and_then}
use Rattle.net_building.specs.declared.wholes.Listed.TheVariants as listed
use Rattle.net_building.specs.declared.wholes.Whole.{Whole}
use mathlib.Core.List.{IsPrefix}
use Rattle.net_data.specs.declared.events.Event.{Event}
use Rattle.net_data.specs.Network.{Network}
use Rattle.net_versions.specs.Versions.{VersionValue}
use Rattle.tokens.specs.Words.{words_of}
use Rattle.answers.specs.Help.{other_answer}
use Rattle.answers.specs.Replies.{posted_answer, refused}
use Rattle.answers.specs.Who.{seat_counts}
use Rattle.answers.specs.declared.answer.Answer.{Answer}
use Rattle.answers.specs.declared.answer.Answer.TheVariants as answer
use Rattle.answers.specs.declared.answer.Reason.TheVariants as reason
use Rattle.answers.specs.declared.answer.Reply.TheVariants as answered
use Rattle.script_words.specs.Commands.{command_of}
use Rattle.script_words.specs.declared.commands.Command.{Command}
use Rattle.script_words.specs.declared.commands.Command.TheVariants as command
use Rattle.work_units.specs.declared.replies.Posted.{Posted}
use Rattle.work_units.specs.declared.replies.Posted.TheVariants.{Again, Taken}
use Rattle.work_units.specs.declared.replies.Refusal.{Refusal}
use Rattle.desk_core.specs.declared.steps.Reply.TheVariants as reply
use Rattle.desk_core.specs.Desk.{accepted}
use Rattle.desk_core.specs.Steps.{Posts, last_of, with_post}
use Rattle.desk_core.specs.Runs.{event_taken}
use Rattle.desk_console.specs.Console.{ConsoleValue}
use Rattle.desk_console.specs.Does.{Calls, Does, PostsAfter, PostsNext, Tells as TellsInLine, all_taken, taken_next}
use Rattle.desk_console.specs.Taken.{event_in, events_in, posts_by, posts_of, taken_at}
use Rattle.sessions.specs.Lines.{is_silent, is_too_long, trimmed}
use Rattle.sessions.specs.Replies.{IsReply, Replies}
use Rattle.seats.specs.Minutes.{SeatValue, sight}
use Rattle.seats.specs.declared.rule.Sight.{Sight}
use Rattle.versions.specs.Working.{Comes, IsCall, IsHistory, IsWorkedOn, last_sight, leaving, left_at}
use Rattle.versions.specs.declared.state.DeskAndChain.{DeskAndChain}
use Rattle.versions.proofs.SeatLemmas.{by_post, came, came_last, did, stays}
use Rattle.versions.specs.Authors.{Authored, authored, authored_in, events_of, own_events}
use Rattle.versions.proofs.EventLemmas.{IsPosted, post_events, post_is}
use Rattle.versions.proofs.AuthorLemmas.{authored_append}
use Rattle.histories.specs.Histories.{IsNth, IsOpened}
use Rattle.histories.proofs.ExplainLemmas.{come_own, did_own}
use Rattle.histories.proofs.SeenLemmas.{nth_later, nth_taken, opened_more}
use Rattle.desk_console.proofs.RunLemmas.{nothing_taken as answer_takes_none, taken_one}
use Rattle.beside.specs.Beside.{BesideValue, DoesAt, DoesBeside, DoesThere, Leaves, PostsAllBeside, PostsEachBeside, PostsWholeBeside, Tells, at_console}
use Rattle.beside.specs.Synced.{command_in, said_by}
use Rattle.beside.proofs.BesideLemmas.{prefix_then}
use Rattle.serving.specs.declared.channels.Rules.{Rules}
use Rattle.serving.specs.Seated.{CommandsAs, IfPosts, ObeysAs, TellsSeats}
use Rattle.serving.specs.Served.{AreNumbered, IsCounted, first_number}

pub versions_same : (xs ys : List VersionValue) → ys ≡ xs → IsPrefix xs ys
versions_same xs ys same = ([], append-nil xs ∙ sym same)

-- who comes sees more
pub saw_came : (seats : ℕ) (old new : SeatValue DeskAndChain) (found : DeskAndChain) → Comes seats old found new → IsPrefix old.saw new.saw
saw_came seats old new found comes =
    (comes.since ++ sight old.me found ∷ [], sym (append_assoc old.saw comes.since (sight old.me found ∷ [])) ∙ ap (λ (s : SeatValue DeskAndChain). s.saw) (sym comes.saw))

pub saw_left : (there new : SeatValue DeskAndChain) (left : DeskAndChain) → new ≡ leaving there left → IsPrefix there.saw new.saw
saw_left there new left is = (sight there.me left ∷ [], ap (λ (s : SeatValue DeskAndChain). s.saw) (sym is))

-- who came and did something shows one history
pub history_done : (seats : ℕ) (old there : SeatValue DeskAndChain) (found left : DeskAndChain) → Comes seats old found there → IsCall found left → IsHistory (there.saw ++ sight there.me left ∷ [])
history_done seats old there found left comes call =
    let me : there.me ≡ old.me = ap (λ (s : SeatValue DeskAndChain). s.me) comes.saw in
    let saw : there.saw ≡ (old.saw ++ comes.since) ++ sight old.me found ∷ [] = ap (λ (s : SeatValue DeskAndChain). s.saw) comes.saw in
    subst IsHistory (λ i. sym saw i ++ sight (sym me i) left ∷ []) (did (old.saw ++ comes.since) old.me found left (subst IsHistory saw comes.history) call)

pub history_still : (seats : ℕ) (old there : SeatValue DeskAndChain) (found left : DeskAndChain) → Comes seats old found there → left ≡ found → IsHistory (there.saw ++ sight there.me left ∷ [])
history_still seats old there found left comes same =
    let at : left_at there.saw ≡ found = came_last seats old found there comes in
    came there.saw there.me left comes.history (subst (λ (s : DeskAndChain). IsWorkedOn s left) (sym (at ∙ sym same)) (stays left))

-- ---- what is accepted

-- the events of a part of a history begin those of the whole
pub authored_grown : (saw log : List (Sight DeskAndChain)) → IsHistory saw → IsPrefix saw log → IsPrefix (authored_in saw) (authored_in log)
authored_grown [] log is p = absurd is
authored_grown (x ∷ xs) log is p = (authored (last_sight x xs) p.0, sym (authored_append x xs p.0) ∙ ap authored_in p.1)

pub opened_later : (start : Network) (saw log : List (Sight DeskAndChain)) → IsOpened start saw → IsPrefix saw log → IsOpened start log
opened_later start saw log opened p = subst (IsOpened start) p.1 (opened_more start saw p.0 opened)

-- numbers stay where more is accepted
pub numbered_later : (some all : List Authored) (me : ℕ) (events : List Event) (number : ℕ) → IsPrefix some all → AreNumbered some me events number → AreNumbered all me events number
numbered_later some all me [] number p is = tt
numbered_later some all me (event ∷ events) number p is = (nth_later some all number _ p is.0, numbered_later some all me events (number + 1) p is.1)

numbered_both : (all : List Authored) (me : ℕ) (xs ys : List Event) (number : ℕ) → AreNumbered all me xs number → AreNumbered all me ys (number + length xs) → AreNumbered all me (xs ++ ys) number
numbered_both all me [] ys number one other = let same : number + length {A = Event} [] ≡ number = omega arith in subst (AreNumbered all me ys) same other
numbered_both all me (x ∷ xs) ys number one other =
    let same : number + length (x ∷ xs) ≡ number + 1 + length xs = omega arith in (one.0, numbered_both all me xs ys (number + 1) one.1 (subst (AreNumbered all me ys) same other))

-- the event of a post is accepted exactly if it is answered `taken`
taken_is : (event : Event) (line : List ℕ) (result : Result Posted Refusal) → posts_by line ≡ Some (listed.Event event) → event_taken event (reply.Post result) ≡ taken_at line (Some (posted_answer result))
taken_is event line (Ok (Taken number)) posts = sym (ap event_in posts)
taken_is event line (Ok (Again number)) posts = refl
taken_is event line (Err refusal) posts = refl

-- a line that posts nothing is taken for nothing
nothing_taken : (line : List ℕ) (told : Option Answer) → posts_by line ≡ None → taken_at line told ≡ []
nothing_taken line None none = refl
nothing_taken line (Some a) none = answer_takes_none line a none

no_length : (xs : List Event) → length xs ≡ 0 → xs ≡ []
no_length [] e = refl
no_length (x ∷ xs) e = absurd (omega arith)

nothing_more : (xs ys : List Event) → xs ≡ xs ++ ys → ys ≡ []
nothing_more xs ys same =
    let long : length xs ≡ length xs + length ys = ap (length {A = Event}) same ∙ length-append xs ys in
    no_length ys (omega arith)

-- ---- one line

-- what was done to a seat: of the one history just these events came through it, with the numbers from this one on; what it knew stays known
pub record Told (b : BesideValue) (taken : List Event) (first : ℕ) (new : BesideValue) : Type 0 where
  pub me : new.seat.me ≡ b.seat.me
  pub saw : IsPrefix b.seat.saw new.seat.saw
  pub history : IsHistory new.seat.saw
  pub own : own_events b.seat.me new.seat.saw ≡ own_events b.seat.me b.seat.saw ++ taken
  pub numbers : AreNumbered (authored_in new.seat.saw) b.seat.me taken first
  pub seen : IsPrefix b.seen new.seen

-- what a line does to its seat
abbrev pub LineTold : BesideValue → List ℕ → Option Answer → BesideValue → Type 0
LineTold b line told new = Told b (taken_at line told) (first_number told) new

-- one thing after another
told_then : (b mid new : BesideValue) (xs ys : List Event) (first : ℕ) → Told b xs first mid → Told mid ys (first + length xs) new → Told b (xs ++ ys) first new
told_then b mid new xs ys first one other = record {
  me = other.me ∙ one.me;
  saw = prefix_then b.seat.saw mid.seat.saw new.seat.saw one.saw other.saw;
  history = other.history;
  own =
      ap (λ n. own_events n new.seat.saw) (sym one.me) ∙ other.own ∙ ap (λ (es : List Event). es ++ ys) (ap (λ n. own_events n mid.seat.saw) one.me ∙ one.own)
      ∙ append_assoc (own_events b.seat.me b.seat.saw) xs ys;
  numbers =
      numbered_both (authored_in new.seat.saw) b.seat.me xs ys first
      (numbered_later (authored_in mid.seat.saw) (authored_in new.seat.saw) b.seat.me xs first (authored_grown mid.seat.saw new.seat.saw one.history other.saw) one.numbers)
      (subst (λ n. AreNumbered (authored_in new.seat.saw) n ys (first + length xs)) one.me other.numbers);
  seen = prefix_then b.seen mid.seen new.seen one.seen other.seen;
}

module _ (start : Network) (seats : ℕ) (b new : BesideValue) (opened : IsOpened start b.seat.saw) (history : IsHistory b.seat.saw) where
  module _ (taken : List Event) (first : ℕ) where
    -- no number is told where nothing is taken
    unnumbered : taken ≡ [] → AreNumbered (authored_in new.seat.saw) b.seat.me taken first
    unnumbered none = subst (λ (es : List Event). AreNumbered (authored_in new.seat.saw) b.seat.me es first) (sym none) tt

    -- the seat stays
    still : taken ≡ [] → new.seat ≡ b.seat → IsPrefix b.seen new.seen → Told b taken first new
    still none same seen = record {
      me = ap (λ (s : SeatValue DeskAndChain). s.me) same;
      saw = ([], append-nil b.seat.saw ∙ ap (λ (s : SeatValue DeskAndChain). s.saw) (sym same));
      history = subst (λ (s : SeatValue DeskAndChain). IsHistory s.saw) (sym same) history;
      own =
          ap (λ (s : SeatValue DeskAndChain). own_events b.seat.me s.saw) same ∙ sym (append-nil (own_events b.seat.me b.seat.saw))
          ∙ ap (λ (l : List Event). own_events b.seat.me b.seat.saw ++ l) (sym none);
      numbers = unnumbered none;
      seen = seen;
    }

    same : taken ≡ [] → new ≡ b → Told b taken first new
    same none is = still none (ap (λ (x : BesideValue). x.seat) is) ([], append-nil b.seen ∙ ap (λ (x : BesideValue). x.seen) (sym is))

    -- the seat comes, and leaves the hub as it found it
    visits : (there : SeatValue DeskAndChain) (found : DeskAndChain) → taken ≡ [] → Comes seats b.seat found there → new.seat ≡ there → IsPrefix b.seen new.seen → Told b taken first new
    visits there found none comes is seen = record {
      me = ap (λ (s : SeatValue DeskAndChain). s.me) (is ∙ comes.saw);
      saw = subst (λ (s : SeatValue DeskAndChain). IsPrefix b.seat.saw s.saw) (sym is) (saw_came seats b.seat there found comes);
      history = subst (λ (s : SeatValue DeskAndChain). IsHistory s.saw) (sym is) comes.history;
      own =
          ap (λ (s : SeatValue DeskAndChain). own_events b.seat.me s.saw) is ∙ come_own seats b.seat there found history comes
          ∙ sym (append-nil (own_events b.seat.me b.seat.saw)) ∙ ap (λ (l : List Event). own_events b.seat.me b.seat.saw ++ l) (sym none);
      numbers = unnumbered none;
      seen = seen;
    }

    -- the seat comes, and posts
    posts : (there : SeatValue DeskAndChain) (found left : DeskAndChain) (collector seq : ℕ) (event : Event) (result : Result Posted Refusal) → Comes seats b.seat found there → new.seat ≡ leaving there left
        → Posts found.desk collector seq event result left.desk → left.shown ≡ found.shown → event_taken event (reply.Post result) ≡ taken → ((n : ℕ) → result ≡ Ok (Taken n) → first ≡ n) → IsPrefix b.seen new.seen
        → Told b taken first new
    posts there found left collector seq event result comes is made shown said first_is seen =
        let all : events_of left ≡ events_of found ++ taken = post_events found left collector seq event result made shown ∙ ap (λ (l : List Event). events_of found ++ l) said in
        record {
          me = ap (λ (s : SeatValue DeskAndChain). s.me) is ∙ ap (λ (s : SeatValue DeskAndChain). s.me) comes.saw;
          saw = prefix_then b.seat.saw there.saw new.seat.saw (saw_came seats b.seat there found comes) (saw_left there new.seat left is);
          history = subst IsHistory (sym (ap (λ (s : SeatValue DeskAndChain). s.saw) is)) (history_done seats b.seat there found left comes (by_post found left collector seq event result made shown));
          own = did_own seats b.seat new.seat found left taken history (there, comes, is) all;
          numbers = subst (λ (es : List Event). AreNumbered (authored_in new.seat.saw) b.seat.me es first) said (numbered result refl);
          seen = seen;
        }
      where
        -- the number that is told is that of the post
        numbered : (r : Result Posted Refusal) → result ≡ r → AreNumbered (authored_in new.seat.saw) b.seat.me (event_taken event (reply.Post r)) first
        numbered (Ok (Taken n)) told = (
          subst (λ k. IsNth (authored_in new.seat.saw) k (record { by = b.seat.me; event = event })) (sym (first_is n told))
              (nth_taken start seats b.seat new.seat found left collector seq event n opened (there, comes, is)
              (subst (λ (x : Result Posted Refusal). Posts found.desk collector seq event x left.desk) told made) shown),
          tt,
        )
        numbered (Ok (Again n)) told = tt
        numbered (Err refusal) told = tt

    seen_told : (Done : ConsoleValue → Answer → ConsoleValue → Type 0) (found : DeskAndChain) (a : Answer) → DoesAt seats Done b found a new → IsPrefix b.seen new.seen
    seen_told Done found a does = subst (IsPrefix b.seen) (sym does.told) does.finds.seen

    -- something is done under the lock that leaves the desk as it is
    looks_there : (Done : ConsoleValue → Answer → ConsoleValue → Type 0) (found : DeskAndChain) (a : Answer) → taken ≡ [] → DoesAt seats Done b found a new → new.left ≡ found → Told b taken first new
    looks_there Done found a none does kept = go does.leaves
      where
        go : Leaves does.finds.there found new → Told b taken first new
        go (inl is) = visits does.finds.there found none does.finds.comes is.0 (seen_told Done found a does)
        go (inr is) = record {
          me = ap (λ (s : SeatValue DeskAndChain). s.me) is ∙ ap (λ (s : SeatValue DeskAndChain). s.me) does.finds.comes.saw;
          saw = prefix_then b.seat.saw does.finds.there.saw new.seat.saw (saw_came seats b.seat does.finds.there found does.finds.comes) (saw_left does.finds.there new.seat new.left is);
          history = subst IsHistory (sym (ap (λ (s : SeatValue DeskAndChain). s.saw) is)) (history_still seats b.seat does.finds.there found new.left does.finds.comes kept);
          own = did_own seats b.seat new.seat found new.left taken history (does.finds.there, does.finds.comes, is)
              (ap events_of kept ∙ sym (append-nil (events_of found)) ∙ ap (λ (l : List Event). events_of found ++ l) (sym none));
          numbers = unnumbered none;
          seen = seen_told Done found a does;
        }

    -- a post under the lock
    calls : (Done : ConsoleValue → Answer → ConsoleValue → Type 0) (found : DeskAndChain) (a : Answer) (collector seq : ℕ) (event : Event) → DoesAt seats Done b found a new
        → (done : Calls (λ s. Posts s collector seq event) posted_answer (at_console found.desk) a (at_console new.left.desk)) → event_taken event (reply.Post done.0) ≡ taken → ((n : ℕ) → done.0 ≡ Ok (Taken n) → first ≡ n)
        → Told b taken first new
    calls Done found a collector seq event does done said first_is = go does.leaves
      where
        go : Leaves does.finds.there found new → Told b taken first new
        go (inl is) =
            let none : taken ≡ [] =
            nothing_more (events_of found) taken
            (ap events_of (sym is.1) ∙ post_events found new.left collector seq event done.0 done.1 does.shown ∙ ap (λ (l : List Event). events_of found ++ l) said) in
            visits does.finds.there found none does.finds.comes is.0 (seen_told Done found a does)
        go (inr is) = posts does.finds.there found new.left collector seq event done.0 does.finds.comes is done.1 does.shown said first_is (seen_told Done found a does)

  left_same : (found : DeskAndChain) → new.left.shown ≡ found.shown → at_console new.left.desk ≡ at_console found.desk → new.left ≡ found
  left_same found shown is = λ i. record { desk = (is i).desk; shown = shown i }

  -- a collector's next post, answered `taken`
  takes_next : (found : DeskAndChain) (collector : ℕ) (event : Event) → DoesAt seats (PostsNext collector event) b found (taken_next found.desk) new
      → Told b (event ∷ []) (accepted found.desk + 1) new × (accepted new.left.desk ≡ accepted found.desk + 1)
  takes_next found collector event does = go _ does.done
    where
      number_is : (n k : ℕ) (r : Result Posted Refusal) → answer.Reply (answered.Taken k) ≡ posted_answer r → r ≡ Ok (Taken n) → k ≡ n
      number_is n k r said is = let same : answer.Reply (answered.Taken k) ≡ answer.Reply (answered.Taken n) = said ∙ ap posted_answer is in cc

      counted : (collector seq : ℕ) (result : Result Posted Refusal) → event_taken event (reply.Post result) ≡ event ∷ [] → IsPosted found.desk collector seq event result new.left.desk → accepted new.left.desk ≡ accepted found.desk + 1
      counted collector seq result one (inl none) = absurd (let no : [] ≡ event ∷ [] = sym none.0 ∙ one in cc)
      counted collector seq result one (inr put) =
          let longer : length (found.desk.pending ++ event ∷ []) ≡ length found.desk.pending + 1 = length-append found.desk.pending (event ∷ []) in
          let count : accepted new.left.desk ≡ accepted (with_post found.desk collector seq event) = ap accepted put.1 in omega arith

      go : (full : Bool) → PostsAfter full collector event (at_console found.desk) (taken_next found.desk) (at_console new.left.desk) → Told b (event ∷ []) (accepted found.desk + 1) new × (accepted new.left.desk ≡ accepted found.desk + 1)
      go true done = absurd (let no = done.0 in cc)
      go false done =
          let seq : ℕ = (last_of found.desk collector).seq + 1 in
          let one = taken_one event done.0 (accepted found.desk + 1) done.3 in (
            calls (event ∷ []) (accepted found.desk + 1) (PostsNext collector event) found (taken_next found.desk) collector seq event does done one (λ n is. number_is n (accepted found.desk + 1) done.0 done.3 is),
            counted collector seq done.0 one (post_is found.desk collector seq event done.0 new.left.desk done.1),
          )

-- events that are posted one after the other, each answered `taken`
each_told : (start : Network) (seats collector : ℕ) (event : Event) (events : List Event) (b : BesideValue) (found : DeskAndChain) (new : BesideValue) → IsOpened start b.seat.saw → IsHistory b.seat.saw
    → PostsEachBeside seats collector (event ∷ events) b found new → Told b (event ∷ events) (accepted found.desk + 1) new
each_told start seats collector event [] b found new opened history is =
    subst (Told b (event ∷ []) (accepted found.desk + 1)) (sym is.2) (takes_next start seats b is.0 opened history found collector event is.1).0
each_told start seats collector event (next ∷ events) b found new opened history is =
    let one = takes_next start seats b is.0 opened history found collector event is.1 in
    let rest = each_told start seats collector next events is.0 is.0.left new (opened_later start b.seat.saw is.0.seat.saw opened one.0.saw) one.0.history is.2 in
    let count = one.1 in
    let number : accepted is.0.left.desk + 1 ≡ accepted found.desk + 1 + length {A = Event} (event ∷ []) = omega arith in
    told_then b is.0 new (event ∷ []) (next ∷ events) (accepted found.desk + 1) one.0 (subst (λ k. Told is.0 (next ∷ events) k new) number rest)

module _ (start : Network) (seats : ℕ) (b : BesideValue) (line : List ℕ) (told : Option Answer) (new : BesideValue) (opened : IsOpened start b.seat.saw) (history : IsHistory b.seat.saw) where
  abbrev taken : List Event
  taken = taken_at line told

  abbrev first : ℕ
  first = first_number told

  -- the number of a post that is answered `taken`
  first_is : (r : Result Posted Refusal) → told ≡ Some (posted_answer r) → (n : ℕ) → r ≡ Ok (Taken n) → first ≡ n
  first_is r said n is = ap first_number (said ∙ ap (λ (x : Result Posted Refusal). Some (posted_answer x)) is)

  -- a post under the lock
  call_told : (Done : ConsoleValue → Answer → ConsoleValue → Type 0) (found : DeskAndChain) (a : Answer) (collector seq : ℕ) (event : Event) → posts_by line ≡ Some (listed.Event event) → told ≡ Some a
      → DoesAt seats Done b found a new → Calls (λ s. Posts s collector seq event) posted_answer (at_console found.desk) a (at_console new.left.desk) → LineTold b line told new
  call_told Done found a collector seq event posts is_told does done =
      let said : told ≡ Some (posted_answer done.0) = is_told ∙ ap (λ (x : Answer). Some x) done.3 in
      calls start seats b new opened history taken first Done found a collector seq event does done (taken_is event line done.0 posts ∙ ap (taken_at line) (sym said)) (first_is done.0 said)

  -- a collector's next post
  next_told : (found : DeskAndChain) (a : Answer) (collector : ℕ) (event : Event) → posts_by line ≡ Some (listed.Event event) → told ≡ Some a → DoesAt seats (PostsNext collector event) b found a new → (full : Bool)
      → PostsAfter full collector event (at_console found.desk) a (at_console new.left.desk) → LineTold b line told new
  next_told found a collector event posts is_told does true done =
      looks_there start seats b new opened history taken first (PostsNext collector event) found a (ap (taken_at line) (is_told ∙ ap (λ (x : Answer). Some x) done.0)) does
      (left_same start seats b new opened history found does.shown done.1)
  next_told found a collector event posts is_told does false done = call_told (PostsNext collector event) found a collector ((last_of found.desk collector).seq + 1) event posts is_told does done

  -- the change of a whole set or point
  whole_told : (o : Option Refusal) (collector : ℕ) (w : Whole) (events : List Event) (found : DeskAndChain) (a : Answer) → posts_by line ≡ Some (listed.Whole w) → told ≡ Some a
      → PostsAllBeside o seats collector events b found a new → LineTold b line told new
  whole_told (Some refusal) collector w events found a posts is_told does =
      looks_there start seats b new opened history taken first (TellsInLine (refused refusal)) found a (ap (taken_at line) (is_told ∙ ap (λ (x : Answer). Some x) does.done.0)) does
      (left_same start seats b new opened history found does.shown does.done.1)
  whole_told None collector w [] found a posts is_told is =
      same start seats b new opened history taken first (ap (taken_at line) (is_told ∙ ap (λ (x : Answer). Some x) is.0) ∙ ap (events_in []) posts) is.1
  whole_told None collector w (event ∷ events) found a posts is_told is =
      let said : told ≡ Some (all_taken found.desk (event ∷ events)) = is_told ∙ ap (λ (x : Answer). Some x) is.0 in
      subst (λ (p : List Event × ℕ). Told b p.0 p.1 new)
      (λ i. (sym (ap (taken_at line) said ∙ ap (events_in (event ∷ events)) posts) i, sym (ap first_number said) i))
      (each_told start seats collector event events b found new opened history is.1)

  -- a line that posts nothing
  posts_none : posts_by line ≡ None → new ≡ b → LineTold b line told new
  posts_none none is = same start seats b new opened history taken first (nothing_taken line told none) is

  -- a line that is answered from a look
  looks : posts_by line ≡ None → new.seat ≡ b.seat → IsPrefix b.seen new.seen → LineTold b line told new
  looks none is seen = still start seats b new opened history taken first (nothing_taken line told none) is seen

  -- what is told under the lock and changes nothing
  tells_there : (Done : ConsoleValue → Answer → ConsoleValue → Type 0) (found : DeskAndChain) (a : Answer) → posts_by line ≡ None → DoesAt seats Done b found a new → at_console new.left.desk ≡ at_console found.desk → LineTold b line told new
  tells_there Done found a none does left =
      looks_there start seats b new opened history taken first Done found a (nothing_taken line told none) does (left_same start seats b new opened history found does.shown left)

  -- a line that is no command, or may not be done
  refuses : (a other : Answer) → told ≡ Some a → taken_at line (Some other) ≡ [] → Tells other b a new → LineTold b line told new
  refuses a other is_told none is = same start seats b new opened history taken first (ap (taken_at line) (is_told ∙ ap (λ (x : Answer). Some x) is.0) ∙ none) is.1

  -- what is posted, if the session may post
  event_told : (a : Answer) → told ≡ Some a → (may : Bool) (collector : ℕ) (event : Event) → command_of (words_of line) ≡ Some (command.Event event) → IfPosts may (DoesThere seats (PostsNext collector event)) b a new
      → LineTold b line told new
  event_told a is_told true collector event here is = next_told is.0 a collector event (ap (option_and_then posts_of) here) is_told is.1 _ is.1.done
  event_told a is_told false collector event here is = refuses a (answer.Refused reason.BadLine) is_told refl is

  whole_done : (a : Answer) → told ≡ Some a → (may : Bool) (collector : ℕ) (w : Whole) → command_of (words_of line) ≡ Some (command.Whole w) → IfPosts may (PostsWholeBeside seats collector w) b a new → LineTold b line told new
  whole_done a is_told true collector w here is = whole_told _ collector w _ is.0 a (ap (option_and_then posts_of) here) is_told is.1
  whole_done a is_told false collector w here is = refuses a (answer.Refused reason.BadLine) is_told refl is

  post_told : (a : Answer) → told ≡ Some a → (may : Bool) (by seq : ℕ) (event : Event) → command_of (words_of line) ≡ Some (command.Post by seq event) → IfPosts may (DoesBeside seats (command.Post by seq event)) b a new
      → LineTold b line told new
  post_told a is_told true by seq event here is = call_told (Does (command.Post by seq event)) is.0 a by seq event (ap (option_and_then posts_of) here) is_told is.1 is.1.done
  post_told a is_told false by seq event here is = refuses a (answer.Refused reason.BadLine) is_told refl is

  obeyed : (a : Answer) → told ≡ Some a → (rules : Rules) (other : Answer) (o : Option Command) → command_of (words_of line) ≡ o → ObeysAs seats rules other o b a new → LineTold b line told new
  obeyed a is_told rules other None here is = posts_none (rw here refl) is.1
  obeyed a is_told rules other (Some (command.Event event)) here is = event_told a is_told rules.posts rules.collector event here is
  obeyed a is_told rules other (Some (command.Whole w)) here is = whole_done a is_told rules.posts rules.collector w here is
  obeyed a is_told rules other (Some (command.Post by seq event)) here is = post_told a is_told rules.posts by seq event here is
  obeyed a is_told rules other (Some command.Open) here is = posts_none (rw here refl) is.1
  obeyed a is_told rules other (Some (command.Take k)) here is = posts_none (rw here refl) is.1
  obeyed a is_told rules other (Some (command.Give k)) here is = posts_none (rw here refl) is.1
  obeyed a is_told rules other (Some (command.Abandon k)) here is = posts_none (rw here refl) is.1
  obeyed a is_told rules other (Some command.Publish) here is = posts_none (rw here refl) is.1
  obeyed a is_told rules other (Some command.Sync) here is =
      let visit = is.visits.1 in
      let look = is.syncs.1 in
      visits start seats b new opened history taken first visit.0.there is.visits.0 (nothing_taken line told (rw here refl)) visit.0.comes (look.seat ∙ ap (λ (x : BesideValue). x.seat) visit.1)
      (prefix_then b.seen is.there.seen new.seen (subst (IsPrefix b.seen) (sym (ap (λ (x : BesideValue). x.seen) visit.1)) visit.0.seen) look.seen)
  obeyed a is_told rules other (Some command.Version) here is = tells_there (Does command.Version) is.0 a (rw here refl) is.1 is.1.done.1
  obeyed a is_told rules other (Some (command.Last k)) here is = tells_there (Does (command.Last k)) is.0 a (rw here refl) is.1 is.1.done.1
  obeyed a is_told rules other (Some command.Who) here is =
      let visit = is.1.0.1 in
      visits start seats b new opened history taken first visit.0.there is.1.0.0 (nothing_taken line told (rw here refl)) visit.0.comes (ap (λ (x : BesideValue). x.seat) visit.1)
      (subst (IsPrefix b.seen) (sym (ap (λ (x : BesideValue). x.seen) visit.1)) visit.0.seen)
  obeyed a is_told rules other (Some (command.Save file)) here is = tells_there (Does (command.Save file)) is.0 a (rw here refl) is.1 is.1.done.1
  obeyed a is_told rules other (Some (command.About asked y x)) here is = looks (rw here refl) is.1.seat is.1.seen
  obeyed a is_told rules other (Some (command.Trace y x s)) here is = looks (rw here refl) is.1.seat is.1.seen
  obeyed a is_told rules other (Some (command.WhatIf events)) here is = looks (rw here refl) is.1.seat is.1.seen
  obeyed a is_told rules other (Some (command.Reroutes events)) here is = looks (rw here refl) is.1.seat is.1.seen
  obeyed a is_told rules other (Some (command.Survey what events)) here is = looks (rw here refl) is.1.seat is.1.seen
  obeyed a is_told rules other (Some command.Warn) here is = looks (rw here refl) is.1.seat is.1.seen
  obeyed a is_told rules other (Some command.Audit) here is = looks (rw here refl) is.1.seat is.1.seen
  obeyed a is_told rules other (Some (command.Picture file about)) here is = looks (rw here refl) is.1.seat is.1.seen
  obeyed a is_told rules other (Some (command.Show what)) here is = looks (rw here refl) is.1.seat is.1.seen
  obeyed a is_told rules other (Some (command.Changes since which)) here is = posts_none (rw here refl) is.1
  obeyed a is_told rules other (Some (command.Watch is_on)) here is =
      looks (rw here refl) (ap (λ (x : BesideValue). x.seat) is.1) (versions_same b.seen new.seen (ap (λ (x : BesideValue). x.seen) is.1))

-- a line, by whoever has a seat
pub line_told : (start : Network) (seats : ℕ) (rules : Rules) (line : List ℕ) (b : BesideValue) (told : Option Answer) (new : BesideValue) → IsOpened start b.seat.saw → IsHistory b.seat.saw
    → Replies (CommandsAs seats rules) line b told new → LineTold b (trimmed line) told new
line_told start seats rules line b told new opened history = go (is_too_long (trimmed line)) (is_silent (trimmed line))
  where
    go : (long quiet : Bool) → IsReply (CommandsAs seats rules) long quiet (trimmed line) b told new → LineTold b (trimmed line) told new
    go true quiet is = same start seats b new opened history _ (first_number told) (ap (taken_at (trimmed line)) is.0) is.1
    go false true is = same start seats b new opened history _ (first_number told) (ap (taken_at (trimmed line)) is.0) is.1
    go false false is =
        obeyed start seats b (trimmed line) told new opened history is.0 is.2 rules (other_answer (words_of (trimmed line))) (command_of (words_of (trimmed line))) refl is.1

-- ---- what `who` tells

-- the counts of the seats as they were when the session came
pub who_told : (seats : ℕ) (rules : Rules) (line : List ℕ) (b : BesideValue) (told : Option Answer) (new : BesideValue) → Replies (CommandsAs seats rules) line b told new → command_in line ≡ Some command.Who
    → IsCounted seats rules.names (authored_in new.seat.saw) told
who_told seats rules line b told new = go (is_too_long (trimmed line)) (is_silent (trimmed line))
  where
    counted : (a : Answer) → told ≡ Some a → TellsSeats seats rules.names b a new → IsCounted seats rules.names (authored_in new.seat.saw) told
    counted a is_told is = (
      authored_in new.seat.saw,
      ([], append-nil (authored_in new.seat.saw)),
      is_told ∙ ap (λ (x : Answer). Some x) (is.2 ∙ ap (λ (counts : List ℕ). answer.Who (seat_counts rules.names counts)) is.1.1),
    )

    go : (long quiet : Bool) → IsReply (CommandsAs seats rules) long quiet (trimmed line) b told new → said_by long quiet (trimmed line) ≡ Some command.Who → IsCounted seats rules.names (authored_in new.seat.saw) told
    go true quiet is who = absurd (cc who)
    go false true is who = absurd (cc who)
    go false false is who = counted is.0 is.2 (subst (λ (o : Option Command). ObeysAs seats rules (other_answer (words_of (trimmed line))) o b is.0 new) who is.1)

-- they stay counts where more is accepted
pub counted_later : (seats : ℕ) (names : List (List ℕ)) (some all : List Authored) (told : Option Answer) → IsPrefix some all → IsCounted seats names some told → IsCounted seats names all told
counted_later seats names some all told p is = (is.0, (is.1.0 ++ p.0, sym (append_assoc is.0 is.1.0 p.0) ∙ ap (λ (l : List Authored). l ++ p.0) is.1.1 ∙ p.1), is.2)
