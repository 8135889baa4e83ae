-- At every point of a run the published version is the one of its number.
use Rattle.std.proofs.Common.{◌≡◌, ℕ, zero, suc, ◌+◌, ◌-◌, ◌≤◌, Bool, true, false, Option, Some, None, Result, Ok, Err, List, [], ◌∷◌, ◌++◌, refl, sym, ap, ◌∙◌, subst, length, take, take_all, drop, arith, length-append, length-drop, append-nil}
use Rattle.std.specs.Option.{MatchOption, option_map, option_map_or}
use Rattle.std.proofs.lemmas.List.{take-append-le, drop-append-le, append_assoc}
use Rattle.net_data.specs.declared.events.Event.{Event}
use Rattle.dirty_sets.specs.Waiting.{Task, taken, put_last, without_task}
use Rattle.work_units.specs.Work.{Work}
use Rattle.net_versions.specs.Versions.{VersionValue, IsSettledVersion, settled_tables}
use Rattle.path_trace.specs.Traces.{trace_at}
use Rattle.path_trace.proofs.KeptLemmas.{kept_is}
use Rattle.desk_core.specs.declared.posts.Last.{Last}
use Rattle.work_units.specs.declared.replies.Opened.{Opened}
use Rattle.work_units.specs.declared.replies.Posted.{Posted}
use Rattle.work_units.specs.declared.replies.Posted.TheVariants.{Taken}
use Rattle.work_units.specs.declared.replies.Refusal.{Refusal}
use Rattle.desk_core.specs.declared.steps.Step.{Step}
use Rattle.desk_core.specs.declared.steps.Step.TheVariants as step
use Rattle.desk_core.specs.declared.steps.Reply.{Reply}
use Rattle.desk_core.specs.declared.steps.Reply.TheVariants as reply
use Rattle.net_data.specs.Edits.{replay}
use Rattle.desk_core.specs.Desk.{DeskValue, OpenTarget, accepted, next_version}
use Rattle.desk_core.specs.Steps.{IsReply, IsPost, IsJobOf, IsGiven, IsGiveReply, IsAbandonReply, IsNext, Opens, Takes, Gives, Abandons, Publishes, is_last, last_of, post_refusal, open_refusal, out_refusal, publish_refusal, repeated, first_of, with_post, with_target, with_tasks, with_version}
use Rattle.desk_core.specs.Runs.{Steps, Runs, event_taken, accepted_by, accepted_in, events_up_to, network_at, Numbers, numbers_by, numbers_after, first_numbers, batch_of, IsRightVersion, IsRightAfter, GoesOnRight, IsRightThroughout, IsRunOf, IsTargetAhead, IsSteadyDesk}
use Rattle.desk_core.proofs.ReplayLemmas.{replay-append}

-- a desk after steps from another: what it has published and what is pending are the accepted events
record Tracks (start : DeskValue) (more : List Event) (numbers : Numbers) (s : DeskValue) : Type 0 where
  number : s.published.number ≡ numbers.now
  batch : s.published.batch ≡ batch_of start more numbers
  low : start.published.number ≤ s.published.number
  within : s.published.number - start.published.number ≤ length (start.pending ++ more)
  pending : s.pending ≡ drop (s.published.number - start.published.number) (start.pending ++ more)
  network : s.published.network ≡ replay start.published.network (take (s.published.number - start.published.number) (start.pending ++ more))
  tables : IsSettledVersion s.published
  ahead : IsTargetAhead s

drop-add : {X : Type 0} (a b : ℕ) (xs : List X) → drop b (drop a xs) ≡ drop (a + b) xs
drop-add zero b xs = let e : 0 + b ≡ b = omega arith in sym (rw e refl)
drop-add (suc a) b [] = let e : suc a + b ≡ suc (a + b) = omega arith in drop-nil b ∙ sym (rw e refl)
  where
    drop-nil : {X : Type 0} (n : ℕ) → drop {A = X} n [] ≡ []
    drop-nil zero = refl
    drop-nil (suc n) = refl
drop-add (suc a) b (x ∷ xs) = let e : suc a + b ≡ suc (a + b) = omega arith in drop-add a b xs ∙ sym (rw e refl)

take-add : {X : Type 0} (a b : ℕ) (xs : List X) → take a xs ++ take b (drop a xs) ≡ take (a + b) xs
take-add zero b xs = let e : 0 + b ≡ b = omega arith in sym (rw e refl)
take-add (suc a) b [] = let e : suc a + b ≡ suc (a + b) = omega arith in take-nil b ∙ sym (rw e refl)
  where
    take-nil : {X : Type 0} (n : ℕ) → take {A = X} n [] ≡ []
    take-nil zero = refl
    take-nil (suc n) = refl
take-add (suc a) b (x ∷ xs) = let e : suc a + b ≡ suc (a + b) = omega arith in ap (λ ys. x ∷ ys) (take-add a b xs) ∙ sym (rw e refl)

drop-take : {X : Type 0} (a b : ℕ) (xs : List X) → take b (drop a xs) ≡ drop a (take (a + b) xs)
drop-take zero b xs = let e : 0 + b ≡ b = omega arith in rw e refl
drop-take (suc a) b [] = let e : suc a + b ≡ suc (a + b) = omega arith in rw e (take-nil b)
  where
    take-nil : {X : Type 0} (n : ℕ) → take {A = X} n [] ≡ []
    take-nil zero = refl
    take-nil (suc n) = refl
drop-take (suc a) b (x ∷ xs) = let e : suc a + b ≡ suc (a + b) = omega arith in rw e (drop-take a b xs)

-- more events don't change what a version came with
batch_grown : (start : DeskValue) (more es : List Event) (numbers : Numbers) → numbers.now - start.published.number ≤ length (start.pending ++ more) → batch_of start more numbers ≡ batch_of start (more ++ es) numbers
batch_grown start more es numbers within = go numbers.before
  where
    same : events_up_to start more numbers.now ≡ events_up_to start (more ++ es) numbers.now
    same =
        sym (take-append-le (numbers.now - start.published.number) (start.pending ++ more) es within)
        ∙ ap (take (numbers.now - start.published.number)) (append_assoc start.pending more es)

    go : (before : Option ℕ) → option_map_or (λ low. drop (low - start.published.number) (events_up_to start more numbers.now)) before start.published.batch
        ≡ option_map_or (λ low. drop (low - start.published.number) (events_up_to start (more ++ es) numbers.now)) before start.published.batch
    go None = refl
    go (Some low) = ap (drop (low - start.published.number)) same

module _ (start : DeskValue) (more : List Event) (numbers : Numbers) (old : DeskValue) (t : Tracks start more numbers old) where
  -- the events that the published version came with, after more
  batch_after : (es : List Event) → old.published.batch ≡ batch_of start (more ++ es) numbers
  batch_after es = t.batch ∙ batch_grown start more es numbers (let w = t.within in let n = t.number in omega arith)

  -- nothing is accepted, and what is published and pending stays
  stays : (new : DeskValue) → new.published ≡ old.published → new.pending ≡ old.pending → IsTargetAhead new → Tracks start (more ++ []) numbers new
  stays new published pending ahead =
      let number : new.published.number ≡ old.published.number = ap (λ (v : VersionValue). v.number) published in
      let back : more ++ [] ≡ more = append-nil more in
      record {
        number = number ∙ t.number;
        batch = ap (λ (v : VersionValue). v.batch) published ∙ batch_after [];
        low = let l = t.low in omega arith;
        within = let w = t.within in rw back (omega arith);
        pending = rw (back, number) (pending ∙ t.pending);
        network = rw (back, number) (ap (λ (v : VersionValue). v.network) published ∙ t.network);
        tables = subst IsSettledVersion (sym published) t.tables;
        ahead = ahead;
      }

  unchanged : (new : DeskValue) → new ≡ old → Tracks start (more ++ []) numbers new
  unchanged new same = subst (λ s. Tracks start (more ++ []) numbers s) (sym same) (stays old refl refl t.ahead)

  -- one event more
  grown : (collector seq : ℕ) (event : Event) → Tracks start (more ++ event ∷ []) numbers (with_post old collector seq event)
  grown collector seq event =
      let k : ℕ = old.published.number - start.published.number in
      let all : start.pending ++ (more ++ event ∷ []) ≡ (start.pending ++ more) ++ event ∷ [] = sym (append_assoc start.pending more (event ∷ [])) in
      let longer : length ((start.pending ++ more) ++ event ∷ []) ≡ length (start.pending ++ more) + 1 = length-append (start.pending ++ more) (event ∷ []) in
      record {
        number = t.number;
        batch = batch_after (event ∷ []);
        low = t.low;
        within = let w = t.within in rw all (omega arith);
        pending = rw all (ap (λ es. es ++ event ∷ []) t.pending ∙ sym (drop-append-le k (start.pending ++ more) (event ∷ []) t.within));
        network = rw all (t.network ∙ ap (replay start.published.network) (sym (take-append-le k (start.pending ++ more) (event ∷ []) t.within)));
        tables = t.tables;
        ahead = ahead_grown old.target t.ahead;
      }
    where
      ahead_grown : (o : Option OpenTarget) → MatchOption o (Unit {0}) (λ t. (old.published.number ≤ t.number) × (t.number ≤ accepted old))
          → MatchOption o (Unit {0}) (λ t. (old.published.number ≤ t.number) × (t.number ≤ old.published.number + length (old.pending ++ event ∷ [])))
      ahead_grown None is = tt
      ahead_grown (Some target) is =
          let longer : length (old.pending ++ event ∷ []) ≡ length old.pending + 1 = length-append old.pending (event ∷ []) in
          let within = is.1 in (is.0, omega arith)

  -- a change of tasks
  tasked : (change : List Task → List Task) → Tracks start (more ++ []) numbers (with_tasks old change)
  tasked change = stays (with_tasks old change) refl refl (ahead_tasked old.target t.ahead)
    where
      ahead_tasked : (o : Option OpenTarget) → MatchOption o (Unit {0}) (λ t. (old.published.number ≤ t.number) × (t.number ≤ accepted old))
          → MatchOption (option_map (λ (t : OpenTarget). record t { tasks = change t.tasks }) o) (Unit {0}) (λ t. (old.published.number ≤ t.number) × (t.number ≤ accepted old))
      ahead_tasked None is = tt
      ahead_tasked (Some target) is = is

  -- a publication
  published : (o : Option OpenTarget) → MatchOption o (Unit {0}) (λ t. (old.published.number ≤ t.number) × (t.number ≤ accepted old)) → (version : VersionValue)
      → MatchOption o ⊥ (λ t. version ≡ next_version old t.number) → Tracks start (more ++ []) (record { now = version.number; before = Some numbers.now }) (with_version old version)
  published None is version next = absurd next
  published (Some target) is version next =
      let back : more ++ [] ≡ more = append-nil more in
      let a : ℕ = old.published.number - start.published.number in
      let b : ℕ = version.number - old.published.number in
      let number : version.number ≡ target.number = ap (λ (v : VersionValue). v.number) next in
      let network : version.network ≡ replay old.published.network (take (target.number - old.published.number) old.pending) = ap (λ (v : VersionValue). v.network) next in
      let same : target.number - old.published.number ≡ b = ap (λ n. n - old.published.number) (sym number) in
      let low = t.low in let first = is.0 in let second = is.1 in
      let sum : a + b ≡ version.number - start.published.number = omega arith in
      let len : length old.pending ≡ length (drop a (start.pending ++ more)) = ap (length {A = Event}) t.pending in
      let cut : length (drop a (start.pending ++ more)) ≡ length (start.pending ++ more) - a = length-drop a (start.pending ++ more) in
      let w = t.within in
      let tail : start.pending ++ (more ++ []) ≡ start.pending ++ more = ap (λ es. start.pending ++ es) back in
      record {
        number = refl;
        batch =
            ap (λ (v : VersionValue). v.batch) next ∙ ap (λ n. take n old.pending) same ∙ ap (take b) t.pending ∙ drop-take a b (start.pending ++ more)
            ∙ ap (λ n. drop a (take n (start.pending ++ more))) sum
            ∙ ap (λ es. drop a (take (version.number - start.published.number) es)) (sym tail)
            ∙ ap (λ n. drop (n - start.published.number) (take (version.number - start.published.number) (start.pending ++ (more ++ [])))) t.number;
        low = omega arith;
        within = rw back (omega arith);
        pending = rw back (ap (drop b) t.pending ∙ drop-add a b (start.pending ++ more) ∙ ap (λ n. drop n (start.pending ++ more)) sum);
        network = rw back (
            network ∙ ap (λ n. replay old.published.network (take n old.pending)) same
            ∙ ap (λ n. replay n (take b old.pending)) t.network
            ∙ ap (λ es. replay (replay start.published.network (take a (start.pending ++ more))) (take b es)) t.pending
            ∙ sym (replay-append start.published.network (take a (start.pending ++ more)) (take b (drop a (start.pending ++ more))))
            ∙ ap (replay start.published.network) (take-add a b (start.pending ++ more) ∙ ap (λ n. take n (start.pending ++ more)) sum));
        tables = ap (λ (v : VersionValue). v.tables) next ∙ ap settled_tables (sym network);
        ahead = tt;
      }

  -- ---- the steps

  posted : (collector seq : ℕ) (event : Event) (result : Result Posted Refusal) (new : DeskValue) (o : Option Refusal)
      → IsReply o (λ reply after. (reply ≡ Taken (accepted old + 1)) × (after ≡ with_post old collector seq event)) old result new
      → Tracks start (more ++ event_taken event (reply.Post result)) numbers new
  posted collector seq event result new (Some refusal) is = subst (λ r. Tracks start (more ++ event_taken event (reply.Post r)) numbers new) (sym is.0) (unchanged new is.1)
  posted collector seq event (Ok p) new None is =
      subst (λ q. Tracks start (more ++ event_taken event (reply.Post (Ok q))) numbers new) (sym is.0) (subst (λ n. Tracks start (more ++ event ∷ []) numbers n) (sym is.1) (grown collector seq event))
  posted collector seq event (Err e) new None is = unchanged new is.1

  again : (event : Event) (last : Last) (result : Result Posted Refusal) (new : DeskValue) (same : Bool) → result ≡ repeated last same → new ≡ old → Tracks start (more ++ event_taken event (reply.Post result)) numbers new
  again event last result new true is left = subst (λ r. Tracks start (more ++ event_taken event (reply.Post r)) numbers new) (sym is) (unchanged new left)
  again event last result new false is left = subst (λ r. Tracks start (more ++ event_taken event (reply.Post r)) numbers new) (sym is) (unchanged new left)

  post_step : (collector seq : ℕ) (event : Event) (result : Result Posted Refusal) (new : DeskValue) (b : Bool) → IsPost b old collector seq event result new → Tracks start (more ++ event_taken event (reply.Post result)) numbers new
  post_step collector seq event result new true is = again event (last_of old collector) result new is.0 is.2 is.3
  post_step collector seq event result new false is = posted collector seq event result new (post_refusal old collector seq event) is

  -- a step that accepts nothing
  settled : {T : Type 0} (o : Option Refusal) (Changes : T → DeskValue → Type 0) (result : Result T Refusal) (new : DeskValue) → IsReply o Changes old result new
      → ((r : T) → Changes r new → Tracks start (more ++ []) numbers new) → Tracks start (more ++ []) numbers new
  settled (Some refusal) Changes result new is change = unchanged new is.1
  settled None Changes (Ok r) new is change = change r is
  settled None Changes (Err e) new is change = unchanged new is.1

  open_step : (result : Result Opened Refusal) (new : DeskValue) → Opens old result new → Tracks start (more ++ []) numbers new
  open_step result new is =
      settled (open_refusal old) _ result new is
      (λ r changed. subst (λ s. Tracks start (more ++ []) numbers s) (sym changed.1) (stays (with_target old) refl refl (let l = t.low in (omega arith, omega arith))))

  take_step : (result : Result Work Refusal) (new : DeskValue) → Takes old result new → Tracks start (more ++ []) numbers new
  take_step result new = go (first_of old)
    where
      go : (o : Option ℕ) → MatchOption o ((result ≡ Err Refusal.Nothing) × (new ≡ old)) (λ x. IsReply None (λ job after. IsJobOf old x job × (after ≡ with_tasks old taken)) old result new) → Tracks start (more ++ []) numbers new
      go None is = unchanged new is.1
      go (Some x) is = settled None (λ job after. IsJobOf old x job × (after ≡ with_tasks old taken)) result new is (λ r changed. subst (λ s. Tracks start (more ++ []) numbers s) (sym changed.1) (tasked taken))

  give_step : (work : Work) (result : Result (Unit {0}) (Work × Refusal)) (new : DeskValue) → Gives old work result new → Tracks start (more ++ []) numbers new
  give_step work result new = go (out_refusal old work.version work.excerpt.plan.dest)
    where
      given : (same : Bool) → IsGiven same old work result new → Tracks start (more ++ []) numbers new
      given true is = subst (λ s. Tracks start (more ++ []) numbers s) (sym is.1) (tasked (without_task work.excerpt.plan.dest))
      given false is = unchanged new is.1

      go : (o : Option Refusal) → IsGiveReply o old work result new → Tracks start (more ++ []) numbers new
      go (Some refusal) is = unchanged new is.1
      go None is = given is.0 is.2

  abandon_step : (version dest : ℕ) (result : Result (Unit {0}) Refusal) (new : DeskValue) → Abandons old version dest result new → Tracks start (more ++ []) numbers new
  abandon_step version dest result new = go (out_refusal old version dest)
    where
      go : (o : Option Refusal) → IsAbandonReply o old dest result new → Tracks start (more ++ []) numbers new
      go (Some refusal) is = unchanged new is.1
      go None is = subst (λ s. Tracks start (more ++ []) numbers s) (sym is.1) (tasked (put_last dest))

  publish_step : (result : Result ℕ Refusal) (new : DeskValue) → Publishes old result new → Tracks start (more ++ []) (numbers_by numbers (reply.Publish result)) new
  publish_step result new = go (publish_refusal old) result
    where
      Changes : ℕ → DeskValue → Type 0
      Changes number after = (version : VersionValue) × IsNext old version × (number ≡ version.number) × (after ≡ with_version old version)

      go : (o : Option Refusal) (result : Result ℕ Refusal) → IsReply o Changes old result new → Tracks start (more ++ []) (numbers_by numbers (reply.Publish result)) new
      go (Some refusal) result is = subst (λ r. Tracks start (more ++ []) (numbers_by numbers (reply.Publish r)) new) (sym is.0) (unchanged new is.1)
      go None (Ok number) is =
          subst (λ n. Tracks start (more ++ []) (record { now = n; before = Some numbers.now }) new) (sym is.2)
          (subst (λ s. Tracks start (more ++ []) (record { now = is.0.number; before = Some numbers.now }) s) (sym is.3) (published old.target t.ahead is.0 is.1))
      go None (Err e) is = unchanged new is.1

  track_step : (one : Step) (answer : Reply) (new : DeskValue) → Steps old one answer new → Tracks start (more ++ accepted_by one answer) (numbers_by numbers answer) new
  track_step (step.Post collector seq event) answer new is =
      subst (λ a. Tracks start (more ++ event_taken event a) (numbers_by numbers a) new) (sym is.1) (post_step collector seq event is.0 new (is_last old collector seq) is.2)
  track_step step.Open answer new is = subst (λ a. Tracks start (more ++ []) (numbers_by numbers a) new) (sym is.1) (open_step is.0 new is.2)
  track_step step.Take answer new is = subst (λ a. Tracks start (more ++ []) (numbers_by numbers a) new) (sym is.1) (take_step is.0 new is.2)
  track_step (step.Give work) answer new is = subst (λ a. Tracks start (more ++ []) (numbers_by numbers a) new) (sym is.1) (give_step work is.0 new is.2)
  track_step (step.Abandon version dest) answer new is = subst (λ a. Tracks start (more ++ []) (numbers_by numbers a) new) (sym is.1) (abandon_step version dest is.0 new is.2)
  track_step step.Publish answer new is = subst (λ a. Tracks start (more ++ []) (numbers_by numbers a) new) (sym is.1) (publish_step is.0 new is.2)

-- ---- runs

track_run : (start : DeskValue) (steps : List Step) (replies : List Reply) (more : List Event) (numbers : Numbers) (old new : DeskValue) → Tracks start more numbers old → Runs old steps replies new
    → Tracks start (more ++ accepted_in steps replies) (numbers_after numbers replies) new
track_run start [] [] more numbers old new t run = unchanged start more numbers old t new run
track_run start [] (r ∷ rs) more numbers old new t run = absurd run
track_run start (s ∷ ss) [] more numbers old new t run = absurd run
track_run start (s ∷ ss) (r ∷ rs) more numbers old new t run =
    subst (λ es. Tracks start es (numbers_after (numbers_by numbers r) rs) new) (append_assoc more (accepted_by s r) (accepted_in ss rs))
    (track_run start ss rs (more ++ accepted_by s r) (numbers_by numbers r) run.0 new (track_step start more numbers old t s r run.0 run.1) run.2)

begins : (start : DeskValue) → IsSteadyDesk start → Tracks start [] (first_numbers start) start
begins start steady =
    let none : start.published.number - start.published.number ≡ 0 = omega arith in
    record {
      number = refl;
      batch = refl;
      low = omega arith;
      within = omega arith;
      pending = sym (ap (λ k. drop k (start.pending ++ [])) none ∙ append-nil start.pending);
      network = sym (ap (λ k. replay start.published.network (take k (start.pending ++ []))) none);
      tables = steady.version;
      ahead = steady.ahead;
    }

-- what is tracked is right
right_version : (start : DeskValue) (more : List Event) (numbers : Numbers) (s : DeskValue) → Tracks start more numbers s → IsRightVersion start more numbers s.published
right_version start more numbers s t =
    let network : s.published.network ≡ network_at start more numbers.now = t.network ∙ ap (λ n. network_at start more n) t.number in
    record {
      number = t.number;
      batch = t.batch;
      network = network;
      tables = t.tables ∙ ap settled_tables network;
      traces = λ y x k. kept_is s.published t.tables y x k ∙ ap (λ net. trace_at net y x k) network;
    }

-- after every run the published version is the one of its number
pub right_after : (start : DeskValue) → IsSteadyDesk start → (steps : List Step) (replies : List Reply) (new : DeskValue) → Runs start steps replies new → IsRightAfter start steps replies new
right_after start steady steps replies new run =
    right_version start (accepted_in steps replies) (numbers_after (first_numbers start) replies) new
    (track_run start steps replies [] (first_numbers start) start new (begins start steady) run)

-- a run goes on by one step
pub runs-push : (old mid new : DeskValue) (steps : List Step) (replies : List Reply) (one : Step) (answer : Reply) → Runs old steps replies mid → Steps mid one answer new → Runs old (steps ++ one ∷ []) (replies ++ answer ∷ []) new
runs-push old mid new [] [] one answer run last = (new, subst (λ s. Steps s one answer new) run last, refl)
runs-push old mid new (s ∷ ss) (r ∷ rs) one answer run last = (run.0, run.1, runs-push run.0 mid new ss rs one answer run.2 last)
runs-push old mid new [] (r ∷ rs) one answer run last = absurd run
runs-push old mid new (s ∷ ss) [] one answer run last = absurd run

goes_on_right : (start : DeskValue) → IsSteadyDesk start → (done : List Step) (told : List Reply) (old : DeskValue) → Runs start done told old → (steps : List Step) (replies : List Reply) (new : DeskValue) → Runs old steps replies new
    → GoesOnRight start done told old steps replies new
goes_on_right start steady done told old so_far [] [] new run = run
goes_on_right start steady done told old so_far [] (r ∷ rs) new run = absurd run
goes_on_right start steady done told old so_far (s ∷ ss) [] new run = absurd run
goes_on_right start steady done told old so_far (s ∷ ss) (r ∷ rs) new run =
    let more : Runs start (done ++ s ∷ []) (told ++ r ∷ []) run.0 = runs-push start old run.0 done told s r so_far run.1 in
    (run.0, run.1, right_after start steady (done ++ s ∷ []) (told ++ r ∷ []) run.0 more, goes_on_right start steady (done ++ s ∷ []) (told ++ r ∷ []) run.0 more ss rs new run.2)

-- at every point of a run the published version is the one of its number
pub right_throughout : (start : DeskValue) → IsSteadyDesk start → (steps : List Step) (replies : List Reply) (new : DeskValue) → Runs start steps replies new → IsRightThroughout start steps replies new
right_throughout start steady steps replies new run = record {
  first = right_after start steady [] [] start refl;
  rest = goes_on_right start steady [] [] start refl steps replies new run;
}

-- the same if each of the steps has its reply
pub right_all : (start : DeskValue) → IsSteadyDesk start → (steps : List Step) (replies : List Reply) (new : DeskValue) → length replies ≡ length steps → Runs start steps replies new
    → (Runs start (take (length replies) steps) replies new) × IsRightThroughout start (take (length replies) steps) replies new
right_all start steady steps replies new len run =
    let all : take (length replies) steps ≡ steps = take_all (length replies) steps (omega arith) in
    rw all (run, right_throughout start steady steps replies new run)

-- ---- runs that accept some events

runs-append : (old mid new : DeskValue) (steps more : List Step) (replies others : List Reply) → Runs old steps replies mid → Runs mid more others new → Runs old (steps ++ more) (replies ++ others) new
runs-append old mid new [] more [] others one other = subst (λ s. Runs s more others new) one other
runs-append old mid new (s ∷ ss) more (r ∷ rs) others one other = (one.0, one.1, runs-append one.0 mid new ss more rs others one.2 other)
runs-append old mid new [] more (r ∷ rs) others one other = absurd one
runs-append old mid new (s ∷ ss) more [] others one other = absurd one

accepted-append : (old mid : DeskValue) (steps more : List Step) (replies others : List Reply) → Runs old steps replies mid → accepted_in (steps ++ more) (replies ++ others) ≡ accepted_in steps replies ++ accepted_in more others
accepted-append old mid [] more [] others one = refl
accepted-append old mid (s ∷ ss) more (r ∷ rs) others one = ap (λ es. accepted_by s r ++ es) (accepted-append one.0 mid ss more rs others one.2) ∙ sym (append_assoc (accepted_by s r) (accepted_in ss rs) (accepted_in more others))
accepted-append old mid [] more (r ∷ rs) others one = absurd one
accepted-append old mid (s ∷ ss) more [] others one = absurd one

-- a run of no step
pub run_none : (s : DeskValue) → IsRunOf s [] s
run_none s = record { steps = []; replies = []; runs = refl; accepts = refl }

-- a run of one step
pub run_one : (old new : DeskValue) (one : Step) (answer : Reply) → Steps old one answer new → IsRunOf old (accepted_by one answer) new
run_one old new one answer is = record { steps = one ∷ []; replies = answer ∷ []; runs = (new, is, refl); accepts = append-nil (accepted_by one answer) }

-- a run after another
pub run_then : (old mid new : DeskValue) (es fs : List Event) → IsRunOf old es mid → IsRunOf mid fs new → IsRunOf old (es ++ fs) new
run_then old mid new es fs one other = record {
  steps = one.steps ++ other.steps;
  replies = one.replies ++ other.replies;
  runs = runs-append old mid new one.steps other.steps one.replies other.replies one.runs other.runs;
  accepts = accepted-append old mid one.steps other.steps one.replies other.replies one.runs ∙ ap (λ xs. xs ++ accepted_in other.steps other.replies) one.accepts ∙ ap (λ ys. es ++ ys) other.accepts;
}
