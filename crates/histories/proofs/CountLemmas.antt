-- What a run of a desk has accepted, and the versions of a chain after more events.
use Rattle.std.proofs.Common.{◌≡◌, ℕ, ◌+◌, ◌-◌, ◌≤◌, List, [], ◌∷◌, ◌++◌, Option, Some, None, Result, Ok, inl, inr, refl, sym, ap, ◌∙◌, subst, length, take, drop, arith, length-append, append-nil, append_assoc}
use Rattle.std.specs.Option.{MatchOption, option_map_or}
use Rattle.std.proofs.lemmas.List.{take-append-le}
use mathlib.Core.List.{IsPrefix}
use Rattle.net_data.specs.declared.events.Event.{Event}
use Rattle.net_data.specs.Edits.{replay}
use Rattle.net_data.specs.Network.{Network}
use Rattle.net_versions.specs.Versions.{VersionValue, settled_tables}
use Rattle.path_trace.specs.Traces.{trace_at}
use Rattle.work_units.specs.declared.replies.Posted.{Posted}
use Rattle.work_units.specs.declared.replies.Refusal.{Refusal}
use Rattle.desk_core.specs.declared.steps.Step.{Step}
use Rattle.desk_core.specs.declared.steps.Step.TheVariants as step
use Rattle.desk_core.specs.declared.steps.Reply.{Reply}
use Rattle.desk_core.specs.declared.steps.Reply.TheVariants as reply
use Rattle.desk_core.specs.Desk.{DeskValue, OpenTarget, accepted, net_now}
use Rattle.desk_core.specs.Steps.{Posts, with_post}
use Rattle.desk_core.specs.Runs.{IsRightVersion, IsRunOf, IsSteadyDesk, Numbers, Runs, Steps, accepted_by, accepted_in, event_taken, events_up_to, first_numbers, numbers_after, numbers_by}
use Rattle.desk_core.proofs.ReplayLemmas.{replay-append, replay-push}
use Rattle.desk_core.proofs.RunLemmas.{right_after, runs-push}
use Rattle.versions.specs.Chains.{ChainPrefixValue}
use Rattle.versions.specs.Worked.{LosesNothing}
use Rattle.versions.specs.Working.{IsOfWorker, Works, shown_after}
use Rattle.versions.specs.declared.state.DeskAndChain.{DeskAndChain}
use Rattle.versions.proofs.EventLemmas.{IsPosted, post_is}
use Rattle.versions.proofs.WorkedLemmas.{worked_keeps}
use Rattle.histories.specs.Right.{AreRight, IsRightAt}

-- ---- versions after more events

-- the version of a number stays it
right_grown : (start : DeskValue) (es more : List Event) (numbers : Numbers) (v : VersionValue) → numbers.now ≤ start.published.number + length (start.pending ++ es) → IsRightVersion start es numbers v
    → IsRightVersion start (es ++ more) numbers v
right_grown start es more numbers v within h = record {
  number = h.number;
  batch = h.batch ∙ batch numbers.before;
  network = h.network ∙ ap (replay start.published.network) same;
  tables = h.tables ∙ ap (λ (l : List Event). settled_tables (replay start.published.network l)) same;
  traces = λ y x k. h.traces y x k ∙ ap (λ (l : List Event). trace_at (replay start.published.network l) y x k) same;
}
  where
    same : events_up_to start es numbers.now ≡ events_up_to start (es ++ more) numbers.now
    same =
        sym (take-append-le (numbers.now - start.published.number) (start.pending ++ es) more (omega arith))
        ∙ ap (take (numbers.now - start.published.number)) (append_assoc start.pending es more)

    batch : (before : Option ℕ) → option_map_or (λ low. drop (low - start.published.number) (events_up_to start es numbers.now)) before start.published.batch
        ≡ option_map_or (λ low. drop (low - start.published.number) (events_up_to start (es ++ more) numbers.now)) before start.published.batch
    batch None = refl
    batch (Some low) = ap (drop (low - start.published.number)) same

at_grown : (start : DeskValue) (es more : List Event) (before : Option ℕ) (v : VersionValue) → IsRightAt start es before v → IsRightAt start (es ++ more) before v
at_grown start es more before v h =
    let within = h.within in
    let longer : length (start.pending ++ (es ++ more)) ≡ length (start.pending ++ es) + length more =
    ap (length {A = Event}) (sym (append_assoc start.pending es more)) ∙ length-append (start.pending ++ es) more in
    record { right = right_grown start es more (record { now = v.number; before = before }) v within h.right; within = omega arith }

pub are_grown : (start : DeskValue) (es more : List Event) (before : Option ℕ) (chain : List VersionValue) → AreRight start es before chain → AreRight start (es ++ more) before chain
are_grown start es more before [] are = tt
are_grown start es more before (v ∷ later) are = (at_grown start es more before v are.0, are_grown start es more (Some v.number) later are.1)

-- ---- parts of a chain

module _ (start : DeskValue) (es : List Event) where
  front_right : (before : Option ℕ) (xs ys : List VersionValue) → AreRight start es before (xs ++ ys) → AreRight start es before xs
  front_right before [] ys are = tt
  front_right before (v ∷ xs) ys are = (are.0, front_right (Some v.number) xs ys are.1)

  -- the versions of a beginning
  pub prefix_right : (before : Option ℕ) (xs ys : List VersionValue) → IsPrefix xs ys → AreRight start es before ys → AreRight start es before xs
  prefix_right before xs ys front are = front_right before xs front.0 (subst (AreRight start es before) (sym front.1) are)

  -- one version more
  pub pushed_right : (before : Option ℕ) (older : List VersionValue) (last next : VersionValue) → AreRight start es before (older ++ last ∷ []) → IsRightAt start es (Some last.number) next
      → AreRight start es before ((older ++ last ∷ []) ++ next ∷ [])
  pushed_right before [] last next are at = (are.0, (at, tt))
  pushed_right before (v ∷ older) last next are at = (are.0, pushed_right (Some v.number) older last next are.1 at)

  -- the last version
  pub last_right : (before : Option ℕ) (older : List VersionValue) (last : VersionValue) → AreRight start es before (older ++ last ∷ []) → (b : Option ℕ) × IsRightAt start es b last
  last_right before [] last are = (before, are.0)
  last_right before (v ∷ older) last are = last_right (Some v.number) older last are.1

-- ---- what a desk has accepted after some steps

-- the desk is steady, and its accepted events are those before and these
pub record Counts (old : DeskValue) (es : List Event) (new : DeskValue) : Type 0 where
  pub steady : IsSteadyDesk new
  pub count : accepted new ≡ accepted old + length es
  pub net : net_now new ≡ replay (net_now old) es

unchanged : (s t : DeskValue) → IsSteadyDesk s → t ≡ s → Counts s [] t
unchanged s t steady same = subst (Counts s []) (sym same) (record { steady = steady; count = omega arith; net = refl })

-- one event more
grown : (s : DeskValue) (collector seq : ℕ) (event : Event) → IsSteadyDesk s → Counts s (event ∷ []) (with_post s collector seq event)
grown s collector seq event steady =
    let longer : length (s.pending ++ event ∷ []) ≡ length s.pending + 1 = length-append s.pending (event ∷ []) in
    record {
      steady = record { ahead = ahead s.target steady.ahead; version = steady.version };
      count = omega arith;
      net = replay-push s.published.network s.pending event;
    }
  where
    ahead : (o : Option OpenTarget) → MatchOption o (Unit {0}) (λ t. (s.published.number ≤ t.number) × (t.number ≤ accepted s))
        → MatchOption o (Unit {0}) (λ t. (s.published.number ≤ t.number) × (t.number ≤ s.published.number + length (s.pending ++ event ∷ [])))
    ahead None is = tt
    ahead (Some target) is =
        let longer : length (s.pending ++ event ∷ []) ≡ length s.pending + 1 = length-append s.pending (event ∷ []) in
        let within = is.1 in (is.0, omega arith)

-- a post leaves the published version
pub post_publishes_none : (s : DeskValue) (collector seq : ℕ) (event : Event) (result : Result Posted Refusal) (t : DeskValue) → Posts s collector seq event result t → t.published ≡ s.published
post_publishes_none s collector seq event result t is = go (post_is s collector seq event result t is)
  where
    go : IsPosted s collector seq event result t → t.published ≡ s.published
    go (inl same) = ap (λ (x : DeskValue). x.published) same.1
    go (inr put) = ap (λ (x : DeskValue). x.published) put.1

post_counts : (s : DeskValue) (collector seq : ℕ) (event : Event) (result : Result Posted Refusal) (t : DeskValue) → IsSteadyDesk s → Posts s collector seq event result t
    → Counts s (event_taken event (reply.Post result)) t
post_counts s collector seq event result t steady is = go (post_is s collector seq event result t is)
  where
    go : IsPosted s collector seq event result t → Counts s (event_taken event (reply.Post result)) t
    go (inl same) = subst (λ (es : List Event). Counts s es t) (sym same.0) (unchanged s t steady same.1)
    go (inr put) = subst (λ (es : List Event). Counts s es t) (sym put.0) (subst (Counts s (event ∷ [])) (sym put.1) (grown s collector seq event steady))

-- a desk beside a chain
abbrev beside_chain : DeskValue → ChainPrefixValue → DeskAndChain
beside_chain s shown = record { desk = s; shown = shown }

-- a chain of no version
abbrev no_chain : ChainPrefixValue
no_chain = record { book = record { number = 0; log_name = 0; cells_name = 0 }; chain = [] }

-- a step of a worker accepts nothing
work_counts : (s t : DeskValue) (one : Step) (answer : Reply) → IsSteadyDesk s → IsOfWorker one → Steps s one answer t → Counts s [] t
work_counts s t one answer steady of is =
    let old : DeskAndChain = beside_chain s no_chain in
    let new : DeskAndChain = beside_chain t (shown_after answer t.published no_chain) in
    let works : Works old one answer new = record { of_worker = of; made = is; shown = refl } in
    let h : LosesNothing s t = (worked_keeps old new steady (one ∷ [], answer ∷ [], (new, works, refl))).desk in
    let same = h.accepted in record { steady = h.steady; count = omega arith; net = h.net }

step_counts : (s t : DeskValue) (one : Step) (answer : Reply) → IsSteadyDesk s → Steps s one answer t → Counts s (accepted_by one answer) t
step_counts s t (step.Post collector seq event) answer steady is =
    subst (λ (a : Reply). Counts s (event_taken event a) t) (sym is.1) (post_counts s collector seq event is.0 t steady is.2)
step_counts s t step.Open answer steady is = work_counts s t step.Open answer steady tt is
step_counts s t step.Take answer steady is = work_counts s t step.Take answer steady tt is
step_counts s t (step.Give work) answer steady is = work_counts s t (step.Give work) answer steady tt is
step_counts s t (step.Abandon version dest) answer steady is = work_counts s t (step.Abandon version dest) answer steady tt is
step_counts s t step.Publish answer steady is = work_counts s t step.Publish answer steady tt is

-- one after the other
counts_then : (a b c : DeskValue) (es fs : List Event) → Counts a es b → Counts b fs c → Counts a (es ++ fs) c
counts_then a b c es fs one two =
    let first = one.count in
    let second = two.count in
    let longer : length (es ++ fs) ≡ length es + length fs = length-append es fs in
    record { steady = two.steady; count = omega arith; net = two.net ∙ ap (λ (net : Network). replay net fs) one.net ∙ sym (replay-append (net_now a) es fs) }

runs_count : (s t : DeskValue) (steps : List Step) (replies : List Reply) → IsSteadyDesk s → Runs s steps replies t → Counts s (accepted_in steps replies) t
runs_count s t [] [] steady run = unchanged s t steady run
runs_count s t [] (r ∷ rs) steady run = absurd run
runs_count s t (x ∷ xs) [] steady run = absurd run
runs_count s t (x ∷ xs) (r ∷ rs) steady run =
    let one : Counts s (accepted_by x r) run.0 = step_counts s run.0 x r steady run.1 in
    counts_then s run.0 t (accepted_by x r) (accepted_in xs rs) one (runs_count run.0 t xs rs one.steady run.2)

pub run_counts : (s t : DeskValue) (es : List Event) → IsSteadyDesk s → IsRunOf s es t → Counts s es t
run_counts s t es steady run = subst (λ (l : List Event). Counts s l t) run.accepts (runs_count s t run.steps run.replies steady run.runs)

-- ---- a publication

numbers_push : (numbers : Numbers) (replies : List Reply) (answer : Reply) → numbers_after numbers (replies ++ answer ∷ []) ≡ numbers_by (numbers_after numbers replies) answer
numbers_push numbers [] answer = refl
numbers_push numbers (r ∷ replies) answer = numbers_push (numbers_by numbers r) replies answer

accepted_push : (old mid : DeskValue) (steps : List Step) (replies : List Reply) (one : Step) (answer : Reply) → Runs old steps replies mid
    → accepted_in (steps ++ one ∷ []) (replies ++ answer ∷ []) ≡ accepted_in steps replies ++ accepted_by one answer
accepted_push old mid [] [] one answer run = append-nil (accepted_by one answer)
accepted_push old mid (s ∷ steps) (r ∷ replies) one answer run =
    ap (λ (es : List Event). accepted_by s r ++ es) (accepted_push run.0 mid steps replies one answer run.2) ∙ sym (append_assoc (accepted_by s r) (accepted_in steps replies) (accepted_by one answer))
accepted_push old mid [] (r ∷ replies) one answer run = absurd run
accepted_push old mid (s ∷ steps) [] one answer run = absurd run

-- a number after another
abbrev pub numbers_of : ℕ → ℕ → Numbers
numbers_of now before = record { now = now; before = Some before }

module _ (start : DeskValue) (steady : IsSteadyDesk start) (es : List Event) (old new : DeskValue) (came : IsRunOf start es old) where
  -- the published version of a run is the one of its number, after the version before
  pub published_right : (number : ℕ) → Steps old step.Publish (reply.Publish (Ok number)) new → IsRightVersion start es (numbers_of new.published.number old.published.number) new.published
  published_right number is =
      let steps : List Step = came.steps ++ step.Publish ∷ [] in
      let replies : List Reply = came.replies ++ reply.Publish (Ok number) ∷ [] in
      let before : Numbers = numbers_after (first_numbers start) came.replies in
      let run : Runs start steps replies new = runs-push start old new came.steps came.replies step.Publish (reply.Publish (Ok number)) came.runs is in
      let right : IsRightVersion start (accepted_in steps replies) (numbers_after (first_numbers start) replies) new.published = right_after start steady steps replies new run in
      let events : accepted_in steps replies ≡ es =
      accepted_push start old came.steps came.replies step.Publish (reply.Publish (Ok number)) came.runs ∙ append-nil (accepted_in came.steps came.replies) ∙ came.accepts in
      let pushed : numbers_after (first_numbers start) replies ≡ numbers_of number before.now = numbers_push (first_numbers start) came.replies (reply.Publish (Ok number)) in
      let now : number ≡ new.published.number = sym (right.number ∙ ap (λ (n : Numbers). n.now) pushed) in
      let low : before.now ≡ old.published.number = sym (right_after start steady came.steps came.replies old came.runs).number in
      let numbers : numbers_after (first_numbers start) replies ≡ numbers_of new.published.number old.published.number =
      pushed ∙ ap (λ (n : ℕ). numbers_of n before.now) now ∙ ap (numbers_of new.published.number) low in
      subst (λ (n : Numbers). IsRightVersion start es n new.published) numbers
      (subst (λ (l : List Event). IsRightVersion start l (numbers_after (first_numbers start) replies) new.published) events right)
