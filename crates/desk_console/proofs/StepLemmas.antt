-- The steps that settle an open target, and what each leaves of the desk.
use Rattle.std.proofs.Common.{◌≡◌, ℕ, ◌<◌, Bool, true, false, List, [], ◌∷◌, Option, Some, None, is_some, Result, Ok, Err, refl, sym, ap, ◌∙◌, subst, length, arith}
use Rattle.std.specs.Prelude.{IsTrue, ◌↔◌}
use Rattle.std.specs.Option.{MatchOption, option_map, option_and_then}
use Rattle.std.proofs.lemmas.Bool.{eq-eqb}
use Rattle.net_items.specs.declared.items.Plan.{Plan}
use Rattle.net_items.specs.Lookups.{plan_at}
use Rattle.net_data.specs.Network.{Network}
use Rattle.excerpts.specs.Excerpt.{ExcerptValue, content_at, content_in, content_of, excerpt_at, excerpt_in}
use Rattle.work_units.specs.Work.{Work}
use Rattle.dirty_sets.specs.Waiting.{Task, waiting_task, first_waiting, out, waiting, is_out, least, taken, without_task}
use Rattle.dirty_sets.proofs.ChangeLemmas.{key_of}
use Rattle.work_units.specs.declared.replies.Refusal.{Refusal}
use Rattle.work_units.specs.declared.replies.Refusal.TheVariants.{Nothing, OutOfMemory}
use Rattle.desk_core.specs.Desk.{DeskValue, OpenTarget, net_at}
use Rattle.desk_core.specs.Steps.{IsGiveReply, IsGiven, IsJobOf, IsOfTarget, IsAbandonReply, IsReply, Abandons, Gives, Takes, first_of, tasks_left, out_refusal, target_number, with_tasks}
use Rattle.desk_console.specs.Settling.{HasOnlyTasks, out_count, waiting_count}
use Rattle.desk_console.proofs.TaskLemmas.{first_is_out, first_waits, none_left, out_put_last, out_without_none, waiting_without_le}

-- the desk with a target of that number and these tasks open
abbrev with_open : DeskValue → ℕ → List Task → DeskValue
with_open s number tasks = record s { target = Some (record { number = number; tasks = tasks }) }

-- what holds with any open target holds of a desk that has one
at_open : (P : DeskValue → Type 0) (d : DeskValue) → ((number : ℕ) (tasks : List Task) → P (with_open d number tasks)) → is_some d.target ≡ true → P d
at_open P d all = go d.target
  where
    go : (o : Option OpenTarget) → is_some o ≡ true → P (record d { target = o })
    go None there = absurd (let wrong : false ≡ true = there in cc)
    go (Some t) there = all t.number t.tasks

-- a desk whose target has a number has one open
pub numbered_open : (d : DeskValue) (number : ℕ) → target_number d ≡ Some number → is_some d.target ≡ true
numbered_open d number = go d.target
  where
    go : (o : Option OpenTarget) → option_map (λ (t : OpenTarget). t.number) o ≡ Some number → is_some o ≡ true
    go None e = absurd (cc)
    go (Some t) e = refl

-- something waits only for an open target
pub waits_open : (d : DeskValue) → 0 < waiting_count d → is_some d.target ≡ true
waits_open d = go d.target
  where
    go : (o : Option OpenTarget) → 0 < waiting_count (record d { target = o }) → is_some o ≡ true
    go None some = absurd (let wrong : 0 < 0 = some in omega arith)
    go (Some t) some = refl

-- a first destination waits exactly if some do
first_counts : (tasks : List Task) → (is_some (first_waiting tasks) ≡ true → 0 < length (waiting tasks)) × (is_some (first_waiting tasks) ≡ false → length (waiting tasks) ≡ 0)
first_counts [] = ((λ e. absurd (let no : false ≡ true = e in cc)), λ e. refl)
first_counts (t ∷ ts) = go t.is_out refl (first_counts ts)
  where
    go : (b : Bool) → t.is_out ≡ b → (is_some (first_waiting ts) ≡ true → 0 < length (waiting ts)) × (is_some (first_waiting ts) ≡ false → length (waiting ts) ≡ 0)
        → (is_some (first_waiting (t ∷ ts)) ≡ true → 0 < length (waiting (t ∷ ts))) × (is_some (first_waiting (t ∷ ts)) ≡ false → length (waiting (t ∷ ts)) ≡ 0)
    go true e rec = rw e rec
    go false e rec = rw e ((λ some. omega arith), λ none. absurd (let no : true ≡ false = none in cc))

-- some wait if there is a first, and else none
pub waits_first : (d : DeskValue) → (is_some (first_of d) ≡ true → 0 < waiting_count d) × (is_some (first_of d) ≡ false → waiting_count d ≡ 0)
waits_first d = go d.target
  where
    go : (o : Option OpenTarget) → (is_some (first_of (record d { target = o })) ≡ true → 0 < waiting_count (record d { target = o })) × (is_some (first_of (record d { target = o })) ≡ false → waiting_count (record d { target = o }) ≡ 0)
    go None = ((λ e. absurd (let no : false ≡ true = e in cc)), λ e. refl)
    go (Some t) = first_counts t.tasks

-- nothing has changed
pub only_none : (d : DeskValue) → HasOnlyTasks d d
only_none d = record { same = refl; number = refl }

-- only tasks changed, and then only tasks
pub only_then : (old mid new : DeskValue) → HasOnlyTasks old mid → HasOnlyTasks mid new → HasOnlyTasks old new
only_then old mid new one other = record {
  same = other.same ∙ ap (λ (d : DeskValue). record d { target = new.target }) one.same;
  number = other.number ∙ one.number;
}

-- ---- abandonment

-- the destination waits again, and fewer are out
pub record IsAbandoned (d : DeskValue) (result : Result (Unit {0}) Refusal) (new : DeskValue) : Type 0 where
  pub done : result ≡ Ok tt
  pub only : HasOnlyTasks d new
  pub fewer : out_count new < out_count d

-- the first that is out is abandoned
abbrev AbandonsFirst : ℕ → ℕ → Result (Unit {0}) Refusal → DeskValue → DeskValue → Type 0
AbandonsFirst number x result new d =
    target_number d ≡ Some number → option_and_then (λ (t : OpenTarget). least (out t.tasks)) d.target ≡ Some x → Abandons d number x result new → IsAbandoned d result new

abandon_open : (number x : ℕ) (result : Result (Unit {0}) Refusal) (new s : DeskValue) (n : ℕ) (tasks : List Task) → AbandonsFirst number x result new (with_open s n tasks)
abandon_open number x result new s n tasks named first is =
    let same : n ≡ number = let e : Some n ≡ Some number = named in cc in
    let there : is_out tasks x ≡ true = first_is_out tasks x first in
    let none : out_refusal (with_open s n tasks) number x ≡ None = rw (eq-eqb n number same, there) refl in
    let done : IsAbandonReply None (with_open s n tasks) x result new = subst (λ o. IsAbandonReply o (with_open s n tasks) x result new) none is in
    record {
      done = done.0;
      only = subst (λ (d : DeskValue). HasOnlyTasks (with_open s n tasks) d) (sym done.1) (record { same = refl; number = refl });
      fewer = subst (λ (d : DeskValue). out_count d < length (out tasks)) (sym done.1) (out_put_last x tasks there);
    }

pub abandon_first : (d : DeskValue) (number x : ℕ) (result : Result (Unit {0}) Refusal) (new : DeskValue) → AbandonsFirst number x result new d
abandon_first d number x result new named =
    at_open (AbandonsFirst number x result new) d (abandon_open number x result new d) (numbered_open d number named) named

-- if there is no first, nothing is out
pub none_first : (d : DeskValue) → option_and_then (λ (t : OpenTarget). least (out t.tasks)) d.target ≡ None → out_count d ≡ 0
none_first d = go d.target
  where
    listed : (xs : List ℕ) → least xs ≡ None → length xs ≡ 0
    listed [] e = refl
    listed (x ∷ xs) e = absurd (cc)

    go : (o : Option OpenTarget) → option_and_then (λ (t : OpenTarget). least (out t.tasks)) o ≡ None → out_count (record d { target = o }) ≡ 0
    go None e = refl
    go (Some t) e = listed (out t.tasks) e

-- ---- a job

-- the excerpt of a destination is for that destination, and has what the table reads there
abbrev IsExcerptOf : Network → ℕ → ExcerptValue → Type 0
IsExcerptOf net x e = (e.plan.dest ≡ x) × (content_at net x ≡ Some (content_of e))

excerpt_of : (net : Network) (x : ℕ) (e : ExcerptValue) → excerpt_at net x ≡ Some e → IsExcerptOf net x e
excerpt_of net x e there = go (plan_at net.plans x) refl
  where
    go : (o : Option Plan) → plan_at net.plans x ≡ o → IsExcerptOf net x e
    go None none = absurd (let wrong : None ≡ Some e = rw none at there in cc)
    go (Some plan) found =
        let some : Some (excerpt_in net plan) ≡ Some e = rw found at there in
        let is : excerpt_in net plan ≡ e = cc in
        subst (IsExcerptOf net x) is (key_of (λ (p : Plan). p.dest) x net.plans plan found, ap (option_map (content_in net)) found)

-- a job is taken, or memory is refused
pub record IsTaken (d : DeskValue) (result : Result Work Refusal) (new : DeskValue) : Type 0 where
  pub only : HasOnlyTasks d new
  pub refused : (refusal : Refusal) → result ≡ Err refusal → refusal ≡ OutOfMemory

abbrev TakesOne : Result Work Refusal → DeskValue → DeskValue → Type 0
TakesOne result new d = out_count d ≡ 0 → 0 < waiting_count d → Takes d result new → IsTaken d result new

take_open : (result : Result Work Refusal) (new s : DeskValue) (n : ℕ) (tasks : List Task) → TakesOne result new (with_open s n tasks)
take_open result new s n tasks none some =
    first_waits (λ ts. Takes (with_open s n ts) result new → IsTaken (with_open s n ts) result new) (λ x more idle. go x more result) tasks none some
  where
    go : (x : ℕ) (more : List Task) (r : Result Work Refusal) → Takes (with_open s n (waiting_task x ∷ more)) r new → IsTaken (with_open s n (waiting_task x ∷ more)) r new
    go x more (Ok job) is = record {
      only = subst (λ (d : DeskValue). HasOnlyTasks (with_open s n (waiting_task x ∷ more)) d) (sym is.1) (record { same = refl; number = refl });
      refused = λ refusal e. absurd (cc);
    }
    go x more (Err e) is = record {
      only = subst (λ (d : DeskValue). HasOnlyTasks (with_open s n (waiting_task x ∷ more)) d) (sym is.1) (record { same = refl; number = refl });
      refused = λ refusal same. let out : e ≡ refusal = cc in sym out ∙ is.0;
    }

pub take_one : (d : DeskValue) (result : Result Work Refusal) (new : DeskValue) → TakesOne result new d
take_one d result new none some = at_open (TakesOne result new) d (take_open result new d) (waits_open d some) none some

-- the target's network has what the job read
pub took_of_target : (d mid : DeskValue) (result : Result Work Refusal) (job settled : Work) → result ≡ Ok job → Takes d result mid → settled ≡ job → IsOfTarget mid settled
took_of_target d mid result job settled is takes same = subst (IsOfTarget mid) (sym same) (go (first_of d) (subst (λ r. Takes d r mid) is takes))
  where
    there : (o : Option OpenTarget) (x : ℕ) → MatchOption o ⊥ (λ t. (job.version ≡ t.number) × (excerpt_at (net_at d t.number) x ≡ Some job.excerpt))
        → MatchOption (option_map (λ (t : OpenTarget). record t { tasks = taken t.tasks }) o) ⊥ (λ t. content_at (net_at d t.number) job.excerpt.plan.dest ≡ Some (content_of job.excerpt))
    there None x is = is
    there (Some t) x is =
        let of = excerpt_of (net_at d t.number) x job.excerpt is.1 in
        subst (λ (y : ℕ). content_at (net_at d t.number) y ≡ Some (content_of job.excerpt)) (sym of.0) of.1

    go : (o : Option ℕ) → MatchOption o ((Ok job ≡ Err Nothing) × (mid ≡ d)) (λ x. IsReply None (λ job after. IsJobOf d x job × (after ≡ with_tasks d taken)) d (Ok job) mid) → IsOfTarget mid job
    go None is = absurd (let wrong = is.0 in cc)
    go (Some x) is = subst (λ (s : DeskValue). IsOfTarget s job) (sym is.1) (there d.target x is.0)

-- ---- its result

-- the result is taken in: nothing is out, and fewer wait
pub record IsSettled (d : DeskValue) (result : Result (Unit {0}) (Work × Refusal)) (new : DeskValue) : Type 0 where
  pub done : result ≡ Ok tt
  pub only : HasOnlyTasks d new
  pub none : out_count new ≡ 0
  pub fewer : waiting_count new < waiting_count d

abbrev SettlesOne : Work → DeskValue → Result (Unit {0}) (Work × Refusal) → DeskValue → DeskValue → Type 0
SettlesOne job mid result new d = out_count d ≡ 0 → 0 < waiting_count d → Takes d (Ok job) mid → Gives mid job result new → IsSettled d result new

module _ (job : Work) (result : Result (Unit {0}) (Work × Refusal)) (new s : DeskValue) (n x : ℕ) (more : List Task) (idle : length (out more) ≡ 0) where
  -- the desk, and then with the first out
  abbrev before : DeskValue
  before = with_open s n (waiting_task x ∷ more)

  abbrev after : DeskValue
  after = with_open s n (record { dest = x; is_out = true } ∷ more)

  -- without the job's destination
  left : without_task x (record { dest = x; is_out = true } ∷ more) ≡ without_task x more
  left = rw (eq-eqb x x refl) refl

  put_in : new ≡ with_open s n (without_task x more) → result ≡ Ok tt → IsSettled before result new
  put_in is done = subst (λ (d : DeskValue). IsSettled before result d) (sym is) (record {
    done = done;
    only = record { same = refl; number = refl };
    none = out_without_none x more idle;
    fewer = let le = waiting_without_le x more in omega arith;
  })

  give_after : job.version ≡ n → IsExcerptOf (net_at s n) x job.excerpt → Gives after job result new → IsSettled before result new
  give_after version of given = go reply.0 reply.1 reply.2
    where
      refusal : out_refusal after job.version job.excerpt.plan.dest ≡ None
      refusal = rw (version, of.0, eq-eqb n n refl, eq-eqb x x refl) refl

      reply : IsGiveReply None after job result new
      reply = subst (λ o. IsGiveReply o after job result new) refusal given

      go : (same : Bool) → (IsTrue same ↔ IsOfTarget after job) → IsGiven same after job result new → IsSettled before result new
      go true iff is = put_in (is.1 ∙ ap (λ (y : ℕ). with_open s n (without_task y (record { dest = x; is_out = true } ∷ more))) of.0 ∙ ap (with_open s n) left) is.0
      go false iff is = absurd (let wrong : false ≡ true = iff.1 (subst (λ (y : ℕ). content_at (net_at s n) y ≡ Some (content_of job.excerpt)) (sym of.0) of.1) in cc)

settle_open : (job : Work) (mid : DeskValue) (result : Result (Unit {0}) (Work × Refusal)) (new s : DeskValue) (n : ℕ) (tasks : List Task) → SettlesOne job mid result new (with_open s n tasks)
settle_open job mid result new s n tasks none some =
    first_waits (λ ts. Takes (with_open s n ts) (Ok job) mid → Gives mid job result new → IsSettled (with_open s n ts) result new)
    (λ x more idle taken given. give_after job result new s n x more idle taken.0.0 (excerpt_of (net_at s n) x job.excerpt taken.0.1)
    (subst (λ (d : DeskValue). Gives d job result new) taken.1 given))
    tasks none some

-- the job that is taken is done, and its result given
pub settle_one : (d mid new : DeskValue) (taken : Result Work Refusal) (job settled : Work) (result : Result (Unit {0}) (Work × Refusal)) → out_count d ≡ 0 → 0 < waiting_count d
    → taken ≡ Ok job → Takes d taken mid → settled ≡ job → Gives mid settled result new → IsSettled d result new
settle_one d mid new taken job settled result none some is takes same gives =
    at_open (SettlesOne job mid result new) d (settle_open job mid result new d) (waits_open d some) none some
    (subst (λ r. Takes d r mid) is takes) (subst (λ (w : Work). Gives mid w result new) same gives)

-- ---- publication

-- nothing is left if nothing is out and nothing waits
pub nothing_left : (d : DeskValue) → out_count d ≡ 0 → waiting_count d ≡ 0 → tasks_left d ≡ 0
nothing_left d = go d.target
  where
    go : (o : Option OpenTarget) → out_count (record d { target = o }) ≡ 0 → waiting_count (record d { target = o }) ≡ 0 → tasks_left (record d { target = o }) ≡ 0
    go None none idle = refl
    go (Some t) none idle = none_left t.tasks none idle
