-- A publication at once is a run of the desk's steps: an opening, a job and its result for each destination that waits, and a publication.
use Rattle.std.proofs.Common.{◌≡◌, ℕ, ◌-◌, ◌<◌, Bool, true, false, eqb, List, [], ◌∷◌, Option, Some, None, is_some, Ok, refl, sym, ap, ◌∙◌, subst, length, take, arith}
use Rattle.std.specs.List.{AllByRecursion}
use Rattle.std.specs.Option.{option_map}
use Rattle.std.proofs.Math.Seq.{take-length}
use Rattle.std.proofs.lemmas.Bool.{eq-eqb, eqb-true, ne_eqb}
use Rattle.net_items.specs.declared.items.Plan.{Plan}
use Rattle.net_items.specs.Keyed.{IsRising}
use Rattle.net_items.specs.Lookups.{plan_at}
use Rattle.net_data.specs.Network.{Network}
use Rattle.net_data.specs.Edits.{replay}
use Rattle.excerpts.specs.Excerpt.{content_in, excerpt_in}
use Rattle.excerpts.proofs.TurnedLemmas.{place_found}
use Rattle.dirty_sets.specs.Touch.{is_planned}
use Rattle.dirty_sets.specs.Waiting.{Task, all_waiting, waiting_task, without_task}
use Rattle.work_units.specs.Work.{Work}
use Rattle.work_units.specs.declared.replies.Opened.{Opened}
use Rattle.work_units.specs.declared.replies.Refusal.{Refusal}
use Rattle.desk_core.specs.declared.steps.Step.TheVariants as step
use Rattle.desk_core.specs.declared.steps.Reply.TheVariants as reply
use Rattle.desk_core.specs.Desk.{DeskValue, accepted, net_at, net_now, next_version, to_settle, touched_by}
use Rattle.desk_core.specs.Runs.{IsRunOf}
use Rattle.desk_core.specs.Steps.{Gives, IsGiveReply, out_refusal, with_target, with_version}
use Rattle.desk_core.proofs.OpeningLemmas.{opens_is, planned_dests, touched_rise}
use Rattle.desk_core.proofs.RunLemmas.{run_none, run_one, run_then}

-- the desk with all accepted events as its target, for which some tasks are left
abbrev left : DeskValue → List Task → DeskValue
left s tasks = record s { target = Some (record { number = accepted s; tasks = tasks }) }

-- a destination before all others is none of them
without_least : (x : ℕ) (xs : List ℕ) → AllByRecursion (λ y. x < y) xs → without_task x (all_waiting xs) ≡ all_waiting xs
without_least x [] above = refl
without_least x (y ∷ ys) above =
    let other : eqb y x ≡ false = ne_eqb y x (λ same. let up = above.0 in omega (arith, up, same)) in
    rw other (ap (λ (ts : List Task). waiting_task y ∷ ts) (without_least x ys above.1))

module _ (s : DeskValue) (p : Plan) (xs : List ℕ) where
  abbrev x : ℕ
  x = p.dest

  -- the job of its destination
  abbrev job : Work
  job = record { version = accepted s; excerpt = excerpt_in (net_at s (accepted s)) p }

  -- the first is out, and the others wait
  abbrev out_first : List Task
  out_first = record { dest = x; is_out = true } ∷ all_waiting xs

  nothing_refused : out_refusal (left s out_first) (accepted s) x ≡ None
  nothing_refused = rw (eq-eqb (accepted s) (accepted s) refl, eq-eqb x x refl) refl

  given : plan_at (net_at s (accepted s)).plans x ≡ Some p → AllByRecursion (λ y. x < y) xs → Gives (left s out_first) job (Ok tt) (left s (all_waiting xs))
  given there above =
      let gone : without_task x out_first ≡ all_waiting xs = rw (eq-eqb x x refl) (without_least x xs above) in
      subst (λ (o : Option Refusal). IsGiveReply o (left s out_first) job (Ok tt) (left s (all_waiting xs))) (sym nothing_refused)
      (true, ((λ t. ap (option_map (content_in (net_at s (accepted s)))) there), (λ same. refl)), (refl, ap (left s) (sym gone)))

  -- a job of the first and its result
  settled_first : plan_at (net_at s (accepted s)).plans x ≡ Some p → AllByRecursion (λ y. x < y) xs → IsRunOf (left s (all_waiting (x ∷ xs))) [] (left s (all_waiting xs))
  settled_first there above =
      run_then (left s (all_waiting (x ∷ xs))) (left s out_first) (left s (all_waiting xs)) [] []
      (run_one (left s (all_waiting (x ∷ xs))) (left s out_first) step.Take (reply.Take (Ok job)) (Ok job, refl, ((refl, ap (option_map (excerpt_in (net_at s (accepted s)))) there), refl)))
      (run_one (left s out_first) (left s (all_waiting xs)) (step.Give job) (reply.Give (Ok tt)) (Ok tt, refl, given there above))

-- the same of all that wait
settled_all : (s : DeskValue) (xs : List ℕ) → AllByRecursion (λ x. is_planned (net_at s (accepted s)) x ≡ true) xs → IsRising (λ x. x) xs → IsRunOf (left s (all_waiting xs)) [] (left s [])
settled_all s [] planned up = run_none (left s [])
settled_all s (x ∷ xs) planned up = run_then (left s (all_waiting (x ∷ xs))) (left s (all_waiting xs)) (left s []) [] [] (go (plan_at (net_at s (accepted s)).plans x) refl planned.0) (settled_all s xs planned.1 up.1)
  where
    go : (o : Option Plan) → plan_at (net_at s (accepted s)).plans x ≡ o → is_some o ≡ true → IsRunOf (left s (all_waiting (x ∷ xs))) [] (left s (all_waiting xs))
    go None there some = absurd (cc)
    go (Some p) there some =
        let same : p.dest ≡ x = eqb-true p.dest x (place_found (λ (q : Plan). eqb q.dest x) (net_at s (accepted s)).plans p there).2 in
        subst (λ y. IsRunOf (left s (all_waiting (y ∷ xs))) [] (left s (all_waiting xs))) same
        (settled_first s p xs (subst (λ y. plan_at (net_at s (accepted s)).plans y ≡ Some p) (sym same) there) (subst (λ y. AllByRecursion (λ z. y < z) xs) (sym same) up.0))

-- all accepted events are those since the published version
pub all_accepted : (s : DeskValue) → take (accepted s - s.published.number) s.pending ≡ s.pending
all_accepted s = let all : accepted s - s.published.number ≡ length s.pending = omega arith in ap (λ k. take k s.pending) all ∙ take-length s.pending

pub run_at_once : (s : DeskValue) → s.target ≡ None → eqb (length s.pending) 0 ≡ false → IsRising (λ (p : Plan). p.dest) (net_now s).plans
    → IsRunOf s [] (with_version s (next_version s (accepted s)))
run_at_once s none some up =
    let touched : ℕ → Bool = touched_by s.published.network s.pending in
    let now : net_at s (accepted s) ≡ net_now s = ap (replay s.published.network) (all_accepted s) in
    let planned : AllByRecursion (λ x. is_planned (net_at s (accepted s)) x ≡ true) (to_settle s)
    = subst (λ (n : Network). AllByRecursion (λ x. is_planned n x ≡ true) (to_settle s)) (sym now) (planned_dests (net_now s) touched) in
    let answer : Opened = record { target = accepted s; waiting = length (to_settle s) } in
    let after : DeskValue = with_version s (next_version s (accepted s)) in
    run_then s (with_target s) after [] []
    (run_one s (with_target s) step.Open (reply.Open (Ok answer)) (Ok answer, refl, opens_is s (with_target s) answer none some refl refl))
    (run_then (with_target s) (left s []) after [] []
    (settled_all s (to_settle s) planned (touched_rise (net_now s) touched up))
    (run_one (left s []) after step.Publish (reply.Publish (Ok (accepted s))) (Ok (accepted s), refl, (next_version s (accepted s), refl, refl, refl))))
