-- What a trace tells of its network.
use Rattle.std.proofs.Common.{◌≡◌, ℕ, ◌<◌, Bool, true, false, eqb, List, [], ◌∷◌, Option, Some, None, refl, sym, ap, ◌∙◌, subst}
use Rattle.std.specs.Prelude.{Result, Ok, Err, IfOk}
use Rattle.std.specs.Option.{option_map, option_map_or}
use Rattle.std.proofs.lemmas.Bool.{eqb-true}
use Rattle.net_items.specs.declared.items.Plan.{Plan}
use Rattle.net_items.specs.declared.lists.Row.{Row}
use Rattle.net_items.specs.Lookups.{plan_at, row_at}
use Rattle.net_data.specs.Network.{Network}
use Rattle.profile.specs.declared.hops.Hop.{Hop}
use Rattle.profile.specs.declared.hops.Trace.{Trace}
use Rattle.profile.specs.Status.{Source}
use Rattle.profile.specs.Traces.{trace_of, hops_in, Leads, IsTrace}
use Rattle.profile.proofs.HopLemmas.{trace_is}
use Rattle.excerpts.specs.Excerpt.{ExcerptValue, IsRight, excerpt_in, excerpt_at, source_of}
use Rattle.path_trace.specs.declared.faults.TraceFault.{TraceFault}
use Rattle.path_trace.specs.declared.faults.TraceFault.TheVariants.{NoRow}
use Rattle.path_trace.specs.Traces.{trace_by, IsTraceAnswer, TellsOf, IsTold}

-- a plan that is found is of the destination
dest_is : (plans : List Plan) (x : ℕ) (plan : Plan) → plan_at plans x ≡ Some plan → plan.dest ≡ x
dest_is [] x plan at = cc
dest_is (p ∷ ps) x plan at = go (eqb p.dest x) refl (dest_is ps x plan)
  where
    go : (b : Bool) → eqb p.dest x ≡ b → (plan_at ps x ≡ Some plan → plan.dest ≡ x) → plan.dest ≡ x
    go true t rec = let here : Some p ≡ Some plan = rw t at at in let same : p ≡ plan = cc in ap (λ (q : Plan). q.dest) (sym same) ∙ eqb-true p.dest x t
    go false t rec = rec (rw t at at)

-- the law of traces, of an answer
tells : (src : Source) (y x : ℕ) (trace : Trace) → src.dest ≡ x → IsTrace src y (hops_in trace) → TellsOf src y x trace
tells src y x (Trace.Reached hops) dest is = record { usable = is.usable; few = is.few; leads = subst (Leads y hops) dest is.leads }
tells src y x Trace.Stopped dest is = is

-- a trace that is told is the one that is there
trace_told : (o : Option Row) (hops : Option (List Hop)) (trace : Trace) → IsTraceAnswer (option_map_or (λ row. Ok hops) o (Err NoRow)) (Ok trace) → hops_in trace ≡ hops
trace_told None hops trace answer = absurd (cc)
trace_told (Some row) hops trace answer = answer

told_by : (e : ExcerptValue) (y x s : ℕ) (trace : Trace) → IsRight e → s < 16 → e.plan.dest ≡ x → IsTraceAnswer (trace_by e y s) (Ok trace) → TellsOf (source_of e) y x trace
told_by e y x s trace right low dest answer =
    let is : hops_in trace ≡ trace_of (source_of e) y s = trace_told (row_at e.plan.rows y) (trace_of (source_of e) y s) trace answer in
    tells (source_of e) y x trace dest (subst (IsTrace (source_of e) y) (sym is) (trace_is (source_of e) right.valid right.few s low y))

-- an answer to a trace by the excerpt of a destination tells of the network
pub told : (net : Network) (y x s : ℕ) (e : ExcerptValue) (result : Result Trace TraceFault) → IsRight e → s < 16 → Some e ≡ excerpt_at net x → IsTraceAnswer (trace_by e y s) result → IfOk result (IsTold net y x)
told net y x s e (Err fault) right low at answer = tt
told net y x s e (Ok trace) right low at answer =
    λ plan there. (
    let here : Some e ≡ Some (excerpt_in net plan) = at ∙ ap (option_map (excerpt_in net)) there in
    let same : e ≡ excerpt_in net plan = cc in
    let dest : e.plan.dest ≡ x = ap (λ (f : ExcerptValue). f.plan.dest) same ∙ dest_is net.plans x plan there in
    subst (λ (f : ExcerptValue). TellsOf (source_of f) y x trace) same (told_by e y x s trace right low dest answer))
