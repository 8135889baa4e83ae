-- The trace of a signalling link selection through a network, and what an answer tells.
use Rattle.std.specs.Prelude.{◌≡◌, ◌≢◌, ◌≤◌, ℕ, ◌*◌, List, [], Option, Some, Result, Ok, Err, MatchResult, length}
use Rattle.std.specs.Option.{option_map, option_map_or, option_and_then}
use Rattle.route_choice.specs.declared.choices.Choice.{Choice}
use Rattle.route_choice.specs.declared.choices.Far.TheVariants.{Prohibited}
use Rattle.net_items.specs.declared.items.Plan.{Plan}
use Rattle.net_items.specs.Keyed.{at_key}
use Rattle.net_items.specs.Lookups.{plan_at, row_at}
use Rattle.net_data.specs.Network.{Network}
use Rattle.profile.specs.declared.hops.Hop.{Hop}
use Rattle.profile.specs.declared.hops.Trace.{Trace}
use Rattle.profile.specs.Status.{Source, source_rank, source_row, status}
use Rattle.profile.specs.Traces.{trace_of, hops_along, hops_in, Leads}
use Rattle.excerpts.specs.Excerpt.{ExcerptValue, excerpt_in, network_source, source_of}
use Rattle.transfer_state.specs.Routing.{ChoiceRow, ChoiceTable, hop_by}
use Rattle.net_versions.specs.Versions.{VersionValue, table_kept}
use Rattle.path_trace.specs.declared.faults.TraceFault.{TraceFault}
use Rattle.path_trace.specs.declared.faults.TraceFault.TheVariants.{OutOfMemory, NoPlan, NoRow}

-- the trace from a point by one plan: refused if it has no row, else its hops, none if it stops
abbrev pub trace_by : ExcerptValue → ℕ → ℕ → Result (Option (List Hop)) TraceFault
trace_by x y s = option_map_or (λ row. Ok (trace_of (source_of x) y s)) (row_at x.plan.rows y) (Err NoRow)

-- what there is about a trace: refused if the destination has no plan, then if the point has no row; else its hops, none if it stops
abbrev pub trace_at : Network → ℕ → ℕ → ℕ → Result (Option (List Hop)) TraceFault
trace_at net y x s = option_map_or (λ plan. trace_by (excerpt_in net plan) y s) (plan_at net.plans x) (Err NoPlan)

-- ---- the same by what a version keeps

-- the choice that is kept for a point
abbrev pub choice_kept : List ChoiceRow → ℕ → Option Choice
choice_kept rows y = option_map (λ (r : ChoiceRow). r.choice) (at_key (λ (r : ChoiceRow). r.point) y rows)

-- the hop of an SLS from a point by the choice that is kept for it
abbrev pub hop_kept : Source → List ChoiceRow → ℕ → ℕ → Option Hop
hop_kept src rows y s = option_and_then (λ row. option_and_then (λ c. hop_by src row c s) (choice_kept rows y)) (source_row src y)

-- the hops of an SLS by the choices that are kept: twice the rank suffices
abbrev pub hops_kept : Source → List ChoiceRow → ℕ → ℕ → Option (List Hop)
hops_kept src rows y s = hops_along (λ z. hop_kept src rows z s) src.dest (2 * source_rank src y) y

-- the trace from a point by one plan and the choices that are kept
abbrev pub trace_kept_by : ExcerptValue → List ChoiceRow → ℕ → ℕ → Result (Option (List Hop)) TraceFault
trace_kept_by x rows y s = option_map_or (λ row. Ok (hops_kept (source_of x) rows y s)) (row_at x.plan.rows y) (Err NoRow)

-- what a version keeps of a destination, row by row
abbrev pub rows_kept : VersionValue → ℕ → List ChoiceRow
rows_kept version x = option_map_or (λ (t : ChoiceTable). t.rows) (table_kept version x) []

-- what there is about a trace through a version, by what it keeps of the destination
abbrev pub trace_kept : VersionValue → ℕ → ℕ → ℕ → Result (Option (List Hop)) TraceFault
trace_kept version y x s =
    option_map_or (λ plan. trace_kept_by (excerpt_in version.network plan) (rows_kept version x) y s) (plan_at version.network.plans x) (Err NoPlan)

-- ---- answers

-- an answer: the refusal, else the trace, or out of memory
abbrev pub IsTraceAnswer : Result (Option (List Hop)) TraceFault → Result Trace TraceFault → Type 0
IsTraceAnswer (Err fault) result = result ≡ Err fault
IsTraceAnswer (Ok hops) result = MatchResult result (λ trace. hops_in trace ≡ hops) (λ fault. fault ≡ OutOfMemory)

-- hops from a point that isn't prohibited to another, at most twice the rank
pub record IsWay (src : Source) (y x : ℕ) (hops : List Hop) : Type 0 where
  pub usable : status src y ≢ Prohibited
  pub few : length hops ≤ 2 * source_rank src y
  pub leads : Leads y hops x

-- where a trace stops the status of the point is prohibited, else its hops are a way to the destination
abbrev pub TellsOf : Source → ℕ → ℕ → Trace → Type 0
TellsOf src y x (Trace.Reached hops) = IsWay src y x hops
TellsOf src y x Trace.Stopped = status src y ≡ Prohibited

-- what a trace to a destination tells of a network
abbrev pub IsTold : Network → ℕ → ℕ → Trace → Type 0
IsTold net y x trace = (plan : Plan) → plan_at net.plans x ≡ Some plan → TellsOf (network_source net plan) y x trace
