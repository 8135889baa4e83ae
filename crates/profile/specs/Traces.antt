-- The trace of an SLS: the links that it follows to the destination.
use Rattle.std.specs.Prelude.{◌≡◌, ◌≢◌, ◌≤◌, ℕ, zero, suc, ◌==◌, ◌*◌, List, [], ◌∷◌, Option, Some, None, if◌then◌else◌, length}
use Rattle.std.specs.Option.{option_map, option_and_then, MatchOption}
use Rattle.route_choice.specs.declared.choices.Far.TheVariants.{Prohibited}
use Rattle.profile.specs.declared.hops.Hop.{Hop}
use Rattle.profile.specs.declared.hops.Trace.{Trace}
use Rattle.profile.specs.Status.{Source, source_row, source_rank, status, choice}
use Rattle.profile.specs.Whole.{carrier, link_of}

-- the hop of an SLS from a point
abbrev pub hop_of : Source → ℕ → ℕ → Option Hop
hop_of src y s =
    option_and_then (λ row.
    option_and_then (λ z.
    option_map (λ link. record { from = y; link = link; to = z })
    (link_of src row (choice src row) s)) (carrier row (choice src row) s)) (source_row src y)

-- the hops from a point to a destination in at most n, where `next` tells the hop of each point: None if they stop
unfoldable pub hops_along : (ℕ → Option Hop) → ℕ → ℕ → ℕ → Option (List Hop)
hops_along next dest zero y = if y == dest then Some [] else None
hops_along next dest (suc n) y =
    if y == dest then Some []
    else option_and_then (λ (hop : Hop). option_map (λ rest. hop ∷ rest) (hops_along next dest n hop.to)) (next y)

-- the hops of an SLS in at most n: None if it stops
abbrev pub hops_within : Source → ℕ → ℕ → ℕ → Option (List Hop)
hops_within src n y s = hops_along (λ z. hop_of src z s) src.dest n y

-- the hops of an SLS: twice the rank suffices
abbrev pub trace_of : Source → ℕ → ℕ → Option (List Hop)
trace_of src y s = hops_within src (2 * source_rank src y) y s

-- hops that follow each other from a point to another
abbrev pub Leads : ℕ → List Hop → ℕ → Type 0
Leads y [] x = y ≡ x
Leads y (hop ∷ hops) x = (hop.from ≡ y) × Leads hop.to hops x

-- hops from a point that isn't prohibited to the destination, at most twice its rank
pub record IsReached (src : Source) (y : ℕ) (hops : List Hop) : Type 0 where
  pub usable : status src y ≢ Prohibited
  pub few : length hops ≤ 2 * source_rank src y
  pub leads : Leads y hops src.dest

-- a trace stops exactly if the status is prohibited, and else it leads to the destination
abbrev pub IsTrace : Source → ℕ → Option (List Hop) → Type 0
IsTrace src y trace = MatchOption trace (status src y ≡ Prohibited) (IsReached src y)

-- the hops that an answer tells
abbrev pub hops_in : Trace → Option (List Hop)
hops_in (Trace.Reached hops) = Some hops
hops_in Trace.Stopped = None
