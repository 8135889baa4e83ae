-- What a job has of the version before (own).
use Rattle.std.specs.Prelude.{◌≡◌, List, Option, Some, None}
use Rattle.excerpts.specs.declared.turned.Ends.{Ends}
use Rattle.excerpts.specs.Excerpt.{ExcerptValue}
use Rattle.excerpts.specs.Turned.{HasTurned}
use Rattle.transfer_state.specs.Routing.{RoutingValue}

-- a settled routing, and the ends of the sets whose availability differs since
pub record BeforeValue : Type 0 where
  pub routing : RoutingValue
  pub turned : List Ends

-- the routing of an excerpt can be followed from there: it is the same plan, in a network that differs in sets alone
pub record CanFollow (x : ExcerptValue) (b : BeforeValue) : Type 0 where
  pub dest : x.plan.dest ≡ b.routing.excerpt.plan.dest
  pub turned : HasTurned b.routing.excerpt.network x.network b.turned

-- so it can, if there is something to follow
abbrev pub CanFollowAny : ExcerptValue → Option BeforeValue → Type 0
CanFollowAny x None = Unit {0}
CanFollowAny x (Some b) = CanFollow x b
