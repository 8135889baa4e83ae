-- The settled tables of a network, and what is wrong with tables that are given.
use Rattle.std.specs.Prelude.{◌≡◌, ℕ, List, [], ◌∷◌, Option, Some, None, All, map, slice_get, take}
use Rattle.std.specs.Option.{MatchOption}
use Rattle.net_data.specs.Network.{Network}
use Rattle.profile.specs.declared.tables.Table.{Table}
use Rattle.profile.specs.Whole.{scratch}
use Rattle.excerpts.specs.Excerpt.{excerpt_at, network_source, source_of, table_at}
use Rattle.transfer_state.specs.Complaints.{IsFirstComplaint}
use Rattle.transfer_state.specs.declared.complaints.Clause.TheVariants.{Points}
use Rattle.transfer_state.specs.declared.complaints.Complaint.{Complaint}
use Rattle.all_tables.specs.declared.checking.Wrong.{Wrong}

-- the settled tables of all planned destinations, in rising code
abbrev pub tables : Network → List Table
tables net = map (λ plan. scratch (network_source net plan)) net.plans

-- those that are there, in their order
abbrev pub those_there : {X : Type 0} → List (Option X) → List X
those_there [] = []
those_there (None ∷ os) = those_there os
those_there (Some x ∷ os) = x ∷ those_there os

-- a table is the settled one of its destination
abbrev pub IsSettledIn : Network → Table → Type 0
IsSettledIn net table = table_at net table.dest ≡ Some table

-- the first complaint about a table of a network: of its points, where its destination has no plan
abbrev pub IsFirstComplaintIn : Network → Table → Complaint → Type 0
IsFirstComplaintIn net table c =
    MatchOption (excerpt_at net table.dest) (c ≡ record { point = table.dest; clause = Points }) (λ x. IsFirstComplaint (source_of x) table c)

-- what is said of a table: nothing exactly if it is the settled one, else the first complaint
abbrev pub IsJudged : Network → Table → Option Complaint → Type 0
IsJudged net table complaint = MatchOption complaint (IsSettledIn net table) (λ c. IsFirstComplaintIn net table c × (IsSettledIn net table → ⊥))

-- the first of some tables that is not the settled one of its destination, with the first complaint about it
pub record IsFirstWrongTable (net : Network) (given : List Table) (wrong : Wrong) : Type 0 where
  pub position : ℕ
  pub table : Table
  pub there : slice_get given position ≡ Some table
  pub before : All (IsSettledIn net) (take position given)
  pub unsettled : IsSettledIn net table → ⊥
  pub dest : wrong.dest ≡ table.dest
  pub complaint : IsFirstComplaintIn net table wrong.complaint
