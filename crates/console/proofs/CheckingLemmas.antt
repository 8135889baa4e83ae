-- What is found of settled tables.
use Rattle.std.proofs.Common.{◌≡◌, List, Option, Some, None, Result, Ok, Err, refl, subst}
use Rattle.std.specs.Prelude.{All, IfOk, MatchOption}
use Rattle.std.proofs.lemmas.Option.{slice_get_within, get_or_from_slice_get}
use Rattle.net_data.specs.Network.{Network}
use Rattle.profile.specs.declared.tables.Table.{Table}
use Rattle.all_tables.specs.Tables.{IsSettledIn, IsFirstWrongTable}
use Rattle.all_tables.specs.declared.checking.Wrong.{Wrong}

module _ (net : Network) (given : List Table) (all : All (IsSettledIn net) given) where
  -- none of them is the first wrong one
  none_wrong : (w : Wrong) → IsFirstWrongTable net given w → ⊥
  none_wrong w first =
      first.unsettled (subst (IsSettledIn net) (get_or_from_slice_get given first.position first.table first.table first.there)
      (all first.position first.table (slice_get_within given first.position first.table first.there)))

  pub found_none : (wrong : Option Wrong) → MatchOption wrong (All (IsSettledIn net) given) (IsFirstWrongTable net given) → wrong ≡ None
  found_none None found = refl
  found_none (Some w) found = absurd (none_wrong w found)

-- what follows of each answer
pub then_ok : {A E : Type 0} (P Q : A → Type 0) (r : Result A E) → ((a : A) → P a → Q a) → IfOk r P → IfOk r Q
then_ok P Q (Ok a) f p = f a p
then_ok P Q (Err e) f p = tt
