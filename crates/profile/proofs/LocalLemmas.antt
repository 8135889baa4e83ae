-- The rule that a row obeys by its neighbours' messages alone, spoken of choices.
use Rattle.std.specs.Prelude.{◌≡◌, ℕ, ◌==◌, Some, if◌then◌else◌}
use Rattle.std.specs.Option.{option_and_then}
use Rattle.route_choice.specs.declared.choices.Far.{Far}
use Rattle.route_choice.specs.declared.choices.Choice.{Choice}
use Rattle.net_items.specs.declared.lists.Row.{Row}
use Rattle.route_choice.specs.Routes.{choose}
use Rattle.profile.specs.Status.{Source, source_row, offers, mate_row, over_mate, choice}
use Rattle.profile.specs.Local.{message, reading}

-- the far status that z hears from a point with this choice
abbrev pub heard : Choice → ℕ → Far
heard c z = reading (message c z)

-- what y hears of each via, where `entries` tells the choices
abbrev pub far_heard : Source → (ℕ → Choice) → ℕ → ℕ → Far
far_heard src entries y z = if z == src.dest then Far.Allowed else heard (entries z) y

-- the choice that a row makes by what it hears
abbrev pub local_choice : Source → (ℕ → Choice) → Row → Choice
local_choice src entries row =
    choose src.tfr (offers src (far_heard src entries row.point) row)
    (option_and_then (λ mate. over_mate src row mate (heard (entries mate.point) row.point)) (mate_row src row))

-- each row's choice is the one that it makes by what it hears
abbrev pub IsSettled : Source → (ℕ → Choice) → Type 0
IsSettled src entries = (y : ℕ) (row : Row) → source_row src y ≡ Some row → entries y ≡ local_choice src entries row

-- each row's choice is the definition's
abbrev pub IsScratch : Source → (ℕ → Choice) → Type 0
IsScratch src entries = (y : ℕ) (row : Row) → source_row src y ≡ Some row → entries y ≡ choice src row
