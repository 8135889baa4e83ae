-- What is kept to tell what moved (own).
use Rattle.std.specs.Prelude.{ℕ, ◌==◌, ◌&&◌, not, Bool, false, if◌then◌else◌, List, ◌∷◌, Option, Some, None, find, replicate, slice_index_or, take, unwrap_or}
use Rattle.std.specs.Option.{option_map_or}
use Rattle.net_versions.specs.Versions.{VersionValue}
use Rattle.script_words.specs.declared.moves.Moves.{Moves}
use Rattle.script_words.specs.declared.moves.Moves.TheVariants as moves
use Rattle.answers.specs.Changes.{Earlier, changes_answer, earlier, moved_since}
use Rattle.answers.specs.declared.answer.Answer.{Answer}
use Rattle.answers.specs.declared.answer.Answer.TheVariants as answer
use Rattle.answers.specs.declared.answer.Moved.{Moved}
use Rattle.answers.specs.declared.answer.Reason.TheVariants as reason

-- the last eight versions before the published one, the newest first, as far as there are so many, and whether what a publication moves is told behind its reply
pub record WatchValue : Type 0 where
  pub kept : List (Option Earlier)
  pub is_on : Bool

-- nothing was published yet, and nothing is told behind replies
abbrev pub unwatched : WatchValue
unwatched = record { kept = replicate 8 None; is_on = false }

-- whether a command has put another version in the place of the one that was published
abbrev pub is_replaced : VersionValue → VersionValue → Bool
is_replaced old new = not (new.number == old.number)

-- what is kept after a command that found a version published and leaves one
abbrev pub watched : WatchValue → VersionValue → VersionValue → WatchValue
watched w old new = if is_replaced old new then record w { kept = Some (earlier old) ∷ take 7 w.kept } else w

-- the version before
abbrev pub newest : WatchValue → Option Earlier
newest w = slice_index_or w.kept 0 None

-- a place has the version of a number
abbrev pub has_number : ℕ → Option Earlier → Bool
has_number n kept = option_map_or (λ (e : Earlier). e.number == n) kept false

-- the version of a number among kept ones, if it is there
abbrev pub among : List (Option Earlier) → ℕ → Option Earlier
among kept n = unwrap_or (find (has_number n) kept) None

-- the version of a number, if it is kept
abbrev pub kept_at : WatchValue → ℕ → Option Earlier
kept_at w n = among w.kept n

-- what moved since an earlier version, refused if that isn't kept
abbrev pub told_since : Moves → Option Earlier → VersionValue → Answer
told_since which None version = answer.Refused reason.NotKept
told_since which (Some old) version = changes_answer which (Some old) version.number version.network

-- what moved since the version before, or since the one of a number: all of it, or what is of a kind
abbrev pub changes_told : WatchValue → Moves → Option ℕ → VersionValue → Answer
changes_told w which None version = changes_answer which (newest w) version.number version.network
changes_told w which (Some n) version = told_since which (kept_at w n) version

-- what is told behind the reply of a command that found a version published and leaves one: what moved, if that is watched
abbrev pub notice : WatchValue → VersionValue → VersionValue → Option Moved
notice w old new = if w.is_on && is_replaced old new then Some (moved_since moves.All (newest (watched w old new)) new.network) else None
