-- What is told of what moved from an earlier version to the published one (own).
use Rattle.std.specs.Prelude.{ℕ, Bool, true, List, [], Option, Some, None, filter}
use Rattle.net_data.specs.Network.{Network}
use Rattle.net_versions.specs.Versions.{VersionValue}
use Rattle.what_if.specs.declared.reroutes.Reroute.{Reroute}
use Rattle.what_if.specs.Reroutes.{is_lost, is_only_moved, is_regained, reroute_counts, reroutes}
use Rattle.script_words.specs.declared.moves.Moves.{Moves}
use Rattle.script_words.specs.declared.moves.Moves.TheVariants as moves
use Rattle.answers.specs.declared.answer.Answer.{Answer}
use Rattle.answers.specs.declared.answer.Answer.TheVariants as answer
use Rattle.answers.specs.declared.answer.Moved.{Moved}
use Rattle.answers.specs.declared.answer.Publication.TheVariants as publication

-- what is known of an earlier version: its number and its network
pub record Earlier : Type 0 where
  pub number : ℕ
  pub network : Network

-- what is known of a version later on
abbrev pub earlier : VersionValue → Earlier
earlier version = record { number = version.number; network = version.network }

-- whether a reroute is of a kind that is asked for
abbrev pub is_of_kind : Moves → Reroute → Bool
is_of_kind moves.All r = true
is_of_kind moves.Lost r = is_lost r
is_of_kind moves.Regained r = is_regained r
is_of_kind moves.Moved r = is_only_moved r

-- those that are told
abbrev pub told_of : Moves → List Reroute → List Reroute
told_of moves.All list = list
told_of which list = filter (is_of_kind which) list

-- what moved, and how much of each kind; told are those that are asked for
abbrev pub moved : Moves → Option ℕ → List Reroute → Moved
moved which since list = record { since = since; counts = reroute_counts list; reroutes = told_of which list }

-- what moved from an earlier version to a network; nothing if there is no earlier one
abbrev pub moved_since : Moves → Option Earlier → Network → Moved
moved_since which None new = moved which None []
moved_since which (Some old) new = moved which (Some old.number) (reroutes old.network new)

-- the same as an answer, by the number and the network of the published version
abbrev pub changes_answer : Moves → Option Earlier → ℕ → Network → Answer
changes_answer which before number net = answer.Publication (publication.Changes number (moved_since which before net))
