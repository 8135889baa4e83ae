-- How a check of all tables is answered.
use Rattle.std.specs.Prelude.{◌≡◌, ℕ, List, ◌++◌, length, Option, Some, None, All, MatchOption, codes}
use Rattle.std.specs.Fmt.{decimal}
use Rattle.answers.specs.Audits.{complaint_text}
use Rattle.net_data.specs.Network.{Network}
use Rattle.profile.specs.declared.tables.Table.{Table}
use Rattle.all_tables.specs.Tables.{IsSettledIn, IsFirstWrongTable}
use Rattle.all_tables.specs.declared.checking.Wrong.{Wrong}

-- `ok P`: that many tables, each right
abbrev pub right_text : ℕ → List ℕ
right_text count = codes "ok " ++ decimal count

-- `bad X Y c`: the destination of the first wrong table, and the point and the letter of the first complaint about it
abbrev pub wrong_text : Wrong → List ℕ
wrong_text w = codes "bad " ++ complaint_text w.dest w.complaint

-- what is said of that many tables
abbrev pub verdict_text : ℕ → Option Wrong → List ℕ
verdict_text count None = right_text count
verdict_text count (Some w) = wrong_text w

-- what is found of tables, whatever they are: how many there are, and none wrong exactly if each is the settled one of its destination; else
-- the first that isn't
pub record IsVerdict (net : Network) (given : List Table) (count : ℕ) (wrong : Option Wrong) : Type 0 where
  pub all : count ≡ length given
  pub found : MatchOption wrong (All (IsSettledIn net) given) (IsFirstWrongTable net given)
