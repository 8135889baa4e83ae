-- A session at its seat, from its first line to its last visit (own).
use Rattle.std.specs.Prelude.{◌≡◌, ℕ, ◌+◌, ◌-◌, ◌<◌, List, [], ◌∷◌, ◌++◌, Option, Some, None, Result, Ok, Err, length, slice_index_or}
use Rattle.atomic_table.specs.Seated.{TableId}
use Rattle.seats.specs.Minutes.{OnlyOthersSince, SeatValue, sight}
use Rattle.seats.specs.declared.rule.Sight.{Sight}
use Rattle.answers.specs.declared.answer.Answer.{Answer}
use Rattle.versions.specs.Hubs.{PairValue}
use Rattle.versions.specs.Working.{IsWholeHistory}
use Rattle.sessions.specs.Run.{RanTo}
use Rattle.sessions.specs.declared.faults.Fault.{Fault}
use Rattle.versions.specs.declared.state.DeskAndChain.{DeskAndChain}
use Rattle.beside.specs.Beside.{BesideValue, newcomer}
use Rattle.beside.specs.Seats.{Parts}
use Rattle.serving.specs.declared.channels.Channel.{Channel}
use Rattle.serving.specs.declared.channels.Rules.{Rules}
use Rattle.serving.specs.declared.channels.SessionEnd.{SessionEnd}
use Rattle.serving.specs.Seated.{CommandsSeated, LosesSeated, SeatedValue}

-- the fault of a session: that of its last visit, else that of its lines
abbrev pub final_fault : Result (Unit {0}) Fault → Option Fault → Option Fault
final_fault (Ok done) ended = ended
final_fault (Err fault) ended = Some fault

-- a session was run: its lines were read and answered, and then it came to the hub for the last time
pub record Sits (Tells : Answer → List ℕ → Type 0) (seats : ℕ) (rules : Rules) (start : BesideValue) (unread left held holds : Option (List ℕ)) (fault : Option Fault) (lines : ℕ) (seat : SeatValue DeskAndChain) : Type 0 where
  pub ended : Option Fault
  pub after : SeatedValue
  pub ran : RanTo Tells (CommandsSeated seats) (LosesSeated seats) (Unit {0}) (record { beside = start; rules = rules }) unread left held holds ended lines after
  pub told : Result (Unit {0}) Fault
  pub parts : Parts seats after.beside told seat
  pub fault_is : fault ≡ final_fault told ended

-- a session at its seat: before it runs with who comes to the hub, and then with the seat alone
pub record SittingValue (R W T : Type 0) : Type 0 where
  pub visitor : Option BesideValue
  pub guest : Option (SeatValue DeskAndChain)
  pub reader : R
  pub writer : W
  pub telling : T
  pub rules : Rules
  pub lines : ℕ
  pub fault : Option Fault

-- the seat of a number at a hub that stands so, to which only the first seat came
abbrev pub seat_at : TableId → DeskAndChain → ℕ → SeatValue DeskAndChain
seat_at table state me = record { table = table; me = me; saw = sight 0 state ∷ [] }

module _ {R W T : Type 0} where
  -- a session that has not begun
  abbrev pub unbegun : BesideValue → Channel R W T → SittingValue R W T
  unbegun visitor c = record { visitor = Some visitor; guest = None; reader = c.reader; writer = c.writer; telling = c.telling; rules = c.rules; lines = 0; fault = None }

  -- the last channel that is left goes to a session that has not begun
  pub record SeatsLast (visitor : BesideValue) (channels left : List (Channel R W T)) (old new : List (SittingValue R W T)) : Type 0 where
    pub channel : Channel R W T
    pub last : channels ≡ left ++ channel ∷ []
    pub added : new ≡ old ++ unbegun visitor channel ∷ []

  -- sessions of all channels but so many, at the seats of a hub that stands so, the last of them first; those channels are left
  pub record AreSeatedTo (first : ℕ) (table : TableId) (state : DeskAndChain) (channels left : List (Channel R W T)) (sittings : List (SittingValue R W T)) : Type 0 where
    pub count : length left ≡ first
    pub both : length sittings + first ≡ length channels
    pub front : (j : ℕ) (c d : Channel R W T) → j < first → slice_index_or left j c ≡ slice_index_or channels j d
    pub each : (j : ℕ) (d : SittingValue R W T) (c : Channel R W T) → j < length sittings
        → slice_index_or sittings j d ≡ unbegun (newcomer (seat_at table state (length channels - 1 - j)) state) (slice_index_or channels (length channels - 1 - j) c)

  -- sessions of all channels
  abbrev pub AreSeated : TableId → DeskAndChain → List (Channel R W T) → List (SittingValue R W T) → Type 0
  AreSeated table state channels sittings =
      (length sittings ≡ length channels)
      × ((j : ℕ) (d : SittingValue R W T) (c : Channel R W T) → j < length channels
      → slice_index_or sittings j d ≡ unbegun (newcomer (seat_at table state (length channels - 1 - j)) state) (slice_index_or channels (length channels - 1 - j) c))

-- so many seats more at a hub that has one
pub record HasAdmitted (old new : PairValue) (more : ℕ) (seats : List (SeatValue DeskAndChain)) : Type 0 where
  pub table : new.table ≡ old.table
  pub state : new.state ≡ old.state
  pub seats_are : new.seats ≡ more + 1
  pub count : length seats ≡ more
  pub each : (j : ℕ) (d : SeatValue DeskAndChain) → j < more → slice_index_or seats j d ≡ seat_at old.table old.state (j + 1)

-- a session ended as it stood, and what its seat saw is a part of the one history of the hub
pub record IsEndOf {R W T : Type 0} (seats : ℕ) (log : List (Sight DeskAndChain)) (state : DeskAndChain) (s : SittingValue R W T) (e : SessionEnd R W) : Type 0 where
  pub is : e ≡ record { lines = s.lines; fault = s.fault; reader = s.reader; writer = s.writer }
  pub seat : (seat : SeatValue DeskAndChain) → s.guest ≡ Some seat → IsWholeHistory seats log state × OnlyOthersSince seat.me seat.saw log

-- sessions that were run ended so, once the hub had ended; they stand the other way round
abbrev pub AreEnded : {R W T : Type 0} → ℕ → List (Sight DeskAndChain) → DeskAndChain → List (SittingValue R W T) → List (SessionEnd R W) → Type 0
AreEnded seats log state sittings ends =
    (length ends ≡ length sittings)
    × ((i : ℕ) (d : _) (e : _) → i < length sittings → IsEndOf seats log state (slice_index_or sittings (length sittings - 1 - i) d) (slice_index_or ends i e))

-- the last of some sessions ended so, and the others are left
pub record IsEndedTo {R W T : Type 0} (seats : ℕ) (log : List (Sight DeskAndChain)) (state : DeskAndChain) (all left : List (SittingValue R W T)) (ends : List (SessionEnd R W)) : Type 0 where
  pub both : length ends + length left ≡ length all
  pub front : (j : ℕ) (d : SittingValue R W T) → j < length left → slice_index_or left j d ≡ slice_index_or all j d
  pub each : (i : ℕ) (d : SittingValue R W T) (e : SessionEnd R W) → i < length ends → IsEndOf seats log state (slice_index_or all (length all - 1 - i) d) (slice_index_or ends i e)

module _ {R W T : Type 0} (remaining : R → Option (List ℕ)) (contents : W → Option (List ℕ)) (tells : T → Answer → List ℕ → Type 0) (seats : ℕ) where
  -- a session that was to begin was run
  pub record IsSat (start : BesideValue) (old new : SittingValue R W T) : Type 0 where
    pub seat : SeatValue DeskAndChain
    pub guest : new.guest ≡ Some seat
    pub sits : Sits (tells old.telling) seats old.rules start (remaining old.reader) (remaining new.reader) (contents old.writer) (contents new.writer) new.fault new.lines seat

  -- each session that was to begin was run
  abbrev pub AreSat : List (SittingValue R W T) → List (SittingValue R W T) → Type 0
  AreSat old new =
      (length new ≡ length old)
      × ((j : ℕ) (d : SittingValue R W T) (start : BesideValue) → j < length old → (slice_index_or old j d).visitor ≡ Some start → IsSat start (slice_index_or old j d) (slice_index_or new j d))
