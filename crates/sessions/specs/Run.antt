-- What a run of a script reads and writes, by whoever answers its lines.
use Rattle.std.specs.Prelude.{◌≡◌, ℕ, ◌<◌, ◌≤◌, ◌⊎◌, Bool, true, false, List, [], ◌∷◌, ◌++◌, length, Option, Some, None}
use Rattle.answers.specs.declared.answer.Answer.{Answer}
use Rattle.std.specs.Io.KnownBytes.{Consumes, Appends, IsAtEnd}
use Rattle.net_data.specs.Network.{Network}
use Rattle.sessions.specs.Lines.{line_count}
use Rattle.sessions.specs.Lines.{trimmed, whole_lines, rest_of, lines_of}
use Rattle.sessions.specs.Replies.{Answers, AreTexts, Replies, Answered}
use Rattle.sessions.specs.declared.faults.Fault.{Fault}
use Rattle.sessions.specs.declared.faults.Fault.TheVariants.{OutOfMemory, Read, Write, NoPlace, Load}
use Rattle.sessions.specs.declared.lines.Line.{Line}
use Rattle.sessions.specs.declared.session.Session.{Session}

-- more could follow
abbrev pub IsPrefixOf : List ℕ → List ℕ → Type 0
IsPrefixOf front all = (more : List ℕ) × (all ≡ front ++ more)

-- what was written of some answers: the texts of the first of them, of which the last may be cut
pub record IsFrontOf (Tells : Answer → List ℕ → Type 0) (told : List (Option Answer)) (written : List ℕ) : Type 0 where
  pub front : List (Option Answer)
  pub more : List (Option Answer)
  pub whole : told ≡ front ++ more
  pub text : List ℕ
  pub texts : AreTexts Tells front text
  pub cut : IsPrefixOf written text

-- the bytes kept of a line so far, which do not count once it is too long
abbrev pub IsKept : List ℕ → Bool → List ℕ → Type 0
IsKept kept false rest = (kept ≡ rest) × (length rest ≤ 131073)
IsKept kept true rest = 131073 < length rest

-- the line so far
abbrev pub IsLine : Line → List ℕ → Type 0
IsLine line rest = IsKept line.bytes.items line.too_long rest

-- a fault that cuts the answers off: that there is no place only if whoever answers needs one
abbrev pub CutsOff : Type 0 → Fault → Type 0
CutsOff Place OutOfMemory = Unit {0}
CutsOff Place Read = ⊥
CutsOff Place Write = Unit {0}
CutsOff Place NoPlace = Place
CutsOff Place (Load e) = ⊥

module _ {S : Type 0} (Tells : Answer → List ℕ → Type 0) (Commands : List ℕ → S → Answer → S → Type 0) where
  -- between two bytes: what was written, and then what waits to be written, are the answers to all whole lines of what was read
  pub record IsTaken (start : S) (read written : List ℕ) (s : Session S) : Type 0 where
    pub answered : Answered Tells Commands start (whole_lines read) (written ++ s.answers.items) s.state
    pub rest : IsLine s.line (rest_of read)

  -- between two reads: the answers to all whole lines of what was read are written
  pub record IsAt (start : S) (read : List ℕ) (held holds : Option (List ℕ)) (s : Session S) : Type 0 where
    pub written : List ℕ
    pub answered : Answered Tells Commands start (whole_lines read) written s.state
    pub appended : Appends held holds written
    pub counted : s.lines ≡ line_count written
    pub none : s.answers.items ≡ []
    pub rest : IsLine s.line (rest_of read)

  -- some bytes were read, and the answers to their whole lines are written
  pub record HasAnswered (start : S) (unread left held holds : Option (List ℕ)) (s : Session S) : Type 0 where
    pub read : List ℕ
    pub consumed : Consumes unread left read
    pub at : IsAt start read held holds s

  -- the first of some lines were answered, and this was written of it
  pub record IsAnsweredInPart (start : S) (asked : List (List ℕ)) (written : List ℕ) : Type 0 where
    pub done : List (List ℕ)
    pub left : List (List ℕ)
    pub whole : asked ≡ done ++ left
    pub told : List (Option Answer)
    pub after : S
    pub answers : Answers Commands start done told after
    pub front : IsFrontOf Tells told written

module _ {S : Type 0} (Fails : List ℕ → S → S → Type 0) where
  -- nothing was done since, or the first of these lines was begun, and its answer lost
  abbrev pub IsBegun : List (List ℕ) → S → S → Type 0
  IsBegun [] old new = new ≡ old
  IsBegun (line ∷ lines) old new = (new ≡ old) ⊎ Fails (trimmed line) old new

module _ {S : Type 0} (Commands : List ℕ → S → Answer → S → Type 0) (Fails : List ℕ → S → S → Type 0) where
  -- a line was answered, and its answer not kept; or it was begun at most
  abbrev pub IsUnkept : List ℕ → S → S → Type 0
  IsUnkept line old new = ((told : Option Answer) × Replies Commands line old told new) ⊎ IsBegun Fails (line ∷ []) old new

module _ {S : Type 0} (Tells : Answer → List ℕ → Type 0) (Commands : List ℕ → S → Answer → S → Type 0) (Fails : List ℕ → S → S → Type 0) where
  -- the first of some lines were answered, this was written of it, and the line behind them may have been begun
  pub record IsCutAt (start : S) (asked : List (List ℕ)) (written : List ℕ) (after : S) : Type 0 where
    pub done : List (List ℕ)
    pub left : List (List ℕ)
    pub whole : asked ≡ done ++ left
    pub told : List (Option Answer)
    pub mid : S
    pub answers : Answers Commands start done told mid
    pub front : IsFrontOf Tells told written
    pub begun : IsBegun Fails left mid after

  -- a run that ended within the answers to some lines, and what is left of who answers
  pub record IsCutOff (start : S) (asked : List (List ℕ)) (held holds : Option (List ℕ)) (lines : ℕ) (after : S) : Type 0 where
    pub written : List ℕ
    pub appended : Appends held holds written
    pub part : IsCutAt start asked written after
    pub counted : lines ≡ line_count written

module _ {S : Type 0} (Tells : Answer → List ℕ → Type 0) (Commands : List ℕ → S → Answer → S → Type 0) (Fails : List ℕ → S → S → Type 0) (Place : Type 0) where
  -- what was written after these bytes were read, by the fault that ended the run, and what is left of who answers
  abbrev pub IsEndAt : Option Fault → S → Option (List ℕ) → List ℕ → List ℕ → S → Type 0
  IsEndAt None start left read written after = IsAtEnd left × Answered Tells Commands start (lines_of read) written after
  IsEndAt (Some Read) start left read written after = Answered Tells Commands start (whole_lines read) written after
  IsEndAt (Some Write) start left read written after = IsCutAt Tells Commands Fails start (lines_of read) written after
  IsEndAt (Some OutOfMemory) start left read written after = IsCutAt Tells Commands Fails start (lines_of read) written after
  IsEndAt (Some NoPlace) start left read written after = Place × IsCutAt Tells Commands Fails start (lines_of read) written after
  IsEndAt (Some (Load e)) start left read written after = ⊥

  -- a run from a start to what is left of who answers: some bytes were read, and the answers to them were written
  pub record RanTo (start : S) (unread left held holds : Option (List ℕ)) (fault : Option Fault) (lines : ℕ) (after : S) : Type 0 where
    pub read : List ℕ
    pub consumed : Consumes unread left read
    pub written : List ℕ
    pub appended : Appends held holds written
    pub counted : lines ≡ line_count written
    pub outcome : IsEndAt fault start left read written after

-- how a run ends that answered all: the network comes back that is left then, unless a fault cuts it off
abbrev pub IsEnd : {S : Type 0} → (S → Network → Type 0) → Type 0 → S → Option Fault → Option Network → Type 0
IsEnd Leaves Place c None net = (left : Network) × Leaves c left × (net ≡ Some left)
IsEnd Leaves Place c (Some fault) net = CutsOff Place fault × (net ≡ None)

module _ {S : Type 0} (Tells : Answer → List ℕ → Type 0) (Commands : List ℕ → S → Answer → S → Type 0) (Leaves : S → Network → Type 0) (Place : Type 0) where
  -- all lines were answered to the end, and the network that comes back is one that is left then
  pub record IsWhole (start : S) (left : Option (List ℕ)) (read written : List ℕ) (net : Option Network) : Type 0 where
    pub at_end : IsAtEnd left
    pub after : S
    pub answered : Answered Tells Commands start (lines_of read) written after
    pub network : Network
    pub is_left : Leaves after network
    pub comes_back : net ≡ Some network

  -- what was written after these bytes were read, by the fault that ended the run, and the network that comes back
  abbrev pub IsOutcome : Option Fault → S → Option (List ℕ) → List ℕ → List ℕ → Option Network → Type 0
  IsOutcome None start left read written net = IsWhole start left read written net
  IsOutcome (Some Read) start left read written net = ((after : S) × Answered Tells Commands start (whole_lines read) written after) × (net ≡ None)
  IsOutcome (Some Write) start left read written net = IsAnsweredInPart Tells Commands start (lines_of read) written × (net ≡ None)
  IsOutcome (Some OutOfMemory) start left read written net = IsAnsweredInPart Tells Commands start (lines_of read) written × (net ≡ None)
  IsOutcome (Some NoPlace) start left read written net = Place × IsAnsweredInPart Tells Commands start (lines_of read) written × (net ≡ None)
  IsOutcome (Some (Load e)) start left read written net = ⊥

  -- a run from a start: some bytes were read, and the answers to them were written
  pub record Ran (start : S) (unread left held holds : Option (List ℕ)) (fault : Option Fault) (lines : ℕ) (net : Option Network) : Type 0 where
    pub read : List ℕ
    pub consumed : Consumes unread left read
    pub written : List ℕ
    pub appended : Appends held holds written
    pub counted : lines ≡ line_count written
    pub outcome : IsOutcome fault start left read written net
