-- An input that starts with the network text, by whoever answers its script.
use Rattle.std.specs.Prelude.{◌≡◌, ◌≢◌, ℕ, ◌+◌, ◌*◌, ◌<◌, ◌≤◌, ◌⊎◌, if◌then◌else◌, Bool, true, false, List, [], ◌∷◌, ◌++◌, length, take, drop, slice_index, Option, Some, None, Ok, Err, codes}
use Rattle.answers.specs.declared.answer.Answer.{Answer}
use Rattle.std.specs.Str.{bytes_eq}
use Rattle.std.specs.Io.KnownBytes.{Consumes, Appends, IsAtEnd}
use Rattle.net_data.specs.Network.{Network}
use Rattle.net_text.specs.Reading.{Says}
use Rattle.net_text.specs.declared.faults.LoadFault.{LoadFault}
use Rattle.sessions.specs.Lines.{trimmed, whole_lines, rest_of}
use Rattle.sessions.specs.Lines.{line_count}
use Rattle.sessions.specs.Run.{IsOutcome}
use Rattle.sessions.specs.declared.faults.Fault.{Fault}
use Rattle.sessions.specs.declared.faults.Fault.TheVariants.{OutOfMemory, Read, Write, NoPlace, Load}
use Rattle.sessions.specs.declared.input.Opening.{Opening}

-- the line between the network text and the script, `%%`
abbrev pub is_mark : List ℕ → Bool
is_mark line = bytes_eq (trimmed line) (codes "%%")

-- whether one of the lines is the mark
abbrev pub has_mark : List (List ℕ) → Bool
has_mark [] = false
has_mark (line ∷ lines) = if is_mark line then true else has_mark lines

-- the lines before the first mark
abbrev pub before_mark : List (List ℕ) → List (List ℕ)
before_mark [] = []
before_mark (line ∷ lines) = if is_mark line then [] else line ∷ before_mark lines

-- the lines after the first mark
abbrev pub after_mark : List (List ℕ) → List (List ℕ)
after_mark [] = []
after_mark (line ∷ lines) = if is_mark line then lines else after_mark lines

-- lines, each with its line feed
abbrev pub joined : List (List ℕ) → List ℕ
joined [] = []
joined (line ∷ lines) = line ++ 10 ∷ joined lines

-- the bytes before the mark; without one, all
abbrev pub text_part : List ℕ → List ℕ
text_part input =
    if has_mark (whole_lines input) then joined (before_mark (whole_lines input))
    else if is_mark (rest_of input) then joined (whole_lines input) else input

-- the bytes after the mark; without one, none
abbrev pub script_part : List ℕ → List ℕ
script_part input = if has_mark (whole_lines input) then joined (after_mark (whole_lines input)) ++ rest_of input else []

-- all of the network text was read: its mark, or the input to its end
abbrev pub HasText : List ℕ → Option (List ℕ) → Type 0
HasText read left = (has_mark (whole_lines read) ≡ true) ⊎ IsAtEnd left

-- a network text has at most 134,217,728 bytes
abbrev pub IsWithinLimit : List ℕ → Type 0
IsWithinLimit text = length text ≤ 134217728

-- a fault of the text itself: out of memory and of reading are faults of the run
abbrev pub IsOfText : LoadFault → Type 0
IsOfText e = (e ≢ LoadFault.OutOfMemory) × (e ≢ LoadFault.Read)

-- why no network came of a text that was read
abbrev pub IsLoadFault : List ℕ → Fault → Type 0
IsLoadFault text OutOfMemory = Unit {0}
IsLoadFault text Read = ⊥
IsLoadFault text Write = ⊥
IsLoadFault text NoPlace = ⊥
IsLoadFault text (Load e) = IsOfText e × Says text (Err e)

-- why no network came of what was read
abbrev pub IsUnloaded : Option Fault → List ℕ → Option (List ℕ) → Type 0
IsUnloaded None read left = ⊥
IsUnloaded (Some OutOfMemory) read left = Unit {0}
IsUnloaded (Some Read) read left = (has_mark (whole_lines read) ≡ false) ⊎ (134217728 < length (text_part read))
IsUnloaded (Some Write) read left = ⊥
IsUnloaded (Some NoPlace) read left = ⊥
IsUnloaded (Some (Load e)) read left = HasText read left × IsWithinLimit (text_part read) × IsOfText e × Says (text_part read) (Err e)

-- no whole line before a place is the mark, and the last line before it begins at another
pub record IsOpenAt (bytes : List ℕ) (line at : ℕ) : Type 0 where
  pub ordered : line ≤ at
  pub within : at ≤ length bytes
  pub none : has_mark (whole_lines (take at bytes)) ≡ false
  pub last : drop line (take at bytes) ≡ rest_of (take at bytes)

-- the line from one place to the line feed at another is the first mark
pub record IsMarkAt (bytes : List ℕ) (line at : ℕ) : Type 0 where
  pub open_at : IsOpenAt bytes line at
  pub within : at < length bytes
  pub feed : slice_index bytes at ≡ 10
  pub mark : is_mark (rest_of (take at bytes)) ≡ true

-- what was read is the network text, and the start of the script if there is one
abbrev pub IsSplit : Option ℕ → Option (List ℕ) → List ℕ → ℕ → Type 0
IsSplit (Some script) left bytes text = (at : ℕ) × (script ≡ at + 1) × IsMarkAt bytes text at
IsSplit None left bytes text = IsAtEnd left × (text_part bytes ≡ take text bytes) × (script_part bytes ≡ [])

-- the network text was read
pub record IsOpening (unread left : Option (List ℕ)) (o : Opening) : Type 0 where
  pub consumed : Consumes unread left o.bytes.items
  pub text : o.text ≤ length o.bytes.items
  pub within : o.text ≤ 134217728
  pub few : length o.bytes.items ≤ o.reads * 65536
  pub split : IsSplit o.script left o.bytes.items o.text

-- no network text was read, by a fault
pub record IsUnopened (unread left : Option (List ℕ)) (fault : Fault) : Type 0 where
  pub read : List ℕ
  pub consumed : Consumes unread left read
  pub cause : IsUnloaded (Some fault) read left

-- all bytes were read, and are no more than a network text may have
pub record HasReadAll (unread left : Option (List ℕ)) (text : List ℕ) : Type 0 where
  pub consumed : Consumes unread left text
  pub at_end : IsAtEnd left
  pub within : IsWithinLimit text

-- which faults end the reading of a network text after these bytes: memory only within the limit, and reading after at most
-- one read, of 65,536 bytes, beyond it
abbrev pub EndsReading : List ℕ → Fault → Type 0
EndsReading read OutOfMemory = IsWithinLimit read
EndsReading read Read = length read ≤ 134217728 + 65536
EndsReading read Write = ⊥
EndsReading read NoPlace = ⊥
EndsReading read (Load e) = ⊥

-- not all bytes were read, but these
pub record HasNotReadAll (unread left : Option (List ℕ)) (fault : Fault) : Type 0 where
  pub read : List ℕ
  pub consumed : Consumes unread left read
  pub cause : EndsReading read fault

-- all bytes were read, and say this network
pub record HasLoaded (unread left : Option (List ℕ)) (net : Network) : Type 0 where
  pub text : List ℕ
  pub read : HasReadAll unread left text
  pub says : Says text (Ok net)

-- all bytes were read, and no network came of them
pub record HasNotLoaded (unread left : Option (List ℕ)) (fault : Fault) : Type 0 where
  pub cause : HasNotReadAll unread left fault ⊎ ((text : List ℕ) × HasReadAll unread left text × IsLoadFault text fault)

-- a run of the script after a network text that was read: more bytes were read, and the answers to the script among all were written
pub record RanAfter {S : Type 0} (Tells : Answer → List ℕ → Type 0) (Commands : List ℕ → S → Answer → S → Type 0) (Leaves : S → Network → Type 0) (Place : Type 0) (front : List ℕ) (start : S) (unread left held holds : Option (List ℕ)) (fault : Option Fault) (lines : ℕ) (net : Option Network) : Type 0 where
  pub read : List ℕ
  pub consumed : Consumes unread left read
  pub written : List ℕ
  pub appended : Appends held holds written
  pub counted : lines ≡ line_count written
  pub whole : HasText read left
  pub within : IsWithinLimit (text_part read)
  pub text : text_part read ≡ front
  pub outcome : IsOutcome Tells Commands Leaves Place fault start left (script_part read) written net

-- nothing was written, since no network came of what was read
pub record IsNothingWritten (fault : Option Fault) (read : List ℕ) (left : Option (List ℕ)) (written : List ℕ) (net : Option Network) : Type 0 where
  pub cause : IsUnloaded fault read left
  pub none : written ≡ []
  pub gone : net ≡ None

-- whoever answers starts over a network as `Opens` says it
module _ {S : Type 0} (Opens : Network → S → Type 0) (Tells : Answer → List ℕ → Type 0) (Commands : List ℕ → S → Answer → S → Type 0) (Leaves : S → Network → Type 0) (Place : Type 0) where
  -- the network text says a network, and the script was answered from a start over that
  pub record IsScriptWritten (fault : Option Fault) (read : List ℕ) (left : Option (List ℕ)) (written : List ℕ) (net : Option Network) : Type 0 where
    pub over : Network
    pub start : S
    pub whole : HasText read left
    pub within : IsWithinLimit (text_part read)
    pub says : Says (text_part read) (Ok over)
    pub opens : Opens over start
    pub outcome : IsOutcome Tells Commands Leaves Place fault start left (script_part read) written net

  -- a run of an input: some bytes were read, and the answers to the script among them were written
  pub record RanInput (unread left held holds : Option (List ℕ)) (fault : Option Fault) (lines : ℕ) (net : Option Network) : Type 0 where
    pub read : List ℕ
    pub consumed : Consumes unread left read
    pub written : List ℕ
    pub appended : Appends held holds written
    pub counted : lines ≡ line_count written
    pub outcome : IsScriptWritten fault read left written net ⊎ IsNothingWritten fault read left written net
