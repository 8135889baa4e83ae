-- What stands at each line of a script: the version of its number, as the profile gives it from scratch (own).
use Rattle.std.specs.Prelude.{◌≡◌, ◌⊎◌, ℕ, List, [], ◌∷◌, ◌++◌, Option, Ok, map}
use Rattle.std.specs.Io.KnownBytes.{Consumes, Appends}
use Rattle.net_data.specs.declared.events.Event.{Event}
use Rattle.net_data.specs.Network.{Network}
use Rattle.net_text.specs.Reading.{Says}
use Rattle.answers.specs.declared.answer.Answer.{Answer}
use Rattle.desk_console.specs.Commands.{Commands}
use Rattle.desk_console.specs.Console.{ConsoleValue, opening}
use Rattle.desk_console.specs.Right.{IsRightDesk}
use Rattle.desk_console.specs.Taken.{taken_at}
use Rattle.sessions.specs.Lines.{lines_of, trimmed}
use Rattle.sessions.specs.Replies.{Replies}
use Rattle.sessions.specs.Input.{script_part, text_part}
use Rattle.sessions.specs.Run.{IsFrontOf}

-- a line of a script, its answer, if it gets one, and what stands at the console then
pub record Moment : Type 0 where
  pub line : List ℕ
  pub told : Option Answer
  pub after : ConsoleValue

-- each line is answered from what the line before left, and then the desk is right, after the events before and that of the line if it was answered `taken`
abbrev pub AreRightLines : Network → List Event → ConsoleValue → List Moment → Type 0
AreRightLines start events c [] = Unit {0}
AreRightLines start events c (m ∷ moments) =
    Replies Commands m.line c m.told m.after × IsRightDesk start (events ++ taken_at (trimmed m.line) m.told) m.after.desk
    × AreRightLines start (events ++ taken_at (trimmed m.line) m.told) m.after moments

-- who tells the answers tells them so
module _ (Tells : Answer → List ℕ → Type 0) where
  -- from a new desk over a network the first of some lines were answered, this was written of it, and the desk was right before the first line and after each
  pub record IsRightScript (start : Network) (lines : List (List ℕ)) (written : List ℕ) : Type 0 where
    pub moments : List Moment
    pub left : List (List ℕ)
    pub asked : lines ≡ map (λ (m : Moment). m.line) moments ++ left
    pub told : IsFrontOf Tells (map (λ (m : Moment). m.told) moments) written
    pub first : IsRightDesk start [] (opening start).desk
    pub each : AreRightLines start [] (opening start) moments

  -- some bytes were read, and what was written answers the script that they are, with the right desk at each line
  pub record RanRight (start : Network) (unread left held holds : Option (List ℕ)) : Type 0 where
    pub read : List ℕ
    pub consumed : Consumes unread left read
    pub written : List ℕ
    pub appended : Appends held holds written
    pub script : IsRightScript start (lines_of read) written

  -- the network text that was read says a network, and what was written answers the script after it, with the right desk at each line
  pub record IsInputRight (read written : List ℕ) : Type 0 where
    pub start : Network
    pub says : Says (text_part read) (Ok start)
    pub script : IsRightScript start (lines_of (script_part read)) written

  -- some bytes were read, and nothing was written, or what answers the script among them
  pub record RanInputRight (unread left held holds : Option (List ℕ)) : Type 0 where
    pub read : List ℕ
    pub consumed : Consumes unread left read
    pub written : List ℕ
    pub appended : Appends held holds written
    pub outcome : (written ≡ []) ⊎ IsInputRight read written
