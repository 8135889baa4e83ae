-- What stands at each line of a script beside workers: versions of their numbers, as the profile gives them from scratch (own).
use Rattle.std.specs.Prelude.{◌≡◌, ℕ, List, [], ◌∷◌, ◌++◌, Option, None, map}
use Rattle.net_data.specs.declared.events.Event.{Event}
use Rattle.net_data.specs.Network.{Network}
use Rattle.answers.specs.declared.answer.Answer.{Answer}
use Rattle.desk_core.specs.Desk.{new_desk}
use Rattle.desk_console.specs.Right.{IsRightDesk}
use Rattle.desk_console.specs.Taken.{taken_at}
use Rattle.sessions.specs.Lines.{trimmed}
use Rattle.sessions.specs.Replies.{AreTexts, Replies}
use Rattle.histories.specs.Right.{AreRight}
use Rattle.beside.specs.Beside.{BesideValue, CommandsBeside, StartsBeside}

-- after these events the script's thread left a right desk, and all versions that were published then, and that its reader knows, are the ones of their numbers
pub record IsRightBeside (start : Network) (events : List Event) (b : BesideValue) : Type 0 where
  pub desk : IsRightDesk start events b.left.desk
  pub left : AreRight (new_desk start) events None b.left.shown.chain
  pub seen : AreRight (new_desk start) events None b.seen

-- a line of a script, its answer, if it gets one, and what stands then
pub record Moment : Type 0 where
  pub line : List ℕ
  pub told : Option Answer
  pub after : BesideValue

-- the answers, one after the other
abbrev pub told_in : List Moment → List (Option Answer)
told_in = map (λ (m : Moment). m.told)

-- each line is answered from what the line before left, and then all is right, after the events before and that of the line if it was answered `taken`
abbrev pub AreRightMoments : Network → List Event → BesideValue → List Moment → Type 0
AreRightMoments start events b [] = Unit {0}
AreRightMoments start events b (m ∷ moments) =
    Replies (CommandsBeside 1) m.line b m.told m.after × IsRightBeside start (events ++ taken_at (trimmed m.line) m.told) m.after
    × AreRightMoments start (events ++ taken_at (trimmed m.line) m.told) m.after moments

-- from a new desk over a network all lines were answered, this was written, and all was right before the first line and after each
pub record IsRightScript (Tells : Answer → List ℕ → Type 0) (start : Network) (lines : List (List ℕ)) (written : List ℕ) : Type 0 where
  pub opening : BesideValue
  pub opens : StartsBeside start opening
  pub moments : List Moment
  pub asked : lines ≡ map (λ (m : Moment). m.line) moments
  pub told : AreTexts Tells (told_in moments) written
  pub first : IsRightBeside start [] opening
  pub each : AreRightMoments start [] opening moments
