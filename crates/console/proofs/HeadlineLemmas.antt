-- At each line of a script the version that stands is the right one.
use Rattle.std.proofs.Common.{◌≡◌, ℕ, Bool, true, false, List, [], ◌∷◌, ◌++◌, Option, Some, None, inl, inr, map, refl, sym, ap, ◌∙◌, subst, append-nil}
use Rattle.net_data.specs.declared.events.Event.{Event}
use Rattle.net_data.specs.Network.{Network}
use Rattle.answers.specs.declared.answer.Answer.{Answer}
use Rattle.desk_console.specs.Commands.{Commands}
use Rattle.desk_console.specs.Console.{ConsoleValue, opening}
use Rattle.desk_console.specs.Right.{IsRightDesk}
use Rattle.desk_console.specs.Taken.{taken_at}
use Rattle.desk_console.proofs.RightLemmas.{right_first, right_line, right_still}
use Rattle.sessions.specs.Lines.{is_silent, is_too_long, last_line, lines_of, rest_of, trimmed, whole_lines}
use Rattle.sessions.specs.Replies.{Answers, IsReply, Replies}
use Rattle.sessions.specs.Input.{RanInput, script_part}
use Rattle.console.specs.InLine.{LeavesInLine, StartsInLine}
use Rattle.sessions.specs.Run.{IsAnsweredInPart, IsFrontOf, IsOutcome, Ran}
use Rattle.sessions.proofs.AnswerLemmas.{front_whole}
use Rattle.sessions.specs.declared.faults.Fault.{Fault}
use Rattle.sessions.specs.declared.faults.Fault.TheVariants.{OutOfMemory, Read, Write, NoPlace, Load}
use Rattle.console.specs.Headline.{AreRightLines, IsRightScript, Moment, RanInputRight, RanRight}

-- after a line the version that stands is right
reply_right : (start : Network) (events : List Event) (line : List ℕ) (c : ConsoleValue) (told : Option Answer) (new : ConsoleValue) → IsRightDesk start events c.desk → Replies Commands line c told new
    → IsRightDesk start (events ++ taken_at (trimmed line) told) new.desk
reply_right start events line c told new right = go (is_too_long (trimmed line)) (is_silent (trimmed line))
  where
    still : (told : Option Answer) → taken_at (trimmed line) told ≡ [] → new ≡ c → IsRightDesk start (events ++ taken_at (trimmed line) told) new.desk
    still told none same = subst (λ es. IsRightDesk start es new.desk) (sym (ap (λ es. events ++ es) none ∙ append-nil events)) (right_still start events c right new same)

    go : (long quiet : Bool) → IsReply Commands long quiet (trimmed line) c told new → IsRightDesk start (events ++ taken_at (trimmed line) told) new.desk
    go true quiet is = still told (ap (taken_at (trimmed line)) is.0) is.1
    go false true is = still told (ap (taken_at (trimmed line)) is.0) is.1
    go false false is =
        subst (λ t. IsRightDesk start (events ++ taken_at (trimmed line) t) new.desk) (sym is.2) (right_line start events c right (trimmed line) is.0 new is.1)

-- lines that were answered make moments
record Made (start : Network) (events : List Event) (c : ConsoleValue) (lines : List (List ℕ)) (told : List (Option Answer)) : Type 0 where
  moments : List Moment
  asked : lines ≡ map (λ (m : Moment). m.line) moments
  are_told : told ≡ map (λ (m : Moment). m.told) moments
  each : AreRightLines start events c moments

made : (start : Network) (events : List Event) (c : ConsoleValue) → IsRightDesk start events c.desk → (lines : List (List ℕ)) (told : List (Option Answer)) (new : ConsoleValue) → Answers Commands c lines told new → Made start events c lines told
made start events c right [] told new is = record { moments = []; asked = refl; are_told = is.0; each = tt }
made start events c right (line ∷ lines) told new is =
    let taken : List Event = taken_at (trimmed line) is.0 in
    let after : IsRightDesk start (events ++ taken) is.1.desk = reply_right start events line c is.0 is.1 right is.3 in
    let rest : Made start (events ++ taken) is.1 lines is.2 = made start (events ++ taken) is.1 after lines is.2 new is.4 in
    record {
      moments = record { line = line; told = is.0; after = is.1 } ∷ rest.moments;
      asked = ap (λ (ls : List (List ℕ)). line ∷ ls) rest.asked;
      are_told = is.5 ∙ ap (λ (t : List (Option Answer)). is.0 ∷ t) rest.are_told;
      each = (is.3, after, rest.each);
    }

module _ (Tells : Answer → List ℕ → Type 0) where
  -- a script whose first lines were answered
  script_right : (start : Network) (lines done left : List (List ℕ)) (told : List (Option Answer)) (written : List ℕ) (after : ConsoleValue) → lines ≡ done ++ left → Answers Commands (opening start) done told after → IsFrontOf Tells told written → IsRightScript Tells start lines written
  script_right start lines done left told written after whole answered front =
      let m : Made start [] (opening start) done told = made start [] (opening start) (right_first start) done told after answered in
      record {
        moments = m.moments;
        left = left;
        asked = whole ∙ ap (λ (ls : List (List ℕ)). ls ++ left) m.asked;
        told = subst (λ (t : List (Option Answer)). IsFrontOf Tells t written) m.are_told front;
        first = right_first start;
        each = m.each;
      }

  outcome_right : (fault : Option Fault) (start : Network) (left : Option (List ℕ)) (read written : List ℕ) (net : Option Network) → IsOutcome Tells Commands LeavesInLine ⊥ fault (opening start) left read written net → IsRightScript Tells start (lines_of read) written
  outcome_right None start left read written net is = script_right start (lines_of read) (lines_of read) [] is.answered.0 written is.after (sym (append-nil (lines_of read))) is.answered.1 (front_whole Tells is.answered.0 written is.answered.2)
  outcome_right (Some Read) start left read written net is = script_right start (lines_of read) (whole_lines read) (last_line (rest_of read)) is.0.1.0 written is.0.0 refl is.0.1.1 (front_whole Tells is.0.1.0 written is.0.1.2)
  outcome_right (Some Write) start left read written net is = part is.0
    where
      part : IsAnsweredInPart Tells Commands (opening start) (lines_of read) written → IsRightScript Tells start (lines_of read) written
      part p = script_right start (lines_of read) p.done p.left p.told written p.after p.whole p.answers p.front
  outcome_right (Some OutOfMemory) start left read written net is = part is.0
    where
      part : IsAnsweredInPart Tells Commands (opening start) (lines_of read) written → IsRightScript Tells start (lines_of read) written
      part p = script_right start (lines_of read) p.done p.left p.told written p.after p.whole p.answers p.front
  outcome_right (Some NoPlace) start left read written net is = absurd is.0
  outcome_right (Some (Load e)) start left read written net is = absurd is

  -- a run from the same start
  pub ran_same : (c d : ConsoleValue) (unread left held holds : Option (List ℕ)) (fault : Option Fault) (lines : ℕ) (net : Option Network) → c ≡ d → Ran Tells Commands LeavesInLine ⊥ c unread left held holds fault lines net
      → Ran Tells Commands LeavesInLine ⊥ d unread left held holds fault lines net
  ran_same c d unread left held holds fault lines net same ran = subst (λ s. Ran Tells Commands LeavesInLine ⊥ s unread left held holds fault lines net) same ran

  -- a run of a script
  pub ran_right : (start : Network) (unread left held holds : Option (List ℕ)) (fault : Option Fault) (lines : ℕ) (net : Option Network) → Ran Tells Commands LeavesInLine ⊥ (opening start) unread left held holds fault lines net → RanRight Tells start unread left held holds
  ran_right start unread left held holds fault lines net ran = record {
    read = ran.read;
    consumed = ran.consumed;
    written = ran.written;
    appended = ran.appended;
    script = outcome_right fault start left ran.read ran.written net ran.outcome;
  }

  -- a run of an input
  pub ran_input_right : (unread left held holds : Option (List ℕ)) (fault : Option Fault) (lines : ℕ) (net : Option Network) → RanInput StartsInLine Tells Commands LeavesInLine ⊥ unread left held holds fault lines net → RanInputRight Tells unread left held holds
  ran_input_right unread left held holds fault lines net ran = record {
    read = ran.read;
    consumed = ran.consumed;
    written = ran.written;
    appended = ran.appended;
    outcome = elim ran.outcome [
      | inl w ↦ inr (record {
        start = w.over;
        says = w.says;
        script = outcome_right fault w.over left (script_part ran.read) ran.written net (subst (λ c. IsOutcome Tells Commands LeavesInLine ⊥ fault c left (script_part ran.read) ran.written net) w.opens w.outcome);
      })
      | inr n ↦ inl n.none
    ];
  }
