-- What one more line and one more piece do to a run, and how it ends.
use Rattle.std.proofs.Common.{◌≡◌, ℕ, ◌+◌, true, List, [], ◌∷◌, ◌++◌, take, drop, Option, Some, None, sym, ap, subst, refl, ◌∙◌, arith, append_assoc, append-nil}
use Rattle.answers.specs.declared.answer.Answer.{Answer}
use Rattle.std.proofs.lemmas.List.{take-append-drop}
use Rattle.std.specs.Io.KnownBytes.{Appends, Consumes, Keeps, IsAtEnd}
use Rattle.std.proofs.KnownBytes.{Appends-trans, Appends-nil, Consumes-nil, Consumes-trans, Consumes-kept}
use Rattle.point_codes.specs.Codes.{split_of}
use Rattle.point_codes.proofs.CodeLemmas.{lacks}
use Rattle.net_data.specs.Network.{Network}
use Rattle.sessions.specs.Lines.{cut, whole_lines, rest_of, lines_of}
use Rattle.sessions.specs.Replies.{Replied, Answered}
use Rattle.sessions.specs.Lines.{line_count}
use Rattle.sessions.specs.Run.{IsLine, IsTaken, IsAt, HasAnswered, IsAnsweredInPart, IsUnkept, IsCutAt, IsCutOff, CutsOff, IsEnd, IsOutcome, Ran, IsEndAt, RanTo}
use Rattle.sessions.specs.declared.faults.Fault.{Fault}
use Rattle.sessions.specs.declared.faults.Fault.TheVariants.{OutOfMemory, Read, Write, NoPlace, Load}
use Rattle.sessions.specs.declared.session.Session.{Session}
use Rattle.sessions.proofs.LineLemmas.{cut_ended, cut_grown_all, whole_ended, whole_more, split_front, split_on}
use Rattle.sessions.proofs.AnswerLemmas.{Answered-none, ended_answers, part_front, cut_whole, cut_unkept, cut_of_more, cut_less, cut_part}
use Rattle.sessions.proofs.LineLemmas.{line_count-append}

module _ {S : Type 0} (Tells : Answer → List ℕ → Type 0) (Commands : List ℕ → S → Answer → S → Type 0) where
  -- bytes of a line were taken
  pub taken_piece : (start : S) (all read written : List ℕ) (s t : Session S) (bytes : List ℕ) → read ++ bytes ≡ all → IsTaken Tells Commands start read written s
      → lacks 10 bytes ≡ true → t.answers.items ≡ s.answers.items → t.state ≡ s.state → IsLine t.line (rest_of read ++ bytes)
      → IsTaken Tells Commands start all written t
  taken_piece start all read written s t bytes e at none said same rest =
      let cuts = ap cut (sym e) ∙ cut_grown_all read bytes none in
      let whole : whole_lines all ≡ whole_lines read = ap (λ c. c.whole) cuts in
      record {
        answered = rw (whole, said, same) at.answered;
        rest = subst (IsLine t.line) (ap (λ c. c.rest) (sym cuts)) rest;
      }

  -- a line was ended by its last bytes and answered
  pub taken_ended : (start : S) (read written last : List ℕ) (s t : Session S) (text : List ℕ) → lacks 10 last ≡ true → IsTaken Tells Commands start read written s
      → Replied Tells Commands (rest_of read ++ last) s.state text t.state → t.answers.items ≡ s.answers.items ++ text → IsLine t.line []
      → IsTaken Tells Commands start ((read ++ last) ++ 10 ∷ []) written t
  taken_ended start read written last s t text none at reply said empty =
      let all = read ++ last in
      let cuts = cut_grown_all read last none in
      let whole : whole_lines all ≡ whole_lines read = ap (λ c. c.whole) cuts in
      let asked : Replied Tells Commands (rest_of all) s.state text t.state = subst (λ r. Replied Tells Commands r s.state text t.state) (ap (λ c. c.rest) (sym cuts)) reply in
      record {
        answered = subst (λ x. Answered Tells Commands start (whole_lines (all ++ 10 ∷ [])) x t.state)
            (append_assoc written s.answers.items text ∙ ap (λ x. written ++ x) (sym said))
            (ended_answers Tells Commands start s.state t.state all (written ++ s.answers.items) text
            (subst (λ ls. Answered Tells Commands start ls (written ++ s.answers.items) s.state) (sym whole) at.answered) asked);
        rest = subst (IsLine t.line) (ap (λ c. c.rest) (sym (cut_ended all))) empty;
      }

  -- between two reads nothing waits
  pub at_taken : (start : S) (read : List ℕ) (held holds : Option (List ℕ)) (s : Session S) → (at : IsAt Tells Commands start read held holds s)
      → IsTaken Tells Commands start read at.written s
  at_taken start read held holds s at = record {
    answered = subst (λ x. Answered Tells Commands start (whole_lines read) x s.state) (sym (ap (λ x. at.written ++ x) at.none ∙ append-nil at.written)) at.answered;
    rest = at.rest;
  }

  -- what waited was written
  pub flushed : (start : S) (read written : List ℕ) (held before holds : Option (List ℕ)) (s t : Session S) → IsTaken Tells Commands start read written s
      → Appends held before written → s.lines ≡ line_count written → Appends before holds s.answers.items
      → t.answers.items ≡ [] → t.lines ≡ s.lines + line_count s.answers.items → t.state ≡ s.state → t.line ≡ s.line
      → IsAt Tells Commands start read held holds t
  flushed start read written held before holds s t taken had counted wrote none more state line =
      let both = line_count-append written s.answers.items in
      record {
        written = written ++ s.answers.items;
        answered = subst (Answered Tells Commands start (whole_lines read) (written ++ s.answers.items)) (sym state) taken.answered;
        appended = Appends-trans held before holds _ _ had wrote;
        counted = omega arith;
        none = none;
        rest = subst (λ l. IsLine l (rest_of read)) (sym line) taken.rest;
      }

  -- a run that has read nothing
  pub at_start : (start : S) (held : Option (List ℕ)) (s : Session S) → s.state ≡ start → IsLine s.line [] → s.answers.items ≡ [] → s.lines ≡ 0 → IsAt Tells Commands start [] held held s
  at_start start held s same empty none zero = record {
    written = [];
    answered = ([], (refl, same), refl);
    appended = Appends-nil held;
    counted = zero;
    none = none;
    rest = empty;
  }

  pub at_first : (start : S) (unread held : Option (List ℕ)) (s : Session S) → s.state ≡ start → IsLine s.line [] → s.answers.items ≡ [] → s.lines ≡ 0
      → HasAnswered Tells Commands start unread unread held held s
  at_first start unread held s same empty none zero = record {
    read = [];
    consumed = Consumes-nil unread;
    at = at_start start held s same empty none zero;
  }

  -- a piece was read and answered
  pub answered_more : (start : S) (unread left more held holds more_holds : Option (List ℕ)) (s t : Session S) (chunk : List ℕ)
      → HasAnswered Tells Commands start unread left held holds s → Consumes left more chunk
      → ((read : List ℕ) → IsAt Tells Commands start read held holds s → IsAt Tells Commands start (read ++ chunk) held more_holds t)
      → HasAnswered Tells Commands start unread more held more_holds t
  answered_more start unread left more held holds more_holds s t chunk has took step = record {
    read = has.read ++ chunk;
    consumed = Consumes-trans unread left more _ _ has.consumed took;
    at = step has.read has.at;
  }

  -- nothing was read
  pub answered_same : (start : S) (unread left more held holds : Option (List ℕ)) (s : Session S) (chunk : List ℕ)
      → HasAnswered Tells Commands start unread left held holds s → Consumes left more chunk → chunk ≡ [] → HasAnswered Tells Commands start unread more held holds s
  answered_same start unread left more held holds s chunk has took none = record {
    read = has.read;
    consumed = subst (Consumes unread more) (ap (λ c. has.read ++ c) none ∙ append-nil has.read) (Consumes-trans unread left more _ _ has.consumed took);
    at = has.at;
  }

  pub answered_kept : (start : S) (unread left more held holds : Option (List ℕ)) (s : Session S)
      → HasAnswered Tells Commands start unread left held holds s → Keeps left more → HasAnswered Tells Commands start unread more held holds s
  answered_kept start unread left more held holds s has kept = record {
    read = has.read;
    consumed = Consumes-kept unread left more _ has.consumed kept;
    at = has.at;
  }

module _ {S : Type 0} (Tells : Answer → List ℕ → Type 0) (Commands : List ℕ → S → Answer → S → Type 0) (Fails : List ℕ → S → S → Type 0) where
  -- what is answered of a part are answers to the first lines of all
  pub taken_part : (start : S) (all read more written : List ℕ) (s : Session S) → read ++ more ≡ all → IsTaken Tells Commands start read written s
      → IsCutAt Tells Commands Fails start (whole_lines all) (written ++ s.answers.items) s.state
  taken_part start all read more written s e at =
      let rest = whole_more read more in
      cut_of_more Tells Commands Fails start s.state (written ++ s.answers.items) (whole_lines read) rest.0 _ (ap whole_lines (sym e) ∙ rest.1)
      (cut_whole Tells Commands Fails start s.state (whole_lines read) (written ++ s.answers.items) _ at.answered refl)

  -- the answer to the next line was not kept, or lost
  pub taken_lost : (start : S) (all read rest front after written : List ℕ) (s t : Session S) → split_of 10 rest ≡ Some (front, after) → read ++ rest ≡ all
      → IsTaken Tells Commands start read written s → IsUnkept Commands Fails (rest_of read ++ front) s.state t.state → t.answers.items ≡ s.answers.items
      → IsCutAt Tells Commands Fails start (whole_lines all) (written ++ t.answers.items) t.state
  taken_lost start all read rest front after written s t split e at lost same =
      let more = whole_more ((read ++ front) ++ 10 ∷ []) after in
      let asked : whole_lines all ≡ (whole_lines read ++ (rest_of read ++ front) ∷ []) ++ more.0 =
      ap whole_lines (sym e ∙ sym (split_on read rest front after split)) ∙ more.1 ∙ ap (λ ls. ls ++ more.0) (whole_ended read front (split_front 10 rest front after split)) in
      subst (λ x. IsCutAt Tells Commands Fails start (whole_lines all) (written ++ x) t.state) (sym same)
      (cut_of_more Tells Commands Fails start t.state (written ++ s.answers.items) (whole_lines read ++ (rest_of read ++ front) ∷ []) more.0 _ asked
      (cut_unkept Tells Commands Fails start s.state t.state (whole_lines read) (rest_of read ++ front) (written ++ s.answers.items) at.answered lost))

  -- a part of what waited was written
  pub flushed_part : (start mid after : S) (asked : List (List ℕ)) (written waiting : List ℕ) (held before holds : Option (List ℕ)) (n had lines : ℕ)
      → IsCutAt Tells Commands Fails start asked (written ++ waiting) mid → Appends held before written → had ≡ line_count written
      → Appends before holds (take n waiting) → lines ≡ had + line_count (take n waiting) → after ≡ mid
      → IsCutOff Tells Commands Fails start asked held holds lines after
  flushed_part start mid after asked written waiting held before holds n had lines cut kept counted wrote more same =
      let both = line_count-append written (take n waiting) in
      record {
        written = written ++ take n waiting;
        appended = Appends-trans held before holds _ _ kept wrote;
        part = subst (IsCutAt Tells Commands Fails start asked (written ++ take n waiting)) (sym same)
            (cut_less Tells Commands Fails start mid asked (written ++ waiting) (written ++ take n waiting) (drop n waiting)
            (ap (λ t. written ++ t) (sym (take-append-drop n waiting)) ∙ sym (append_assoc written (take n waiting) (drop n waiting))) cut);
        counted = omega arith;
      }

  pub flushed_whole : (start mid after : S) (asked : List (List ℕ)) (written waiting : List ℕ) (held before holds : Option (List ℕ)) (had lines : ℕ)
      → IsCutAt Tells Commands Fails start asked (written ++ waiting) mid → Appends held before written → had ≡ line_count written
      → Appends before holds waiting → lines ≡ had + line_count waiting → after ≡ mid
      → IsCutOff Tells Commands Fails start asked held holds lines after
  flushed_whole start mid after asked written waiting held before holds had lines cut kept counted wrote more same =
      let both = line_count-append written waiting in
      record {
        written = written ++ waiting;
        appended = Appends-trans held before holds _ _ kept wrote;
        part = subst (IsCutAt Tells Commands Fails start asked (written ++ waiting)) (sym same) cut;
        counted = omega arith;
      }

module _ {S : Type 0} (Tells : Answer → List ℕ → Type 0) (Commands : List ℕ → S → Answer → S → Type 0) (Fails : List ℕ → S → S → Type 0) (Place : Type 0) where
  -- a fault that cuts off
  cut_end : (fault : Fault) → CutsOff Place fault → (start after : S) (left : Option (List ℕ)) (read written : List ℕ)
      → IsCutAt Tells Commands Fails start (lines_of read) written after → IsEndAt Tells Commands Fails Place (Some fault) start left read written after
  cut_end OutOfMemory cuts start after left read written cut = cut
  cut_end Read cuts start after left read written cut = absurd cuts
  cut_end Write cuts start after left read written cut = cut
  cut_end NoPlace cuts start after left read written cut = (cuts, cut)
  cut_end (Load e) cuts start after left read written cut = absurd cuts

  -- all was answered
  pub to_whole : (start : S) (unread left held holds : Option (List ℕ)) (s : Session S) (read ended : List ℕ)
      → lines_of read ≡ whole_lines ended → IsAt Tells Commands start ended held holds s → Consumes unread left read → IsAtEnd left
      → RanTo Tells Commands Fails Place start unread left held holds None s.lines s.state
  to_whole start unread left held holds s read ended e at consumed at_end = record {
    read = read;
    consumed = consumed;
    written = at.written;
    appended = at.appended;
    counted = at.counted;
    outcome = (at_end, subst (λ ls. Answered Tells Commands start ls at.written s.state) (sym e) at.answered);
  }

  -- no more can be read
  pub to_unread : (start : S) (unread left held holds : Option (List ℕ)) (s : Session S) → HasAnswered Tells Commands start unread left held holds s
      → RanTo Tells Commands Fails Place start unread left held holds (Some Read) s.lines s.state
  to_unread start unread left held holds s has = record {
    read = has.read;
    consumed = has.consumed;
    written = has.at.written;
    appended = has.at.appended;
    counted = has.at.counted;
    outcome = has.at.answered;
  }

  -- the answers were cut off
  pub to_cut_off : (start after : S) (unread left held holds : Option (List ℕ)) (read : List ℕ) (asked more : List (List ℕ)) (cause : Fault) (lines : ℕ)
      → lines_of read ≡ asked ++ more → CutsOff Place cause → IsCutOff Tells Commands Fails start asked held holds lines after → Consumes unread left read
      → RanTo Tells Commands Fails Place start unread left held holds (Some cause) lines after
  to_cut_off start after unread left held holds read asked more cause lines e cuts cut_off consumed = record {
    read = read;
    consumed = consumed;
    written = cut_off.written;
    appended = cut_off.appended;
    counted = cut_off.counted;
    outcome = cut_end cause cuts start after left read cut_off.written (cut_of_more Tells Commands Fails start after cut_off.written asked more _ e cut_off.part);
  }

module _ {S : Type 0} (Tells : Answer → List ℕ → Type 0) (Commands : List ℕ → S → Answer → S → Type 0) (Leaves : S → Network → Type 0) (Place : Type 0) where
  -- a fault that cuts off
  part_outcome : (fault : Fault) → CutsOff Place fault → (start : S) (left : Option (List ℕ)) (read written : List ℕ) (net : Option Network)
      → IsAnsweredInPart Tells Commands start (lines_of read) written → net ≡ None → IsOutcome Tells Commands Leaves Place (Some fault) start left read written net
  part_outcome OutOfMemory cuts start left read written net part none = (part, none)
  part_outcome Read cuts start left read written net part none = absurd cuts
  part_outcome Write cuts start left read written net part none = (part, none)
  part_outcome NoPlace cuts start left read written net part none = (cuts, part, none)
  part_outcome (Load e) cuts start left read written net part none = absurd cuts

  -- nothing was written
  pub outcome_none : (cause : Fault) → CutsOff Place cause → (start : S) (left : Option (List ℕ)) (read : List ℕ) (net : Option Network) → net ≡ None → IsOutcome Tells Commands Leaves Place (Some cause) start left read [] net
  outcome_none cause cuts start left read net none =
      part_outcome cause cuts start left read [] net (part_front Tells Commands start start [] (lines_of read) _ [] refl (Answered-none Tells Commands start)) none

  -- nothing was read, since a fault cut off
  pub ran_nothing : (start : S) (unread held : Option (List ℕ)) (cause : Fault) (fault : Option Fault) (lines : ℕ) (net : Option Network)
      → CutsOff Place cause → lines ≡ 0 → fault ≡ Some cause → net ≡ None → Ran Tells Commands Leaves Place start unread unread held held fault lines net
  ran_nothing start unread held cause fault lines net cuts zero some none = record {
    read = [];
    consumed = Consumes-nil unread;
    written = [];
    appended = Appends-nil held;
    counted = zero;
    outcome = subst (λ f. IsOutcome Tells Commands Leaves Place f start unread [] [] net) (sym some) (outcome_none cause cuts start unread [] net none);
  }

  -- all was answered, and the network comes back or a fault cuts it off
  pub outcome_ended : (start after : S) (left : Option (List ℕ)) (read written : List ℕ) (fault : Option Fault) (net : Option Network)
      → IsAtEnd left → Answered Tells Commands start (lines_of read) written after → IsEnd Leaves Place after fault net
      → IsOutcome Tells Commands Leaves Place fault start left read written net
  outcome_ended start after left read written None net at_end answered end =
      record { at_end = at_end; after = after; answered = answered; network = end.0; is_left = end.1; comes_back = end.2 }
  outcome_ended start after left read written (Some fault) net at_end answered end =
      part_outcome fault end.0 start left read written net (part_front Tells Commands start after (lines_of read) [] _ written (sym (append-nil (lines_of read))) answered) end.1

module _ {S : Type 0} (Tells : Answer → List ℕ → Type 0) (Commands : List ℕ → S → Answer → S → Type 0) (Fails : List ℕ → S → S → Type 0) (Leaves : S → Network → Type 0) (Place : Type 0) where
  -- all was answered, and the network given away
  pub ran_ended : (start after : S) (unread left held holds : Option (List ℕ)) (had : ℕ) (fault : Option Fault) (lines : ℕ) (net : Option Network)
      → RanTo Tells Commands Fails Place start unread left held holds None had after → lines ≡ had → IsEnd Leaves Place after fault net
      → Ran Tells Commands Leaves Place start unread left held holds fault lines net
  ran_ended start after unread left held holds had fault lines net ran same end = record {
    read = ran.read;
    consumed = ran.consumed;
    written = ran.written;
    appended = ran.appended;
    counted = same ∙ ran.counted;
    outcome = outcome_ended Tells Commands Leaves Place start after left ran.read ran.written fault net ran.outcome.0 ran.outcome.1 end;
  }

  -- a fault that ended a run, without what is left of who answers
  end_outcome : (fault : Fault) (start after : S) (left : Option (List ℕ)) (read written : List ℕ) (net : Option Network)
      → IsEndAt Tells Commands Fails Place (Some fault) start left read written after → net ≡ None → IsOutcome Tells Commands Leaves Place (Some fault) start left read written net
  end_outcome OutOfMemory start after left read written net end none = (cut_part Tells Commands Fails start after (lines_of read) written end, none)
  end_outcome Read start after left read written net end none = ((after, end), none)
  end_outcome Write start after left read written net end none = (cut_part Tells Commands Fails start after (lines_of read) written end, none)
  end_outcome NoPlace start after left read written net end none = (end.0, cut_part Tells Commands Fails start after (lines_of read) written end.1, none)
  end_outcome (Load e) start after left read written net end none = absurd end

  -- a fault ended the run
  pub ran_failed : (start after : S) (unread left held holds : Option (List ℕ)) (cause : Fault) (had : ℕ) (fault : Option Fault) (lines : ℕ) (net : Option Network)
      → RanTo Tells Commands Fails Place start unread left held holds (Some cause) had after → lines ≡ had → fault ≡ Some cause → net ≡ None
      → Ran Tells Commands Leaves Place start unread left held holds fault lines net
  ran_failed start after unread left held holds cause had fault lines net ran same some none = record {
    read = ran.read;
    consumed = ran.consumed;
    written = ran.written;
    appended = ran.appended;
    counted = same ∙ ran.counted;
    outcome = subst (λ f. IsOutcome Tells Commands Leaves Place f start left ran.read ran.written net) (sym some)
        (end_outcome cause start after left ran.read ran.written net ran.outcome none);
  }
