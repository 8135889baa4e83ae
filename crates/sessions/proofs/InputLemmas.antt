-- Where the network text ends and the script starts.
use Rattle.std.proofs.Common.{◌≡◌, ℕ, ◌+◌, ◌-◌, ◌<◌, ◌≤◌, ◌==◌, Bool, true, false, cond, List, [], ◌∷◌, ◌++◌, length, take, drop, get_or, Option, Some, None, Result, Ok, Err, MatchResult, inl, inr, sym, ap, subst, refl, ◌∙◌, arith, append_assoc, append-nil, length-append, length-drop}
use Rattle.answers.specs.declared.answer.Answer.{Answer}
use Rattle.std.proofs.lemmas.Bool.{eqb-true, true≢false}
use Rattle.std.proofs.lemmas.List.{take-append-drop, take-append-le, drop-append-le, append_cancel_right, take_more, length-take-le, drop-take, take_all}
use Rattle.std.proofs.Math.ListN.{drop_of_length-le}
use Rattle.std.proofs.lemmas.Grind.{common_steps}
use Rattle.sessions.specs.Lines.{put_before, cut, whole_lines, rest_of, lines_of}
use Rattle.std.specs.Io.KnownBytes.{Consumes, prepend_known}
use Rattle.std.proofs.KnownBytes.{Appends-nil}
use Rattle.net_data.specs.Network.{Network}
use Rattle.net_text.specs.Reading.{Says}
use Rattle.sessions.specs.Replies.{Answered}
use Rattle.sessions.specs.Run.{CutsOff, IsEnd, IsOutcome, Ran}
use Rattle.sessions.specs.declared.faults.Fault.{Fault}
use Rattle.sessions.specs.declared.faults.Fault.TheVariants.{OutOfMemory, Read, Write, NoPlace, Load}
use Rattle.sessions.specs.declared.input.Opening.{Opening}
use Rattle.sessions.specs.Input.{is_mark, has_mark, before_mark, after_mark, joined, text_part, script_part, HasText, HasReadAll, HasLoaded, HasNotLoaded, IsWithinLimit, IsLoadFault, IsUnloaded, IsUnopened, IsSplit, IsOpening, IsOpenAt, IsMarkAt, RanAfter, RanInput}
use Rattle.sessions.proofs.LineLemmas.{cut_joined, cut_ended, cut_grown}
use Rattle.sessions.proofs.RunLemmas.{outcome_ended, outcome_none}

-- the lines and the rest are the text
joined_put : (v : Bool) (b : ℕ) → (b == 10) ≡ v → (ws : List (List ℕ)) (r : List ℕ) → joined (put_before v b ws r).whole ++ (put_before v b ws r).rest ≡ b ∷ (joined ws ++ r)
joined_put true b e ws r = ap (λ x. x ∷ (joined ws ++ r)) (sym (eqb-true b 10 e))
joined_put false b e [] r = refl
joined_put false b e (l ∷ ls) r = refl

pub joined_lines : (text : List ℕ) → joined (whole_lines text) ++ rest_of text ≡ text
joined_lines [] = refl
joined_lines (b ∷ bs) = joined_put (b == 10) b refl (whole_lines bs) (rest_of bs) ∙ ap (λ t. b ∷ t) (joined_lines bs)

-- the first mark among some lines
clear_first : (b c : Bool) → cond b true c ≡ false → (b ≡ false) × (c ≡ false)
clear_first true c h = absurd (true≢false h)
clear_first false c h = (refl, h)

either_true : (b : Bool) → cond b true true ≡ true
either_true true = refl
either_true false = refl

found_has : (ls : List (List ℕ)) (m : List ℕ) (ms : List (List ℕ)) → is_mark m ≡ true → has_mark (ls ++ m ∷ ms) ≡ true
found_has [] m ms mark = ap (λ b. cond b true (has_mark ms)) mark
found_has (l ∷ ls) m ms mark = ap (λ b. cond (is_mark l) true b) (found_has ls m ms mark) ∙ either_true (is_mark l)

found_before : (ls : List (List ℕ)) (m : List ℕ) (ms : List (List ℕ)) → has_mark ls ≡ false → is_mark m ≡ true → before_mark (ls ++ m ∷ ms) ≡ ls
found_before [] m ms none mark = ap (λ b. cond b [] (m ∷ before_mark ms)) mark
found_before (l ∷ ls) m ms none mark =
    let parts = clear_first (is_mark l) (has_mark ls) none in
    ap (λ b. cond b [] (l ∷ before_mark (ls ++ m ∷ ms))) parts.0 ∙ ap (λ t. l ∷ t) (found_before ls m ms parts.1 mark)

found_after : (ls : List (List ℕ)) (m : List ℕ) (ms : List (List ℕ)) → has_mark ls ≡ false → is_mark m ≡ true → after_mark (ls ++ m ∷ ms) ≡ ms
found_after [] m ms none mark = ap (λ b. cond b ms (after_mark ms)) mark
found_after (l ∷ ls) m ms none mark =
    let parts = clear_first (is_mark l) (has_mark ls) none in
    ap (λ b. cond b (ls ++ m ∷ ms) (after_mark (ls ++ m ∷ ms))) parts.0 ∙ found_after ls m ms parts.1 mark

none_more : (ls : List (List ℕ)) (m : List ℕ) → has_mark ls ≡ false → is_mark m ≡ false → has_mark (ls ++ m ∷ []) ≡ false
none_more [] m none clear = ap (λ b. cond b true false) clear
none_more (l ∷ ls) m none clear =
    let parts = clear_first (is_mark l) (has_mark ls) none in
    ap (λ b. cond b true (has_mark (ls ++ m ∷ []))) parts.0 ∙ none_more ls m parts.1 clear

-- the parts of an input whose first mark is the line that ends here
pub marked_has : (read more : List ℕ) → is_mark (rest_of read) ≡ true → has_mark (whole_lines (read ++ 10 ∷ more)) ≡ true
marked_has read more mark = ap (λ c. has_mark c.whole) (cut_joined read more) ∙ found_has (whole_lines read) (rest_of read) (whole_lines more) mark

pub marked_text : (read more : List ℕ) → has_mark (whole_lines read) ≡ false → is_mark (rest_of read) ≡ true → text_part (read ++ 10 ∷ more) ≡ joined (whole_lines read)
marked_text read more none mark =
    let all = read ++ 10 ∷ more in
    ap (λ b. cond b (joined (before_mark (whole_lines all))) (cond (is_mark (rest_of all)) (joined (whole_lines all)) all)) (marked_has read more mark)
    ∙ ap (λ c. joined (before_mark c.whole)) (cut_joined read more)
    ∙ ap joined (found_before (whole_lines read) (rest_of read) (whole_lines more) none mark)

pub marked_script : (read more : List ℕ) → has_mark (whole_lines read) ≡ false → is_mark (rest_of read) ≡ true → script_part (read ++ 10 ∷ more) ≡ more
marked_script read more none mark =
    let all = read ++ 10 ∷ more in
    ap (λ b. cond b (joined (after_mark (whole_lines all)) ++ rest_of all) []) (marked_has read more mark)
    ∙ ap (λ c. joined (after_mark c.whole) ++ c.rest) (cut_joined read more)
    ∙ ap (λ ls. joined ls ++ rest_of more) (found_after (whole_lines read) (rest_of read) (whole_lines more) none mark)
    ∙ joined_lines more

-- an input without a mark that a line feed ends
pub unmarked_text : (read : List ℕ) → has_mark (whole_lines read) ≡ false → is_mark (rest_of read) ≡ false → text_part read ≡ read
unmarked_text read none clear =
    ap (λ b. cond b (joined (before_mark (whole_lines read))) (cond (is_mark (rest_of read)) (joined (whole_lines read)) read)) none
    ∙ ap (λ b. cond b (joined (whole_lines read)) read) clear

pub ended_text : (read : List ℕ) → has_mark (whole_lines read) ≡ false → is_mark (rest_of read) ≡ true → text_part read ≡ joined (whole_lines read)
ended_text read none mark =
    ap (λ b. cond b (joined (before_mark (whole_lines read))) (cond (is_mark (rest_of read)) (joined (whole_lines read)) read)) none
    ∙ ap (λ b. cond b (joined (whole_lines read)) read) mark

pub unmarked_script : (read : List ℕ) → has_mark (whole_lines read) ≡ false → script_part read ≡ []
unmarked_script read none = ap (λ b. cond b (joined (after_mark (whole_lines read)) ++ rest_of read) []) none

-- the whole lines end where the last line begins
pub lines_end : (bytes : List ℕ) (line at : ℕ) → IsOpenAt bytes line at → joined (whole_lines (take at bytes)) ≡ take line bytes
lines_end bytes line at open_at =
    let front = take at bytes in
    let ordered = open_at.ordered in
    let within = open_at.within in
    let whole : joined (whole_lines front) ++ rest_of front ≡ take line front ++ rest_of front =
    joined_lines front ∙ sym (take-append-drop line front) ∙ ap (λ t. take line front ++ t) open_at.last in
    append_cancel_right _ _ (rest_of front) whole ∙ grind (arith, common_steps)

-- one byte more
pub open_feed : (bytes : List ℕ) (line at : ℕ) → IsOpenAt bytes line at → at < length bytes → get_or bytes at 0 ≡ 10 → is_mark (rest_of (take at bytes)) ≡ false
    → IsOpenAt bytes (at + 1) (at + 1)
open_feed bytes line at open_at within feed clear =
    let next : take (at + 1) bytes ≡ take at bytes ++ 10 ∷ [] = take_more bytes at 0 within ∙ ap (λ b. take at bytes ++ b ∷ []) feed in
    let cuts = ap cut next ∙ cut_ended (take at bytes) in
    record {
      ordered = omega arith;
      within = omega arith;
      none = ap (λ c. has_mark c.whole) cuts ∙ none_more (whole_lines (take at bytes)) (rest_of (take at bytes)) open_at.none clear;
      last = drop_of_length-le (take (at + 1) bytes) (omega (arith, length-take-le (at + 1) bytes (omega arith))) ∙ sym (ap (λ c. c.rest) cuts);
    }

pub open_byte : (bytes : List ℕ) (line at : ℕ) → IsOpenAt bytes line at → at < length bytes → (get_or bytes at 0 == 10) ≡ false
    → IsOpenAt bytes line (at + 1)
open_byte bytes line at open_at within other =
    let next : take (at + 1) bytes ≡ take at bytes ++ get_or bytes at 0 ∷ [] = take_more bytes at 0 within in
    let cuts = ap cut next ∙ cut_grown (take at bytes) (get_or bytes at 0) other in
    let ordered = open_at.ordered in
    let size : length (take at bytes) ≡ at = length-take-le at bytes (omega arith) in
    record {
      ordered = omega arith;
      within = omega arith;
      none = ap (λ c. has_mark c.whole) cuts ∙ open_at.none;
      last = ap (drop line) next ∙ drop-append-le line (take at bytes) (get_or bytes at 0 ∷ []) (omega arith)
          ∙ ap (λ t. t ++ get_or bytes at 0 ∷ []) open_at.last ∙ sym (ap (λ c. c.rest) cuts);
    }

-- the last line as a slice
pub last_slice : (bytes : List ℕ) (line at : ℕ) → IsOpenAt bytes line at → take (at - line) (drop line bytes) ≡ rest_of (take at bytes)
last_slice bytes line at open_at =
    let ordered = open_at.ordered in
    let sum : line + (at - line) ≡ at = omega arith in
    sym (drop-take line (at - line) bytes) ∙ ap (λ n. drop line (take n bytes)) sum ∙ open_at.last

-- the text up to the mark
pub mark_parts : (bytes : List ℕ) (line at : ℕ) → IsMarkAt bytes line at → (more : List ℕ)
    → (has_mark (whole_lines (take (at + 1) bytes ++ more)) ≡ true) × (text_part (take (at + 1) bytes ++ more) ≡ take line bytes) × (script_part (take (at + 1) bytes ++ more) ≡ more)
mark_parts bytes line at is more =
    let next : take (at + 1) bytes ≡ take at bytes ++ 10 ∷ [] = take_more bytes at 0 is.within ∙ ap (λ b. take at bytes ++ b ∷ []) is.feed in
    let all : take (at + 1) bytes ++ more ≡ take at bytes ++ 10 ∷ more = ap (λ t. t ++ more) next ∙ append_assoc (take at bytes) (10 ∷ []) more in (
      ap (λ t. has_mark (whole_lines t)) all ∙ marked_has (take at bytes) more is.mark,
      ap text_part all ∙ marked_text (take at bytes) more is.open_at.none is.mark ∙ lines_end bytes line at is.open_at,
      ap script_part all ∙ marked_script (take at bytes) more is.open_at.none is.mark,
    )

whole_open : (bytes : List ℕ) (line : ℕ) → IsOpenAt bytes line (length bytes) → (has_mark (whole_lines bytes) ≡ false) × (drop line bytes ≡ rest_of bytes) × (joined (whole_lines bytes) ≡ take line bytes)
whole_open bytes line open_at =
    let all : take (length bytes) bytes ≡ bytes = take_all (length bytes) bytes (omega arith) in (
      ap (λ t. has_mark (whole_lines t)) (sym all) ∙ open_at.none,
      ap (drop line) (sym all) ∙ open_at.last ∙ ap rest_of all,
      ap (λ t. joined (whole_lines t)) (sym all) ∙ lines_end bytes line (length bytes) open_at,
    )

pub open_none : (bytes : List ℕ) (line : ℕ) → IsOpenAt bytes line (length bytes) → has_mark (whole_lines bytes) ≡ false
open_none bytes line open_at = (whole_open bytes line open_at).0

-- the input ended
pub end_marked : (bytes : List ℕ) (line : ℕ) → IsOpenAt bytes line (length bytes) → is_mark (drop line bytes) ≡ true
    → (text_part bytes ≡ take line bytes) × (script_part bytes ≡ [])
end_marked bytes line open_at mark =
    let whole = whole_open bytes line open_at in
    (ended_text bytes whole.0 (ap is_mark (sym whole.1) ∙ mark) ∙ whole.2, unmarked_script bytes whole.0)

pub end_unmarked : (bytes : List ℕ) (line : ℕ) → IsOpenAt bytes line (length bytes) → is_mark (drop line bytes) ≡ false
    → (text_part bytes ≡ take (length bytes) bytes) × (script_part bytes ≡ [])
end_unmarked bytes line open_at clear =
    let whole = whole_open bytes line open_at in
    (unmarked_text bytes whole.0 (ap is_mark (sym whole.1) ∙ clear) ∙ sym (take_all (length bytes) bytes (omega arith)), unmarked_script bytes whole.0)

pub open_first : IsOpenAt [] 0 0
open_first = record { ordered = omega arith; within = omega arith; none = refl; last = refl }

-- more bytes leave what was looked at
pub open_grown : (bytes more : List ℕ) (line : ℕ) → IsOpenAt bytes line (length bytes) → IsOpenAt (bytes ++ more) line (length bytes)
open_grown bytes more line open_at =
    let front : take (length bytes) bytes ≡ take (length bytes) (bytes ++ more) = sym (take-append-le (length bytes) bytes more (omega arith)) in
    record {
      ordered = open_at.ordered;
      within = omega (arith, length-append bytes more);
      none = ap (λ t. has_mark (whole_lines t)) (sym front) ∙ open_at.none;
      last = ap (drop line) (sym front) ∙ open_at.last ∙ ap rest_of front;
    }

-- the mark was read, and the text before it is as long as the place where the mark begins
pub mark_whole : (bytes : List ℕ) (line at : ℕ) → IsMarkAt bytes line at → text_part bytes ≡ take line bytes
mark_whole bytes line at is = ap text_part (sym (take-append-drop (at + 1) bytes)) ∙ (mark_parts bytes line at is (drop (at + 1) bytes)).1

pub text_length : (bytes : List ℕ) (end : ℕ) → text_part bytes ≡ take end bytes → end ≤ length bytes → length (text_part bytes) ≡ end
text_length bytes end e h = ap length e ∙ length-take-le end bytes h

-- the rest of a list as a slice
pub rest_slice : (bytes : List ℕ) (at : ℕ) → take (length bytes - at) (drop at bytes) ≡ drop at bytes
rest_slice bytes at = take_all (length bytes - at) (drop at bytes) (omega (arith, length-drop at bytes))

pub rest_slice_of : (bytes sliced : List ℕ) (at : ℕ) → sliced ≡ bytes → take (length sliced - at) (drop at sliced) ≡ drop at bytes
rest_slice_of bytes sliced at e = rest_slice sliced at ∙ ap (drop at) e

-- ---- the network text was read

pub split_text : (script : Option ℕ) (left : Option (List ℕ)) (bytes : List ℕ) (text : ℕ) → IsSplit script left bytes text
    → HasText bytes left × (text_part bytes ≡ take text bytes)
split_text (Some k) left bytes text s =
    let whole = take-append-drop (s.0 + 1) bytes in
    (inl (ap (λ t. has_mark (whole_lines t)) (sym whole) ∙ (mark_parts bytes text s.0 s.2 (drop (s.0 + 1) bytes)).0), mark_whole bytes text s.0 s.2)
split_text None left bytes text s = (inr s.0, s.1)

-- why no network came of the text
pub load_cause : (cause : Fault) (read : List ℕ) (left : Option (List ℕ)) (text : List ℕ) → HasText read left → IsWithinLimit (text_part read) → text_part read ≡ text
    → IsLoadFault text cause → IsUnloaded (Some cause) read left
load_cause OutOfMemory read left text has within same is = tt
load_cause Read read left text has within same is = absurd is
load_cause Write read left text has within same is = absurd is
load_cause NoPlace read left text has within same is = absurd is
load_cause (Load e) read left text has within same is = (has, within, is.0, subst (λ t. Says t (Err e)) (sym same) is.1)

-- what a text that was read says is the end of its reading
pub loaded_whole : (unread left : Option (List ℕ)) (text : List ℕ) (loaded : Result Network Fault) → HasReadAll unread left text
    → MatchResult loaded (λ net. Says text (Ok net)) (IsLoadFault text) → MatchResult loaded (HasLoaded unread left) (HasNotLoaded unread left)
loaded_whole unread left text (Ok net) read says = record { text = text; read = read; says = says }
loaded_whole unread left text (Err fault) read is = record { cause = inr (text, read, is) }

-- what comes after some bytes was read in their place
read_through : (a b c : Option (List ℕ)) (front rest read : List ℕ) → Consumes a b (front ++ rest) → Consumes (prepend_known rest b) c read → Consumes a c (front ++ read)
read_through None b c front rest read p q = tt
read_through (Some x) None c front rest read p q = absurd p
read_through (Some x) (Some y) None front rest read p q = absurd q
read_through (Some x) (Some y) (Some z) front rest read p q =
    p ∙ append_assoc front rest y ∙ ap (λ t. front ++ t) q ∙ sym (append_assoc front read z)

pub consumes_first : (b : Option (List ℕ)) (rest : List ℕ) → Consumes (prepend_known rest b) b rest
consumes_first None rest = tt
consumes_first (Some y) rest = refl

module _ {S : Type 0} (Tells : Answer → List ℕ → Type 0) (Commands : List ℕ → S → Answer → S → Type 0) (Leaves : S → Network → Type 0) (Place : Type 0) where
  -- the input ended with the network text
  pub after_ended : (unread left held : Option (List ℕ)) (o : Opening) (start : S) (fault : Option Fault) (lines : ℕ) (net : Option Network)
      → IsOpening unread left o → o.script ≡ None → lines ≡ 0 → IsEnd Leaves Place start fault net
      → RanAfter Tells Commands Leaves Place (take o.text o.bytes.items) start unread left held held fault lines net
  after_ended unread left held o start fault lines net opening no_script zero end =
      let split : IsSplit None left o.bytes.items o.text = subst (λ s. IsSplit s left o.bytes.items o.text) no_script opening.split in
      let size = text_length o.bytes.items o.text split.1 opening.text in
      let within = opening.within in
      record {
        read = o.bytes.items;
        consumed = opening.consumed;
        written = [];
        appended = Appends-nil held;
        counted = zero;
        whole = inr split.0;
        within = omega arith;
        text = split.1;
        outcome = outcome_ended Tells Commands Leaves Place start start left (script_part o.bytes.items) [] fault net split.0
            (subst (λ t. Answered Tells Commands start (lines_of t) [] start) (sym split.2) ([], (refl, refl), refl)) end;
      }

  -- whoever answers couldn't start
  pub after_none : (unread left held : Option (List ℕ)) (o : Opening) (start : S) (cause : Fault) (fault : Option Fault) (lines : ℕ) (net : Option Network)
      → IsOpening unread left o → CutsOff Place cause → lines ≡ 0 → fault ≡ Some cause → net ≡ None
      → RanAfter Tells Commands Leaves Place (take o.text o.bytes.items) start unread left held held fault lines net
  after_none unread left held o start cause fault lines net opening cuts zero some none =
      let parts = split_text o.script left o.bytes.items o.text opening.split in
      let size = text_length o.bytes.items o.text parts.1 opening.text in
      let within = opening.within in
      record {
        read = o.bytes.items;
        consumed = opening.consumed;
        written = [];
        appended = Appends-nil held;
        counted = zero;
        whole = parts.0;
        within = omega arith;
        text = parts.1;
        outcome = subst (λ f. IsOutcome Tells Commands Leaves Place f start left (script_part o.bytes.items) [] net) (sym some) (outcome_none Tells Commands Leaves Place cause cuts start left (script_part o.bytes.items) net none);
      }

  -- the script was run
  pub after_script : (unread middle left held holds : Option (List ℕ)) (o : Opening) (script : ℕ) (start : S) (rest : List ℕ) (fault : Option Fault) (lines : ℕ) (net : Option Network)
      → IsOpening unread middle o → o.script ≡ Some script → rest ≡ drop script o.bytes.items
      → Ran Tells Commands Leaves Place start (prepend_known rest middle) left held holds fault lines net
      → RanAfter Tells Commands Leaves Place (take o.text o.bytes.items) start unread left held holds fault lines net
  after_script unread middle left held holds o script start rest fault lines net opening some from ran =
      let bytes = o.bytes.items in
      let split : IsSplit (Some script) middle bytes o.text = subst (λ s. IsSplit s middle bytes o.text) some opening.split in
      let at = split.0 in
      let parts = mark_parts bytes o.text at split.2 ran.read in
      let within = opening.within in
      let bound = opening.text in
      let size : length (text_part (take (at + 1) bytes ++ ran.read)) ≡ o.text = ap length parts.1 ∙ length-take-le o.text bytes bound in
      let whole : bytes ≡ take (at + 1) bytes ++ rest = sym (take-append-drop (at + 1) bytes) ∙ ap (λ t. take (at + 1) bytes ++ t) (ap (λ k. drop k bytes) (sym split.1) ∙ sym from) in
      record {
        read = take (at + 1) bytes ++ ran.read;
        consumed = read_through unread middle left (take (at + 1) bytes) rest ran.read (subst (Consumes unread middle) whole opening.consumed) ran.consumed;
        written = ran.written;
        appended = ran.appended;
        counted = ran.counted;
        whole = inl parts.0;
        within = omega arith;
        text = parts.1;
        outcome = subst (λ t. IsOutcome Tells Commands Leaves Place fault start left t ran.written net) (sym parts.2) ran.outcome;
      }

module _ {S : Type 0} (Opens : Network → S → Type 0) (Tells : Answer → List ℕ → Type 0) (Commands : List ℕ → S → Answer → S → Type 0) (Leaves : S → Network → Type 0) (Place : Type 0) where
  -- no network text was read
  pub ran_unopened : (unread left held : Option (List ℕ)) (cause : Fault) (fault : Option Fault) (lines : ℕ) (net : Option Network)
      → IsUnopened unread left cause → lines ≡ 0 → fault ≡ Some cause → net ≡ None → RanInput Opens Tells Commands Leaves Place unread left held held fault lines net
  ran_unopened unread left held cause fault lines net un zero some none = record {
    read = un.read;
    consumed = un.consumed;
    written = [];
    appended = Appends-nil held;
    counted = zero;
    outcome = inr (record { cause = subst (λ f. IsUnloaded f un.read left) (sym some) un.cause; none = refl; gone = none });
  }

  -- no network came of the text
  pub ran_unloaded : (unread left held : Option (List ℕ)) (o : Opening) (text : List ℕ) (cause : Fault) (fault : Option Fault) (lines : ℕ) (net : Option Network)
      → IsOpening unread left o → text ≡ take o.text o.bytes.items → IsLoadFault text cause → lines ≡ 0 → fault ≡ Some cause → net ≡ None
      → RanInput Opens Tells Commands Leaves Place unread left held held fault lines net
  ran_unloaded unread left held o text cause fault lines net opening same is zero some none =
      let parts = split_text o.script left o.bytes.items o.text opening.split in
      let size = text_length o.bytes.items o.text parts.1 opening.text in
      let within = opening.within in
      record {
        read = o.bytes.items;
        consumed = opening.consumed;
        written = [];
        appended = Appends-nil held;
        counted = zero;
        outcome = inr (record {
          cause = subst (λ f. IsUnloaded f o.bytes.items left) (sym some) (load_cause cause o.bytes.items left text parts.0 (omega arith) (parts.1 ∙ sym same) is);
          none = refl;
          gone = none;
        });
      }

  -- the script was run from a start over the network that the text says
  pub ran_after : (text : List ℕ) (over : Network) (start : S) (unread left held holds : Option (List ℕ)) (fault : Option Fault) (lines : ℕ) (net : Option Network)
      → Says text (Ok over) → Opens over start → RanAfter Tells Commands Leaves Place text start unread left held holds fault lines net
      → RanInput Opens Tells Commands Leaves Place unread left held holds fault lines net
  ran_after text over start unread left held holds fault lines net says opens ran = record {
    read = ran.read;
    consumed = ran.consumed;
    written = ran.written;
    appended = ran.appended;
    counted = ran.counted;
    outcome = inl (record {
      over = over;
      start = start;
      whole = ran.whole;
      within = ran.within;
      says = subst (λ t. Says t (Ok over)) (sym ran.text) says;
      opens = opens;
      outcome = ran.outcome;
    });
  }

-- ---- an input that is put together

grown_rest : (text : List ℕ) (b : ℕ) (end : List ℕ) → rest_of text ≡ end → (b == 10) ≡ false
    → (whole_lines (text ++ b ∷ []) ≡ whole_lines text) × (rest_of (text ++ b ∷ []) ≡ end ++ b ∷ [])
grown_rest text b end e other =
    (ap (λ c. c.whole) (cut_grown text b other), ap (λ c. c.rest) (cut_grown text b other) ∙ ap (λ t. t ++ b ∷ []) e)

-- a text whose lines are ended and are no mark, then the mark, then a script
pub put_together : (text script : List ℕ) → has_mark (whole_lines text) ≡ false → rest_of text ≡ []
    → (text_part ((text ++ 37 ∷ 37 ∷ []) ++ 10 ∷ script) ≡ text) × (script_part ((text ++ 37 ∷ 37 ∷ []) ++ 10 ∷ script) ≡ script)
put_together text script none ended =
    let one = grown_rest text 37 [] ended refl in
    let two = grown_rest (text ++ 37 ∷ []) 37 (37 ∷ []) one.1 refl in
    let marked = (text ++ 37 ∷ []) ++ 37 ∷ [] in
    let all : marked ++ 10 ∷ script ≡ (text ++ 37 ∷ 37 ∷ []) ++ 10 ∷ script = ap (λ t. t ++ 10 ∷ script) (append_assoc text (37 ∷ []) (37 ∷ [])) in
    let same : whole_lines marked ≡ whole_lines text = two.0 ∙ one.0 in
    let clear : has_mark (whole_lines marked) ≡ false = ap has_mark same ∙ none in
    let mark : is_mark (rest_of marked) ≡ true = ap is_mark two.1 in
    let whole : joined (whole_lines text) ≡ text = sym (append-nil (joined (whole_lines text))) ∙ ap (λ t. joined (whole_lines text) ++ t) (sym ended) ∙ joined_lines text in
    (ap text_part (sym all) ∙ marked_text marked script clear mark ∙ ap joined same ∙ whole, ap script_part (sym all) ∙ marked_script marked script clear mark)
