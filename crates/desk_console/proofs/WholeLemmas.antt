-- The events of a whole set or point, posted one after the other.
use Rattle.std.proofs.Common.{◌≡◌, ℕ, zero, suc, ◌+◌, ◌-◌, ◌<◌, ◌≤◌, ◌^◌, ◌==◌, Bool, true, false, ◌&&◌, not, eqb, ltb, leb, List, [], ◌∷◌, ◌++◌, length, Option, Some, None, Result, Ok, Err, refl, sym, ap, ◌∙◌, subst, arith, length-append, slice_index_or, slice_set, get_or, take, drop, add-one, drop-cons}
use Rattle.std.proofs.lemmas.List.{take_more}
use Rattle.std.proofs.lemmas.Bool.{eqb-true, ne_eqb, le-ltb, lt-leb}
use Rattle.net_data.specs.declared.events.Event.{Event}
use Rattle.net_data.specs.declared.events.Refusal.{Refusal as EditRefusal}
use Rattle.net_data.specs.Network.{Network}
use Rattle.net_data.specs.Edits.{refusal_of, changed, apply_all}
use Rattle.work_units.specs.declared.replies.Posted.{Posted}
use Rattle.work_units.specs.declared.replies.Posted.TheVariants.{Taken}
use Rattle.work_units.specs.declared.replies.Refusal.{Refusal}
use Rattle.desk_core.specs.declared.posts.Last.{Last}
use Rattle.desk_core.specs.Desk.{DeskValue, accepted, net_now, no_post}
use Rattle.desk_core.specs.Steps.{IsPost, IsReply, Posts, is_last, last_of, post_refusal, with_post}
use Rattle.desk_core.proofs.ReplayLemmas.{replay-push}
use Rattle.answers.specs.Replies.{posted_answer}
use Rattle.answers.specs.declared.answer.Answer.{Answer}
use Rattle.desk_console.specs.Console.{ConsoleValue}
use Rattle.desk_console.specs.Does.{CanPost, HasMemory, PostsAfter, PostsEach, PostsNext, taken_next}

-- ---- one event

-- the first of events that a network accepts, and the others
first_accepted : (net new : Network) (e : Event) (es : List Event) → apply_all net (e ∷ es) ≡ Ok new → (refusal_of net e ≡ None) × (apply_all (changed net e) es ≡ Ok new)
first_accepted net new e es is = go (refusal_of net e) refl
  where
    go : (o : Option EditRefusal) → refusal_of net e ≡ o → (refusal_of net e ≡ None) × (apply_all (changed net e) es ≡ Ok new)
    go None none = (none, rw none at is)
    go (Some refusal) some = let no : Err refusal ≡ Ok new = rw some at is in absurd (cc)

-- after a post the collector's last number isn't above it
last_low : (lasts : List Last) (i : ℕ) (l : Last) → (slice_index_or (slice_set lasts i l) i no_post).seq ≤ l.seq
last_low [] i l = omega arith
last_low (x ∷ xs) zero l = omega arith
last_low (x ∷ xs) (suc i) l = last_low xs i l

and_off : (a b : Bool) → b ≡ false → (a && b) ≡ false
and_off true b h = h
and_off false b h = refl

module _ (s : DeskValue) (collector : ℕ) (event : Event) (events : List Event) (can : CanPost collector (event ∷ events) s) where
  abbrev next : ℕ
  next = (last_of s collector).seq + 1

  abbrev after : DeskValue
  after = with_post s collector next event

  first_in : (refusal_of (net_now s) event ≡ None) × (apply_all (changed (net_now s) event) events ≡ Ok can.accepted_all.0)
  first_in = first_accepted (net_now s) can.accepted_all.0 event events can.accepted_all.1

  new_number : is_last s collector next ≡ false
  new_number = and_off (not (eqb next 0)) (eqb next (last_of s collector).seq) (ne_eqb next (last_of s collector).seq (λ e. omega arith))

  nothing_against : post_refusal s collector next event ≡ None
  nothing_against =
      let counted = can.counted in
      let room = can.room in
      let zero : eqb next 0 ≡ false = ne_eqb next 0 (λ e. omega arith) in
      let old : ltb next (last_of s collector).seq ≡ false = le-ltb next (last_of s collector).seq (omega arith) in
      let gap : ltb ((last_of s collector).seq + 1) next ≡ false = le-ltb ((last_of s collector).seq + 1) next (omega arith) in
      let ends : leb (2 ^ 64 - 1) (accepted s) ≡ false = lt-leb (2 ^ 64 - 1) (accepted s) (omega arith) in
      let full : leb 65536 (length s.pending) ≡ false = lt-leb 65536 (length s.pending) (omega arith) in
      rw (zero, old, gap, ends, full, first_in.0) refl

  others : CanPost collector events after
  others =
      let longer : length (s.pending ++ event ∷ []) ≡ length s.pending + 1 = length-append s.pending (event ∷ []) in
      let numbers = can.numbers in
      let counted = can.counted in
      let room = can.room in
      let low = last_low s.lasts collector (record { seq = next; number = accepted s + 1; event = Some event }) in
      record {
        numbers = omega arith;
        counted = omega arith;
        room = omega arith;
        accepted_all = (can.accepted_all.0, ap (λ (n : Network). apply_all n events) (replay-push s.published.network s.pending event) ∙ first_in.1);
      }

  fresh : (result : Result Posted Refusal) (new : DeskValue) → HasMemory result → IsReply None (λ answer left. (answer ≡ Taken (accepted s + 1)) × (left ≡ after)) s result new
      → (posted_answer result ≡ taken_next s) × (new ≡ after) × CanPost collector events new
  fresh (Ok p) new memory is = (ap (λ (q : Posted). posted_answer (Ok q)) is.0, is.1, subst (CanPost collector events) (sym is.1) others)
  fresh (Err e) new memory is = absurd (memory (ap Err is.0))

  called : (result : Result Posted Refusal) (new : DeskValue) → HasMemory result → Posts s collector next event result new → (posted_answer result ≡ taken_next s) × (new ≡ after) × CanPost collector events new
  called result new memory is =
      fresh result new memory
      (subst (λ (o : Option Refusal). IsReply o (λ answer left. (answer ≡ Taken (accepted s + 1)) × (left ≡ after)) s result new) nothing_against
      (subst (λ b. IsPost b s collector next event result new) new_number is))

-- the first of events that can be posted is accepted, and then the others can be
pub one_posted : (collector : ℕ) (event : Event) (events : List Event) (c : ConsoleValue) (a : Answer) (new : ConsoleValue) → CanPost collector (event ∷ events) c.desk → PostsNext collector event c a new
    → (a ≡ taken_next c.desk) × (new.desk ≡ with_post c.desk collector ((last_of c.desk collector).seq + 1) event) × CanPost collector events new.desk
one_posted collector event events c a new can = go ((last_of c.desk collector).seq == 2 ^ 64 - 1) refl
  where
    go : (b : Bool) → ((last_of c.desk collector).seq == 2 ^ 64 - 1) ≡ b → PostsAfter b collector event c a new
        → (a ≡ taken_next c.desk) × (new.desk ≡ with_post c.desk collector ((last_of c.desk collector).seq + 1) event) × CanPost collector events new.desk
    go true full is =
        let top : (last_of c.desk collector).seq ≡ 2 ^ 64 - 1 = eqb-true (last_of c.desk collector).seq (2 ^ 64 - 1) full in
        let numbers = can.numbers in
        absurd (omega arith)
    go false free is = let one = called c.desk collector event events can is.0 new.desk is.2 is.1 in (is.3 ∙ one.0, one.1, one.2)

-- ---- one after the other

-- one event more
pub each_more : (collector : ℕ) (events : List Event) (event : Event) (c mid new : ConsoleValue) → PostsEach collector events c mid → PostsNext collector event mid (taken_next mid.desk) new → PostsEach collector (events ++ event ∷ []) c new
each_more collector [] event c mid new is next = (new, subst (λ (m : ConsoleValue). PostsNext collector event m (taken_next m.desk) new) is next, refl)
each_more collector (e ∷ es) event c mid new is next = (is.0, is.1, each_more collector es event is.0 mid new is.2 next)

-- the next of events is posted
pub posted_next : (collector : ℕ) (events : List Event) (i : ℕ) (event : Event) (c mid : ConsoleValue) (a : Answer) (new : ConsoleValue) → i < length events → event ≡ get_or events i event
    → PostsEach collector (take i events) c mid → CanPost collector (drop i events) mid.desk → PostsNext collector event mid a new
    → PostsEach collector (take (i + 1) events) c new × CanPost collector (drop (i + 1) events) new.desk
posted_next collector events i event c mid a new low here posted can next =
    let rest : drop i events ≡ event ∷ drop (i + 1) events =
    drop-cons events i event low ∙ ap (λ n. get_or events i event ∷ drop n events) (sym (add-one i)) ∙ ap (λ (e : Event). e ∷ drop (i + 1) events) (sym here) in
    let front : take (i + 1) events ≡ take i events ++ event ∷ [] = take_more events i event low ∙ ap (λ (e : Event). take i events ++ e ∷ []) (sym here) in
    let one = one_posted collector event (drop (i + 1) events) mid a new (subst (λ (es : List Event). CanPost collector es mid.desk) rest can) next in (
      subst (λ (es : List Event). PostsEach collector es c new) (sym front)
          (each_more collector (take i events) event c mid new posted (subst (λ (x : Answer). PostsNext collector event mid x new) one.0 next)),
      one.2,
    )
