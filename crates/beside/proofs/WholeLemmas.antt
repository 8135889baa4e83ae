-- The events of a whole set or point, posted at the hub one after the other.
use Rattle.std.proofs.Common.{◌≡◌, ◌≢◌, ℕ, ◌+◌, ◌<◌, ◌≤◌, Bool, true, false, List, [], ◌∷◌, ◌++◌, length, get_or, take, drop, Option, Some, None, Result, inl, inr, refl, sym, ap, ◌∙◌, subst, arith, append-nil, append_assoc, length-append, add-one, drop-cons}
use Rattle.std.proofs.lemmas.List.{take-append-drop, take_all, take_more}
use Rattle.std.specs.Prelude.{IfOk}
use mathlib.Core.List.{IsPrefix}
use Rattle.net_data.specs.declared.events.Event.{Event}
use Rattle.net_building.specs.declared.wholes.Listed.{Listed}
use Rattle.net_building.specs.declared.wholes.Listed.TheVariants as listed
use Rattle.work_units.specs.declared.replies.Refusal.{Refusal}
use Rattle.desk_core.specs.declared.steps.Reply.TheVariants as reply
use Rattle.desk_core.specs.Desk.{DeskValue, accepted, net_now}
use Rattle.desk_core.specs.Runs.{event_taken}
use Rattle.desk_core.specs.Steps.{last_of, with_post}
use Rattle.answers.specs.declared.answer.Answer.{Answer}
use Rattle.desk_console.specs.Console.{ConsoleValue}
use Rattle.answers.specs.declared.answer.Answer.TheVariants as answer
use Rattle.answers.specs.Replies.{refused}
use Rattle.net_building.specs.Wholes.{whole_events}
use Rattle.net_building.specs.declared.wholes.Whole.{Whole}
use Rattle.desk_console.specs.Does.{CanPost, PostsAfter, PostsNext, Tells, taken_next, whole_against}
use Rattle.desk_console.proofs.RunLemmas.{taken_one}
use Rattle.desk_console.proofs.WholeLemmas.{one_posted}
use Rattle.versions.proofs.EventLemmas.{IsPosted, post_is}
use Rattle.versions.specs.Working.{leaving}
use Rattle.versions.specs.declared.state.DeskAndChain.{DeskAndChain}
use Rattle.beside.specs.Beside.{BesideValue, DoesAt, Leaves, PostsAllBeside, PostsEachBeside, PostsWholeBeside, at_console}
use Rattle.beside.proofs.BesideLemmas.{each_ok}
use Rattle.beside.specs.Seats.{CamePosting, CameTaking, Goes, StaysSeated, TakesEach}

-- ---- one event

-- the same, with an answer that is the same
told_so : (seats : ℕ) (Done : ConsoleValue → Answer → ConsoleValue → Type 0) (old : BesideValue) (found : DeskAndChain) (a b : Answer) (new : BesideValue) → a ≡ b → DoesAt seats Done old found a new → DoesAt seats Done old found b new
told_so seats Done old found a b new same does = subst (λ (x : Answer). DoesAt seats Done old found x new) same does

module _ (seats collector : ℕ) (event : Event) (events : List Event) (old : BesideValue) (found : DeskAndChain) (a : Answer) (new : BesideValue) (can : CanPost collector (event ∷ events) found.desk)
    (does : DoesAt seats (PostsNext collector event) old found a new) where
  one : (a ≡ taken_next found.desk) × (new.left.desk ≡ with_post found.desk collector ((last_of found.desk collector).seq + 1) event) × CanPost collector events new.left.desk
  one = one_posted collector event events (at_console found.desk) a (at_console new.left.desk) can does.done

  pub one_does : DoesAt seats (PostsNext collector event) old found (taken_next found.desk) new
  one_does = told_so seats (PostsNext collector event) old found a (taken_next found.desk) new one.0 does

  pub others_can : CanPost collector events new.left.desk
  others_can = one.2

  -- something was accepted there
  went_on : new.left ≢ found
  went_on same =
      let longer : length (found.desk.pending ++ event ∷ []) ≡ length found.desk.pending + 1 = length-append found.desk.pending (event ∷ []) in
      let still : length found.desk.pending ≡ length (found.desk.pending ++ event ∷ []) =
      ap (λ (s : DeskAndChain). length s.desk.pending) (sym same) ∙ ap (λ (s : DeskValue). length s.pending) one.1 in
      absurd (omega arith)

  pub one_takes : CameTaking seats event old new
  one_takes = go does.leaves
    where
      calls : (b : Bool) → PostsAfter b collector event (at_console found.desk) (taken_next found.desk) (at_console new.left.desk) → new.seat ≡ leaving does.finds.there new.left → CameTaking seats event old new
      calls true is seat = absurd (let no = is.0 in cc)
      calls false is seat = record {
        posting = record {
          found = found;
          left = new.left;
          came = (does.finds.there, does.finds.comes, seat);
          call = record { collector = collector; seq = (last_of found.desk collector).seq + 1; event = event; reply = is.0; made = is.1; shown = does.shown };
          posted = refl;
          seen = subst (IsPrefix old.seen) (sym does.told) does.finds.seen;
        };
        taken = taken_one event is.0 (accepted found.desk + 1) is.3;
      }

      go : Leaves does.finds.there found new → CameTaking seats event old new
      go (inl is) = absurd (went_on is.1)
      go (inr is) = calls _ one_does.done is

pub stays_itself : (b : BesideValue) → StaysSeated b b
stays_itself b = record { seat = refl; seen = ([], append-nil b.seen) }

-- who posted an event took it, or none
pub ended : (seats : ℕ) (event : Event) (old new : BesideValue) → Goes seats (Some (listed.Event event)) old new → (taken : List Event) × IsPrefix taken (event ∷ []) × TakesEach seats taken old new
ended seats event old new (inl stays) = ([], (event ∷ [], refl), inl stays)
ended seats event old new (inr (inl came)) = ([], (event ∷ [], refl), inr (inl came))
ended seats event old new (inr (inr (inl posting))) =
    let call = posting.2.call in
    go posting.2 (sym (ap event_at posting.1)) (post_is posting.2.found.desk call.collector call.seq call.event call.reply posting.2.left.desk call.made)
  where
    event_at : Option Listed → Event
    event_at (Some (listed.Event e)) = e
    event_at (Some (listed.Whole w)) = event
    event_at None = event

    go : {e : Event} (p : CamePosting seats e old new) → e ≡ event → IsPosted p.found.desk p.call.collector p.call.seq p.call.event p.call.reply p.left.desk
        → (taken : List Event) × IsPrefix taken (event ∷ []) × TakesEach seats taken old new
    go {e} p same (inl none) = ([], (event ∷ [], refl), inr (inr (e, p, subst (λ (x : Event). event_taken x (reply.Post p.call.reply) ≡ []) p.posted none.0)))
    go {e} p same (inr put) =
        (e ∷ [], ([], ap (λ (x : Event). x ∷ []) same), (new, record { posting = p; taken = subst (λ (x : Event). event_taken x (reply.Post p.call.reply) ≡ x ∷ []) p.posted put.0 }, inl (stays_itself new)))
ended seats event old new (inr (inr (inr whole))) = absurd (let no = whole.1 in cc)

-- ---- one after the other

module _ (events : List Event) (i : ℕ) (event : Event) (low : i < length events) (here : event ≡ get_or events i event) where
  rest_here : drop i events ≡ event ∷ drop (i + 1) events
  rest_here = drop-cons events i event low ∙ ap (λ n. get_or events i event ∷ drop n events) (sym (add-one i)) ∙ ap (λ (e : Event). e ∷ drop (i + 1) events) (sym here)

  pub can_first : (collector : ℕ) (s : DeskValue) → CanPost collector (drop i events) s → CanPost collector (event ∷ drop (i + 1) events) s
  can_first collector s can = subst (λ (es : List Event). CanPost collector es s) rest_here can

  pub front_more : (rest : List Event) → take (i + 1) events ++ rest ≡ take i events ++ (event ∷ rest)
  front_more rest =
      ap (λ (es : List Event). es ++ rest) (take_more events i event low ∙ ap (λ (e : Event). take i events ++ e ∷ []) (sym here)) ∙ append_assoc (take i events) (event ∷ []) rest

  -- the events so far, and what was taken of this one, are the first ones
  pub first_ones : (taken : List Event) → IsPrefix taken (event ∷ []) → IsPrefix (take i events ++ taken) events
  first_ones taken p = (
    p.0 ++ drop (i + 1) events,
    append_assoc (take i events) taken (p.0 ++ drop (i + 1) events)
        ∙ ap (λ (es : List Event). take i events ++ es) (sym (append_assoc taken p.0 (drop (i + 1) events)) ∙ ap (λ (es : List Event). es ++ drop (i + 1) events) p.1 ∙ sym rest_here)
        ∙ take-append-drop i events,
  )

-- all events
pub all_front : (events : List Event) (i : ℕ) → length events ≤ i → take i events ++ [] ≡ events
all_front events i long = append-nil (take i events) ∙ take_all i events long

-- ---- all or none

module _ (seats collector : ℕ) (w : Whole) (old : BesideValue) (found : DeskAndChain) (new : BesideValue) where
  -- something stands against it
  pub refused_whole : {F : Type 0} (r : Result Answer F) (refusal : Refusal) → whole_against found.desk collector w ≡ Some refusal → IfOk r (λ a. DoesAt seats (Tells (refused refusal)) old found a new)
      → IfOk r (λ a. PostsWholeBeside seats collector w old a new)
  refused_whole r refusal against does =
      each_ok r (λ a. DoesAt seats (Tells (refused refusal)) old found a new) (λ a. PostsWholeBeside seats collector w old a new)
      (λ a one. (found, subst (λ (o : Option Refusal). PostsAllBeside o seats collector (whole_events (net_now found.desk) w) old found a new) (sym against) one)) does

  -- all was accepted
  pub taken_whole : (a : Answer) (events : List Event) (before : ℕ) → whole_against found.desk collector w ≡ None → events ≡ whole_events (net_now found.desk) w → before ≡ accepted found.desk
      → a ≡ answer.AllTaken (record { first = before + 1; last = before + length events; events = events }) → PostsEachBeside seats collector events old found new → PostsWholeBeside seats collector w old a new
  taken_whole a events before free all count told posts = (
    found,
    subst (λ (p : Option Refusal × List Event). PostsAllBeside p.0 seats collector p.1 old found a new) (λ i. (sym free i, all i))
        (told ∙ ap (λ (n : ℕ). answer.AllTaken (record { first = n + 1; last = n + length events; events = events })) count, posts),
  )
