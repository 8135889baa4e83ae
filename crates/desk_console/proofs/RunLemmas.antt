-- What lines do are runs of the desk's steps.
use Rattle.std.proofs.Common.{arith, ◌≡◌, ℕ, ◌+◌, Bool, true, false, List, [], ◌∷◌, Option, Some, None, Result, Ok, Err, refl, sym, ap, ◌∙◌, subst}
use Rattle.std.specs.Option.{option_and_then}
use Rattle.net_building.specs.declared.wholes.Listed.TheVariants as listed
use Rattle.net_building.specs.declared.wholes.Whole.{Whole}
use Rattle.net_data.specs.declared.events.Event.{Event}
use Rattle.work_units.specs.Work.{Work}
use Rattle.tokens.specs.Words.{words_of}
use Rattle.answers.specs.Help.{other_answer}
use Rattle.script_words.specs.Commands.{command_of}
use Rattle.script_words.specs.declared.commands.Command.{Command}
use Rattle.script_words.specs.declared.commands.Command.TheVariants as command
use Rattle.work_units.specs.declared.replies.Posted.{Posted}
use Rattle.work_units.specs.declared.replies.Posted.TheVariants.{Taken, Again}
use Rattle.work_units.specs.declared.replies.Opened.{Opened}
use Rattle.work_units.specs.declared.replies.Refusal.{Refusal}
use Rattle.desk_core.specs.declared.steps.Step.TheVariants as step
use Rattle.desk_core.specs.declared.steps.Reply.TheVariants as reply
use Rattle.desk_core.specs.Desk.{DeskValue, accepted}
use Rattle.desk_core.specs.Steps.{Posts, Opens, Takes, Gives, Abandons, Publishes, last_of}
use Rattle.desk_core.specs.Runs.{IsRunOf, event_taken}
use Rattle.desk_core.proofs.RunLemmas.{run_none, run_one, run_then}
use Rattle.answers.specs.Replies.{posted_answer}
use Rattle.answers.specs.declared.answer.Answer.{Answer}
use Rattle.answers.specs.declared.answer.Answer.TheVariants as answer
use Rattle.answers.specs.declared.answer.Reply.TheVariants as replied
use Rattle.desk_console.specs.Asked.{asked_answer, is_asked}
use Rattle.desk_console.specs.Commands.{Commands, Obeys}
use Rattle.desk_console.specs.Console.{ConsoleValue, slot_of}
use Rattle.desk_console.specs.Does.{AbandonsOf, Does, GivesFrom, PostsAfter, PostsAll, PostsEach, taken_next}
use Rattle.desk_console.specs.Taken.{event_in, events_in, posts_by, posts_of, taken_by}

-- ---- one step

pub unmoved : (old new : DeskValue) → new ≡ old → IsRunOf old [] new
unmoved old new same = subst (IsRunOf old []) (sym same) (run_none old)

pub posted : (old new : DeskValue) (collector seq : ℕ) (event : Event) (result : Result Posted Refusal) → Posts old collector seq event result new → IsRunOf old (event_taken event (reply.Post result)) new
posted old new collector seq event result is = run_one old new (step.Post collector seq event) (reply.Post result) (result, refl, is)

pub opened : (old new : DeskValue) (result : Result Opened Refusal) → Opens old result new → IsRunOf old [] new
opened old new result is = run_one old new step.Open (reply.Open result) (result, refl, is)

pub took : (old new : DeskValue) (result : Result Work Refusal) → Takes old result new → IsRunOf old [] new
took old new result is = run_one old new step.Take (reply.Take result) (result, refl, is)

pub gave : (old new : DeskValue) (work : Work) (result : Result (Unit {0}) (Work × Refusal)) → Gives old work result new → IsRunOf old [] new
gave old new work result is = run_one old new (step.Give work) (reply.Give result) (result, refl, is)

pub abandoned : (old new : DeskValue) (version dest : ℕ) (result : Result (Unit {0}) Refusal) → Abandons old version dest result new → IsRunOf old [] new
abandoned old new version dest result is = run_one old new (step.Abandon version dest) (reply.Abandon result) (result, refl, is)

pub published : (old new : DeskValue) (result : Result ℕ Refusal) → Publishes old result new → IsRunOf old [] new
published old new result is = run_one old new step.Publish (reply.Publish result) (result, refl, is)

-- a run that accepts nothing after another
pub goes_on : (old mid new : DeskValue) → IsRunOf old [] mid → IsRunOf mid [] new → IsRunOf old [] new
goes_on old mid new one other = run_then old mid new [] [] one other

-- ---- a line

-- the event of a post is accepted exactly if it is answered `taken`
taken_is : (event : Event) (line : List ℕ) (result : Result Posted Refusal) → posts_by line ≡ Some (listed.Event event) → event_taken event (reply.Post result) ≡ taken_by line (posted_answer result)
taken_is event line (Ok (Taken number)) posts = sym (ap event_in posts)
taken_is event line (Ok (Again number)) posts = refl
taken_is event line (Err refusal) posts = refl

-- a question that is answered is done
pub asked_does : (done : Command) (c : ConsoleValue) (a : Answer) → is_asked done ≡ true → a ≡ asked_answer done c.desk.published → Does done c a c
asked_does (command.About asked y x) c a is said = (said, refl)
asked_does (command.Trace y x s) c a is said = (said, refl)
asked_does (command.WhatIf events) c a is said = (said, refl)
asked_does (command.Reroutes events) c a is said = (said, refl)
asked_does (command.Survey what events) c a is said = (said, refl)
asked_does command.Warn c a is said = (said, refl)
asked_does command.Audit c a is said = (said, refl)
asked_does (command.Picture file about) c a is said = (said, refl)
asked_does (command.Show what) c a is said = (said, refl)
asked_does done c a is said = absurd (cc)

-- nothing is taken by a line that posts nothing
pub nothing_taken : (line : List ℕ) (a : Answer) → posts_by line ≡ None → taken_by line a ≡ []
nothing_taken line (answer.Reply (replied.Taken number)) none = ap event_in none
nothing_taken line (answer.AllTaken taken) none = ap (events_in taken.events) none
nothing_taken line a none = grind arith

-- ---- whole sets and points

-- an event that is answered `taken` is accepted
pub taken_one : (event : Event) (result : Result Posted Refusal) (number : ℕ) → answer.Reply (replied.Taken number) ≡ posted_answer result → event_taken event (reply.Post result) ≡ event ∷ []
taken_one event (Ok (Taken n)) number is = refl
taken_one event (Ok (Again n)) number is = absurd (cc)
taken_one event (Err refusal) number is = absurd (cc)

-- an event that is posted next, and answered `taken`
pub posts_one : (collector : ℕ) (event : Event) (c new : ConsoleValue) (b : Bool) → PostsAfter b collector event c (taken_next c.desk) new → IsRunOf c.desk (event ∷ []) new.desk
posts_one collector event c new true is = absurd (let no = is.0 in cc)
posts_one collector event c new false is =
    subst (λ es. IsRunOf c.desk es new.desk) (taken_one event is.0 (accepted c.desk + 1) is.3) (posted c.desk new.desk collector ((last_of c.desk collector).seq + 1) event is.0 is.1)

-- events that are posted one after the other, each of which is accepted
pub each_runs : (collector : ℕ) (events : List Event) (c new : ConsoleValue) → PostsEach collector events c new → IsRunOf c.desk events new.desk
each_runs collector [] c new is = unmoved c.desk new.desk (ap (λ (d : ConsoleValue). d.desk) is)
each_runs collector (event ∷ events) c new is = run_then c.desk is.0.desk new.desk (event ∷ []) events (posts_one collector event c is.0 _ is.1) (each_runs collector events is.0 new is.2)

module _ (line : List ℕ) (c : ConsoleValue) (a : Answer) (new : ConsoleValue) where
  silent : posts_by line ≡ None → IsRunOf c.desk [] new.desk → IsRunOf c.desk (taken_by line a) new.desk
  silent none run = subst (λ es. IsRunOf c.desk es new.desk) (sym (nothing_taken line a none)) run

  told : posts_by line ≡ None → new ≡ c → IsRunOf c.desk (taken_by line a) new.desk
  told none same = silent none (unmoved c.desk new.desk (ap (λ (d : ConsoleValue). d.desk) same))

  -- an answer that nothing is taken for
  refused_so : (other : Answer) → taken_by line other ≡ [] → a ≡ other → new ≡ c → IsRunOf c.desk (taken_by line a) new.desk
  refused_so other none is same = subst (λ es. IsRunOf c.desk es new.desk) (sym (ap (taken_by line) is ∙ none)) (unmoved c.desk new.desk (ap (λ (d : ConsoleValue). d.desk) same))

  calls_post : (collector seq : ℕ) (event : Event) (result : Result Posted Refusal) → posts_by line ≡ Some (listed.Event event)
      → Posts c.desk collector seq event result new.desk → a ≡ posted_answer result → IsRunOf c.desk (taken_by line a) new.desk
  calls_post collector seq event result posts is said =
      subst (λ es. IsRunOf c.desk es new.desk) (taken_is event line result posts ∙ ap (taken_by line) (sym said)) (posted c.desk new.desk collector seq event result is)

  posts_after : (b : Bool) (collector : ℕ) (event : Event) → posts_by line ≡ Some (listed.Event event) → PostsAfter b collector event c a new → IsRunOf c.desk (taken_by line a) new.desk
  posts_after true collector event posts is = refused_so _ refl is.0 is.1
  posts_after false collector event posts is = calls_post collector ((last_of c.desk collector).seq + 1) event is.0 posts is.1 is.3

  posts_all : (o : Option Refusal) (collector : ℕ) (w : Whole) (events : List Event) → posts_by line ≡ Some (listed.Whole w) → PostsAll o collector events c a new → IsRunOf c.desk (taken_by line a) new.desk
  posts_all (Some refusal) collector w events posts is = refused_so _ refl is.0 is.1
  posts_all None collector w events posts is =
      subst (λ es. IsRunOf c.desk es new.desk) (sym (ap (taken_by line) is.0 ∙ ap (events_in events) posts)) (each_runs collector events c new is.1)

  gives : (k : ℕ) (slot : Option Work) → GivesFrom k slot c a new → IsRunOf c.desk [] new.desk
  gives k None is = unmoved c.desk new.desk (ap (λ (d : ConsoleValue). d.desk) is.1)
  gives k (Some work) is = gave c.desk new.desk work is.0 is.1

  abandons : (slot : Option Work) → AbandonsOf slot c a new → IsRunOf c.desk [] new.desk
  abandons None is = unmoved c.desk new.desk (ap (λ (d : ConsoleValue). d.desk) is.1)
  abandons (Some work) is = abandoned c.desk new.desk work.version work.excerpt.plan.dest is.0 is.1

  command_runs : (done : Command) → command_of (words_of line) ≡ Some done → Does done c a new → IsRunOf c.desk (taken_by line a) new.desk
  command_runs (command.Event event) here is = posts_after _ 0 event (ap (option_and_then posts_of) here) is
  command_runs (command.Whole w) here is = posts_all _ 0 w _ (ap (option_and_then posts_of) here) is
  command_runs (command.Post collector seq event) here is = calls_post collector seq event is.0 (ap (option_and_then posts_of) here) is.1 is.3
  command_runs command.Open here is = silent (rw here refl) (opened c.desk new.desk is.0 is.1)
  command_runs (command.Take k) here is = silent (rw here refl) (took c.desk new.desk is.0 is.1)
  command_runs (command.Give k) here is = silent (rw here refl) (gives k (slot_of c k) is)
  command_runs (command.Abandon k) here is = silent (rw here refl) (abandons (slot_of c k) is)
  command_runs command.Publish here is = silent (rw here refl) (published c.desk new.desk is.0 is.1)
  command_runs command.Sync here is = silent (rw here refl) is.2
  command_runs command.Version here is = told (rw here refl) is.1
  command_runs (command.About asked y x) here is = told (rw here refl) is.1
  command_runs (command.Trace y x s) here is = told (rw here refl) is.1
  command_runs (command.WhatIf events) here is = told (rw here refl) is.1
  command_runs (command.Reroutes events) here is = told (rw here refl) is.1
  command_runs (command.Survey what events) here is = told (rw here refl) is.1
  command_runs command.Warn here is = told (rw here refl) is.1
  command_runs command.Audit here is = told (rw here refl) is.1
  command_runs (command.Picture file about) here is = told (rw here refl) is.1
  command_runs (command.Show what) here is = told (rw here refl) is.1
  command_runs (command.Last collector) here is = told (rw here refl) is.1
  command_runs command.Who here is = told (rw here refl) is.1
  command_runs (command.Save file) here is = told (rw here refl) is.1
  command_runs (command.Changes since which) here is = told (rw here refl) is.1
  command_runs (command.Watch is_on) here is = silent (rw here refl) (unmoved c.desk new.desk (ap (λ (d : ConsoleValue). d.desk) is.1))

  obeyed : (other : Answer) (o : Option Command) → command_of (words_of line) ≡ o → Obeys other o c a new → IsRunOf c.desk (taken_by line a) new.desk
  obeyed other None here is = told (rw here refl) is.1
  obeyed other (Some done) here is = command_runs done here is

-- what a line does is a run of the desk's steps, which accepts the line's event if it is answered `taken`
pub line_runs : (line : List ℕ) (c : ConsoleValue) (a : Answer) (new : ConsoleValue) → Commands line c a new → IsRunOf c.desk (taken_by line a) new.desk
line_runs line c a new is = obeyed line c a new (other_answer (words_of line)) (command_of (words_of line)) refl is
