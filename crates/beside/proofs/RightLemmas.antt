-- At each line of a script beside workers all versions are the ones of their numbers.
use Rattle.std.proofs.Common.{◌≡◌, ℕ, ◌+◌, Bool, true, false, List, [], ◌∷◌, ◌++◌, Option, Some, None, map, refl, sym, ap, ◌∙◌, subst, append-nil}
use Rattle.std.specs.Option.{option_and_then}
use mathlib.Core.List.{IsPrefix}
use Rattle.net_data.specs.declared.events.Event.{Event}
use Rattle.net_data.specs.Network.{Network}
use Rattle.net_building.specs.declared.wholes.Listed.TheVariants as listed
use Rattle.net_building.specs.declared.wholes.Whole.{Whole}
use Rattle.work_units.specs.declared.replies.Refusal.{Refusal}
use Rattle.net_versions.specs.Versions.{VersionValue}
use Rattle.tokens.specs.Words.{words_of}
use Rattle.answers.specs.Help.{other_answer}
use Rattle.script_words.specs.Commands.{command_of}
use Rattle.script_words.specs.declared.commands.Command.{Command}
use Rattle.script_words.specs.declared.commands.Command.TheVariants as command
use Rattle.desk_core.specs.Desk.{DeskValue, new_desk}
use Rattle.desk_core.specs.Steps.{Posts, last_of}
use Rattle.desk_core.specs.Runs.{IsRightVersion, IsRunOf, IsSteadyDesk, first_numbers, numbers_after}
use Rattle.desk_core.proofs.RunLemmas.{right_after, run_none, run_then}
use Rattle.answers.specs.Replies.{posted_answer}
use Rattle.answers.specs.declared.answer.Answer.{Answer}
use Rattle.desk_console.specs.Commands.{Obeys}
use Rattle.desk_console.specs.Console.{ConsoleValue}
use Rattle.desk_console.specs.Does.{Calls, PostsAfter, PostsNext, taken_next}
use Rattle.desk_console.specs.Right.{IsRightDesk}
use Rattle.desk_console.specs.Taken.{events_in, posts_by, posts_of, taken_at, taken_by}
use Rattle.desk_console.proofs.RunLemmas.{line_runs, nothing_taken, posts_one, unmoved}
use Rattle.sessions.specs.Lines.{is_silent, is_too_long, trimmed}
use Rattle.sessions.specs.Replies.{Answered, Answers, AreTexts, IsReply, Replies}
use Rattle.seats.specs.Minutes.{SeatValue}
use Rattle.versions.specs.Working.{Comes, IsWorkedOn}
use Rattle.versions.specs.Chains.{ChainPrefixValue}
use Rattle.versions.specs.declared.state.DeskAndChain.{DeskAndChain}
use Rattle.beside.specs.Beside.{BesideValue, CommandsBeside, DoesAt, Finds, LeavesBeside, Looks, ObeysBeside, PostsAllBeside, PostsEachBeside, StartsBeside, VisitsAt, at_console}
use Rattle.histories.specs.Right.{AreRight}
use Rattle.histories.proofs.CountLemmas.{post_publishes_none, prefix_right}
use Rattle.histories.proofs.KeepLemmas.{Keeps, ends_same, keeps_opened, keeps_stay, keeps_worked, new_is_steady}
use Rattle.beside.proofs.BesideLemmas.{prefix_then}
use Rattle.beside.specs.Right.{AreRightMoments, IsRightBeside, IsRightScript, Moment, told_in}

-- ---- a line

-- the script's thread comes to the hub, publishes nothing there, and its desk accepts these events
pub record Acts (old : BesideValue) (taken : List Event) (found : DeskAndChain) (new : BesideValue) : Type 0 where
  pub finds : Finds 1 old found
  pub shown : new.left.shown ≡ found.shown
  pub told : new.seen ≡ found.shown.chain
  pub published : new.left.desk.published ≡ found.desk.published
  pub runs : IsRunOf found.desk taken new.left.desk

-- what a line does, by the events that it is taken for
pub data Moves (old : BesideValue) (taken : List Event) (new : BesideValue) : Type 0 where
  stays : taken ≡ [] → new.seat ≡ old.seat → new.left ≡ old.left → new.seen ≡ old.seen → Moves old taken new
  acts : (found : DeskAndChain) → Acts old taken found new → Moves old taken new
  looks : (version : VersionValue) → taken ≡ [] → Looks old version new → Moves old taken new
  comes_and_looks : (there : BesideValue) (found : DeskAndChain) (version : VersionValue) → taken ≡ [] → Acts old [] found there → Looks there version new → Moves old taken new

-- who comes and changes nothing
pub visit_acts : (old : BesideValue) (found : DeskAndChain) (new : BesideValue) → VisitsAt 1 old found new → Acts old [] found new
visit_acts old found new is =
    let left : new.left ≡ found = ap (λ (b : BesideValue). b.left) is.1 in record {
      finds = is.0;
      shown = ap (λ (s : DeskAndChain). s.shown) left;
      told = ap (λ (b : BesideValue). b.seen) is.1;
      published = ap (λ (s : DeskAndChain). s.desk.published) left;
      runs = subst (λ (s : DeskAndChain). IsRunOf found.desk [] s.desk) (sym left) (run_none found.desk);
    }

-- a line that changes nothing
stays_same : (old : BesideValue) (taken : List Event) (new : BesideValue) → taken ≡ [] → new ≡ old → Moves old taken new
stays_same old taken new none same = stays none (ap (λ (b : BesideValue). b.seat) same) (ap (λ (b : BesideValue). b.left) same) (ap (λ (b : BesideValue). b.seen) same)

-- posts publish nothing
calls_publish_none : (s t : DeskValue) (collector seq : ℕ) (event : Event) (a : Answer) → Calls (λ s. Posts s collector seq event) posted_answer (at_console s) a (at_console t) → t.published ≡ s.published
calls_publish_none s t collector seq event a is = post_publishes_none s collector seq event is.0 t is.1

posts_publish_none : (s t : DeskValue) (collector : ℕ) (event : Event) (a : Answer) (b : Bool) → PostsAfter b collector event (at_console s) a (at_console t) → t.published ≡ s.published
posts_publish_none s t collector event a true is = ap (λ (c : ConsoleValue). c.desk.published) is.1
posts_publish_none s t collector event a false is = calls_publish_none s t collector ((last_of s collector).seq + 1) event a is

-- ---- whole sets and points

posts_publish_next : (s t : DeskValue) (event : Event) (a : Answer) → PostsNext 0 event (at_console s) a (at_console t) → t.published ≡ s.published
posts_publish_next s t event a is = posts_publish_none s t 0 event a _ is

-- an event that is posted next, and answered `taken`
one_acts : (event : Event) (old : BesideValue) (found : DeskAndChain) (new : BesideValue) → DoesAt 1 (PostsNext 0 event) old found (taken_next found.desk) new → Acts old (event ∷ []) found new
one_acts event old found new does = record {
  finds = does.finds;
  shown = does.shown;
  told = does.told;
  published = posts_publish_next found.desk new.left.desk event (taken_next found.desk) does.done;
  runs = posts_one 0 event (at_console found.desk) (at_console new.left.desk) _ does.done;
}

-- events that are posted one after the other
pub each_acts : (event : Event) (events : List Event) (old : BesideValue) (found : DeskAndChain) (new : BesideValue) → PostsEachBeside 1 0 (event ∷ events) old found new → Acts old (event ∷ events) found new
each_acts event [] old found new is = subst (Acts old (event ∷ []) found) (sym is.2) (one_acts event old found is.0 is.1)
each_acts event (next ∷ events) old found new is =
    let one = one_acts event old found is.0 is.1 in
    let rest = each_acts next events is.0 is.0.left new is.2 in
    record {
      finds = one.finds;
      shown = rest.shown ∙ one.shown;
      told = rest.told ∙ ap (λ (c : ChainPrefixValue). c.chain) one.shown;
      published = rest.published ∙ one.published;
      runs = run_then found.desk is.0.left.desk new.left.desk (event ∷ []) (next ∷ events) one.runs rest.runs;
    }

module _ (line : List ℕ) (old : BesideValue) (a : Answer) (new : BesideValue) where
  -- a command that posts nothing is taken for no event
  none_taken : (o : Option Command) → command_of (words_of line) ≡ o → option_and_then posts_of o ≡ None → taken_by line a ≡ []
  none_taken o is none = nothing_taken line a (ap (option_and_then posts_of) is ∙ none)

  -- a command that is done under the lock
  done_there : (o : Option Command) → command_of (words_of line) ≡ o → (found : DeskAndChain) → DoesAt 1 (Obeys (other_answer (words_of line)) o) old found a new → new.left.desk.published ≡ found.desk.published → Moves old (taken_by line a) new
  done_there o is found does published = acts found (record {
    finds = does.finds;
    shown = does.shown;
    told = does.told;
    published = published;
    runs = line_runs line (at_console found.desk) a (at_console new.left.desk) (subst (λ (c : Option Command). Obeys (other_answer (words_of line)) c (at_console found.desk) a (at_console new.left.desk)) (sym is) does.done);
  })

  -- the change of a whole set or point
  whole_done : (o : Option Refusal) (w : Whole) (events : List Event) (found : DeskAndChain) → posts_by line ≡ Some (listed.Whole w) → PostsAllBeside o 1 0 events old found a new → Moves old (taken_by line a) new
  whole_done (Some refusal) w events found posts does = acts found (record {
    finds = does.finds;
    shown = does.shown;
    told = does.told;
    published = ap (λ (c : ConsoleValue). c.desk.published) does.done.1;
    runs = subst (λ (es : List Event). IsRunOf found.desk es new.left.desk) (sym (ap (taken_by line) does.done.0)) (unmoved found.desk new.left.desk (ap (λ (c : ConsoleValue). c.desk) does.done.1));
  })
  whole_done None w [] found posts is = stays_same old (taken_by line a) new (ap (taken_by line) is.0 ∙ ap (events_in []) posts) is.1
  whole_done None w (event ∷ events) found posts is =
      acts found (subst (λ (es : List Event). Acts old es found new) (sym (ap (taken_by line) is.0 ∙ ap (events_in (event ∷ events)) posts)) (each_acts event events old found new is.1))

  obeyed : (o : Option Command) → command_of (words_of line) ≡ o → ObeysBeside 1 (other_answer (words_of line)) o old a new → Moves old (taken_by line a) new
  obeyed None e is = stays_same old (taken_by line a) new (none_taken None e refl) is.1
  obeyed (Some (command.Event event)) e is = done_there (Some (command.Event event)) e is.0 is.1 (posts_publish_none is.0.desk new.left.desk 0 event a _ is.1.done)
  obeyed (Some (command.Whole w)) e is = whole_done _ w _ is.0 (ap (option_and_then posts_of) e) is.1
  obeyed (Some (command.Post collector seq event)) e is = done_there (Some (command.Post collector seq event)) e is.0 is.1 (calls_publish_none is.0.desk new.left.desk collector seq event a is.1.done)
  obeyed (Some command.Open) e is = stays_same old (taken_by line a) new (none_taken (Some command.Open) e refl) is.1
  obeyed (Some (command.Take k)) e is = stays_same old (taken_by line a) new (none_taken (Some (command.Take k)) e refl) is.1
  obeyed (Some (command.Give k)) e is = stays_same old (taken_by line a) new (none_taken (Some (command.Give k)) e refl) is.1
  obeyed (Some (command.Abandon k)) e is = stays_same old (taken_by line a) new (none_taken (Some (command.Abandon k)) e refl) is.1
  obeyed (Some command.Publish) e is = stays_same old (taken_by line a) new (none_taken (Some command.Publish) e refl) is.1
  obeyed (Some command.Sync) e is =
      comes_and_looks is.there is.visits.0 is.syncs.0 (none_taken (Some command.Sync) e refl) (visit_acts old is.visits.0 is.there is.visits.1) is.syncs.1
  obeyed (Some command.Version) e is = done_there (Some command.Version) e is.0 is.1 (ap (λ (c : ConsoleValue). c.desk.published) is.1.done.1)
  obeyed (Some (command.Last k)) e is = done_there (Some (command.Last k)) e is.0 is.1 (ap (λ (c : ConsoleValue). c.desk.published) is.1.done.1)
  obeyed (Some command.Who) e is = stays_same old (taken_by line a) new (none_taken (Some command.Who) e refl) is.1
  obeyed (Some (command.Save file)) e is = done_there (Some (command.Save file)) e is.0 is.1 (ap (λ (c : ConsoleValue). c.desk.published) is.1.done.1)
  obeyed (Some (command.About asked y x)) e is = looks is.0 (none_taken (Some (command.About asked y x)) e refl) is.1
  obeyed (Some (command.Trace y x s)) e is = looks is.0 (none_taken (Some (command.Trace y x s)) e refl) is.1
  obeyed (Some (command.WhatIf events)) e is = looks is.0 (none_taken (Some (command.WhatIf events)) e refl) is.1
  obeyed (Some (command.Reroutes events)) e is = looks is.0 (none_taken (Some (command.Reroutes events)) e refl) is.1
  obeyed (Some (command.Survey what events)) e is = looks is.0 (none_taken (Some (command.Survey what events)) e refl) is.1
  obeyed (Some command.Warn) e is = looks is.0 (none_taken (Some command.Warn) e refl) is.1
  obeyed (Some command.Audit) e is = looks is.0 (none_taken (Some command.Audit) e refl) is.1
  obeyed (Some (command.Picture file about)) e is = looks is.0 (none_taken (Some (command.Picture file about)) e refl) is.1
  obeyed (Some (command.Show what)) e is = looks is.0 (none_taken (Some (command.Show what)) e refl) is.1
  obeyed (Some (command.Changes since which)) e is = stays_same old (taken_by line a) new (none_taken (Some (command.Changes since which)) e refl) is.1
  obeyed (Some (command.Watch is_on)) e is =
      stays (none_taken (Some (command.Watch is_on)) e refl) (ap (λ (b : BesideValue). b.seat) is.1) (ap (λ (b : BesideValue). b.left) is.1) (ap (λ (b : BesideValue). b.seen) is.1)

pub line_moves : (line : List ℕ) (old : BesideValue) (told : Option Answer) (new : BesideValue) → Replies (CommandsBeside 1) line old told new → Moves old (taken_at (trimmed line) told) new
line_moves line old told new = go (is_too_long (trimmed line)) (is_silent (trimmed line))
  where
    go : (long quiet : Bool) → IsReply (CommandsBeside 1) long quiet (trimmed line) old told new → Moves old (taken_at (trimmed line) told) new
    go true quiet is = stays_same old (taken_at (trimmed line) told) new (ap (taken_at (trimmed line)) is.0) is.1
    go false true is = stays_same old (taken_at (trimmed line) told) new (ap (taken_at (trimmed line)) is.0) is.1
    go false false is =
        subst (λ (es : List Event). Moves old es new) (ap (taken_at (trimmed line)) (sym is.2))
        (obeyed (trimmed line) old is.0 new (command_of (words_of (trimmed line))) refl is.1)

-- ---- what is found later

-- the script's thread comes to the hub once more
abbrev pub Later : BesideValue → Type 0
Later b = (found : DeskAndChain) × Finds 1 b found

-- before a line too
later_before : (old : BesideValue) (taken : List Event) (new : BesideValue) → Moves old taken new → Later new → Later old
later_before old taken new (stays none seat left seen) later = (
  later.0,
  record {
    there = later.1.there;
    comes = subst (λ (s : SeatValue DeskAndChain). Comes 1 s later.0 later.1.there) seat later.1.comes;
    worked = λ one. subst (λ (s : DeskAndChain). IsWorkedOn s later.0) left (later.1.worked one);
    seen = subst (λ (l : List VersionValue). IsPrefix l later.0.shown.chain) seen later.1.seen;
  },
)
later_before old taken new (acts found is) later = (found, is.finds)
later_before old taken new (looks version none is) later = (
  later.0,
  record {
    there = later.1.there;
    comes = subst (λ (s : SeatValue DeskAndChain). Comes 1 s later.0 later.1.there) is.seat later.1.comes;
    worked = λ one. subst (λ (s : DeskAndChain). IsWorkedOn s later.0) is.left (later.1.worked one);
    seen = prefix_then old.seen new.seen later.0.shown.chain is.seen later.1.seen;
  },
)
later_before old taken new (comes_and_looks there found version none comes is) later = (found, comes.finds)

-- before all lines that are still answered
pub finds_later : (old : BesideValue) (lines : List (List ℕ)) (told : List (Option Answer)) (new : BesideValue) → Answers (CommandsBeside 1) old lines told new → Later new → Later old
finds_later old [] told new is later = subst Later is.1 later
finds_later old (line ∷ lines) told new is later =
    later_before old (taken_at (trimmed line) is.0) is.1 (line_moves line old is.0 is.1 is.3) (finds_later is.1 lines is.2 new is.4 later)

-- ---- all lines

module _ (start : DeskValue) (steady : IsSteadyDesk start) (es : List Event) where
  -- no event more
  keeps_no_more : (taken : List Event) (s : DeskAndChain) → taken ≡ [] → Keeps start es s → Keeps start (es ++ taken) s
  keeps_no_more taken s none h = subst (λ (l : List Event). Keeps start l s) (sym (ap (λ (l : List Event). es ++ l) none ∙ append-nil es)) h

  -- after something was done under the lock
  pub keeps_acted : (old : BesideValue) (taken : List Event) (found : DeskAndChain) (new : BesideValue) → Keeps start es old.left → Acts old taken found new → Keeps start (es ++ taken) new.left
  keeps_acted old taken found new h is =
      let kept : Keeps start es found = keeps_worked start steady es old.left found h (is.finds.worked refl) in
      keeps_stay start steady es taken found new.left kept is.runs is.shown (ends_same found new.left kept.ends is.shown is.published)

  -- after a line
  pub keeps_moved : (old : BesideValue) (taken : List Event) (new : BesideValue) → Keeps start es old.left → Moves old taken new → Keeps start (es ++ taken) new.left
  keeps_moved old taken new h (stays none seat left seen) = subst (Keeps start (es ++ taken)) (sym left) (keeps_no_more taken old.left none h)
  keeps_moved old taken new h (acts found is) = keeps_acted old taken found new h is
  keeps_moved old taken new h (looks version none is) = subst (Keeps start (es ++ taken)) (sym is.left) (keeps_no_more taken old.left none h)
  keeps_moved old taken new h (comes_and_looks there found version none comes is) =
      let kept : Keeps start es there.left = subst (λ (l : List Event). Keeps start l there.left) (append-nil es) (keeps_acted old [] found there h comes) in
      subst (Keeps start (es ++ taken)) (sym is.left) (keeps_no_more taken there.left none kept)

  -- all that the reader knows is right
  pub seen_right : (b : BesideValue) → Keeps start es b.left → Later b → AreRight start es None b.seen
  seen_right b h later = prefix_right start es None b.seen later.0.shown.chain later.1.seen (keeps_worked start steady es b.left later.0 h (later.1.worked refl)).are

-- a desk that some steps led to is right
right_desk : (start : Network) (events : List Event) (desk : DeskValue) → IsRunOf (new_desk start) events desk → IsRightDesk start events desk
right_desk start events desk came = record {
  came = came;
  right =
      subst (λ (es : List Event). IsRightVersion (new_desk start) es (numbers_after (first_numbers (new_desk start)) came.replies) desk.published) came.accepts
      (right_after (new_desk start) (new_is_steady start) came.steps came.replies desk came.runs);
}

-- a start
pub keeps_first : (start : Network) (b : BesideValue) → StartsBeside start b → Keeps (new_desk start) [] b.left
keeps_first start b opens = keeps_opened start b.left opens.desk opens.shown

module _ (start : Network) where
  right_beside : (es : List Event) (b : BesideValue) → Keeps (new_desk start) es b.left → Later b → IsRightBeside start es b
  right_beside es b h later = record {
    desk = right_desk start es b.left.desk h.came;
    left = h.are;
    seen = seen_right (new_desk start) (new_is_steady start) es b h later;
  }

  -- lines that were answered make moments
  record Made (es : List Event) (b : BesideValue) (lines : List (List ℕ)) (told : List (Option Answer)) : Type 0 where
    moments : List Moment
    asked : lines ≡ map (λ (m : Moment). m.line) moments
    are_told : told ≡ told_in moments
    each : AreRightMoments start es b moments

  made : (es : List Event) (b : BesideValue) → Keeps (new_desk start) es b.left → (lines : List (List ℕ)) (told : List (Option Answer)) (new : BesideValue) → Answers (CommandsBeside 1) b lines told new → Later new → Made es b lines told
  made es b h [] told new is later = record { moments = []; asked = refl; are_told = is.0; each = tt }
  made es b h (line ∷ lines) told new is later =
      let taken : List Event = taken_at (trimmed line) is.0 in
      let after : Keeps (new_desk start) (es ++ taken) is.1.left = keeps_moved (new_desk start) (new_is_steady start) es b taken is.1 h (line_moves line b is.0 is.1 is.3) in
      let right : IsRightBeside start (es ++ taken) is.1 = right_beside (es ++ taken) is.1 after (finds_later is.1 lines is.2 new is.4 later) in
      let rest : Made (es ++ taken) is.1 lines is.2 = made (es ++ taken) is.1 after lines is.2 new is.4 later in
      record {
        moments = record { line = line; told = is.0; after = is.1 } ∷ rest.moments;
        asked = ap (λ (ls : List (List ℕ)). line ∷ ls) rest.asked;
        are_told = is.5 ∙ ap (λ (t : List (Option Answer)). is.0 ∷ t) rest.are_told;
        each = (is.3, right, rest.each);
      }

-- a script that was answered to its end
pub script_right : (Tells : Answer → List ℕ → Type 0) (start : Network) (b : BesideValue) (lines : List (List ℕ)) (text : List ℕ) (after : BesideValue) (left : Network)
    → StartsBeside start b → Answered Tells (CommandsBeside 1) b lines text after → LeavesBeside 1 after left → IsRightScript Tells start lines text
script_right Tells start b lines text after left opens answered leaves =
    let later : Later after = (leaves.0, leaves.1) in
    let first : Keeps (new_desk start) [] b.left = keeps_first start b opens in
    let m : Made start [] b lines answered.0 = made start [] b first lines answered.0 after answered.1 later in
    record {
      opening = b;
      opens = opens;
      moments = m.moments;
      asked = m.asked;
      told = subst (λ (t : List (Option Answer)). AreTexts Tells t text) m.are_told answered.2;
      first = right_beside start [] b first (finds_later b lines answered.0 after answered.1 later);
      each = m.each;
    }
