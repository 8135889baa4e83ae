-- Scripts with a `sync` between their events and what they ask are answered beside workers as in line.
use Rattle.std.proofs.Common.{◌≡◌, ℕ, ◌+◌, ◌-◌, ◌^◌, ◌<◌, ◌≤◌, ◌==◌, not, Bool, true, false, List, [], ◌∷◌, ◌++◌, Option, Some, None, option_map, refl, sym, ap, ◌∙◌, subst, length, arith, length-append, append-nil}
use Rattle.std.proofs.lemmas.List.{take_all}
use Rattle.net_data.specs.declared.events.Event.{Event}
use Rattle.net_data.specs.Edits.{replay}
use Rattle.net_data.specs.Network.{Network}
use Rattle.net_versions.specs.Versions.{VersionValue, settled_version}
use Rattle.path_trace.specs.Traces.{trace_at}
use Rattle.tokens.specs.Words.{words_of}
use Rattle.answers.specs.Help.{other_answer}
use Rattle.answers.specs.Shown.{shown_answer}
use Rattle.script_words.specs.Commands.{command_of}
use Rattle.script_words.specs.declared.commands.Command.{Command}
use Rattle.script_words.specs.declared.moves.Moves.{Moves}
use Rattle.script_words.specs.declared.commands.Command.TheVariants as command
use Rattle.what_if.specs.Listed.{report_listed, reroutes_listed}
use Rattle.what_if.specs.Survey.{survey_listed}
use Rattle.what_if.specs.Warnings.{warnings_of}
use Rattle.desk_core.specs.declared.posts.Last.{Last}
use Rattle.desk_core.specs.Desk.{DeskValue, accepted, net_now, new_desk}
use Rattle.desk_core.specs.Steps.{Posts, last_of}
use Rattle.desk_core.specs.Runs.{IsSteadyDesk}
use Rattle.desk_core.proofs.ReplayLemmas.{replay-append}
use Rattle.answers.specs.Audits.{audit_answer}
use Rattle.answers.specs.Replies.{posted_answer}
use Rattle.answers.specs.Reroutes.{reroutes_answer}
use Rattle.answers.specs.Surveys.{survey_answer}
use Rattle.answers.specs.Warnings.{warn_answer}
use Rattle.answers.specs.Rows.{answer_about}
use Rattle.answers.specs.Traces.{trace_answer}
use Rattle.answers.specs.WhatIfs.{what_if_answer}
use Rattle.answers.specs.declared.answer.Answer.{Answer}
use Rattle.answers.specs.declared.answer.Answer.TheVariants as answer
use Rattle.answers.specs.declared.answer.Moved.{Moved}
use Rattle.answers.specs.declared.answer.Publication.TheVariants as publication
use Rattle.answers.specs.declared.answer.Reply.TheVariants as reply
use Rattle.desk_console.specs.Pictures.{picture_told}
use Rattle.desk_console.specs.Commands.{Commands, Obeys}
use Rattle.desk_console.specs.Console.{ConsoleValue, opening}
use Rattle.desk_console.specs.Does.{Calls, Does, PostsAfter, PostsAll, PostsWhole, Syncs, Watches, events_refusal, save_told, whole_against}
use Rattle.net_building.specs.Wholes.{whole_events, whole_refusal}
use Rattle.net_building.specs.declared.wholes.Whole.{Whole}
use Rattle.work_units.specs.declared.replies.Refusal.{Refusal}
use Rattle.work_units.specs.declared.replies.Refusal.TheVariants.{Edit}
use Rattle.desk_console.specs.Watch.{WatchValue, changes_told, notice}
use Rattle.desk_console.specs.Syncing.{HasKept, synced}
use Rattle.sessions.specs.Lines.{is_silent, is_too_long, trimmed}
use Rattle.sessions.specs.Replies.{Answered, Answers, AreTexts, IsReply, Replies}
use Rattle.versions.specs.Chains.{ChainPrefixValue, EndsWith}
use Rattle.versions.specs.Worked.{LosesNothing}
use Rattle.versions.specs.declared.state.DeskAndChain.{DeskAndChain}
use Rattle.versions.proofs.WorkedLemmas.{worked_keeps}
use Rattle.beside.specs.Beside.{BesideValue, CommandsBeside, DoesAt, Finds, KeepsSynced, LeavesBeside, Looks, ObeysBeside, StartsBeside, SyncsThere, VisitsAt, WatchesBeside, PostsAllBeside, PostsWholeBeside, at_console}
use Rattle.histories.specs.Right.{AreRight, IsRightAt}
use Rattle.beside.specs.Synced.{IsSynced, MayCome, command_in, events_after, said_by}
use Rattle.desk_console.specs.Taken.{taken_at}
use Rattle.histories.proofs.CountLemmas.{Counts, last_right, post_publishes_none, run_counts}
use Rattle.histories.proofs.KeepLemmas.{Keeps, keeps_worked, new_is_steady}
use Rattle.beside.proofs.BesideLemmas.{visited}
use Rattle.beside.proofs.RightLemmas.{Later, each_acts, finds_later, keeps_acted, keeps_first, keeps_moved, line_moves, seen_right, visit_acts}
use Rattle.beside.proofs.AlikeLemmas.{Alike, IsSettled, last_same, more_alike, no_length, post_aims, posts_same, rises, same_alike, synced_settled}
use Rattle.beside.proofs.WatchLemmas.{IsShown, notice_same, shown_still, told_alike, watch_same}
use Rattle.beside.proofs.EachLemmas.{against_same, each_alike, each_keeps, each_still, none_or, room_for, some_events}

-- ---- beside workers and in line

-- what stands beside workers and in line, so many events after the last `sync`: the same events are accepted, the last version that the reader knows has all
-- but those, and the last `sync` told what is published in line
record Same (n : ℕ) (b : BesideValue) (c : ConsoleValue) : Type 0 where
  count : accepted b.left.desk ≡ accepted c.desk
  net : net_now b.left.desk ≡ net_now c.desk
  lasts : b.left.desk.lasts ≡ c.desk.lasts
  less : length c.desk.pending ≤ n
  aim : c.desk.target ≡ None
  last : VersionValue
  ends : EndsWith b.seen last
  near : accepted b.left.desk ≤ last.number + n
  shown : IsShown b c

first_same : (start : Network) (b : BesideValue) → StartsBeside start b → Same 0 b (opening start)
first_same start b opens =
    let count : accepted b.left.desk ≡ accepted (new_desk start) = ap accepted opens.desk in
    record {
      count = count;
      net = ap net_now opens.desk;
      lasts = ap (λ (s : DeskValue). s.lasts) opens.desk;
      less = omega arith;
      aim = refl;
      last = settled_version 0 [] start;
      ends = ([], opens.seen);
      near = omega arith;
      shown = (ap (λ (v : VersionValue). v.number) opens.synced, ap (λ (v : VersionValue). v.network) opens.synced, opens.watch);
    }

-- after something was done under the lock
there_same : (start : DeskValue) (es : List Event) (n : ℕ) (Done : ConsoleValue → Answer → ConsoleValue → Type 0) (old : BesideValue) (found : DeskAndChain) (a : Answer) (new : BesideValue) (end : ConsoleValue)
    → DoesAt 1 Done old found a new → Keeps start es new.left → Alike n new.left.desk end.desk → end.desk.target ≡ None → IsShown new end → Same n new end
there_same start es n Done old found a new end is kept alike aim shown =
    let few = alike.few in
    record {
      count = alike.count;
      net = alike.net;
      lasts = alike.lasts;
      less = alike.less;
      aim = aim;
      last = new.left.desk.published;
      ends = subst (λ (l : List VersionValue). EndsWith l new.left.desk.published) (ap (λ (x : ChainPrefixValue). x.chain) is.shown ∙ sym is.told) kept.ends;
      near = omega arith;
      shown = shown;
    }

-- the same, where who came knows what is published there
stands_same : (start : DeskValue) (es : List Event) (n : ℕ) (new : BesideValue) (end : ConsoleValue) → new.seen ≡ new.left.shown.chain → Keeps start es new.left → Alike n new.left.desk end.desk → end.desk.target ≡ None
    → IsShown new end → Same n new end
stands_same start es n new end seen kept alike aim shown =
    let few = alike.few in
    record {
      count = alike.count;
      net = alike.net;
      lasts = alike.lasts;
      less = alike.less;
      aim = aim;
      last = new.left.desk.published;
      ends = subst (λ (l : List VersionValue). EndsWith l new.left.desk.published) (sym seen) kept.ends;
      near = omega arith;
      shown = shown;
    }

wider : (n m : ℕ) (s t : DeskValue) → n ≤ m → Alike n s t → Alike m s t
wider n m s t low alike =
    let few = alike.few in
    let less = alike.less in
    record { count = alike.count; net = alike.net; lasts = alike.lasts; few = omega arith; less = omega arith }

-- all is as it was
still_same : (n : ℕ) (b new : BesideValue) (c end : ConsoleValue) → Same n b c → new ≡ b → end ≡ c → Same n new end
still_same n b new c end same one other = subst (λ (x : BesideValue). Same n x end) (sym one) (subst (Same n b) (sym other) same)

module _ (start : DeskValue) (steady : IsSteadyDesk start) (es : List Event) (n : ℕ) (b : BesideValue) (c : ConsoleValue) (same : Same n b c) (keeps : Keeps start es b.left) where
  -- the desk that is found
  found_alike : (found : DeskAndChain) → Finds 1 b found → Alike n found.desk c.desk
  found_alike found finds =
      let at : Keeps start es found = keeps_worked start steady es b.left found keeps (finds.worked refl) in
      let left : Counts start es b.left.desk = run_counts start b.left.desk es steady keeps.came in
      let h : LosesNothing b.left.desk found.desk = (worked_keeps b.left found left.steady (finds.worked refl)).desk in
      let low : same.last.number ≤ found.desk.published.number = rises b.seen found.shown.chain same.last found.desk.published finds.seen at.is_chain same.ends at.ends in
      let count = h.accepted in
      let near = same.near in
      record { count = count ∙ same.count; net = h.net ∙ same.net; lasts = h.lasts ∙ same.lasts; few = omega arith; less = same.less }

  -- after a look
  looked_same : (k : ℕ) (version : VersionValue) (new : BesideValue) (end : ConsoleValue) → Looks b version new → HasKept c.desk end.desk → length end.desk.pending ≤ k → end.desk.target ≡ None → accepted b.left.desk ≤ version.number + k
      → IsShown new end → Same k new end
  looked_same k version new end looks kept less aim near shown =
      let count : accepted new.left.desk ≡ accepted b.left.desk = ap (λ (s : DeskAndChain). accepted s.desk) looks.left in
      record {
        count = count ∙ same.count ∙ sym kept.accepted;
        net = ap (λ (s : DeskAndChain). net_now s.desk) looks.left ∙ same.net ∙ sym kept.net;
        lasts = ap (λ (s : DeskAndChain). s.desk.lasts) looks.left ∙ same.lasts ∙ sym kept.lasts;
        less = less;
        aim = aim;
        last = version;
        ends = looks.ends;
        near = omega arith;
        shown = shown;
      }

  -- the version of a look is not older than the one that was known
  look_rises : (version : VersionValue) (new : BesideValue) → Looks b version new → same.last.number ≤ version.number
  look_rises version new looks = rises b.seen new.seen same.last version looks.seen looks.is_chain same.ends looks.ends

  -- the version of a look is the one of its number
  look_right : (version : VersionValue) (new : BesideValue) → Looks b version new → Later new → (before : Option ℕ) × IsRightAt start es before version
  look_right version new looks later =
      let kept : Keeps start es new.left = subst (Keeps start es) (sym looks.left) keeps in
      last_right start es None looks.ends.0 version (subst (AreRight start es None) looks.ends.1 (seen_right start steady es new kept later))

  -- it has no more than the accepted events
  look_within : (version : VersionValue) (new : BesideValue) → Looks b version new → Later new → version.number ≤ accepted b.left.desk
  look_within version new looks later =
      let left : Counts start es b.left.desk = run_counts start b.left.desk es steady keeps.came in
      let count = left.count in
      let longer : length (start.pending ++ es) ≡ length start.pending + length es = length-append start.pending es in
      let within = (look_right version new looks later).1.within in omega arith

  -- with all of them its network is the one now
  look_network : (version : VersionValue) (new : BesideValue) → Looks b version new → Later new → accepted b.left.desk ≤ version.number → version.network ≡ net_now b.left.desk
  look_network version new looks later all =
      let left : Counts start es b.left.desk = run_counts start b.left.desk es steady keeps.came in
      let count = left.count in
      let longer : length (start.pending ++ es) ≡ length start.pending + length es = length-append start.pending es in
      let right = (look_right version new looks later).1.right in
      right.network ∙ ap (replay start.published.network) (take_all (version.number - start.published.number) (start.pending ++ es) (omega arith))
      ∙ replay-append start.published.network start.pending es ∙ sym left.net

  -- after who comes and changes nothing
  visited_same : (found : DeskAndChain) (there : BesideValue) → Keeps start es there.left → VisitsAt 1 b found there → Same n there c
  visited_same found there kept is =
      let alike : Alike n found.desk c.desk = found_alike found is.0 in
      let left : there.left.desk ≡ found.desk = ap (λ (x : BesideValue). x.left.desk) is.1 in
      let none : Answer = answer.Help [] in
      let does : DoesAt 1 (λ old a new. Unit {0}) b found none there = visited 1 (λ old a new. Unit {0}) b found none there is tt in
      there_same start es n (λ old a new. Unit {0}) b found none there c does kept (same_alike n found.desk c.desk there.left.desk c.desk alike left refl) same.aim
      (shown_still b there c c same.shown does.kept refl refl)

  -- after a `sync` where who came left the hub
  synced_same : (x y : Answer) (new : BesideValue) (end : ConsoleValue) → Later new → SyncsThere b x new → Syncs c y end → (x ≡ y) × Same 0 new end
  synced_same x y new end later is at =
      let v : VersionValue = is.0 in
      let within : v.number ≤ accepted b.left.desk = look_within v new is.1 later in
      let all : accepted b.left.desk ≤ v.number = is.2 in
      let count = same.count in
      let number : v.number ≡ accepted c.desk = omega arith in
      let desk : end.desk ≡ synced c.desk = ap (λ (d : ConsoleValue). d.desk) at.1 in
      let settled : IsSettled c.desk (synced c.desk) = synced_settled c.desk same.aim in
      let after : IsSettled c.desk end.desk = subst (IsSettled c.desk) (sym desk) settled in
      let published : v.number ≡ (synced c.desk).published.number = number ∙ sym settled.number in
      let network : v.network ≡ (synced c.desk).published.network = look_network v new is.1 later all ∙ same.net ∙ sym settled.network in
      let shown : IsShown new end = (
        ap (λ (w : VersionValue). w.number) is.4 ∙ published ∙ ap (λ (s : DeskValue). s.published.number) (sym desk),
        ap (λ (w : VersionValue). w.network) is.4 ∙ network ∙ ap (λ (s : DeskValue). s.published.network) (sym desk),
        is.5 ∙ watch_same b.watch c.watch b.synced c.desk.published v (synced c.desk).published same.shown.2 same.shown.0 same.shown.1 published ∙ sym (ap (λ (d : ConsoleValue). d.watch) at.1),
      ) in (
        is.3 ∙ ap (λ (k : ℕ). answer.Publication (publication.Synced k (notice b.watch b.synced v))) number
            ∙ ap (λ (moved : Option Moved). answer.Publication (publication.Synced (accepted c.desk) moved))
            (notice_same b.watch c.watch b.synced c.desk.published v (synced c.desk).published same.shown.2 same.shown.0 same.shown.1 published network) ∙ sym at.0,
        looked_same 0 v new end is.1 after.kept after.none after.aim (omega arith) shown,
      )

-- ---- a line

module _ (start : DeskValue) (steady : IsSteadyDesk start) (es more : List Event) (n : ℕ) (b new : BesideValue) (c end : ConsoleValue) (same : Same n b c) (keeps : Keeps start es b.left) (kept : Keeps start more new.left) (later : Later new) where
  -- a line that changes nothing
  told_same : {T : Type 0} (told x y : T) → (x ≡ told) × (new ≡ b) → (y ≡ told) × (end ≡ c) → (x ≡ y) × Same n new end
  told_same told x y is at = (is.0 ∙ sym at.0, still_same n b new c end same is.1 at.1)

  module _ (x y : Answer) where
    -- a post
    calls_same : (Done : ConsoleValue → Answer → ConsoleValue → Type 0) (found : DeskAndChain) (collector seq : ℕ) (event : Event) → n < 65536 → DoesAt 1 Done b found x new
        → Calls (λ s. Posts s collector seq event) posted_answer (at_console found.desk) x (at_console new.left.desk) → Calls (λ s. Posts s collector seq event) posted_answer c y end → (x ≡ y) × Same (n + 1) new end
    calls_same Done found collector seq event small does is at =
        let alike : Alike n found.desk c.desk = found_alike start steady es n b c same keeps found does.finds in
        let both : (is.0 ≡ at.0) × Alike (n + 1) new.left.desk end.desk = posts_same n found.desk c.desk alike small collector seq event is.0 at.0 new.left.desk end.desk is.2 at.2 is.1 at.1 in (
          is.3 ∙ ap posted_answer both.0 ∙ sym at.3,
          there_same start more (n + 1) Done b found x new end does kept both.1 (post_aims c.desk collector seq event at.0 end.desk at.1 ∙ same.aim)
              (shown_still b new c end same.shown does.kept (post_publishes_none c.desk collector seq event at.0 end.desk at.1) at.5),
        )

    -- collector 0's next post
    nexts_same : (found : DeskAndChain) (event : Event) → n < 65536 → DoesAt 1 (Does (command.Event event)) b found x new → Does (command.Event event) c y end → (x ≡ y) × Same (n + 1) new end
    nexts_same found event small does at =
        go ((last_of found.desk 0).seq == 2 ^ 64 - 1) does.done (subst (λ (l : Last). PostsAfter (l.seq == 2 ^ 64 - 1) 0 event c y end) (sym last) at)
      where
        alike : Alike n found.desk c.desk
        alike = found_alike start steady es n b c same keeps found does.finds

        last : last_of found.desk 0 ≡ last_of c.desk 0
        last = last_same n found.desk c.desk 0 alike

        go : (full : Bool) → PostsAfter full 0 event (at_console found.desk) x (at_console new.left.desk) → PostsAfter full 0 event c y end → (x ≡ y) × Same (n + 1) new end
        go true is at =
            let desk : new.left.desk ≡ found.desk = ap (λ (d : ConsoleValue). d.desk) is.1 in
            let other : end.desk ≡ c.desk = ap (λ (d : ConsoleValue). d.desk) at.1 in (
              is.0 ∙ sym at.0,
              there_same start more (n + 1) (Does (command.Event event)) b found x new end does kept
                  (same_alike (n + 1) found.desk c.desk new.left.desk end.desk (more_alike n found.desk c.desk alike) desk other) (ap (λ (s : DeskValue). s.target) other ∙ same.aim)
                  (shown_still b new c end same.shown does.kept (ap (λ (s : DeskValue). s.published) other) (ap (λ (d : ConsoleValue). d.watch) at.1)),
            )
        go false is at =
            calls_same (Does (command.Event event)) found 0 ((last_of found.desk 0).seq + 1) event small does is
            (subst (λ (l : Last). Calls (λ s. Posts s 0 (l.seq + 1) event) posted_answer c y end) (sym last) at)

    -- what is told under the lock and changes nothing
    there_told : (done : Command) (found : DeskAndChain) → DoesAt 1 (Does done) b found x new → at_console new.left.desk ≡ at_console found.desk → end ≡ c → Same n new end
    there_told done found does left at =
        let alike : Alike n found.desk c.desk = found_alike start steady es n b c same keeps found does.finds in
        let desk : new.left.desk ≡ found.desk = ap (λ (d : ConsoleValue). d.desk) left in
        let other : end.desk ≡ c.desk = ap (λ (d : ConsoleValue). d.desk) at in
        there_same start more n (Does done) b found x new end does kept (same_alike n found.desk c.desk new.left.desk end.desk alike desk other)
        (ap (λ (s : DeskValue). s.target) other ∙ same.aim)
        (shown_still b new c end same.shown does.kept (ap (λ (s : DeskValue). s.published) other) (ap (λ (d : ConsoleValue). d.watch) at))

    -- `version`
    versions_same : (found : DeskAndChain) → n ≡ 0 → DoesAt 1 (Does command.Version) b found x new → Does command.Version c y end → (x ≡ y) × Same n new end
    versions_same found now does at =
        let alike : Alike n found.desk c.desk = found_alike start steady es n b c same keeps found does.finds in
        let count = alike.count in
        let few = alike.few in
        let less = alike.less in
        let number : found.desk.published.number ≡ c.desk.published.number = omega arith in (
          does.done.0 ∙ ap (λ (k : ℕ). answer.Reply (reply.Version k (accepted found.desk))) number ∙ ap (λ (k : ℕ). answer.Reply (reply.Version c.desk.published.number k)) count ∙ sym at.0,
          there_told command.Version found does does.done.1 at.1,
        )

    -- `last C`
    lasts_same : (found : DeskAndChain) (k : ℕ) → DoesAt 1 (Does (command.Last k)) b found x new → Does (command.Last k) c y end → (x ≡ y) × Same n new end
    lasts_same found k does at =
        let alike : Alike n found.desk c.desk = found_alike start steady es n b c same keeps found does.finds in (
          does.done.0 ∙ ap (λ (l : Last). answer.Reply (reply.Last l.seq)) (last_same n found.desk c.desk k alike) ∙ sym at.0,
          there_told (command.Last k) found does does.done.1 at.1,
        )

    -- `save FILE`
    saves_same : (found : DeskAndChain) (file : List ℕ) → DoesAt 1 (Does (command.Save file)) b found x new → Does (command.Save file) c y end → (x ≡ y) × Same n new end
    saves_same found file does at =
        let alike : Alike n found.desk c.desk = found_alike start steady es n b c same keeps found does.finds in (
          does.done.0 ∙ ap (save_told file) alike.net ∙ sym at.0,
          there_told (command.Save file) found does does.done.1 at.1,
        )

    -- `changes` and `changes N`
    changes_same : (which : Moves) (since : Option ℕ) → (x ≡ changes_told b.watch which since b.synced) × (new ≡ b) → (y ≡ changes_told c.watch which since c.desk.published) × (end ≡ c) → (x ≡ y) × Same n new end
    changes_same which since is at =
        (is.0 ∙ told_alike b.watch c.watch which since b.synced c.desk.published same.shown.2 same.shown.0 same.shown.1 ∙ sym at.0, still_same n b new c end same is.1 at.1)

    -- `watch on` and `watch off`
    watches_same : (is_on : Bool) → WatchesBeside is_on b x new → Watches is_on c y end → (x ≡ y) × Same n new end
    watches_same is_on is at =
        let watch : record b.watch { is_on = is_on } ≡ record c.watch { is_on = is_on } = ap (λ (w : WatchValue). record w { is_on = is_on }) same.shown.2 in
        let both : Same n (record b { watch = record b.watch { is_on = is_on } }) (record c { watch = record c.watch { is_on = is_on } }) = record {
          count = same.count;
          net = same.net;
          lasts = same.lasts;
          less = same.less;
          aim = same.aim;
          last = same.last;
          ends = same.ends;
          near = same.near;
          shown = (same.shown.0, same.shown.1, watch);
        } in (
          is.0 ∙ sym at.0,
          subst (λ (b : BesideValue). Same n b end) (sym is.1) (subst (Same n (record b { watch = record b.watch { is_on = is_on } })) (sym at.1) both),
        )

    -- what is asked
    asks_same : (answer_of : Network → Answer) (version : VersionValue) → n ≡ 0 → Looks b version new → x ≡ answer_of version.network → y ≡ answer_of c.desk.published.network → end ≡ c → KeepsSynced b new → (x ≡ y) × Same n new end
    asks_same answer_of version now looks is at other told =
        let low : same.last.number ≤ version.number = look_rises start steady es n b c same keeps version new looks in
        let near = same.near in
        let less = same.less in
        let network : version.network ≡ net_now b.left.desk = look_network start steady es n b c same keeps version new looks later (omega arith) in
        let none : c.desk.pending ≡ [] = no_length c.desk.pending (omega arith) in
        let settled : net_now c.desk ≡ c.desk.published.network = ap (replay c.desk.published.network) none in
        let kept : HasKept c.desk c.desk = record { accepted = refl; net = refl; lasts = refl; spare = refl } in (
          is ∙ ap answer_of (network ∙ same.net ∙ settled) ∙ sym at,
          subst (Same n new) (sym other) (looked_same start steady es n b c same keeps n version new c looks kept same.less same.aim (omega arith) (shown_still b new c c same.shown told refl refl)),
        )

    -- `picture FILE` and `picture FILE X`, where the version's number shows too
    pictures_same : (file : List ℕ) (about : Option ℕ) (version : VersionValue) → n ≡ 0 → Looks b version new → x ≡ picture_told file version.network about version.number
        → y ≡ picture_told file c.desk.published.network about c.desk.published.number → end ≡ c → KeepsSynced b new → (x ≡ y) × Same n new end
    pictures_same file about version now looks is at other told =
        let low : same.last.number ≤ version.number = look_rises start steady es n b c same keeps version new looks in
        let high : version.number ≤ accepted b.left.desk = look_within start steady es n b c same keeps version new looks later in
        let near = same.near in
        let less = same.less in
        let count = same.count in
        let number : c.desk.published.number ≡ version.number = omega arith in
        asks_same (λ net. picture_told file net about version.number) version now looks is (at ∙ ap (picture_told file c.desk.published.network about) number) other told

    -- the change of a whole set or point
    wholes_same : (w : Whole) → n ≡ 0 → PostsWholeBeside 1 0 w b x new → PostsWhole 0 w c y end → (x ≡ y) × Same 65536 new end
    wholes_same w now is at = go (whole_against is.0.desk 0 w) (whole_events (net_now is.0.desk) w) refl refl is.1
      where
        alike_at : Finds 1 b is.0 → Alike 0 is.0.desk c.desk
        alike_at finds = subst (λ (k : ℕ). Alike k is.0.desk c.desk) now (found_alike start steady es n b c same keeps is.0 finds)

        -- in line the same is posted, and the same stands against it
        in_line : (o : Option Refusal) (events : List Event) → whole_against is.0.desk 0 w ≡ o → whole_events (net_now is.0.desk) w ≡ events → Alike 0 is.0.desk c.desk → PostsAll o 0 events c y end
        in_line o events against all alike =
            subst (λ (p : Option Refusal × List Event). PostsAll p.0 0 p.1 c y end)
            (λ i. ((sym (against_same is.0.desk c.desk w alike) ∙ against) i, (ap (λ (net : Network). whole_events net w) (sym alike.net) ∙ all) i)) at

        go : (o : Option Refusal) (events : List Event) → whole_against is.0.desk 0 w ≡ o → whole_events (net_now is.0.desk) w ≡ events → PostsAllBeside o 1 0 events b is.0 x new → (x ≡ y) × Same 65536 new end
        go (Some refusal) events against all does =
            let alike : Alike 0 is.0.desk c.desk = alike_at does.finds in
            let told = in_line (Some refusal) events against all alike in
            let desk : new.left.desk ≡ is.0.desk = ap (λ (d : ConsoleValue). d.desk) does.done.1 in
            let other : end.desk ≡ c.desk = ap (λ (d : ConsoleValue). d.desk) told.1 in (
              does.done.0 ∙ sym told.0,
              stands_same start more 65536 new end (does.told ∙ ap (λ (chain : ChainPrefixValue). chain.chain) (sym does.shown)) kept
                  (same_alike 65536 is.0.desk c.desk new.left.desk end.desk (wider 0 65536 is.0.desk c.desk (omega arith) alike) desk other) (ap (λ (s : DeskValue). s.target) other ∙ same.aim)
                  (shown_still b new c end same.shown does.kept (ap (λ (s : DeskValue). s.published) other) (ap (λ (d : ConsoleValue). d.watch) told.1)),
            )
        go None [] against all does = absurd (some_events is.0.desk w against all)
        go None (event ∷ events) against all does =
            let alike : Alike 0 is.0.desk c.desk = alike_at does.1.1.finds in
            let told = in_line None (event ∷ events) against all alike in
            let acts = each_acts event events b is.0 new does.1 in
            let still = each_still (event ∷ events) c end told.1 in
            let free : events_refusal is.0.desk 0 (event ∷ events) ≡ None =
            ap (events_refusal is.0.desk 0) (sym all) ∙ none_or (option_map (λ r. Edit r) (whole_refusal (net_now is.0.desk) w)) (events_refusal is.0.desk 0 (whole_events (net_now is.0.desk) w)) against in
            let room = room_for is.0.desk (event ∷ events) free in
            let both : Alike (0 + length (event ∷ events)) new.left.desk end.desk = each_alike 0 event events (omega arith) b is.0 new c end alike does.1 told.1 in (
              does.0 ∙ ap (λ (k : ℕ). answer.AllTaken (record { first = k + 1; last = k + length (event ∷ events); events = event ∷ events })) alike.count ∙ sym told.0,
              stands_same start more 65536 new end (acts.told ∙ ap (λ (chain : ChainPrefixValue). chain.chain) (sym acts.shown)) kept (wider (0 + length (event ∷ events)) 65536 new.left.desk end.desk (omega arith) both)
                  (still.2 ∙ same.aim) (shown_still b new c end same.shown (each_keeps (event ∷ events) b is.0 new does.1) still.0 still.1),
            )

    obeys_same : (other : Answer) (o : Option Command) → MayCome n o → ObeysBeside 1 other o b x new → Obeys other o c y end → (x ≡ y) × Same (events_after n o) new end
    obeys_same other None may is at = told_same _ x y is at
    obeys_same other (Some (command.Event event)) may is at = nexts_same is.0 event may is.1 at
    obeys_same other (Some (command.Whole w)) may is at = wholes_same w may is at
    obeys_same other (Some (command.Post collector seq event)) may is at = calls_same (Does (command.Post collector seq event)) is.0 collector seq event may is.1 is.1.done at
    obeys_same other (Some command.Open) may is at = absurd may
    obeys_same other (Some (command.Take k)) may is at = absurd may
    obeys_same other (Some (command.Give k)) may is at = absurd may
    obeys_same other (Some (command.Abandon k)) may is at = absurd may
    obeys_same other (Some command.Publish) may is at = absurd may
    obeys_same other (Some command.Sync) may is at =
        let acts = visit_acts b is.visits.0 is.there is.visits.1 in
        let stands : Keeps start es is.there.left = subst (λ (l : List Event). Keeps start l is.there.left) (append-nil es) (keeps_acted start steady es b [] is.visits.0 is.there keeps acts) in
        synced_same start steady es n is.there c (visited_same start steady es n b c same keeps is.visits.0 is.there stands is.visits.1) stands x y new end later is.syncs at
    obeys_same other (Some command.Version) may is at = versions_same is.0 may is.1 at
    obeys_same other (Some (command.Last k)) may is at = lasts_same is.0 k is.1 at
    obeys_same other (Some command.Who) may is at = (is.0 ∙ sym at.0, still_same n b new c end same is.1 at.1)
    obeys_same other (Some (command.Save file)) may is at = saves_same is.0 file is.1 at
    obeys_same other (Some (command.About asked p d)) may is at = asks_same (λ net. answer_about asked net p d) is.0 may is.1 is.2 at.0 at.1 is.3
    obeys_same other (Some (command.Trace p d s)) may is at = asks_same (λ net. trace_answer (trace_at net p d s)) is.0 may is.1 is.2 at.0 at.1 is.3
    obeys_same other (Some (command.WhatIf events)) may is at = asks_same (λ net. what_if_answer (report_listed net events)) is.0 may is.1 is.2 at.0 at.1 is.3
    obeys_same other (Some (command.Reroutes events)) may is at = asks_same (λ net. reroutes_answer (reroutes_listed net events)) is.0 may is.1 is.2 at.0 at.1 is.3
    obeys_same other (Some (command.Survey what events)) may is at = asks_same (λ net. survey_answer (survey_listed what net events)) is.0 may is.1 is.2 at.0 at.1 is.3
    obeys_same other (Some command.Warn) may is at = asks_same (λ net. warn_answer (warnings_of net)) is.0 may is.1 is.2 at.0 at.1 is.3
    obeys_same other (Some command.Audit) may is at = asks_same (λ net. audit_answer (length net.plans)) is.0 may is.1 is.2 at.0 at.1 is.3
    obeys_same other (Some (command.Picture file about)) may is at = pictures_same file about is.0 may is.1 is.2 at.0 at.1 is.3
    obeys_same other (Some (command.Show what)) may is at = asks_same (shown_answer what) is.0 may is.1 is.2 at.0 at.1 is.3
    obeys_same other (Some (command.Changes since which)) may is at = changes_same which since is at
    obeys_same other (Some (command.Watch is_on)) may is at = watches_same is_on is at

  line_same : (line : List ℕ) (x y : Option Answer) → MayCome n (command_in line) → Replies (CommandsBeside 1) line b x new → Replies Commands line c y end → (x ≡ y) × Same (events_after n (command_in line)) new end
  line_same line x y = go (is_too_long (trimmed line)) (is_silent (trimmed line))
    where
      go : (long quiet : Bool) → MayCome n (said_by long quiet (trimmed line)) → IsReply (CommandsBeside 1) long quiet (trimmed line) b x new → IsReply Commands long quiet (trimmed line) c y end
          → (x ≡ y) × Same (events_after n (said_by long quiet (trimmed line))) new end
      go true quiet may is at = told_same _ x y is at
      go false true may is at = told_same _ x y is at
      go false false may is at =
          let both = obeys_same is.0 at.0 (other_answer (words_of (trimmed line))) (command_of (words_of (trimmed line))) may is.1 at.1 in
          (is.2 ∙ ap (λ (a : Answer). Some a) both.0 ∙ sym at.2, both.1)

-- ---- all lines

lines_same : (start : DeskValue) → IsSteadyDesk start → (es : List Event) (n : ℕ) (b : BesideValue) (c : ConsoleValue) → Same n b c → Keeps start es b.left → (lines : List (List ℕ)) → IsSynced n lines
    → (told : List (Option Answer)) (after : BesideValue) → Answers (CommandsBeside 1) b lines told after → Later after → (other : List (Option Answer)) (end : ConsoleValue) → Answers Commands c lines other end → told ≡ other
lines_same start steady es n b c same keeps [] synced told after is later other end at = is.0 ∙ sym at.0
lines_same start steady es n b c same keeps (line ∷ lines) synced told after is later other end at =
    let taken : List Event = taken_at (trimmed line) is.0 in
    let kept : Keeps start (es ++ taken) is.1.left = keeps_moved start steady es b taken is.1 keeps (line_moves line b is.0 is.1 is.3) in
    let rest : Later is.1 = finds_later is.1 lines is.2 after is.4 later in
    let both = line_same start steady es (es ++ taken) n b is.1 c at.1 same keeps kept rest line is.0 at.0 synced.0 is.3 at.3 in
    let others : is.2 ≡ at.2 =
    lines_same start steady (es ++ taken) (events_after n (command_in line)) is.1 at.1 both.1 kept lines synced.1 is.2 after is.4 later at.2 end at.4 in
    is.5 ∙ ap (λ (t : Option Answer). t ∷ is.2) both.0 ∙ ap (λ (t : List (Option Answer)). at.0 ∷ t) others ∙ sym at.5

-- a script that was answered to its end tells the answers that it has in line
pub script_same : (Tells : Answer → List ℕ → Type 0) (start : Network) (b : BesideValue) (lines : List (List ℕ)) (text : List ℕ) (after : BesideValue) (left : Network) (other : List (Option Answer)) (end : ConsoleValue)
    → StartsBeside start b → Answered Tells (CommandsBeside 1) b lines text after → LeavesBeside 1 after left → IsSynced 0 lines → Answers Commands (opening start) lines other end → AreTexts Tells other text
script_same Tells start b lines text after left other end opens answered leaves synced at =
    subst (λ (told : List (Option Answer)). AreTexts Tells told text)
    (lines_same (new_desk start) (new_is_steady start) [] 0 b (opening start) (first_same start b opens) (keeps_first start b opens) lines synced answered.0 after answered.1 (leaves.0, leaves.1) other end at)
    answered.2
