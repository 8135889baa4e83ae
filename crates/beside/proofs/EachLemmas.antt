-- The events of whole sets and points, beside workers and in line.
use Rattle.std.proofs.Common.{◌≡◌, ℕ, ◌+◌, ◌-◌, ◌^◌, ◌<◌, ◌≤◌, ◌==◌, ◌||◌, nat_lt, Bool, true, false, List, [], ◌∷◌, Option, Some, None, option_map, refl, sym, ap, ◌∙◌, subst, length, arith}
use Rattle.std.specs.Prelude.{if◌then◌else◌}
use Rattle.net_data.specs.declared.events.Event.{Event}
use Rattle.net_data.specs.Network.{Network}
use Rattle.desk_core.specs.declared.posts.Last.{Last}
use Rattle.desk_core.specs.Desk.{DeskValue, accepted, net_now}
use Rattle.desk_core.specs.Steps.{Posts, last_of}
use Rattle.desk_console.specs.Console.{ConsoleValue}
use Rattle.std.specs.Option.{option_or}
use Rattle.std.proofs.lemmas.Bool.{ltb-false}
use Rattle.desk_console.specs.Does.{PostsAfter, PostsEach, PostsNext, events_refusal, taken_next, whole_against}
use Rattle.net_building.specs.Wholes.{whole_events, whole_refusal}
use Rattle.net_building.specs.declared.wholes.Whole.{Whole}
use Rattle.net_data.specs.declared.events.Refusal.TheVariants.{NoSet}
use Rattle.work_units.specs.declared.replies.Refusal.{Refusal}
use Rattle.work_units.specs.declared.replies.Refusal.TheVariants.{BacklogFull, Edit, EndOfNumbers}
use Rattle.desk_console.specs.Syncing.{synced}
use Rattle.versions.specs.declared.state.DeskAndChain.{DeskAndChain}
use Rattle.beside.specs.Beside.{BesideValue, KeepsSynced, PostsEachBeside, at_console}
use Rattle.histories.proofs.CountLemmas.{post_publishes_none}
use Rattle.beside.proofs.AlikeLemmas.{Alike, last_same, post_aims, posts_same, same_alike}

-- an event that is posted next at two such desks, and answered `taken` at both
pub next_alike : (n : ℕ) → n < 65536 → (event : Event) (p p' q q' : ConsoleValue) → Alike n p.desk q.desk → PostsNext 0 event p (taken_next p.desk) p' → PostsNext 0 event q (taken_next q.desk) q' → Alike (n + 1) p'.desk q'.desk
next_alike n small event p p' q q' alike = go ((last_of p.desk 0).seq == 2 ^ 64 - 1) ((last_of q.desk 0).seq == 2 ^ 64 - 1)
  where
    go : (b c : Bool) → PostsAfter b 0 event p (taken_next p.desk) p' → PostsAfter c 0 event q (taken_next q.desk) q' → Alike (n + 1) p'.desk q'.desk
    go true c is at = absurd (let no = is.0 in cc)
    go false true is at = absurd (let no = at.0 in cc)
    go false false is at =
        (posts_same n p.desk q.desk alike small 0 ((last_of p.desk 0).seq + 1) event is.0 at.0 p'.desk q'.desk is.2 at.2 is.1
        (subst (λ (l : Last). Posts q.desk 0 (l.seq + 1) event at.0 q'.desk) (sym (last_same n p.desk q.desk 0 alike)) at.1)).1

pub each_alike : (n : ℕ) (event : Event) (events : List Event) → n + length (event ∷ events) ≤ 65536 → (b : BesideValue) (found : DeskAndChain) (new : BesideValue) (c end : ConsoleValue) → Alike n found.desk c.desk
    → PostsEachBeside 1 0 (event ∷ events) b found new → PostsEach 0 (event ∷ events) c end → Alike (n + length (event ∷ events)) new.left.desk end.desk
each_alike n event [] room b found new c end alike is at =
    let one : Alike (n + 1) is.0.left.desk at.0.desk = next_alike n (omega arith) event (at_console found.desk) (at_console is.0.left.desk) c at.0 alike is.1.done at.1 in
    same_alike (n + 1) is.0.left.desk at.0.desk new.left.desk end.desk one (ap (λ (x : BesideValue). x.left.desk) is.2) (ap (λ (d : ConsoleValue). d.desk) at.2)
each_alike n event (next ∷ events) room b found new c end alike is at =
    let one : Alike (n + 1) is.0.left.desk at.0.desk = next_alike n (omega arith) event (at_console found.desk) (at_console is.0.left.desk) c at.0 alike is.1.done at.1 in
    let count : n + 1 + length (next ∷ events) ≡ n + length (event ∷ next ∷ events) = omega arith in
    subst (λ (k : ℕ). Alike k new.left.desk end.desk) count (each_alike (n + 1) next events (omega arith) is.0 is.0.left new at.0 end one is.2 at.2)

-- what is kept by posts, in line
pub each_still : (events : List Event) (c end : ConsoleValue) → PostsEach 0 events c end → (end.desk.published ≡ c.desk.published) × (end.watch ≡ c.watch) × (end.desk.target ≡ c.desk.target)
each_still [] c end is = (ap (λ (d : ConsoleValue). d.desk.published) is, ap (λ (d : ConsoleValue). d.watch) is, ap (λ (d : ConsoleValue). d.desk.target) is)
each_still (event ∷ events) c end is =
    let rest = each_still events is.0 end is.2 in
    let one = go ((last_of c.desk 0).seq == 2 ^ 64 - 1) is.1 in (rest.0 ∙ one.0, rest.1 ∙ one.1, rest.2 ∙ one.2)
  where
    go : (b : Bool) → PostsAfter b 0 event c (taken_next c.desk) is.0 → (is.0.desk.published ≡ c.desk.published) × (is.0.watch ≡ c.watch) × (is.0.desk.target ≡ c.desk.target)
    go true does = absurd (let no = does.0 in cc)
    go false does =
        let seq : ℕ = (last_of c.desk 0).seq + 1 in
        (post_publishes_none c.desk 0 seq event does.0 is.0.desk does.1, does.5, post_aims c.desk 0 seq event does.0 is.0.desk does.1)

-- and beside workers
pub each_keeps : (events : List Event) (b : BesideValue) (found : DeskAndChain) (new : BesideValue) → PostsEachBeside 1 0 events b found new → KeepsSynced b new
each_keeps [] b found new is = (ap (λ (x : BesideValue). x.synced) is, ap (λ (x : BesideValue). x.watch) is)
each_keeps (event ∷ events) b found new is =
    let rest = each_keeps events is.0 is.0.left new is.2 in (rest.0 ∙ is.1.kept.0, rest.1 ∙ is.1.kept.1)

-- what stands against the change, by what it depends on
abbrev pub against_by : Whole → Network → ℕ → ℕ → ℕ → Option Refusal
against_by w net seq count waiting =
    option_or (option_map (λ r. Edit r) (whole_refusal net w))
    (if length (whole_events net w) == 0 then Some (Edit NoSet)
    else if nat_lt (2 ^ 64 - 1) (seq + length (whole_events net w)) || nat_lt (2 ^ 64 - 1) (count + length (whole_events net w)) then Some EndOfNumbers
    else if nat_lt 65536 (waiting + length (whole_events net w)) then Some BacklogFull else None)

-- at two such desks, where nothing waits, the same stands against it
pub against_same : (s t : DeskValue) (w : Whole) → Alike 0 s t → whole_against s 0 w ≡ whole_against t 0 w
against_same s t w alike =
    let few = alike.few in
    let less = alike.less in
    let waiting : length s.pending ≡ length t.pending = omega arith in
    ap (λ (net : Network). against_by w net (last_of s 0).seq (accepted s) (length s.pending)) alike.net
    ∙ ap (λ (l : Last). against_by w (net_now t) l.seq (accepted s) (length s.pending)) (last_same 0 s t 0 alike)
    ∙ ap (λ (k : ℕ). against_by w (net_now t) (last_of t 0).seq k (length s.pending)) alike.count
    ∙ ap (against_by w (net_now t) (last_of t 0).seq (accepted t)) waiting

pub none_or : (a b : Option Refusal) → option_or a b ≡ None → b ≡ None
none_or None b h = h
none_or (Some x) b h = absurd (cc)

-- where nothing stands against it there is something to post
pub some_events : (s : DeskValue) (w : Whole) → whole_against s 0 w ≡ None → whole_events (net_now s) w ≡ [] → ⊥
some_events s w free none =
    let no : Some (Edit NoSet) ≡ None = ap (events_refusal s 0) (sym none) ∙ none_or (option_map (λ r. Edit r) (whole_refusal (net_now s) w)) (events_refusal s 0 (whole_events (net_now s) w)) free in cc

-- and there is room for it
pub room_for : (s : DeskValue) (events : List Event) → events_refusal s 0 events ≡ None → length s.pending + length events ≤ 65536
room_for s events free =
    go (length events == 0) (nat_lt (2 ^ 64 - 1) ((last_of s 0).seq + length events) || nat_lt (2 ^ 64 - 1) (accepted s + length events)) (nat_lt 65536 (length s.pending + length events)) refl free
  where
    go : (a b c : Bool) → nat_lt 65536 (length s.pending + length events) ≡ c → (if a then Some (Edit NoSet) else if b then Some EndOfNumbers else if c then Some BacklogFull else None) ≡ None
        → length s.pending + length events ≤ 65536
    go true b c is h = absurd (cc)
    go false true c is h = absurd (cc)
    go false false true is h = absurd (cc)
    go false false false is h = ltb-false 65536 (length s.pending + length events) is
