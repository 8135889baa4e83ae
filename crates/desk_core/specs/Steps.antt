-- The steps of a desk: the refusals of each in their order, and what it does else (own).
use Rattle.std.specs.Prelude.{◌≡◌, ◌↔◌, IsTrue, ℕ, ◌+◌, ◌-◌, ◌^◌, ◌==◌, ◌||◌, ◌&&◌, nat_lt, nat_le, not, Bool, true, false, if◌then◌else◌, List, [], ◌∷◌, ◌++◌, Option, Some, None, is_some, Result, Ok, Err, MatchResult, length, drop, slice_set, slice_index_or}
use Rattle.std.specs.Option.{option_map, option_map_or, option_and_then, MatchOption}
use Rattle.net_data.specs.declared.events.Event.{Event}
use Rattle.net_data.specs.Edits.{refusal_of}
use Rattle.plan_rows.specs.Causes.{when, first}
use Rattle.excerpts.specs.Excerpt.{content_at, content_of, excerpt_at}
use Rattle.work_units.specs.Work.{Work}
use Rattle.dirty_sets.specs.Waiting.{Task, all_waiting, first_waiting, taken, is_out, put_last, without_task}
use Rattle.net_versions.specs.Versions.{VersionValue}
use Rattle.desk_core.specs.declared.posts.Last.{Last}
use Rattle.work_units.specs.declared.replies.Posted.{Posted}
use Rattle.work_units.specs.declared.replies.Posted.TheVariants.{Taken, Again}
use Rattle.work_units.specs.declared.replies.Opened.{Opened}
use Rattle.work_units.specs.declared.replies.Refusal.{Refusal}
use Rattle.work_units.specs.declared.replies.Refusal.TheVariants.{OutOfMemory, Edit, Gap, Old, Clash, BacklogFull, NotReady, Nothing, Busy, Stale, Unasked, Differs, EndOfNumbers, NotOpen}
use Rattle.desk_core.specs.Desk.{DeskValue, OpenTarget, accepted, no_post, net_at, net_now, to_settle, next_version}

-- what a step does: a refusal, with all as it was, or the change, or out of memory, with all as it was
abbrev pub IsReply : {T : Type 0} → Option Refusal → (T → DeskValue → Type 0) → DeskValue → Result T Refusal → DeskValue → Type 0
IsReply (Some refusal) Changes old result new = (result ≡ Err refusal) × (new ≡ old)
IsReply None Changes old result new = MatchResult result (λ reply. Changes reply new) (λ refusal. (refusal ≡ OutOfMemory) × (new ≡ old))

-- ---- post

-- a collector's last accepted post
abbrev pub last_of : DeskValue → ℕ → Last
last_of s collector = slice_index_or s.lasts collector no_post

-- whether a sequence number is that of the last accepted post
abbrev pub is_last : DeskValue → ℕ → ℕ → Bool
is_last s collector seq = not (seq == 0) && seq == (last_of s collector).seq

-- the refusals of a post with another sequence number, in their order
abbrev pub post_refusal : DeskValue → ℕ → ℕ → Event → Option Refusal
post_refusal s collector seq event = first (
    when (seq == 0 || nat_lt seq (last_of s collector).seq) (Old (last_of s collector).seq)
    ∷ when (nat_lt ((last_of s collector).seq + 1) seq) (Gap ((last_of s collector).seq + 1))
    ∷ when (nat_le (2 ^ 64 - 1) (accepted s)) EndOfNumbers
    ∷ when (nat_le 65536 (length s.pending)) BacklogFull
    ∷ option_map Edit (refusal_of (net_now s) event)
    ∷ [])

-- the desk with one more event, which is its collector's last accepted post
abbrev pub with_post : DeskValue → ℕ → ℕ → Event → DeskValue
with_post s collector seq event = record s {
  pending = s.pending ++ event ∷ [];
  lasts = slice_set s.lasts collector (record { seq = seq; number = accepted s + 1; event = Some event });
  spare = s.spare - 1;
}

-- the last accepted post again: the same event has its number, another clashes
abbrev pub repeated : Last → Bool → Result Posted Refusal
repeated last same = if same then Ok (Again last.number) else Err Clash

-- a post with the sequence number of the last accepted one changes nothing
abbrev pub Repeats : DeskValue → ℕ → Event → Result Posted Refusal → DeskValue → Type 0
Repeats s collector event result new =
    (same : Bool) × (IsTrue same ↔ (Some event ≡ (last_of s collector).event)) × (result ≡ repeated (last_of s collector) same) × (new ≡ s)

-- a post with the sequence number of the last accepted one, or with another
abbrev pub IsPost : Bool → DeskValue → ℕ → ℕ → Event → Result Posted Refusal → DeskValue → Type 0
IsPost true s collector seq event result new = Repeats s collector event result new
IsPost false s collector seq event result new =
    IsReply (post_refusal s collector seq event) (λ reply after. (reply ≡ Taken (accepted s + 1)) × (after ≡ with_post s collector seq event)) s result new

-- a post of a collector with a sequence number
abbrev pub Posts : DeskValue → ℕ → ℕ → Event → Result Posted Refusal → DeskValue → Type 0
Posts s collector seq event result new = IsPost (is_last s collector seq) s collector seq event result new

-- ---- open

-- the refusals of an opening, in their order
abbrev pub open_refusal : DeskValue → Option Refusal
open_refusal s = first (when (is_some s.target) Busy ∷ when (length s.pending == 0) Nothing ∷ [])

-- the desk with the accepted events as its target, for which the touched destinations wait
abbrev pub with_target : DeskValue → DeskValue
with_target s = record s { target = Some (record { number = accepted s; tasks = all_waiting (to_settle s) }) }

-- an opening tells the number of the target, and how many destinations wait
abbrev pub Opens : DeskValue → Result Opened Refusal → DeskValue → Type 0
Opens s result new =
    IsReply (open_refusal s) (λ reply after. (reply ≡ record { target = accepted s; waiting = length (to_settle s) }) × (after ≡ with_target s)) s result new

-- ---- take

-- the first destination that waits
abbrev pub first_of : DeskValue → Option ℕ
first_of s = option_and_then (λ (t : OpenTarget). first_waiting t.tasks) s.target

-- the desk with other tasks of its target
abbrev pub with_tasks : DeskValue → (List Task → List Task) → DeskValue
with_tasks s change = record s { target = option_map (λ (t : OpenTarget). record t { tasks = change t.tasks }) s.target }

-- a job of the target for a destination
abbrev pub IsJobOf : DeskValue → ℕ → Work → Type 0
IsJobOf s x job = MatchOption s.target ⊥ (λ t. (job.version ≡ t.number) × (excerpt_at (net_at s t.number) x ≡ Some job.excerpt))

-- a job for the first destination that waits, which is out from then on; none if nothing waits
abbrev pub Takes : DeskValue → Result Work Refusal → DeskValue → Type 0
Takes s result new =
    MatchOption (first_of s) ((result ≡ Err Nothing) × (new ≡ s))
    (λ x. IsReply None (λ job after. IsJobOf s x job × (after ≡ with_tasks s taken)) s result new)

-- ---- give and abandon

-- the target's number, if one is open
abbrev pub target_number : DeskValue → Option ℕ
target_number s = option_map (λ (t : OpenTarget). t.number) s.target

-- another version than the target, or a destination that isn't out
abbrev pub out_refusal : DeskValue → ℕ → ℕ → Option Refusal
out_refusal s version dest = first (
    when (not (option_map_or (λ (t : OpenTarget). t.number == version) s.target false)) (Stale (target_number s))
    ∷ when (not (option_map_or (λ (t : OpenTarget). is_out t.tasks dest) s.target false)) Unasked
    ∷ [])

-- what the target's network has for the destination of a piece of work is what that read
abbrev pub IsOfTarget : DeskValue → Work → Type 0
IsOfTarget s work = MatchOption s.target ⊥ (λ t. content_at (net_at s t.number) work.excerpt.plan.dest ≡ Some (content_of work.excerpt))

-- a result that is asked for: it is taken in if it read the same, else handed back
abbrev pub IsGiven : Bool → DeskValue → Work → Result (Unit {0}) (Work × Refusal) → DeskValue → Type 0
IsGiven true s work result new = (result ≡ Ok tt) × (new ≡ with_tasks s (without_task work.excerpt.plan.dest))
IsGiven false s work result new = (result ≡ Err (work, Differs)) × (new ≡ s)

-- a result that isn't asked for is handed back
abbrev pub IsGiveReply : Option Refusal → DeskValue → Work → Result (Unit {0}) (Work × Refusal) → DeskValue → Type 0
IsGiveReply (Some refusal) s work result new = (result ≡ Err (work, refusal)) × (new ≡ s)
IsGiveReply None s work result new = (same : Bool) × (IsTrue same ↔ IsOfTarget s work) × IsGiven same s work result new

-- a result comes in for the version and the destination that it names
abbrev pub Gives : DeskValue → Work → Result (Unit {0}) (Work × Refusal) → DeskValue → Type 0
Gives s work result new = IsGiveReply (out_refusal s work.version work.excerpt.plan.dest) s work result new

-- a destination that is out waits again, last
abbrev pub IsAbandonReply : Option Refusal → DeskValue → ℕ → Result (Unit {0}) Refusal → DeskValue → Type 0
IsAbandonReply (Some refusal) s dest result new = (result ≡ Err refusal) × (new ≡ s)
IsAbandonReply None s dest result new = (result ≡ Ok tt) × (new ≡ with_tasks s (put_last dest))

-- a destination of a version is abandoned
abbrev pub Abandons : DeskValue → ℕ → ℕ → Result (Unit {0}) Refusal → DeskValue → Type 0
Abandons s version dest result new = IsAbandonReply (out_refusal s version dest) s dest result new

-- ---- publish

-- how many destinations wait or are out
abbrev pub tasks_left : DeskValue → ℕ
tasks_left s = option_map_or (λ (t : OpenTarget). length t.tasks) s.target 0

-- the refusals of a publication, in their order
abbrev pub publish_refusal : DeskValue → Option Refusal
publish_refusal s = first (when (not (is_some s.target)) NotOpen ∷ when (not (tasks_left s == 0)) (NotReady (tasks_left s)) ∷ [])

-- a version is the one that the target becomes
abbrev pub IsNext : DeskValue → VersionValue → Type 0
IsNext s version = MatchOption s.target ⊥ (λ t. version ≡ next_version s t.number)

-- the desk with a version published, and the events after it
abbrev pub with_version : DeskValue → VersionValue → DeskValue
with_version s version = record s { published = version; pending = drop (version.number - s.published.number) s.pending; target = None }

-- the desk with the accepted events up to a number published
abbrev pub published_to : DeskValue → ℕ → DeskValue
published_to s number = with_version s (next_version s number)

-- what is newer than the published version is published
abbrev pub caught_up : DeskValue → DeskValue
caught_up s = if length s.pending == 0 then s else published_to s (accepted s)

-- why nothing is ready: the refusal, else out of memory
abbrev pub IsUnready : Option Refusal → Refusal → Type 0
IsUnready (Some cause) refusal = refusal ≡ cause
IsUnready None refusal = refusal ≡ OutOfMemory

-- a publication tells the number of the version
abbrev pub Publishes : DeskValue → Result ℕ Refusal → DeskValue → Type 0
Publishes s result new =
    IsReply (publish_refusal s) (λ number after. (version : VersionValue) × IsNext s version × (number ≡ version.number) × (after ≡ with_version s version)) s result new
