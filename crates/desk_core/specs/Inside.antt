-- What a desk keeps beside its state.
use Rattle.std.specs.Prelude.{◌≡◌, ℕ, ◌<◌, ◌≤◌, ◌-◌, ◌^◌, false, List, Option, Some, None, drop, length}
use Rattle.std.specs.Option.{option_map_or}
use Rattle.net_data.specs.declared.events.Event.{Event}
use Rattle.net_data.specs.Network.{Network}
use Rattle.excerpts.specs.Excerpt.{content_at}
use Rattle.dirty_sets.specs.Touch.{IsTouchIndex}
use Rattle.dirty_sets.specs.Marks.{Marked}
use Rattle.desk_core.specs.Desk.{DeskValue, accepted, net_at, net_now, touched_by}
use Rattle.desk_core.specs.Targets.{TargetValue}

-- the same index and marks, with other room
pub record IsSameMarked (old new : Marked) : Type 0 where
  pub planned : new.index.planned ≡ old.index.planned
  pub reads : new.index.reads ≡ old.index.reads
  pub touched : new.touched ≡ old.touched

-- the network of the open target, else of the published version
abbrev pub fixed : DeskValue → Option TargetValue → Network
fixed s opened = option_map_or (λ (t : TargetValue). t.network) opened s.published.network

-- the accepted events that the open target has, else none
abbrev pub count : DeskValue → Option TargetValue → ℕ
count s opened = option_map_or (λ (t : TargetValue). t.number - s.published.number) opened 0

-- the accepted events after that network
abbrev pub since : DeskValue → Option TargetValue → List Event
since s opened = drop (count s opened) s.pending

-- an open target has the accepted events up to its number
pub record IsAhead (s : DeskValue) (t : TargetValue) : Type 0 where
  pub after : s.published.number ≤ t.number
  pub within : t.number ≤ accepted s
  pub network : t.network ≡ net_at s t.number

-- an open target, if there is one, is ahead
abbrev pub IsOpenAhead : DeskValue → Option TargetValue → Type 0
IsOpenAhead s None = Unit {0}
IsOpenAhead s (Some t) = IsAhead s t

-- the network now, what events touched since the network that is fixed, and the limits
pub record IsInside (s : DeskValue) (latest : Network) (marked : Marked) (opened : Option TargetValue) : Type 0 where
  pub is_now : latest ≡ net_now s
  pub few : length s.pending ≤ 65536
  pub counted : accepted s ≤ 2 ^ 64 - 1
  pub collectors : length s.lasts ≡ 256
  pub ahead : IsOpenAhead s opened
  pub index : IsTouchIndex latest marked.index
  pub since : (x : ℕ) → x < 16384 → marked.touched x ≡ touched_by (fixed s opened) (since s opened) x
  pub kept : (x : ℕ) → x < 16384 → marked.touched x ≡ false → content_at latest x ≡ content_at (fixed s opened) x
