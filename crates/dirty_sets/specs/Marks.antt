-- The destinations that events have touched since the last clearing.
use Rattle.std.specs.Prelude.{◌≡◌, ℕ, ◌<◌, ◌||◌, Bool, false}
use Rattle.net_data.specs.declared.events.Event.{Event}
use Rattle.net_data.specs.Network.{Network}
use Rattle.net_data.specs.Edits.{changed}
use Rattle.dirty_sets.specs.Touch.{Reads, IsTouchIndex, touches}

-- an index, and whether each destination was touched
pub record Marked : Type 0 where
  pub index : Reads
  pub touched : ℕ → Bool

-- nothing is touched
abbrev pub IsClear : Marked → Type 0
IsClear marked = (x : ℕ) → x < 16384 → marked.touched x ≡ false

-- what an event touches is added, and the index is that of the network after it
pub record IsNoted (net : Network) (event : Event) (old new : Marked) : Type 0 where
  pub index : IsTouchIndex (changed net event) new.index
  pub touched : (x : ℕ) → x < 16384 → new.touched x ≡ (old.touched x || touches net event x)
