use Rattle.std.proofs.Common.{◌*◌, ◌≤◌, length}
use Rattle.std.specs.Io.KnownBytes.{Consumes}
use Rattle.sessions.specs.Input.{IsOpenAt}
use Rattle.sessions.proofs.input.read_text.Given as goal

-- what was read is kept, and has no mark
abbrev pub invariant-loop-turn : goal.invariant-loop-turn
invariant-loop-turn g l = record {
  consumed : Consumes (g.R.Read.remaining l.fn.reader) (g.R.Read.remaining l.reader) l.head.bytes.items;
  open_at : IsOpenAt l.head.bytes.items l.head.line (length l.head.bytes.items);
  few : length l.head.bytes.items ≤ l.turn * 65536;
  within : length l.head.bytes.items ≤ 134217732;
}
