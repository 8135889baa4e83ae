use Rattle.std.specs.Io.KnownBytes.{Consumes}
use Rattle.sessions.specs.Input.{IsWithinLimit}
use Rattle.sessions.proofs.files.read_all.Given as goal

-- what was read is kept
abbrev pub invariant-loop-turn : goal.invariant-loop-turn
invariant-loop-turn g l = record {
  consumed : Consumes (g.R.Read.remaining l.fn.reader) (g.R.Read.remaining l.reader) l.bytes.items;
  within : IsWithinLimit l.bytes.items;
}
