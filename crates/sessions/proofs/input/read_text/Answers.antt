use Rattle.std.proofs.Common.{◌≡◌, ℕ, ◌+◌, ◌-◌, ◌≤◌, ◌++◌, List, length, take, sym, subst, inl, arith, rules, length-append}
use Rattle.std.proofs.lemmas.List.{length-take-le}
use Rattle.std.specs.Io.KnownBytes.{Consumes}
use Rattle.std.proofs.KnownBytes.{Consumes-trans, Consumes-kept}
use Rattle.sessions.proofs.InputLemmas.{open_none}
use Rattle.sessions.proofs.input.read_text.Goals as goal
use Rattle.sessions.proofs.input.read_text.Goals.{in-Ok+in-Ok-None, in-Err+else-ne}

-- a piece that was read is as long as was asked for
piece_length : (n : ℕ) (buf : List ℕ) (room : ℕ) → n ≤ length buf → length buf ≤ room → length (take n buf) ≤ room
piece_length n buf room h room_h = omega (arith, length-take-le n buf h)

pub returns-in-Ok-Some : goal.returns-in-Ok-Some
returns-in-Ok-Some g c =
    let few = c.loop-turn.invariant.few in
    let size : length (take c.in-Ok.n c.read.new.buf) ≤ 65536 = piece_length c.in-Ok.n c.read.new.buf 65536 (search rules) (search rules) in
    let whole = c.in-Ok-Some.ensures.bytes in
    c.marked.ensures _ _ (subst (Consumes (g.R.Read.remaining c.args.reader.now) (g.R.Read.remaining c.read.new.self)) (sym whole)
    (Consumes-trans _ _ _ _ _ c.loop-turn.invariant.consumed c.in-Ok.ensures.bytes.0))
    (rw whole (omega (arith, length-append c.loop-turn.head.bytes.items (take c.in-Ok.n c.read.new.buf))))

pub returns-in-Err-take : goal.returns-in-Err-take
returns-in-Err-take g c = record {
  read = c.loop-turn.head.bytes.items ++ take c.in-Ok.n c.read.new.buf;
  consumed = Consumes-trans _ _ _ _ _ c.loop-turn.invariant.consumed c.in-Ok.ensures.bytes.0;
  cause = tt;
}

pub returns-then-ne : goal.returns-then-ne
returns-then-ne g c = record {
  read = c.loop-turn.head.bytes.items;
  consumed = Consumes-kept _ _ _ _ c.loop-turn.invariant.consumed c.in-Err.ensures.bytes;
  cause = inl (open_none c.loop-turn.head.bytes.items c.loop-turn.head.line c.loop-turn.invariant.open_at);
}

pub loop-turn-preserved : goal.loop-turn-preserved
loop-turn-preserved g c = elim c.match-read.branch [
  | in-Ok+in-Ok-None w ↦
      let few = c.loop-turn.invariant.few in
      let within = c.loop-turn.invariant.within in
      let room : length c.read.new.buf ≤ 134217732 - length c.loop-turn.head.bytes.items = search rules in
      let all : length c.read.new.buf ≤ 65536 = search rules in
      let size = piece_length w.in-Ok.n c.read.new.buf (length c.read.new.buf) (search rules) (omega arith) in
      let whole = w.in-Ok-None.ensures.bytes in
      let sum : length w.take.new.self.bytes.items ≡ length c.loop-turn.head.bytes.items + length (take w.in-Ok.n c.read.new.buf) =
      rw whole (length-append c.loop-turn.head.bytes.items (take w.in-Ok.n c.read.new.buf)) in
      rw w.head-is (record {
        consumed = subst (Consumes (g.R.Read.remaining c.args.reader.now) (g.R.Read.remaining c.read.new.self)) (sym whole)
            (Consumes-trans _ _ _ _ _ c.loop-turn.invariant.consumed w.in-Ok.ensures.bytes.0);
        open_at = w.in-Ok-None.ensures.none (search rules);
        few = omega arith;
        within = omega arith;
      })
  | in-Err+else-ne w ↦
      let few = c.loop-turn.invariant.few in
      rw w.head-is (record {
        consumed = Consumes-kept _ _ _ _ c.loop-turn.invariant.consumed w.in-Err.ensures.bytes;
        open_at = c.loop-turn.invariant.open_at;
        few = omega arith;
        within = c.loop-turn.invariant.within;
      })
]
