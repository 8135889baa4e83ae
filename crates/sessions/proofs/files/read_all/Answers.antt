use Rattle.std.proofs.Common.{ℕ, ◌+◌, ◌≤◌, ◌++◌, List, length, take, arith, rules, length-append}
use Rattle.std.proofs.lemmas.List.{length-take-le}
use Rattle.std.proofs.KnownBytes.{Consumes-trans}
use Rattle.sessions.proofs.files.read_all.Goals as goal

-- what was read before and in one more read
joined_length : (bytes buf : List ℕ) (n most : ℕ) → length bytes + n ≤ most → n ≤ length buf → length (bytes ++ take n buf) ≤ most
joined_length bytes buf n most few within = omega (arith, length-append bytes (take n buf), length-take-le n buf within)

pub returns-then-n-len : goal.returns-then-n-len
returns-then-n-len g c =
    let within = c.loop-turn.invariant.within in
    let size : length c.read.new.buf ≤ 65536 = search rules in
    let taken : c.in-Ok.n ≤ length c.read.new.buf = search rules in
    record {
      read = c.loop-turn.bytes.items ++ take c.in-Ok.n c.read.new.buf;
      consumed = Consumes-trans _ _ _ _ _ c.loop-turn.invariant.consumed c.in-Ok.ensures.bytes.0;
      cause = joined_length c.loop-turn.bytes.items c.read.new.buf c.in-Ok.n (134217728 + 65536) (omega arith) taken;
    }

pub returns-in-Err-extend_from_slice : goal.returns-in-Err-extend_from_slice
returns-in-Err-extend_from_slice g c =
    let within = c.loop-turn.invariant.within in
    let taken : c.in-Ok.n ≤ length c.read.new.buf = search rules in
    record {
      read = c.loop-turn.bytes.items ++ take c.in-Ok.n c.read.new.buf;
      consumed = Consumes-trans _ _ _ _ _ c.loop-turn.invariant.consumed c.in-Ok.ensures.bytes.0;
      cause = joined_length c.loop-turn.bytes.items c.read.new.buf c.in-Ok.n 134217728 (omega arith) taken;
    }
