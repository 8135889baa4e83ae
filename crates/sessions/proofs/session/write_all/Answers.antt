use Rattle.std.proofs.Common.{◌≡◌, ℕ, ◌+◌, ◌-◌, ◌≤◌, List, ◌++◌, length, take, drop, arith, subst, rules}
use Rattle.std.proofs.Math.Seq.{take-add}
use Rattle.std.proofs.lemmas.Grind.{common_steps}
use Rattle.std.proofs.KnownBytes.{Appends-kept, Appends-trans}
use Rattle.std.specs.Io.KnownBytes.{Appends}
use Rattle.sessions.proofs.session.write_all.Goals as goal
use Rattle.sessions.proofs.session.write_all.Goals.{in-Ok, in-Err+else-ne}

-- the front of the rest goes on from the front
front_more : (s : List ℕ) (i n : ℕ) → n ≤ length s - i → take i s ++ take n (take (length s - i) (drop i s)) ≡ take (i + n) s
front_more s i n h = grind (arith, common_steps, take-add)

pub loop-turn-preserved : goal.loop-turn-preserved
loop-turn-preserved g c =
    let text = c.args.text.now in
    let contents = g.W.Write.contents in
    elim c.match-write.branch [
      | in-Ok w ↦ rw w.at-is (record {
        bound = search rules;
        written = subst (Appends (contents c.args.writer.now) (contents c.write.new.self)) (front_more text c.loop-turn.at w.in-Ok.n (search rules))
            (Appends-trans _ _ _ _ _ c.loop-turn.invariant.written w.in-Ok.ensures.bytes);
      })
      | in-Err+else-ne w ↦ rw w.at-is (record {
        bound = c.loop-turn.invariant.bound;
        written = Appends-kept _ _ _ _ c.loop-turn.invariant.written w.in-Err.ensures.bytes;
      })
    ]
