use Rattle.std.proofs.Common.{ap, ◌∙◌, take, arith, eqb, cond, get_or, refl, subst}
use Rattle.std.specs.List.{AllZip}
use Rattle.std.proofs.lemmas.List.{take_all}
use Rattle.dirty_sets.specs.declared.readers.Reader.{Reader}
use Rattle.dirty_sets.specs.Bits.{is_marked}
use Rattle.dirty_sets.specs.Index.{IsWithId, would_read}
use Rattle.dirty_sets.proofs.ReaderLemmas.{written-done, written-rest}
use Rattle.dirty_sets.proofs.readers.add_set.Goals as goal

pub loop-reader-preserved : goal.loop-reader-preserved
loop-reader-preserved c =
    let i = c.loop-reader.reader-index in
    let ys = c.loop-reader.readers in
    let one = c.reader-item.result in
    let new : Reader = record { dest = (get_or ys i one).dest; ids = c.put.new.self } in
    record {
      done = written-done (IsWithId c.args.set.now.id (would_read c.args.net.now c.args.set.now)) c.args.readers.now ys i one new c.loop-reader-test.true c.loop-reader.auto.readers c.loop-reader.invariant.rest c.loop-reader.invariant.done
          (record { dest = refl; ids = λ n. c.put.ensures n ∙ ap (λ b. cond (eqb n c.args.set.now.id) b (is_marked (get_or ys i one).ids n)) c.would_read_set-reads.ensures });
      rest = written-rest (IsWithId c.args.set.now.id (would_read c.args.net.now c.args.set.now)) c.args.readers.now ys i one new c.loop-reader-test.true c.loop-reader.auto.readers c.loop-reader.invariant.rest;
    }

pub returns : goal.returns
returns c =
    let i = c.loop-reader.reader-index in
    let xs = c.args.readers.now in
    let ys = c.loop-reader.readers in
    subst (λ zs. AllZip (IsWithId c.args.set.now.id (would_read c.args.net.now c.args.set.now)) zs ys) (take_all i xs c.loop-reader-test.false)
    (subst (λ zs. AllZip (IsWithId c.args.set.now.id (would_read c.args.net.now c.args.set.now)) (take i xs) zs) (take_all i ys (omega arith)) c.loop-reader.invariant.done)
