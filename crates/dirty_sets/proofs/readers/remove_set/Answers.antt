use Rattle.std.proofs.Common.{ℕ, take, arith, false, get_or, refl, subst}
use Rattle.std.specs.List.{AllZip}
use Rattle.std.proofs.lemmas.List.{take_all}
use Rattle.dirty_sets.specs.declared.readers.Reader.{Reader}
use Rattle.dirty_sets.specs.Index.{IsWithId}
use Rattle.dirty_sets.proofs.ReaderLemmas.{written-done, written-rest}
use Rattle.dirty_sets.proofs.readers.remove_set.Goals as goal

pub loop-reader-preserved : goal.loop-reader-preserved
loop-reader-preserved c =
    let i = c.loop-reader.reader-index in
    let ys = c.loop-reader.readers in
    let one = c.reader-item.result in
    let new : Reader = record { dest = (get_or ys i one).dest; ids = c.put.new.self } in
    record {
      done = written-done (IsWithId c.args.id (λ (x : ℕ). false)) c.args.readers.now ys i one new c.loop-reader-test.true c.loop-reader.auto.readers c.loop-reader.invariant.rest c.loop-reader.invariant.done
          (record { dest = refl; ids = λ n. c.put.ensures n });
      rest = written-rest (IsWithId c.args.id (λ (x : ℕ). false)) c.args.readers.now ys i one new c.loop-reader-test.true c.loop-reader.auto.readers c.loop-reader.invariant.rest;
    }

pub returns : goal.returns
returns c =
    let i = c.loop-reader.reader-index in
    let xs = c.args.readers.now in
    let ys = c.loop-reader.readers in
    subst (λ zs. AllZip (IsWithId c.args.id (λ (x : ℕ). false)) zs ys) (take_all i xs c.loop-reader-test.false)
    (subst (λ zs. AllZip (IsWithId c.args.id (λ (x : ℕ). false)) (take i xs) zs) (take_all i ys (omega arith)) c.loop-reader.invariant.done)
