use Rattle.std.proofs.Common.{[], ◌∷◌, ◌++◌, sym, refl, ◌∙◌, rules}
use Rattle.sessions.specs.Lines.{rest_of}
use Rattle.sessions.proofs.LineLemmas.{split_front, split_nowhere, split_on, split_size}
use Rattle.sessions.proofs.RunLemmas.{taken_piece, taken_part, taken_lost}
use Rattle.sessions.proofs.session.Session.feed.Goals as goal

pub loop-front-smaller : goal.loop-front-smaller
loop-front-smaller g c = split_size c.loop-front.rest.now _ _ (sym c.in-Some.ensures)

pub loop-front-preserved : goal.loop-front-preserved
loop-front-preserved g c =
    let rest = c.loop-front.rest.now in
    let front = c.in-Some.front.now in
    let split = sym c.in-Some.ensures in
    record {
      taken = λ start read written at.
          let before = c.loop-front.invariant.taken start read written at in
          let done = before.0 in (
            (done ++ front) ++ 10 ∷ [],
            split_on done rest _ _ split ∙ before.1,
            c.in_ok-end_line.ensures.ok start done written (split_front 10 rest _ _ split) before.2,
          );
      lines = search rules;
    }

pub returns-in_err-end_line-clause-front : goal.returns-in_err-end_line-clause-front
returns-in_err-end_line-clause-front g c = λ start read written at.
    let before = c.loop-front.invariant.taken start read written at in
    let split = sym c.in-Some.ensures in
    taken_lost (g.T.Telling.tells c.args.telling.now) g.A.Answering.commands g.A.Answering.fails start _ before.0 c.loop-front.rest.now _ _ written c.loop-front.self c.end_line.new.self split before.1 before.2
    (c.in_err-end_line.ensures.lost (rest_of before.0) before.2.rest) c.in_err-end_line.ensures.err

pub returns-in_err-take_all-clause-front : goal.returns-in_err-take_all-clause-front
returns-in_err-take_all-clause-front g c = λ start read written at.
    let before = c.loop-front.invariant.taken start read written at in
    taken_part (g.T.Telling.tells c.args.telling.now) g.A.Answering.commands g.A.Answering.fails start _ before.0 c.loop-front.rest.now written c.loop-front.self before.1 before.2

pub returns-clause-ok : goal.returns-clause-ok
returns-clause-ok g c = λ start read written at.
    let rest = c.loop-front.rest.now in
    let before = c.loop-front.invariant.taken start read written at in
    taken_piece (g.T.Telling.tells c.args.telling.now) g.A.Answering.commands start _ before.0 written c.loop-front.self _ rest before.1 before.2 (split_nowhere 10 rest (sym c.in_default.ensures)) refl refl
    (c.in_ok-take_all.ensures (rest_of before.0) before.2.rest)

pub returns-clause-front : goal.returns-clause-front
returns-clause-front g c = λ start read written at.
    let before = c.loop-front.invariant.taken start read written at in
    taken_part (g.T.Telling.tells c.args.telling.now) g.A.Answering.commands g.A.Answering.fails start _ before.0 c.loop-front.rest.now written c.loop-front.self before.1 before.2
