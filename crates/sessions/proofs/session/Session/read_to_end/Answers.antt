use Rattle.std.proofs.Common.{◌≡◌, ℕ, ◌++◌, List, take, ap, refl, arith, rules}
use Rattle.std.proofs.KnownBytes.{Consumes-trans}
use Rattle.sessions.specs.Lines.{whole_lines, rest_of, last_line}
use Rattle.sessions.proofs.RunLemmas.{answered_more, answered_same, answered_kept, to_cut_off, to_unread}
use Rattle.sessions.proofs.session.Session.read_to_end.Goals as goal
use Rattle.sessions.proofs.session.Session.read_to_end.Goals.{in-Ok+in_default, in-Err+else-ne}

pub finish-requires : goal.finish-requires
finish-requires g c = let few = c.loop-turn.invariant.few in omega arith

none_taken : (n : ℕ) (buf : List ℕ) → n ≡ 0 → take n buf ≡ take 0 buf
none_taken n buf e = ap (λ k. take k buf) e

pub returns-in-Ok-eq0 : goal.returns-in-Ok-eq0
returns-in-Ok-eq0 g c = λ start unread held has.
    c.finish.ensures start unread _ held
    (answered_same (g.T.Telling.tells c.args.telling.now) g.A.Answering.commands start unread _ _ held _ _ _ (c.loop-turn.invariant.answered start unread held has) c.in-Ok-eq0.ensures.bytes.0 (none_taken _ _ c.in-Ok-eq0.field-0-test))
    (c.in-Ok-eq0.ensures.bytes.1 c.in-Ok-eq0.field-0-test (search rules))

pub returns-in-Err-step : goal.returns-in-Err-step
returns-in-Err-step g c = λ start unread held has.
    let before = c.loop-turn.invariant.answered start unread held has in
    let read = before.read ++ take c.in-Ok.n c.read.new.buf in
    to_cut_off (g.T.Telling.tells c.args.telling.now) g.A.Answering.commands g.A.Answering.fails g.A.Answering.needs_place start _ unread _ held _ read (whole_lines read) (last_line (rest_of read)) c.in-Err-step.fault _ refl
    c.in-Err-step.ensures.fault (c.in-Err-step.ensures.err start before.read held before.at) (Consumes-trans _ _ _ _ _ before.consumed c.in-Ok.ensures.bytes.0)

pub returns-then-ne : goal.returns-then-ne
returns-then-ne g c = λ start unread held has.
    to_unread (g.T.Telling.tells c.args.telling.now) g.A.Answering.commands g.A.Answering.fails g.A.Answering.needs_place start unread _ held _ c.loop-turn.self
    (answered_kept (g.T.Telling.tells c.args.telling.now) g.A.Answering.commands start unread _ _ held _ _ (c.loop-turn.invariant.answered start unread held has) c.in-Err.ensures.bytes)

pub loop-turn-preserved : goal.loop-turn-preserved
loop-turn-preserved g c = elim c.match-read.branch [
  | in-Ok+in_default w ↦ record {
    answered = λ start unread held has. rw (w.writer-is, w.self-is)
        (answered_more (g.T.Telling.tells c.args.telling.now) g.A.Answering.commands start unread _ _ held _ _ _ _ _ (c.loop-turn.invariant.answered start unread held has) w.in-Ok.ensures.bytes.0
        (λ read at. w.in_default.ensures.ok start read held at));
    few =
        let few = c.loop-turn.invariant.few in
        let more = w.step.ensures.lines in rw w.self-is (omega arith);
  }
  | in-Err+else-ne w ↦ record {
    answered = λ start unread held has. rw (w.writer-is, w.self-is)
        (answered_kept (g.T.Telling.tells c.args.telling.now) g.A.Answering.commands start unread _ _ held _ _ (c.loop-turn.invariant.answered start unread held has) w.in-Err.ensures.bytes);
    few = let few = c.loop-turn.invariant.few in rw w.self-is (omega arith);
  }
]

pub returns : goal.returns
returns g c = λ start unread held has.
    to_unread (g.T.Telling.tells c.args.telling.now) g.A.Answering.commands g.A.Answering.fails g.A.Answering.needs_place start unread _ held _ c.loop-turn.self (c.loop-turn.invariant.answered start unread held has)
