use Rattle.std.proofs.Common.{◌++◌, ap, sym, ◌∙◌}
use Rattle.sessions.specs.Quitting.{is_quit, through}
use Rattle.sessions.proofs.QuitLemmas.{at_first, line_ends, line_goes_on, rest_goes_on}
use Rattle.sessions.proofs.LineLemmas.{split_size}
use Rattle.sessions.proofs.quitting.find_by_line.Goals as goal

pub loop-front-init : goal.loop-front-init
loop-front-init c = at_first c.args.start c.args.bytes.now

pub loop-front-smaller : goal.loop-front-smaller
loop-front-smaller c = split_size c.loop-front.rest.now _ _ (sym c.in-Some.ensures)

pub returns-then-is_quit : goal.returns-then-is_quit
returns-then-is_quit c =
    line_ends c.args.start c.loop-front.line c.args.bytes.now c.loop-front.rest.now c.in-Some.front.now c.in-Some.after.now (sym c.in-Some.ensures)
    (ap is_quit (sym c.after_all.ensures) ∙ sym c.is_quit.ensures ∙ c.if-is_quit.true) c.loop-front.invariant

pub loop-front-preserved : goal.loop-front-preserved
loop-front-preserved c =
    line_goes_on c.args.start c.loop-front.line c.args.bytes.now c.loop-front.rest.now c.in-Some.front.now c.in-Some.after.now (sym c.in-Some.ensures)
    (ap is_quit (sym c.after_all.ensures) ∙ sym c.is_quit.ensures ∙ c.if-is_quit.false) c.loop-front.invariant

pub returns : goal.returns
returns c more =
    rest_goes_on c.args.start c.loop-front.line c.args.bytes.now c.loop-front.rest.now (sym c.in_default.ensures) c.loop-front.invariant more
    ∙ ap (λ p. c.args.bytes.now ++ through p more) (sym c.after_all-2.ensures)
