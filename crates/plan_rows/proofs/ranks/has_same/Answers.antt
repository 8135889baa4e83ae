use Rattle.std.proofs.Common.{sym, arith}
use Rattle.plan_rows.proofs.RanksLemmas.{same_noted, blank_noted, greater_noted}
use Rattle.plan_rows.proofs.ranks.has_same.Goals as goal

pub returns-then-noted-wanted : goal.returns-then-noted-wanted
returns-then-noted-wanted c = sym (same_noted c.args.ranks.now c.args.rows.now c.args.point c.args.rank c.number.result c.number.ensures.value c.number.ensures.in_range c.requires.ranks (omega arith))

pub returns-then-noted-eq0 : goal.returns-then-noted-eq0
returns-then-noted-eq0 c = sym (blank_noted c.args.ranks.now c.args.rows.now c.args.point c.args.rank c.number.result c.number.ensures.value c.number.ensures.in_range c.requires.ranks (omega arith))

pub returns-then-wanted-noted : goal.returns-then-wanted-noted
returns-then-wanted-noted c = sym (greater_noted c.args.ranks.now c.args.rows.now c.args.point c.args.rank c.number.result c.number.ensures.value c.number.ensures.in_range c.requires.ranks (omega arith))
