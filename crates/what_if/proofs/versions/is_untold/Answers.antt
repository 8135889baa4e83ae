use Rattle.std.proofs.Common.{Some}
use Rattle.what_if.proofs.UnchangedLemmas.{none_told}
use Rattle.what_if.proofs.versions.is_untold.Goals as goal

pub returns-then-is_alike : goal.returns-then-is_alike
returns-then-is_alike g c told = rw (c.in-Some-Some.is-0, c.in-Some-Some.is-1)
    (none_told g.D.Difference.told (Some c.in-Some-Some.before.now.excerpt) (Some c.in-Some-Some.after.now.excerpt) c.args.dest
    (c.is_alike.ensures c.if-is_alike.true c.validity.ensures c.validity-in-Some-Some.ensures (c.has_same_points.ensures.0 told) c.args.dest))
