use Rattle.std.proofs.Common.{◌≡◌, drop, map}
use Rattle.excerpts.specs.Excerpt.{source_of}
use Rattle.what_if.specs.Mending.{cheaper, least_of, mend, over}
use Rattle.what_if.proofs.mending.add_class.Given as goal

-- the least so far and what is to come make the least of all
abbrev pub invariant-loop-via : goal.invariant-loop-via
invariant-loop-via l =
    cheaper l.least (least_of (map (λ z. over (source_of l.excerpt) l.point z (mend (source_of l.excerpt) l.mends.wanted z)) (drop l.via-index l.vias)))
    ≡ cheaper l.fn.least (least_of (map (λ z. over (source_of l.excerpt) l.point z (mend (source_of l.excerpt) l.mends.wanted z)) l.vias))
