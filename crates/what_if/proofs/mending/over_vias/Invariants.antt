use Rattle.std.proofs.Common.{◌≡◌, drop, map}
use Rattle.net_items.specs.Lookups.{concat_vias}
use Rattle.excerpts.specs.Excerpt.{source_of}
use Rattle.what_if.specs.Mending.{cheaper, classes_wanted, least_of, mend, over, over_vias}
use Rattle.what_if.proofs.mending.over_vias.Given as goal

-- the least so far and what is to come make the least of all
abbrev pub invariant-loop-vias : goal.invariant-loop-vias
invariant-loop-vias l =
    cheaper l.least (least_of (map (λ z. over (source_of l.excerpt) l.row.point z (mend (source_of l.excerpt) l.mends.wanted z)) (concat_vias (drop l.vias-index (classes_wanted (source_of l.excerpt) l.mends.wanted l.row)))))
    ≡ over_vias (source_of l.excerpt) l.mends.wanted (mend (source_of l.excerpt) l.mends.wanted) l.row
