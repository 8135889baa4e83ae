use Rattle.std.proofs.Common.{◌∙◌, sym}
use Rattle.seats.specs.Minutes.{sight}
use Rattle.versions.specs.Authors.{authored_in, counts_of}
use Rattle.versions.proofs.AuthorLemmas.{no_counts}
use Rattle.versions.proofs.posters.BySeats.over.Goals as goal

pub invariant_of-result : goal.invariant_of-result
invariant_of-result c =
    c.in_ok-counts.ensures.items_if_clones_equal (λ y h. h) ∙ no_counts c.args.seats (sight 0 c.requires.first.0)
    ∙ (λ i. counts_of (c.requires.seats i) (authored_in (sym c.requires.first.1 i)))
