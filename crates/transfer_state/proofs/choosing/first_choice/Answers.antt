use Rattle.std.proofs.Common.{ap, arith, length, List, ℕ}
use Rattle.excerpts.specs.Excerpt.{source_of}
use Rattle.transfer_state.specs.Told.{far_by}
use Rattle.transfer_state.proofs.FirstLemmas.{first_is}
use Rattle.transfer_state.proofs.choosing.first_choice.Goals as goal

pub returns-in-len1-up : goal.returns-in-len1-up
returns-in-len1-up c =
    first_is (source_of c.args.e.now) (far_by (source_of c.args.e.now) c.args.statuses.now) c.args.row.now (record { few = c.requires.valid.few; small = c.requires.valid.small })
    c.as_slice-vias.result.now _ (omega (arith, c.in-len1-up.len_at_least, ap (length {A = List ℕ}) c.as_slice.ensures)) (rw (c.as_slice-vias.ensures, ← c.as_slice.ensures) c.vias-item.is)
    c.fars_joined.ensures c.first_kept.result c.first_kept.ensures.allowed c.first_kept.ensures.keeps
