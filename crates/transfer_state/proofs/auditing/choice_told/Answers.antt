use Rattle.std.proofs.Common.{◌∙◌, refl}
use Rattle.profile.specs.Status.{Source}
use Rattle.profile.specs.Valid.{IsValidRow}
use Rattle.profile.proofs.UnfoldingLemmas.{row_valid}
use Rattle.excerpts.specs.Excerpt.{source_of}
use Rattle.transfer_state.proofs.HearingLemmas.{offers_told}
use Rattle.transfer_state.proofs.auditing.choice_told.Goals as goal

pub fars_of-fars-requires-clause-few : goal.fars_of-fars-requires-clause-few
fars_of-fars-requires-clause-few c = (row_valid (source_of c.args.e.now) c.validity.ensures.valid c.args.row.now.point c.args.row.now c.requires.planned).1.few

pub fars_of-fars-requires-clause-small : goal.fars_of-fars-requires-clause-small
fars_of-fars-requires-clause-small c = (row_valid (source_of c.args.e.now) c.validity.ensures.valid c.args.row.now.point c.args.row.now c.requires.planned).1.small

pub choose-requires-clause-few : goal.choose-requires-clause-few
choose-requires-clause-few c = (row_valid (source_of c.args.e.now) c.validity.ensures.valid c.args.row.now.point c.args.row.now c.requires.planned).1.few

pub choose-requires-clause-small : goal.choose-requires-clause-small
choose-requires-clause-small c = (row_valid (source_of c.args.e.now) c.validity.ensures.valid c.args.row.now.point c.args.row.now c.requires.planned).1.small

pub returns : goal.returns
returns c =
    let src : Source = source_of c.args.e.now in
    let ok : IsValidRow src c.args.row.now = (row_valid src c.validity.ensures.valid c.args.row.now.point c.args.row.now c.requires.planned).1 in
    let vias = c.fars_of-fars.ensures ∙ offers_told c.args.e.now c.validity.ensures c.args.kept.now c.requires.together c.args.fars.now c.requires.told c.args.row.now c.requires.planned ok in
    rw (c.choose.ensures, vias, c.mate_heard-mate.ensures, c.tfr.ensures) refl
