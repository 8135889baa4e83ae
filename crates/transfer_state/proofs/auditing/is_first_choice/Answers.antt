use Rattle.std.proofs.Common.{◌∙◌, ap, sym, List, Option}
use Rattle.std.specs.Option.{option_and_then}
use Rattle.net_items.specs.declared.lists.Row.{Row}
use Rattle.route_choice.specs.Routes.{Offer, choose}
use Rattle.profile.specs.Status.{Source, mate_row, over_mate}
use Rattle.profile.specs.Valid.{IsValidRow}
use Rattle.profile.specs.Whole.{heard_from}
use Rattle.profile.proofs.UnfoldingLemmas.{row_valid}
use Rattle.excerpts.specs.Excerpt.{source_of}
use Rattle.transfer_state.specs.Complaints.{kept_table}
use Rattle.transfer_state.specs.Kept.{opened}
use Rattle.transfer_state.proofs.HearingLemmas.{offers_told}
use Rattle.transfer_state.proofs.auditing.is_first_choice.Goals as goal

pub first_choice-requires-clause-full : goal.first_choice-requires-clause-full
first_choice-requires-clause-full c = c.requires.told.coded

pub first_choice-requires-clause-valid : goal.first_choice-requires-clause-valid
first_choice-requires-clause-valid c = (row_valid (source_of c.args.e.now) c.validity.ensures.valid c.args.row.now.point c.args.row.now c.requires.planned).1

pub returns-in-Some : goal.returns-in-Some
returns-in-Some c = λ same.
    let src : Source = source_of c.args.e.now in
    let ok : IsValidRow src c.args.row.now = (row_valid src c.validity.ensures.valid c.args.row.now.point c.args.row.now c.requires.planned).1 in
    let mate : Option Offer = option_and_then (λ (m : Row). over_mate src c.args.row.now m (heard_from (kept_table src c.args.kept.now) c.args.row.now.point m.point)) (mate_row src c.args.row.now) in
    ap (opened src c.args.row.now) (sym (c.is_same_kept.ensures.0 same)) ∙ c.in-Some.ensures.opens mate
    ∙ ap (λ (os : List (List Offer)). choose src.tfr os mate) (offers_told c.args.e.now c.validity.ensures c.args.kept.now c.requires.together c.args.fars.now c.requires.told c.args.row.now c.requires.planned ok)
