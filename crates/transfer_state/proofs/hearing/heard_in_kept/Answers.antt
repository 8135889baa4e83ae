use Rattle.std.proofs.Common.{◌≡◌, Option, Some, refl, sym, ap, ◌∙◌, arith}
use Rattle.std.specs.Prelude.{slice_get}
use Rattle.std.specs.Option.{option_map_or}
use Rattle.net_items.specs.declared.lists.Row.{Row}
use Rattle.route_choice.specs.declared.choices.Choice.{Choice}
use Rattle.route_choice.specs.declared.choices.Far.TheVariants.{Prohibited}
use Rattle.profile.specs.declared.tables.Message.{Message}
use Rattle.profile.specs.Local.{reading}
use Rattle.profile.specs.Status.{Source}
use Rattle.profile.specs.Whole.{heard_in, messages_of}
use Rattle.excerpts.specs.Excerpt.{source_of}
use Rattle.transfer_state.specs.Kept.{KeptValue}
use Rattle.transfer_state.proofs.AuditLemmas.{heard_of_kept}
use Rattle.transfer_state.proofs.MatchLemmas.{element_read}
use Rattle.transfer_state.proofs.hearing.heard_in_kept.Goals as goal

pub returns-in-Some : goal.returns-in-Some
returns-in-Some c = λ d.
    let src : Source = source_of c.args.e.now in
    let row : Row = c.index-rows_of-position.result in
    let k : KeptValue = c.index-kept-position.result in
    let here : slice_get src.rows c.args.position ≡ Some row = element_read c.rows_of.result.now src.rows c.args.position row c.rows_of.ensures (rw c.rows_of.ensures c.requires.here) c.index-rows_of-position.is in
    let there : slice_get c.args.kept.now c.args.position ≡ Some k = element_read c.args.kept.now c.args.kept.now c.args.position k refl (omega (arith, c.requires.here, c.requires.together)) c.index-kept-position.is in
    c.reading.ensures
    ∙ ap (λ (o : Option Message). option_map_or (λ m. reading m.kind) o Prohibited) (sym c.in-Some.is ∙ c.message_to.ensures)
    ∙ ap (λ (choice : Choice). heard_in (messages_of src row choice) c.args.point) c.opened_choice-choice.ensures
    ∙ heard_of_kept src c.args.kept.now c.args.point c.args.position row k d here there

pub returns-in-None : goal.returns-in-None
returns-in-None c = λ d.
    let src : Source = source_of c.args.e.now in
    let row : Row = c.index-rows_of-position.result in
    let k : KeptValue = c.index-kept-position.result in
    let here : slice_get src.rows c.args.position ≡ Some row = element_read c.rows_of.result.now src.rows c.args.position row c.rows_of.ensures (rw c.rows_of.ensures c.requires.here) c.index-rows_of-position.is in
    let there : slice_get c.args.kept.now c.args.position ≡ Some k = element_read c.args.kept.now c.args.kept.now c.args.position k refl (omega (arith, c.requires.here, c.requires.together)) c.index-kept-position.is in
    ap (λ (o : Option Message). option_map_or (λ m. reading m.kind) o Prohibited) (sym c.in-None.is ∙ c.message_to.ensures)
    ∙ ap (λ (choice : Choice). heard_in (messages_of src row choice) c.args.point) c.opened_choice-choice.ensures
    ∙ heard_of_kept src c.args.kept.now c.args.point c.args.position row k d here there
