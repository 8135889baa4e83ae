use Rattle.std.proofs.Common.{◌≡◌, ◌∙◌, [], List, Option, Some, option_map, ap, sym}
use Rattle.std.specs.Option.{option_map_or}
use Rattle.net_items.specs.declared.lists.Row.{Row}
use Rattle.profile.specs.declared.tables.RowState.{RowState}
use Rattle.profile.specs.Status.{Source, source_row}
use Rattle.excerpts.specs.Excerpt.{source_of}
use Rattle.excerpts.proofs.SourceLemmas.{row_point_is}
use Rattle.answers.specs.Ways.{ways_at, ways_of}
use Rattle.answers.specs.declared.answer.RowAnswer.TheVariants as row
use Rattle.answers.specs.declared.ways.Way.{Way}
use Rattle.answers.proofs.rows.ask_why.Goals as goal

-- the row that is found is that of its state's point
pub returns-in_ok-ways-in-Some : goal.returns-in_ok-ways-in-Some
returns-in_ok-ways-in-Some c =
    let x = c.args.routing.now.excerpt in
    let src : Source = source_of x in
    let own : Row = c.in-Some.row.now in
    let found = c.in-Some.ensures in
    let here : source_row src own.point ≡ Some own = ap (source_row src) (row_point_is x.plan.rows c.args.point own found.there) ∙ found.there in
    ap (λ (ways : List Way). Some (row.Why c.in-Some.choice.status ways))
    (c.in_ok-ways-in-Some.ensures ∙ sym (ap (λ (o : Option Row). option_map_or (λ (r : Row). ways_of src r c.in-Some.choice) o []) here))
    ∙ sym (ap (option_map (λ (state : RowState). row.Why state.choice.status (ways_at src state))) found.state)
