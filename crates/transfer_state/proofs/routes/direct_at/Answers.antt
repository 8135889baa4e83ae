use Rattle.std.proofs.Common.{◌≡◌, ◌∙◌, ap, refl, sym, Option, Bool}
use Rattle.std.specs.Option.{option_map_or}
use Rattle.net_items.specs.declared.lists.Row.{Row}
use Rattle.net_items.specs.Lookups.{row_at}
use Rattle.route_choice.specs.declared.choices.Far.TheVariants.{Prohibited}
use Rattle.route_choice.specs.Routes.{direct, offered}
use Rattle.profile.specs.Status.{Source, offers, status}
use Rattle.excerpts.specs.Excerpt.{source_of}
use Rattle.transfer_state.specs.Told.{far_from}
use Rattle.transfer_state.proofs.ReasonLemmas.{offers_told}
use Rattle.transfer_state.proofs.RouteLemmas.{row_none}
use Rattle.transfer_state.proofs.routes.direct_at.Goals as goal

pub returns-in-Some : goal.returns-in-Some
returns-in-Some c =
    let x = c.args.e.now in
    let src : Source = source_of x in
    let row : Row = c.in-Some.row.now in
    let told : offered row.classes c.fars_of.result ≡ offers src (far_from src c.args.choices.now) row = c.fars_of.ensures in
    let is : c.direct.result ≡ direct src.tfr (offered row.classes c.fars_of.result) = c.direct.ensures ∙ ap (λ (tfr : Bool). direct tfr (offered row.classes c.fars_of.result)) c.tfr.ensures in
    is
    ∙ ap (direct src.tfr) (told ∙ offers_told x c.validity.ensures c.args.choices.now c.requires row)
    ∙ sym (ap (λ (o : Option Row). option_map_or (λ (r : Row). direct src.tfr (offers src (status src) r)) o Prohibited) c.in-Some.ensures.there)

pub returns-in-None : goal.returns-in-None
returns-in-None c =
    let x = c.args.e.now in
    let src : Source = source_of x in
    sym (ap (λ (o : Option Row). option_map_or (λ (r : Row). direct src.tfr (offers src (status src) r)) o Prohibited) (row_none x c.args.point (row_at x.plan.rows c.args.point) refl c.in-None.ensures))
