use Rattle.std.proofs.Common.{◌∙◌, Some, List, ℕ, ap, refl, sym}
use Rattle.point_codes.specs.Octets.{octets_of}
use Rattle.profile.specs.Whole.{scratch}
use Rattle.excerpts.specs.Excerpt.{source_of}
use Rattle.transfer_state.specs.Routing.{state_at}
use Rattle.answers.specs.declared.answer.RowAnswer.TheVariants as row
use Rattle.answers.proofs.RowLemmas.{octets_found}
use Rattle.answers.proofs.rows.ask_octets.Goals as goal

pub returns-in-Some-Some : goal.returns-in-Some-Some
returns-in-Some-Some c =
    let x = c.args.routing.now.excerpt in
    ap (λ (octets : List ℕ). Some (row.Octets (Some octets)))
    (c.tfm_octets-octets.ensures ∙ ap (λ dest. octets_of c.args.ni c.args.neighbour c.args.point c.in-Some-Some.message.kind dest) c.dest.ensures)
    ∙ octets_found c.args.ni x.plan.dest c.args.point c.args.neighbour (Some c.in-Some-Some.message) (scratch (source_of x)).rows (state_at x c.args.point) refl (ap Some (sym c.in-Some-Some.field-0-is) ∙ sym c.in-Some-Some.is ∙ c.message.ensures)
