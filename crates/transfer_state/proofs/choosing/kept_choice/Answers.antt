use Rattle.std.proofs.Common.{◌<◌, sym, subst}
use Rattle.route_choice.specs.declared.choices.Choice.{Choice}
use Rattle.profile.specs.Status.{mate_offer}
use Rattle.excerpts.specs.Excerpt.{source_of}
use Rattle.transfer_state.specs.Told.{far_by}
use Rattle.transfer_state.proofs.KeptLemmas.{class_small}
use Rattle.transfer_state.proofs.choosing.kept_choice.Goals as goal

pub of-requires : goal.of-requires
of-requires c =
    subst (λ (d : Choice). d.class < 16) (sym c.choice_of.ensures)
    (class_small (source_of c.args.e.now) c.args.row.now (far_by (source_of c.args.e.now) c.args.statuses.now) (record { few = c.requires.valid.few; small = c.requires.valid.small }))

pub returns-in-Some : goal.returns-in-Some
returns-in-Some c = c.in-Some.ensures.keeps (mate_offer (source_of c.args.e.now) (far_by (source_of c.args.e.now) c.args.statuses.now) c.args.row.now)
