use Rattle.std.proofs.Common.{◌∙◌, []}
use Rattle.route_choice.specs.Routes.{no_choice}
use Rattle.profile.specs.declared.tables.RowState.{RowState}
use Rattle.excerpts.specs.Excerpt.{source_of}
use Rattle.transfer_state.specs.Complaints.{heard_table}
use Rattle.transfer_state.proofs.AuditLemmas.{heard_points}
use Rattle.transfer_state.proofs.MatchLemmas.{heard_at, heard_nowhere}
use Rattle.transfer_state.proofs.hearing.heard_from.Goals as goal

-- any state, to read a list outside of it
no_state : RowState
no_state = record { point = 0; choice = no_choice; links = []; messages = [] }

pub returns-in-Ok : goal.returns-in-Ok
returns-in-Ok c =
    c.heard_in_place.ensures no_state
    ∙ heard_at (source_of c.args.e.now) (heard_table (source_of c.args.e.now) c.args.heard.now) (heard_points (source_of c.args.e.now) c.args.heard.now c.requires) c.args.point c.args.neighbour c.in-Ok.at no_state c.validity.ensures.rows_rise c.in-Ok.ensures.found

pub returns-in-Err : goal.returns-in-Err
returns-in-Err c =
    heard_nowhere (source_of c.args.e.now) (heard_table (source_of c.args.e.now) c.args.heard.now) (heard_points (source_of c.args.e.now) c.args.heard.now c.requires) c.args.point c.args.neighbour c.in-Err.field-0
    c.in-Err.ensures.absent
