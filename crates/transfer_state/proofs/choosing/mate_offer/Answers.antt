use Rattle.std.proofs.Common.{sym, rules}
use Rattle.excerpts.specs.Excerpt.{source_of}
use Rattle.transfer_state.proofs.SweepLemmas.{found_small, rows_small}
use Rattle.transfer_state.proofs.choosing.mate_offer.Goals as goal

pub fars_of-requires-clause-few : goal.fars_of-requires-clause-few
fars_of-requires-clause-few c = (found_small c.args.e.now.plan.rows _ c.in_ok-mate.mate.now (rows_small (source_of c.args.e.now) c.validity.ensures.valid) (sym c.in_ok-mate.ensures)).few

pub fars_of-requires-clause-small : goal.fars_of-requires-clause-small
fars_of-requires-clause-small c = (found_small c.args.e.now.plan.rows _ c.in_ok-mate.mate.now (rows_small (source_of c.args.e.now) c.validity.ensures.valid) (sym c.in_ok-mate.ensures)).small

pub direct-status-requires-clause-few : goal.direct-status-requires-clause-few
direct-status-requires-clause-few c = (found_small c.args.e.now.plan.rows _ c.in_ok-mate.mate.now (rows_small (source_of c.args.e.now) c.validity.ensures.valid) (sym c.in_ok-mate.ensures)).few

pub direct-status-requires-clause-small : goal.direct-status-requires-clause-small
direct-status-requires-clause-small c = (found_small c.args.e.now.plan.rows _ c.in_ok-mate.mate.now (rows_small (source_of c.args.e.now) c.validity.ensures.valid) (sym c.in_ok-mate.ensures)).small

pub returns-then-is_connected : goal.returns-then-is_connected
returns-then-is_connected c = search rules
