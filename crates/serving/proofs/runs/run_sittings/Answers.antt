use Rattle.serving.proofs.runs.run_sittings.Goals as goal

pub returns : goal.returns
returns g c = λ net channels opening seated count some. c.end_run.ensures c.args.hub.state net channels c.args.sittings.items opening seated c.work-sat.ensures count some
