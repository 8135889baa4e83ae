use Rattle.std.proofs.Common.{ap}
use Rattle.std.specs.Prelude.{is_some}
use Rattle.sls_share.proofs.CoverLemmas.{probe_found, link_there}
use Rattle.sls_share.proofs.laws.probe_law.Goals as goal

pub returns-clause-covers : goal.returns-clause-covers
returns-clause-covers c n t i few share within = probe_found n t i few share within

pub returns-clause-serves : goal.returns-clause-serves
returns-clause-serves c links t up few share = ap is_some (link_there links t up few share).1
