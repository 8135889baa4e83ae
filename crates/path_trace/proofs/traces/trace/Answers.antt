use Rattle.std.proofs.Common.{◌∙◌, ap, subst}
use Rattle.excerpts.specs.Excerpt.{IsRight}
use Rattle.transfer_state.specs.Routing.{routed_excerpt}
use Rattle.net_versions.proofs.PlannedLemmas.{routed_there}
use Rattle.path_trace.proofs.KeptLemmas.{answered}
use Rattle.path_trace.proofs.TellingLemmas.{told}
use Rattle.path_trace.proofs.traces.trace.Goals as goal

pub returns-clause-kept : goal.returns-clause-kept
returns-clause-kept c =
    answered c.args.version.now c.validity.ensures c.args.point c.args.dest c.args.s c.in-Some.routing.excerpt c.trace_by.result
    (ap routed_excerpt c.in-Some.ensures ∙ routed_there c.args.version.now.network c.args.dest) c.trace_by.ensures

pub returns-clause-law : goal.returns-clause-law
returns-clause-law c =
    told c.args.version.now.network c.args.point c.args.dest c.args.s c.in-Some.routing.excerpt c.trace_by.result (subst IsRight c.excerpt.ensures c.validity-2.ensures) c.requires
    (ap routed_excerpt c.in-Some.ensures ∙ routed_there c.args.version.now.network c.args.dest) c.trace_by.ensures
