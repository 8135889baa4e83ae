use Rattle.std.proofs.Common.{subst, sym, suc, arith}
use Rattle.profile.specs.Whole.{IsSettledTable}
use Rattle.profile.specs.Status.{source_rank}
use Rattle.profile.proofs.UnfoldingLemmas.{status_is, status_alone}
use Rattle.profile.proofs.WalkLemmas.{reached_walk, walk_reached}
use Rattle.profile.proofs.SettledLemmas.{mates_apart_by}
use Rattle.profile.proofs.CertificateLemmas.{settled_table, scratch_table}
use Rattle.profile.proofs.ExcerptLemmas.{excerpt_valid, excerpt_scratch, excerpt_keeps}
use Rattle.sls_share.proofs.CoverLemmas.{probe_found}
use Rattle.profile.proofs.HopLemmas.{trace_is, link_serves}
use Rattle.profile.proofs.laws.profile_law.Goals as goal

pub returns-clause-statuses : goal.returns-clause-statuses
returns-clause-statuses c src valid y = status_is src valid y

pub returns-clause-alone : goal.returns-clause-alone
returns-clause-alone c src valid far obeys y = status_alone src valid far (suc (source_rank src y)) (λ z low. obeys z) y (omega arith)

pub returns-clause-walks : goal.returns-clause-walks
returns-clause-walks c src valid y = (reached_walk src valid y, walk_reached src valid y)

pub returns-clause-mates : goal.returns-clause-mates
returns-clause-mates c src valid row mate planned mate_planned paired one other = mates_apart_by src valid row mate planned mate_planned paired one other

pub returns-clause-tables : goal.returns-clause-tables
returns-clause-tables c src valid table = (settled_table src valid table, λ e. subst (IsSettledTable src) (sym e) (scratch_table src valid))

pub returns-clause-excerpts : goal.returns-clause-excerpts
returns-clause-excerpts c src valid = (excerpt_valid src valid, excerpt_scratch src valid)

pub returns-clause-unread : goal.returns-clause-unread
returns-clause-unread c src front old new back is old_unread new_unread = excerpt_keeps src front old new back is old_unread new_unread

pub returns-clause-traces : goal.returns-clause-traces
returns-clause-traces c src valid few y s low = trace_is src valid few s low y

pub returns-clause-probes : goal.returns-clause-probes
returns-clause-probes c n t i few share within = probe_found n t i few share within

pub returns-clause-links : goal.returns-clause-links
returns-clause-links c src valid few row planned usable s low = link_serves src valid few s low row planned usable
