use Rattle.std.proofs.Common.{rules}
use Rattle.plan_rows.proofs.causes.cause_of.Goals as goal

pub returns-then-not-are_vias_joined : goal.returns-then-not-are_vias_joined
returns-then-not-are_vias_joined c = search rules

pub returns-then-not-once : goal.returns-then-not-once
returns-then-not-once c = search rules

pub returns-then-not-are_vias_lower : goal.returns-then-not-are_vias_lower
returns-then-not-are_vias_lower c = search rules

pub returns-then-not-are_vias_no_mates : goal.returns-then-not-are_vias_no_mates
returns-then-not-are_vias_no_mates c = search rules

pub returns-then-not-row : goal.returns-then-not-row
returns-then-not-row c = search rules

pub returns : goal.returns
returns c = search rules
