use Rattle.std.proofs.Common.{rules}
use Rattle.transfer_state.proofs.complaints.fault_in.Goals as goal

pub returns : goal.returns
returns c = search rules

pub returns-then-not-are_links : goal.returns-then-not-are_links
returns-then-not-are_links c = search rules
