use Rattle.std.proofs.Common.{rules}
use Rattle.excerpts.proofs.excerpt.Excerpt.reads.Goals as goal

pub returns : goal.returns
returns c = search rules
