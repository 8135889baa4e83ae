use Rattle.std.proofs.Common.{ap, ◌∙◌, set}
use Rattle.net_sets.specs.Sets.{with_link}
use Rattle.net_sets.proofs.changes.add_link_to_set.Goals as goal

-- the search found the set, and the write there is the edit
pub returns : goal.returns
returns c =
    let found = rw c.deref.ensures.value at c.in-Ok.ensures.found in
    let f = with_link c.args.slc in
    rw c.add_link.ensures (ap (λ s. set c.args.sets.now.items c.in-Ok.at (f s)) c.index_mut-set.ensures.value ∙ found.edits f c.index_mut-set.result.now)
