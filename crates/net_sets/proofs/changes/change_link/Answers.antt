use Rattle.std.proofs.Common.{ap, refl, sym, ◌∙◌}
use Rattle.net_items.specs.declared.links.Link.{Link}
use Rattle.net_items.proofs.KeyedLemmas.{put_edit}
use Rattle.link_state.specs.Marks.{marks_after}
use Rattle.net_sets.proofs.changes.change_link.Goals as goal

-- the link that is found is put in with its marks after the change
pub returns : goal.returns
returns c =
    let mark : Link → Link = λ l. record l { marks = marks_after c.args.change l.marks } in
    let found = sym c.get.ensures.found ∙ c.in-Some.is in
    ap (λ ls. record c.args.set.now { links = ls })
    (c.put.ensures ∙ rw c.after.ensures (put_edit (λ (l : Link). l.slc) mark (λ l. refl) c.args.slc c.in-Some.link c.args.set.now.links c.validity.ensures.rising found))
