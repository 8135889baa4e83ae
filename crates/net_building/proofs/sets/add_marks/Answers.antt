use Rattle.std.proofs.Common.{◌∙◌, ◌++◌, ap}
use Rattle.link_state.specs.declared.marks.End.TheVariants.{First, Second}
use Rattle.link_state.specs.declared.marks.LinkChange.TheVariants.{Restore, Block, Inhibit}
use Rattle.net_building.specs.Building.{changes_of}
use Rattle.net_building.proofs.MarkLemmas.{five_more, marks_made}
use Rattle.net_building.proofs.sets.add_marks.Goals as goal

pub returns : goal.returns
returns c =
    let id = c.id-id.result in
    let links = c.links-links.result.now in
    five_more c.args.events.now.items c.add_changes.new.events.items c.add_changes-2.new.events.items c.add_changes-3.new.events.items c.add_changes-4.new.events.items c.add_changes-5.new.events.items
    (changes_of id links Restore) (changes_of id links (Block First)) (changes_of id links (Block Second)) (changes_of id links (Inhibit First)) (changes_of id links (Inhibit Second))
    c.in_ok-add_changes.ensures c.in_ok-add_changes-2.ensures c.in_ok-add_changes-3.ensures c.in_ok-add_changes-4.ensures c.in_ok-add_changes-5.ensures
    ∙ ap (λ es. c.args.events.now.items ++ es) (marks_made c.args.set.now id links c.id-id.ensures c.links-links.ensures)
