use Rattle.std.proofs.Common.{◌≡◌, ◌++◌, map, take}
use Rattle.net_items.specs.declared.links.Link.{Link}
use Rattle.answers.proofs.showing.add_links.Given as goal

abbrev pub invariant-loop-link : goal.invariant-loop-link
invariant-loop-link l = l.links.items ≡ l.fn.links.items ++ map (λ (x : Link). record { id = l.set.id; link = x }) (take l.link-index l.link-items)
