use Rattle.std.proofs.Common.{◌≡◌, filter, map, take}
use Rattle.net_items.specs.declared.items.LinkSet.{LinkSet}
use Rattle.answers.specs.Shown.{ends_at}
use Rattle.answers.proofs.showing.sets_at.Given as goal

abbrev pub invariant-loop-set : goal.invariant-loop-set
invariant-loop-set l = l.ids.items ≡ map (λ (s : LinkSet). s.id) (filter (ends_at l.point) (take l.set-index l.sets))
