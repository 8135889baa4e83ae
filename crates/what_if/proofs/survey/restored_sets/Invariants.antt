use Rattle.std.proofs.Common.{◌≡◌, filter, map, take}
use Rattle.net_items.specs.declared.items.LinkSet.{LinkSet}
use Rattle.what_if.specs.Survey.{is_down}
use Rattle.what_if.specs.declared.survey.Single.TheVariants as single
use Rattle.what_if.proofs.survey.restored_sets.Given as goal

-- those of the sets so far are there
abbrev pub invariant-loop-set : goal.invariant-loop-set
invariant-loop-set l = l.list.items ≡ map (λ (s : LinkSet). single.SetRestored s.id) (filter is_down (take l.set-index l.sets))
