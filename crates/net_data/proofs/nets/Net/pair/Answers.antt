use Rattle.std.proofs.Common.{◌≡◌, true, None, Some, sym, subst, ◌∙◌}
use Rattle.net_data.specs.declared.events.Event.TheVariants.{Pair}
use Rattle.net_data.specs.Network.{Network}
use Rattle.net_items.specs.Lookups.{has_point}
use Rattle.net_data.specs.Edits.{refusal_of}
use Rattle.net_data.proofs.PairLemmas.{valid-Pair, IsRising-set_mate, has_point-set_mate, pair_there}
use Rattle.net_data.proofs.nets.Net.pair.Goals as goal

pub set_mate-requires-2-clause-rising : goal.set_mate-requires-2-clause-rising
set_mate-requires-2-clause-rising c = rw c.set_mate.ensures (IsRising-set_mate c.args.q (Some c.args.p) c.self.inside.points.items c.self.invariant.points_rise)

pub set_mate-requires-2-clause-there : goal.set_mate-requires-2-clause-there
set_mate-requires-2-clause-there c =
    let there = subst (λ (n : Network). has_point n.points c.args.p ≡ true) (sym c.self.view_is) (pair_there c.args.self.now c.args.p c.args.q c.requires) in
    rw c.set_mate.ensures (has_point-set_mate c.args.q (Some c.args.p) c.self.inside.points.items c.args.p ∙ there)

-- the edit was accepted
pub invariant_of-self : goal.invariant_of-self
invariant_of-self c =
    let none = subst (λ (n : Network). refusal_of n (Pair c.args.p c.args.q) ≡ None) (sym c.self.view_is) c.requires in
    rw (c.set_mate-2.ensures, c.set_mate.ensures) (valid-Pair _ c.self.invariant c.args.p c.args.q none)
