use Rattle.std.proofs.Common.{◌≡◌, None, Some, sym, subst, ap, ◌∙◌}
use Rattle.net_data.specs.declared.events.Event.TheVariants.{Unpair}
use Rattle.net_data.specs.Network.{Network}
use Rattle.net_items.specs.Lookups.{mate_of}
use Rattle.net_data.specs.Edits.{refusal_of}
use Rattle.net_data.proofs.PairLemmas.{valid-Unpair, IsRising-set_mate, has_point-set_mate, mate_there}
use Rattle.net_data.proofs.nets.Net.unpair.Goals as goal

pub set_mate-requires-clause-there : goal.set_mate-requires-clause-there
set_mate-requires-clause-there c =
    let is_mate : mate_of c.self.inside.points.items c.args.p ≡ Some c.in-Some.mate = ap (λ (n : Network). mate_of n.points c.args.p) c.self.view_is ∙ (sym c.mate_of.ensures ∙ c.in-Some.is) in
    mate_there c.self.inside.points.items c.in-Some.mate c.args.p (c.self.invariant.mates c.args.p c.in-Some.mate is_mate).back

pub set_mate-requires-in-Some-clause-rising : goal.set_mate-requires-in-Some-clause-rising
set_mate-requires-in-Some-clause-rising c = rw c.set_mate.ensures (IsRising-set_mate c.in-Some.mate None c.self.inside.points.items c.self.invariant.points_rise)

pub set_mate-requires-in-Some-clause-there : goal.set_mate-requires-in-Some-clause-there
set_mate-requires-in-Some-clause-there c =
    let is_mate : mate_of c.self.inside.points.items c.args.p ≡ Some c.in-Some.mate = ap (λ (n : Network). mate_of n.points c.args.p) c.self.view_is ∙ (sym c.mate_of.ensures ∙ c.in-Some.is) in
    rw c.set_mate.ensures (has_point-set_mate c.in-Some.mate None c.self.inside.points.items c.args.p ∙ mate_there c.self.inside.points.items c.args.p c.in-Some.mate is_mate)

-- the edit was accepted
pub invariant_of-self : goal.invariant_of-self
invariant_of-self c =
    let none = subst (λ (n : Network). refusal_of n (Unpair c.args.p) ≡ None) (sym c.self.view_is) c.requires in
    let is_mate : mate_of c.self.inside.points.items c.args.p ≡ Some c.in-Some.mate = ap (λ (n : Network). mate_of n.points c.args.p) c.self.view_is ∙ (sym c.mate_of.ensures ∙ c.in-Some.is) in
    rw (c.set_mate-in-Some.ensures, c.set_mate.ensures) (valid-Unpair _ c.self.invariant c.args.p c.in-Some.mate is_mate none)
