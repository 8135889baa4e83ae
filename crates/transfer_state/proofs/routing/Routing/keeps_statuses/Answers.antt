use Rattle.std.proofs.Common.{◌≡◌, Bool, true, false, not, refl, ap, sym, ◌∙◌, subst}
use Rattle.transfer_state.specs.Following.{KeepsStatuses}
use Rattle.transfer_state.specs.Routing.{ChoicesValue, RoutingValue}
use Rattle.transfer_state.proofs.FollowLemmas.{keeps_statuses}
use Rattle.transfer_state.proofs.routing.Routing.keeps_statuses.Goals as goal

none : (b : Bool) → not b ≡ true → b ≡ false
none true e = cc
none false e = refl

pub returns-clause-stay : goal.returns-clause-stay
returns-clause-stay c = λ kept.
    subst (λ (r : RoutingValue). KeepsStatuses r c.args.turned.now) c.self.view_is
    (keeps_statuses c.self.inside.excerpt c.self.inside.choices.now.kept c.args.turned.now c.validity.ensures (ap (λ (k : ChoicesValue). k.kept) c.self.invariant) (sym c.rests_on_any.ensures ∙ none c.rests_on_any.result kept))
