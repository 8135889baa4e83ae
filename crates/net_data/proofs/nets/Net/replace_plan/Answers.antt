use Rattle.std.proofs.Common.{◌≡◌, ◌∙◌, None, ap, sym, subst, List}
use Rattle.net_items.specs.declared.items.Plan.{Plan}
use Rattle.net_items.specs.Keyed.{put}
use Rattle.net_data.specs.declared.events.Event.TheVariants.{SetPlan}
use Rattle.net_data.specs.Network.{Network}
use Rattle.net_data.specs.Valid.{IsValid}
use Rattle.net_data.specs.Edits.{refusal_of, in_order}
use Rattle.net_data.proofs.PreservationLemmas.{valid-SetPlan}
use Rattle.net_data.proofs.nets.Net.replace_plan.Goals as goal

-- the edit was accepted
pub invariant_of-self : goal.invariant_of-self
invariant_of-self c =
    let given = c.args.given.now in
    let net : Network = record { ni = c.self.inside.ni; tfr = c.self.inside.tfr; points = c.self.inside.points.items; sets = c.self.inside.sets; plans = c.self.inside.plans } in
    let none : refusal_of net (SetPlan given) ≡ None = subst (λ (n : Network). refusal_of n (SetPlan given) ≡ None) (sym c.self.view_is) c.requires.accepted in
    let plans : c.replace.new.self ≡ put (λ (p : Plan). p.dest) (record given { rows = in_order given.rows }) c.self.inside.plans
    = c.replace.ensures ∙ ap (λ (p : Plan). put (λ (q : Plan). q.dest) p c.self.inside.plans) c.requires.kept in
    subst (λ (ps : List Plan). IsValid (record net { plans = ps })) (sym plans) (valid-SetPlan net c.self.invariant given none)
