use Rattle.std.proofs.Common.{◌≡◌, [], List, IfOk, ap, sym, ◌∙◌, subst, arith, length}
use Rattle.std.proofs.lemmas.Bool.{eqb-true}
use Rattle.std.proofs.lemmas.List.{nil_from_length}
use Rattle.std.proofs.lemmas.Result.{IfOk-weaker}
use Rattle.net_data.specs.Network.{Network}
use Rattle.excerpts.specs.declared.turned.Ends.{Ends}
use Rattle.excerpts.specs.Turned.{HasTurned}
use Rattle.net_versions.specs.Versions.{VersionValue, all_choices}
use Rattle.net_versions.proofs.PlannedLemmas.{choices_stay}
use Rattle.net_versions.proofs.versions.Version.followed_choices.Goals as goal

-- no set turned, so all choices stay
pub returns-then-is_empty : goal.returns-then-is_empty
returns-then-is_empty c =
    let none : c.args.turned.now ≡ [] = nil_from_length c.args.turned.now (eqb-true _ _ (sym c.is_empty.ensures ∙ c.if-is_empty.true)) in
    let has : HasTurned c.self.inside.net c.args.net.now []
    = subst (λ (turned : List Ends). HasTurned c.self.inside.net c.args.net.now turned) none
    (subst (λ (old : Network). HasTurned old c.args.net.now c.args.turned.now) (sym (ap (λ (v : VersionValue). v.network) c.self.view_is)) c.requires) in
    IfOk-weaker c.try_clone.result _ _
    (λ kept is. ap (λ v. v.items) is ∙ c.self.invariant ∙ choices_stay c.self.inside.net c.args.net.now c.validity.ensures c.validity-then-is_empty.ensures has)
    c.try_clone.ensures
