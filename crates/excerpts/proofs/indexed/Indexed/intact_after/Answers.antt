use Rattle.std.proofs.Common.{◌≡◌, ℕ, [], List, IfOk, true, false, ap, sym, ◌∙◌, refl, subst, arith, length}
use Rattle.std.proofs.lemmas.Bool.{eqb-true}
use Rattle.std.proofs.lemmas.List.{nil_from_length}
use Rattle.std.proofs.lemmas.Result.{IfOk-weaker}
use Rattle.net_items.specs.declared.items.LinkSet.{LinkSet}
use Rattle.net_items.specs.Keyed.{IsRising}
use Rattle.net_data.specs.Network.{Network}
use Rattle.net_data.specs.Edits.{replay}
use Rattle.excerpts.specs.declared.turned.Pair.{Pair}
use Rattle.excerpts.specs.Intact.{TellIntact}
use Rattle.excerpts.specs.Turned.{is_named, ArePairsTurned, HasTold}
use Rattle.excerpts.proofs.IntactLemmas.{intact_stays}
use Rattle.excerpts.proofs.LinkedLemmas.{ends_after, named_turned}
use Rattle.excerpts.proofs.indexed.Indexed.intact_after.Goals as goal

pub turned_among-requires-clause-rising : goal.turned_among-requires-clause-rising
turned_among-requires-clause-rising c = subst (IsRising (λ (s : LinkSet). s.id)) (sym c.sets.ensures) c.validity.ensures.sets_rise

pub turned_among-requires-clause-before : goal.turned_among-requires-clause-before
turned_among-requires-clause-before c = subst (IsRising (λ (s : LinkSet). s.id)) (sym c.sets-2.ensures) c.validity-2.ensures.sets_rise

-- no set turned
pub returns-then-is_empty : goal.returns-then-is_empty
returns-then-is_empty c =
    let old : Network = c.self.inside.net in
    let new : Network = c.args.net.now in
    let made : new ≡ replay old c.args.events.now = c.requires.made ∙ ap (λ (n : Network). replay n c.args.events.now) (sym c.self.view_is) in
    let none : c.in_ok-turned.turned.items ≡ [] = nil_from_length c.in_ok-turned.turned.items (omega (arith, eqb-true _ _ (sym c.is_empty.ensures ∙ c.if-is_empty.true))) in
    let told : (id : ℕ) → is_named c.args.events.now id ≡ true → HasTold old.sets new.sets [] id
    = subst (λ (sets : List LinkSet). (id : ℕ) → is_named c.args.events.now id ≡ true → HasTold old.sets sets [] id) c.sets.ensures
    (subst (λ (sets : List LinkSet). (id : ℕ) → is_named c.args.events.now id ≡ true → HasTold sets c.sets.result.now [] id) c.sets-2.ensures
    (subst (λ (list : List Pair). (id : ℕ) → is_named c.args.events.now id ≡ true → HasTold c.sets-2.result.now c.sets.result.now list id) none c.in_ok-turned.ensures)) in
    let same : ArePairsTurned old.sets new.sets [] = named_turned old new c.args.events.now [] made c.requires.links c.validity-2.ensures.sets_rise c.validity.ensures.sets_rise told in
    IfOk-weaker c.share.result _ _
    (λ intact is. subst (TellIntact new.sets) (sym is) (intact_stays old.sets new.sets _ (ends_after old new c.args.events.now made c.requires.links) (λ y z. same y z refl) c.self.invariant.intact))
    c.share.ensures

pub returns : goal.returns
returns c = subst (λ (sets : List LinkSet). IfOk c.of.result (TellIntact sets)) c.sets-3.ensures c.of.ensures
