use Rattle.std.proofs.Common.{◌≡◌, ◌∙◌, ℕ, List, true, ap, sym, subst}
use Rattle.net_items.specs.declared.items.LinkSet.{LinkSet}
use Rattle.net_items.specs.Keyed.{IsRising}
use Rattle.net_data.specs.Network.{Network}
use Rattle.excerpts.specs.Turned.{is_named, HasTold}
use Rattle.excerpts.proofs.LinkedLemmas.{named_turned}
use Rattle.excerpts.proofs.turned.turned_pairs.Goals as goal

pub turned_among-requires-clause-rising : goal.turned_among-requires-clause-rising
turned_among-requires-clause-rising c = subst (IsRising (λ (s : LinkSet). s.id)) (sym (c.sets.ensures ∙ ap (λ (n : Network). n.sets) c.net.ensures)) c.validity.ensures.sets_rise

pub turned_among-requires-clause-before : goal.turned_among-requires-clause-before
turned_among-requires-clause-before c = subst (IsRising (λ (s : LinkSet). s.id)) (sym (c.sets-then-are_few_links.ensures ∙ ap (λ (n : Network). n.sets) c.net-then-are_few_links.ensures)) c.validity-2.ensures.sets_rise

pub returns-then-are_few_links : goal.returns-then-are_few_links
returns-then-are_few_links c y z lacks =
    let told : (id : ℕ) → is_named c.args.events.now id ≡ true → HasTold c.args.before.now.sets c.args.net.now.sets c.in_ok-list.list.items id
    = subst (λ (sets : List LinkSet). (id : ℕ) → is_named c.args.events.now id ≡ true → HasTold c.args.before.now.sets sets c.in_ok-list.list.items id) (c.sets.ensures ∙ ap (λ (n : Network). n.sets) c.net.ensures)
    (subst (λ (before : List LinkSet). (id : ℕ) → is_named c.args.events.now id ≡ true → HasTold before c.sets.result.now c.in_ok-list.list.items id) (c.sets-then-are_few_links.ensures ∙ ap (λ (n : Network). n.sets) c.net-then-are_few_links.ensures) c.in_ok-list.ensures) in
    named_turned c.args.before.now c.args.net.now c.args.events.now c.in_ok-list.list.items c.requires (c.are_few_links.ensures c.if-are_few_links.true)
    c.validity-2.ensures.sets_rise c.validity.ensures.sets_rise told y z lacks
