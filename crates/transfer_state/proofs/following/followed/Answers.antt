use Rattle.std.proofs.Common.{◌∷◌, List, ℕ, length, sym, ap, ◌∙◌, subst}
use Rattle.std.proofs.lemmas.List.{with_items_is}
use Rattle.excerpts.specs.Excerpt.{source_of}
use Rattle.transfer_state.specs.Following.{ObeysBut}
use Rattle.transfer_state.specs.Kept.{KeptValue}
use Rattle.transfer_state.proofs.FollowLemmas.{none_left, mark_taken}
use Rattle.transfer_state.proofs.following.followed.Goals as goal

pub returns-in_default : goal.returns-in_default
returns-in_default c =
    none_left c.args.e.now c.validity.ensures c.loop.choices.items c.loop.invariant.together (subst (λ (marks : List ℕ). ObeysBut (source_of c.args.e.now) c.loop.choices.items marks) c.in_default.ensures.none c.loop.invariant.obey)

-- the row whose mark was taken out is the one that doesn't obey
pub choose_anew-requires-clause-obey : goal.choose_anew-requires-clause-obey
choose_anew-requires-clause-obey c =
    subst (λ (choices : List KeptValue). ObeysBut (source_of c.args.e.now) choices (c.in-Some.position ∷ c.take_least.new.marks.items)) (sym c.deref_mut.ensures.value)
    (mark_taken c.args.e.now c.validity.ensures c.loop.choices.items c.loop.marks.items c.take_least.new.marks.items c.in-Some.position c.in-Some.ensures.some c.loop.invariant.obey)

pub loop-preserved : goal.loop-preserved
loop-preserved c =
    let items = with_items_is c.loop.choices c.choose_anew.new.choices (c.choose_anew.auto.choices ∙ c.deref_mut.ensures.len) in
    record {
      together = ap (length {A = KeptValue}) items ∙ c.choose_anew.ensures.together;
      within = c.in_ok-choose_anew.ensures.within;
      obey = subst (λ (choices : List KeptValue). ObeysBut (source_of c.args.e.now) choices c.choose_anew.new.marks.items) (sym items) c.in_ok-choose_anew.ensures.obey;
    }
