use Rattle.std.proofs.Common.{◌≡◌, ◌∙◌, ◌++◌, ◌∷◌, [], ℕ, List, ap, rules}
use Rattle.std.proofs.lemmas.Slice.Zip.{Zip-more, either_empty_from_Zip}
use Rattle.std.specs.Iterator.Adapters.{zip_first, zip_second}
use Rattle.std.specs.Slice.Iter.{iter_rest}
use Rattle.answers.specs.Who.{seat_count, seat_counts}
use Rattle.answers.proofs.WhoLemmas.{paired_all, paired_more}
use Rattle.answers.proofs.who.name_counts.Goals as goal

pub loop-name-init : goal.loop-name-init
loop-name-init c =
    let zip = c.into_iter-name-iterator.ensures.into_iter_gives in
    let first : iter_rest (zip_first c.into_iter-name-iterator.result) ≡ c.args.names.now = search rules in
    let second : iter_rest (zip_second c.into_iter-name-iterator.result) ≡ c.args.counts.now = search rules in
    λ i. c.new-list.ensures.items i ++ seat_counts (first i) (second i)

pub loop-name-preserved : goal.loop-name-preserved
loop-name-preserved c =
    let turn = Zip-more c.loop-name.name-iterator c.next.new.self c.next.result (c.in-Some.name, c.in-Some.events) c.in-Some.is c.next.ensures.steps in
    paired_more _ _ _ _ _ _ _ _ _ turn.0 turn.1 c.loop-name.invariant
    (c.in_ok-push.ensures.items ∙ ap (λ (name : List ℕ). c.loop-name.list.items ++ seat_count (name, c.in-Some.events.now) ∷ []) c.in_ok-copy.ensures)

pub returns : goal.returns
returns c = paired_all _ _ _ _ c.loop-name.invariant (either_empty_from_Zip c.loop-name.name-iterator c.next.new.self c.next.result c.in-None.is c.next.ensures.steps)
