use Rattle.std.proofs.Common.{ℕ, ◌<◌, List, length, take, ap, sym, subst, ◌∙◌, refl}
use Rattle.net_items.specs.declared.lists.Row.{Row}
use Rattle.net_sheets.specs.Events.{unranked}
use Rattle.net_sheets.proofs.GivenLemmas.{ranks_more, same_more}
use Rattle.net_sheets.proofs.given.ranked_plans.Goals as goal

pub loop-position-preserved : goal.loop-position-preserved
loop-position-preserved c =
    let at = c.loop-position in
    let here = subst (λ (n : ℕ). at.position < n) c.len-position-end.ensures c.loop-position-test.true in
    record {
      same = same_more at.ranked.items c.push.new.list.items c.args.plans.now c.in-Ok.next at.position c.at-plan.result.now here at.invariant.same c.in_ok-push-in-Ok.ensures (c.in-Ok.ensures.same ∙ ap unranked c.at-plan.ensures);
      told = ranks_more at.ranked.items c.push.new.list.items c.in-Ok.next at.rest.now _ c.args.ranks.now (length c.as_slice.result.now) at.invariant.told c.in_ok-push-in-Ok.ensures (c.in-Ok.ensures.told ∙ ap (λ (rows : List Row). take (length rows) at.rest.now) (sym c.as_slice.ensures)) refl;
    }
