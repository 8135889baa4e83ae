use Rattle.std.proofs.Common.{ℕ, ◌≡◌, ◌++◌, ◌∷◌, [], true, take, ap, sym, subst, ◌∙◌}
use Rattle.std.proofs.lemmas.List.{take_more}
use Rattle.net_sets.specs.Sets.{is_distinct}
use Rattle.plan_rows.proofs.SeenLemmas.{is_distinct-push}
use Rattle.net_data.specs.Edits.{apply_all}
use Rattle.net_sheets.specs.Events.{bare_events}
use Rattle.net_sheets.specs.Faults.{IsOneBareFault}
use Rattle.net_sheets.proofs.BuildingLemmas.{apply_more}
use Rattle.net_sheets.proofs.FaultLemmas.{bare_refused}
use Rattle.net_sheets.proofs.bare.add_bare.Goals as goal

pub loop-i-preserved : goal.loop-i-preserved
loop-i-preserved c =
    let i : ℕ = c.loop-i.i in
    let d : ℕ = c.index-bare-i.result in
    let bare = c.args.bare.now in
    let next = take_more bare i d c.loop-i-test.true ∙ ap (λ (z : ℕ). take i bare ++ z ∷ []) (sym c.index-bare-i.is) in
    record {
      apart = subst (λ xs. is_distinct xs ≡ true) (sym next) (is_distinct-push (take i bare) d c.loop-i.invariant.apart c.in_default.ensures.fresh);
      applied = apply_more bare_events c.loop-i.net c.add_one.new.net bare i d _ c.loop-i-test.true (ap (λ (z : ℕ). apply_all c.loop-i.net (bare_events z)) (sym c.index-bare-i.is) ∙ c.in_default.ensures.ok.all) c.loop-i.invariant.applied;
    }

pub returns-in-Err-clause-err : goal.returns-in-Err-clause-err
returns-in-Err-clause-err c =
    bare_refused c.args.net.now c.loop-i.net c.args.bare.now c.loop-i.i c.index-bare-i.result c.in-Err.reason c.loop-i-test.true (subst (λ (z : ℕ). IsOneBareFault c.loop-i.net z c.in-Err.reason) c.index-bare-i.is c.in-Err.ensures.err) c.loop-i.invariant.applied
