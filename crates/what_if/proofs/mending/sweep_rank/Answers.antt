use Rattle.std.proofs.Common.{◌≡◌, ◌∙◌, ◌+◌, List, Some, arith, ap, length, refl, subst, sym}
use Rattle.std.specs.Prelude.{slice_get}
use Rattle.std.proofs.lemmas.Option.{slice_get_read}
use Rattle.net_items.specs.declared.lists.Row.{Row}
use Rattle.profile.specs.Valid.{IsValidSource}
use Rattle.profile.proofs.PlacingLemmas.{row_at_place}
use Rattle.excerpts.specs.Excerpt.{ExcerptValue, source_of}
use Rattle.what_if.specs.declared.mending.Mends.{Mends}
use Rattle.what_if.proofs.MendingLemmas.{IsMended, mended_more, mended_past, mended_all}
use Rattle.what_if.proofs.mending.sweep_rank.Goals as goal
use Rattle.what_if.proofs.mending.sweep_rank.Goals.{then-row-rank+in_ok-mend, else-row-rank}

pub point_mend-requires-clause-row : goal.point_mend-requires-clause-row
point_mend-requires-clause-row c =
    let at : slice_get c.args.routing.now.excerpt.plan.rows c.loop-i.i ≡ Some c.index-rows-i.result
    = ap (λ (rows : List Row). slice_get rows c.loop-i.i) (sym c.rows_of-rows.ensures)
    ∙ slice_get_read c.rows_of-rows.result.now (length c.rows_of-rows.result.now) c.loop-i.i c.index-rows-i.result refl (omega arith) c.index-rows-i.is in
    let valid : IsValidSource (source_of c.args.routing.now.excerpt) = subst (λ (x : ExcerptValue). IsValidSource (source_of x)) c.excerpt.ensures c.validity.ensures.valid in
    row_at_place (source_of c.args.routing.now.excerpt) valid c.loop-i.i c.index-rows-i.result at

pub loop-i-preserved : goal.loop-i-preserved
loop-i-preserved c =
    let at : slice_get c.args.routing.now.excerpt.plan.rows c.loop-i.i ≡ Some c.index-rows-i.result
    = ap (λ (rows : List Row). slice_get rows c.loop-i.i) (sym c.rows_of-rows.ensures)
    ∙ slice_get_read c.rows_of-rows.result.now (length c.rows_of-rows.result.now) c.loop-i.i c.index-rows-i.result refl (omega arith) c.index-rows-i.is in
    let src = source_of c.args.routing.now.excerpt in
    let old = c.loop-i.mends in
    elim c.if-row-rank.branch [
      | then-row-rank+in_ok-mend w ↦
          let more = mended_more src old.wanted old.list.items c.args.rank c.loop-i.i c.index-rows-i.result w.in_ok-mend.mend at w.if-row-rank.true w.in_ok-mend.ensures c.loop-i.invariant.so_far in
          let put = subst (λ items. IsMended src old.wanted items c.args.rank (c.loop-i.i + 1)) (sym w.put.ensures.list) more in
          record {
            same = ap (λ (m : Mends). m.wanted) w.mends-is ∙ (w.put.ensures.wanted ∙ c.loop-i.invariant.same);
            so_far = subst (λ (m : Mends). IsMended src m.wanted m.list.items c.args.rank (c.loop-i.i + 1)) (sym w.mends-is)
                (subst (λ wanted. IsMended src wanted w.put.new.self.list.items c.args.rank (c.loop-i.i + 1)) (sym w.put.ensures.wanted) put);
          }
      | else-row-rank w ↦
          let more = mended_past src old.wanted old.list.items c.args.rank c.loop-i.i c.index-rows-i.result at w.if-row-rank.false c.loop-i.invariant.so_far in
          record {
            same = ap (λ (m : Mends). m.wanted) w.mends-is ∙ c.loop-i.invariant.same;
            so_far = subst (λ (m : Mends). IsMended src m.wanted m.list.items c.args.rank (c.loop-i.i + 1)) (sym w.mends-is) more;
          }
    ]

pub returns-clause-below : goal.returns-clause-below
returns-clause-below c =
    let count = ap (length {A = Row}) c.rows_of-rows.ensures in
    mended_all (source_of c.args.routing.now.excerpt) c.loop-i.mends.wanted c.loop-i.mends.list.items c.args.rank c.loop-i.i c.loop-i.invariant.so_far (omega (arith, count, c.loop-i-test.false))
