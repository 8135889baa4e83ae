use Rattle.std.proofs.Common.{◌≡◌, ◌<◌, ◌≤◌, refl, ap, sym, subst, ◌∙◌, ◌++◌, take, drop, suc, get_or, length, true, false, arith}
use Rattle.std.proofs.lemmas.List.{get_or-replicate, take_all}
use Rattle.net_items.specs.Lookups.{concat_vias}
use Rattle.net_sets.specs.Sets.{is_distinct}
use Rattle.plan_rows.specs.Seen.{IsSeen}
use Rattle.plan_rows.proofs.SeenLemmas.{concat_push, concat_split, is_distinct-more}
use Rattle.plan_rows.proofs.seen.are_vias_new.Goals as goal

pub loop-vias-init : goal.loop-vias-init
loop-vias-init c = record { long = refl; seen = λ z within. get_or-replicate 16384 z false false within; apart = refl }

pub loop-vias-preserved : goal.loop-vias-preserved
loop-vias-preserved c =
    let classes = c.args.row.now.classes in
    let i = c.loop-vias.vias-index in
    let within : i < length classes = rw c.as_slice-vias-items.ensures at c.loop-vias-test.true in
    let one : c.as_slice.result.now ≡ get_or classes i c.vias-item.result = c.as_slice.ensures ∙ (c.vias-item.is ∙ ap (λ xs. get_or xs i c.vias-item.result) c.as_slice-vias-items.ensures) in
    let more = concat_push classes i c.as_slice.result.now c.vias-item.result within one in
    record {
      long = omega arith;
      seen = subst (IsSeen c.see_all.new.seen) (sym more) (c.see_all.ensures.seen (concat_vias (take i classes)) c.loop-vias.invariant.seen c.if-not-see_all.false);
      apart = subst (λ xs. is_distinct xs ≡ true) (sym more) (c.see_all.ensures.new (concat_vias (take i classes)) c.loop-vias.invariant.seen c.loop-vias.invariant.apart ∙ c.if-not-see_all.false);
    }

pub returns-then-not-see_all : goal.returns-then-not-see_all
returns-then-not-see_all c =
    let classes = c.args.row.now.classes in
    let i = c.loop-vias.vias-index in
    let within : i < length classes = rw c.as_slice-vias-items.ensures at c.loop-vias-test.true in
    let one : c.as_slice.result.now ≡ get_or classes i c.vias-item.result = c.as_slice.ensures ∙ (c.vias-item.is ∙ ap (λ xs. get_or xs i c.vias-item.result) c.as_slice-vias-items.ensures) in
    sym (ap is_distinct (concat_split classes i c.as_slice.result.now c.vias-item.result within one)
    ∙ is_distinct-more (concat_vias (take i classes) ++ c.as_slice.result.now) (concat_vias (drop (suc i) classes)) (c.see_all.ensures.new (concat_vias (take i classes)) c.loop-vias.invariant.seen c.loop-vias.invariant.apart ∙ c.if-not-see_all.true))

pub returns : goal.returns
returns c =
    let classes = c.args.row.now.classes in
    let past : length classes ≤ c.loop-vias.vias-index = rw c.as_slice-vias-items.ensures at c.loop-vias-test.false in
    sym (ap (λ xs. is_distinct (concat_vias xs)) (sym (take_all c.loop-vias.vias-index classes past)) ∙ c.loop-vias.invariant.apart)
