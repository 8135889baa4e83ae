use Rattle.std.proofs.Common.{◌≡◌, arith, ap, sym, ◌∙◌, Some, length, subst, refl, inl, inr, true}
use Rattle.std.specs.Prelude.{slice_get}
use Rattle.std.proofs.lemmas.Bool.{cases_eq}
use Rattle.std.proofs.lemmas.Option.{slice_get_read, same_Some, slice_get_within}
use Rattle.net_items.specs.declared.items.LinkSet.{LinkSet}
use Rattle.net_items.specs.Lookups.{joins}
use Rattle.link_sets.proofs.NeighbourLemmas.{next_is}
use Rattle.link_sets.proofs.neighbours.next_neighbour.Goals as goal

pub loop-i-preserved : goal.loop-i-preserved
loop-i-preserved c =
    let at : slice_get c.args.sets.now c.loop-i.i ≡ Some c.index-sets-i.result
    = slice_get_read c.args.sets.now (length c.args.sets.now) c.loop-i.i c.index-sets-i.result refl (omega arith) c.index-sets-i.is in
    record {
      near = c.earlier-least.ensures.near;
      before = λ k w set low there j late joined.
          elim (cases_eq k c.loop-i.i) [
            | inl e ↦
                let same : c.index-sets-i.result ≡ set = same_Some c.index-sets-i.result set (sym at ∙ ap (slice_get c.args.sets.now) (sym e) ∙ there) in
                c.earlier-least.ensures.here w (subst (λ (s : LinkSet). joins c.args.point w s ≡ true) (sym same) j) late joined
            | inr ne ↦ c.earlier-least.ensures.kept w (c.loop-i.invariant.before k w set (omega arith) there j late joined)
          ];
    }

pub returns-clause-value : goal.returns-clause-value
returns-clause-value c =
    next_is c.args.sets.now c.args.point c.args.from c.loop-i.least c.loop-i.invariant.near
    (λ k w set there j late joined. c.loop-i.invariant.before k w set (omega (arith, slice_get_within c.args.sets.now k set there, c.loop-i-test.false)) there j late joined)
