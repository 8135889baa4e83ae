use Rattle.std.proofs.Common.{◌≡◌, ◌∙◌, ◌+◌, ◌∷◌, [], ℕ, true, false, sym, ap, subst, not, length, length-append, List, arith}
use Rattle.net_items.specs.declared.links.Link.{Link}
use Rattle.net_items.specs.Links.{has_bit, link_in, link_available, IsMask, IsWithBit}
use Rattle.net_items.proofs.LinkLemmas.{links_to, links_to_none, links_to_few, links_to_all, links_to_with, links_to_without}
use Rattle.net_items.proofs.MaskLemmas.{mask_first, mask_more, links_to_last}
use Rattle.net_items.proofs.links.Links.mask.Goals as goal
use Rattle.net_items.proofs.links.Links.mask.Goals.{then-is_set, else-is_set}

pub returns-then-self-slc-eq0 : goal.returns-then-self-slc-eq0
returns-then-self-slc-eq0 c =
    subst (λ (ls : List Link). IsMask ls c.loop-slc.mask)
    (links_to_last c.self.inside.there c.self.inside.marked c.loop-slc.slc c.loop-slc-test.true c.if-self-slc-eq0.true ∙ c.self.view_is)
    c.loop-slc.invariant.mask

pub loop-slc-init : goal.loop-slc-init
loop-slc-init c = record {
  position = ap (length {A = Link}) (links_to_none c.self.inside.there c.self.inside.marked);
  mask = mask_first c.self.inside.there c.self.inside.marked;
}

pub with_bit-mask-requires : goal.with_bit-mask-requires
with_bit-mask-requires c = omega (arith, c.loop-slc.invariant.position, links_to_few c.self.inside.there c.self.inside.marked c.loop-slc.slc, c.loop-slc-test.true)

pub overflow_add-position : goal.overflow_add-position
overflow_add-position c = omega (arith, c.loop-slc.invariant.position, links_to_few c.self.inside.there c.self.inside.marked c.loop-slc.slc, c.loop-slc-test.true)

pub loop-slc-preserved : goal.loop-slc-preserved
loop-slc-preserved c = elim c.if-is_set.branch [
  | then-is_set w ↦
      let up : has_bit c.self.inside.there c.loop-slc.slc ≡ true = sym c.is_set.ensures ∙ w.if-is_set.true in
      let more = links_to_with c.self.inside.there c.self.inside.marked c.loop-slc.slc up in
      let clear : not w.is_set-then-is_set.result ≡ link_available (link_in c.self.inside.marked c.loop-slc.slc) = ap not w.is_set-then-is_set.ensures ∙ c.any-marked.ensures c.loop-slc.slc in
      record {
        position = omega (arith, w.position-is, c.loop-slc.invariant.position, ap (length {A = Link}) more, length-append (links_to c.self.inside.there c.self.inside.marked c.loop-slc.slc) (link_in c.self.inside.marked c.loop-slc.slc ∷ []));
        mask =
            subst (λ (bits : ℕ). IsMask (links_to c.self.inside.there c.self.inside.marked (c.loop-slc.slc + 1)) bits) (sym w.mask-is)
            (subst (λ (ls : List Link). IsMask ls w.with_bit-mask.result) more
            (mask_more (links_to c.self.inside.there c.self.inside.marked c.loop-slc.slc) (link_in c.self.inside.marked c.loop-slc.slc) c.loop-slc.mask w.with_bit-mask.result (not w.is_set-then-is_set.result) c.loop-slc.invariant.mask
            (subst (λ (k : ℕ). IsWithBit c.loop-slc.mask k (not w.is_set-then-is_set.result) w.with_bit-mask.result) c.loop-slc.invariant.position w.with_bit-mask.ensures) clear));
      }
  | else-is_set w ↦
      let down : has_bit c.self.inside.there c.loop-slc.slc ≡ false = sym c.is_set.ensures ∙ w.if-is_set.false in
      let same = links_to_without c.self.inside.there c.self.inside.marked c.loop-slc.slc down in
      record {
        position = w.position-is ∙ c.loop-slc.invariant.position ∙ ap (length {A = Link}) same;
        mask =
            subst (λ (bits : ℕ). IsMask (links_to c.self.inside.there c.self.inside.marked (c.loop-slc.slc + 1)) bits) (sym w.mask-is)
            (subst (λ (ls : List Link). IsMask ls c.loop-slc.mask) same c.loop-slc.invariant.mask);
      }
]

pub returns : goal.returns
returns c =
    subst (λ (ls : List Link). IsMask ls c.loop-slc.mask)
    (links_to_all c.self.inside.there c.self.inside.marked c.loop-slc.slc (omega arith) ∙ c.self.view_is)
    c.loop-slc.invariant.mask
