use Rattle.std.proofs.Common.{◌≡◌, ◌∙◌, ◌<◌, ℕ, List, Option, All, ap, map, subst, sym, length, get_or}
use Rattle.std.proofs.lemmas.List.Elements.{All-get_or}
use Rattle.excerpts.specs.Excerpt.{source_of}
use Rattle.what_if.specs.declared.mending.SetLink.{SetLink}
use Rattle.what_if.specs.Mending.{IsKnown, cheaper, classes_wanted, least_of, mend, over}
use Rattle.what_if.proofs.MendingLemmas.{class_more}
use Rattle.what_if.proofs.MendUnfoldingLemmas.{classes-wanted}
use Rattle.what_if.proofs.mending.over_vias.Goals as goal

pub add_class-requires-clause-known : goal.add_class-requires-clause-known
add_class-requires-clause-known c =
    let known = All-get_or (All (IsKnown (source_of c.args.excerpt.now) c.args.mends.now.wanted c.args.mends.now.list.items)) c.classes_wanted-vias-items.result.now c.loop-vias.vias-index c.vias-item.result c.loop-vias-test.true
    (subst (All (All (IsKnown (source_of c.args.excerpt.now) c.args.mends.now.wanted c.args.mends.now.list.items))) (sym c.classes_wanted-vias-items.ensures)
    (classes-wanted (IsKnown (source_of c.args.excerpt.now) c.args.mends.now.wanted c.args.mends.now.list.items) (source_of c.args.excerpt.now) c.args.mends.now.wanted c.args.row.now c.requires.known)) in
    subst (All (IsKnown (source_of c.args.excerpt.now) c.args.mends.now.wanted c.args.mends.now.list.items)) (sym (c.as_slice.ensures ∙ c.vias-item.is)) known

pub loop-vias-preserved : goal.loop-vias-preserved
loop-vias-preserved c =
    let F : ℕ → Option (List SetLink) = λ z. over (source_of c.args.excerpt.now) c.args.row.now.point z (mend (source_of c.args.excerpt.now) c.args.mends.now.wanted z) in
    let same : c.classes_wanted-vias-items.result.now ≡ (classes_wanted (source_of c.args.excerpt.now) c.args.mends.now.wanted c.args.row.now) = c.classes_wanted-vias-items.ensures in
    let low : c.loop-vias.vias-index < length (classes_wanted (source_of c.args.excerpt.now) c.args.mends.now.wanted c.args.row.now) = subst (λ (classes : List (List ℕ)). c.loop-vias.vias-index < length classes) same c.loop-vias-test.true in
    class_more F (classes_wanted (source_of c.args.excerpt.now) c.args.mends.now.wanted c.args.row.now) c.loop-vias.vias-index c.vias-item.result c.loop-vias.least c.add_class.new.least _ low
    (c.vias-item.is ∙ ap (λ (classes : List (List ℕ)). get_or classes c.loop-vias.vias-index c.vias-item.result) same)
    (c.in_ok-add_class.ensures ∙ ap (λ (vias : List ℕ). cheaper c.loop-vias.least (least_of (map F vias))) c.as_slice.ensures) c.loop-vias.invariant
