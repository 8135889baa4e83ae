-- What is told towards each destination, plan by plan, where both networks have the same plans.
use Rattle.std.proofs.Common.{◌≡◌, ℕ, zero, suc, ◌<◌, ◌++◌, List, [], ◌∷◌, Option, Some, map, refl, sym, ap, ◌∙◌, length, get_or, arith}
use Rattle.std.specs.List.{flat_map}
use Rattle.std.specs.Option.{option_map}
use Rattle.std.proofs.lemmas.List.{get_or_default, set-get_or}
use Rattle.net_items.specs.declared.items.Plan.{Plan}
use Rattle.net_items.specs.Keyed.{IsRising, put}
use Rattle.net_items.specs.Lookups.{plan_at}
use Rattle.net_items.proofs.KeyedLemmas.{found_here}
use Rattle.net_data.specs.Network.{Network}
use Rattle.excerpts.specs.Excerpt.{ExcerptValue, excerpt_at, excerpt_in}
use Rattle.excerpts.proofs.PlaceLemmas.{found_in_place}
use Rattle.what_if.specs.Reports.{Account, both, dests, each_dest, each_point, told_of_plan}
use Rattle.what_if.proofs.GatheringLemmas.{dests_rise}

-- a code that is there is put where it is
put_there : (ys : List ℕ) (i d : ℕ) → IsRising (λ n. n) ys → i < length ys → put (λ n. n) (get_or ys i d) ys ≡ ys
put_there ys i d rising within =
    sym ((found_here (λ n. n) (get_or ys i d) ys i rising within (λ e. get_or_default ys i e d within)).replaces (get_or ys i d) refl) ∙ set-get_or ys i d

-- codes that are all there add nothing
both_there : (xs ys : List ℕ) → ((i d : ℕ) → i < length xs → put (λ n. n) (get_or xs i d) ys ≡ ys) → both xs ys ≡ ys
both_there [] ys there = refl
both_there (x ∷ xs) ys there = ap (both xs) (there 0 x (omega arith)) ∙ both_there xs ys (λ i d within. there (suc i) d (omega arith))

both_same : (xs : List ℕ) → IsRising (λ n. n) xs → both xs xs ≡ xs
both_same xs rising = both_there xs xs (λ i d within. put_there xs i d rising within)

-- what is told of places, by the destinations in them
by_places : {X : Type 0} (g : ℕ → List X) (f : Plan → List X) (plans : List Plan) → ((i : ℕ) (d : Plan) → i < length plans → g (get_or plans i d).dest ≡ f (get_or plans i d)) → flat_map f plans ≡ flat_map g (map (λ (p : Plan). p.dest) plans)
by_places g f [] same = refl
by_places {X} g f (p ∷ plans) same =
    ap (λ (first : List X). first ++ flat_map f plans) (sym (same 0 p (omega arith)))
    ∙ ap (λ (rest : List X). g p.dest ++ rest) (by_places g f plans (λ i d within. same (suc i) d (omega arith)))

module _ {X : Type 0} (tell : Account X) (old new : Network) (rising : IsRising (λ (p : Plan). p.dest) new.plans) (same : new.plans ≡ old.plans) where
  -- the plan of a destination stands in both
  there : (i : ℕ) (d : Plan) → i < length new.plans → each_point tell (excerpt_at old (get_or new.plans i d).dest) (excerpt_at new (get_or new.plans i d).dest) (get_or new.plans i d).dest ≡ told_of_plan tell old new (get_or new.plans i d)
  there i d within =
      let plan : Plan = get_or new.plans i d in
      let found : plan_at new.plans plan.dest ≡ Some plan = found_in_place (λ (p : Plan). p.dest) new.plans i d rising within in
      let before : excerpt_at old plan.dest ≡ Some (excerpt_in old plan) = ap (λ (plans : List Plan). option_map (excerpt_in old) (plan_at plans plan.dest)) (sym same) ∙ ap (option_map (excerpt_in old)) found in
      ap (λ (o : Option ExcerptValue). each_point tell o (excerpt_at new plan.dest) plan.dest) before
      ∙ ap (λ (o : Option ExcerptValue). each_point tell (Some (excerpt_in old plan)) o plan.dest) (ap (option_map (excerpt_in new)) found)

  -- what is told of all plans is told of all destinations
  pub each_planned : flat_map (told_of_plan tell old new) new.plans ≡ each_dest tell old new
  each_planned =
      by_places (λ x. each_point tell (excerpt_at old x) (excerpt_at new x) x) (told_of_plan tell old new) new.plans there
      ∙ ap (flat_map (λ x. each_point tell (excerpt_at old x) (excerpt_at new x) x))
      (sym (both_same (dests new) (dests_rise new rising)) ∙ ap (λ (plans : List Plan). both (map (λ (p : Plan). p.dest) plans) (dests new)) same)
