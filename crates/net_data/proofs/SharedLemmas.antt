-- What goes over shared values goes over the values.
use Rattle.std.proofs.Common.{◌≡◌, List, [], ◌∷◌, Option, map, ap}
use Rattle.std.specs.declared.sync.Arc.{Arc}
use Rattle.std.proofs.iter.Yields.{fronts}
use Rattle.std.proofs.lemmas.Iterator.{YieldsList, YieldsList-from_slice}
use Rattle.std.specs.Arc.{arc_value}
use Rattle.std.specs.Iterator.{AlwaysYields}
use Rattle.std.specs.Slice.Iter.{iter_rest}

shown : {S A B C : Type 0} (steps : S → Option A → S → Type 0) (v : A → B) (h : B → C) (s : S) (ys : List B) → AlwaysYields steps v s ys → AlwaysYields steps (λ x. h (v x)) s (map h ys)
shown steps v h s [] e = e
shown steps v h s (y ∷ ys) e = (e.0, λ x j k. (ap h (e.1 x j k).0, shown steps v h j ys (e.1 x j k).1))

-- an iterator over shared values gives the values
pub YieldsList-from_shared : {X Z : Type 0} {s : _} (xs : List (Arc X Z)) → iter_rest s ≡ xs → YieldsList fronts (λ y. arc_value y.now) s (map arc_value xs)
YieldsList-from_shared {s = s} xs e = record { runs = shown fronts (λ y. y.now) arc_value s xs (YieldsList-from_slice xs e).runs }
