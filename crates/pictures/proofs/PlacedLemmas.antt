-- The sets at their places, one by one.
use Rattle.std.proofs.Common.{◌≡◌, ℕ, ◌+◌, ◌<◌, List, [], ◌∷◌, ◌++◌, get_or, length, take}
use Rattle.std.proofs.lemmas.List.Sums.{fold_more}
use Rattle.pictures.specs.declared.drawn.DrawnSet.{DrawnSet}
use Rattle.pictures.specs.declared.frame.Canvas.{Canvas}
use Rattle.pictures.specs.declared.places.Place.{Place}
use Rattle.pictures.specs.Curves.{TriesValue}
use Rattle.pictures.specs.Labels.{placed_by, placed_set}

-- one more set comes after those before it
pub placed_more : (tries : TriesValue) (canvas : Canvas) (places : List Place) (sets : List DrawnSet) (i : ℕ) (d : DrawnSet) → i < length sets
    → placed_by tries canvas places (take (i + 1) sets) ≡ placed_by tries canvas places (take i sets) ++ (placed_set tries canvas places (placed_by tries canvas places (take i sets)) (get_or sets i d) ∷ [])
placed_more tries canvas places sets i d h = fold_more (λ done set. done ++ (placed_set tries canvas places done set ∷ [])) [] sets i d h
