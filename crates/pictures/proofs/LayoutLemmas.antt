-- The most end points of a pair, pair by pair.
use Rattle.std.proofs.Common.{◌≡◌, ℕ, ◌+◌, ◌<◌, List, Some, get_or, length, max, take}
use Rattle.std.proofs.lemmas.List.Sums.{fold_more}
use Rattle.pictures.specs.declared.stands.Stand.{Stand}
use Rattle.pictures.specs.Layout.{end_count, most_ends}

-- one more pair may have more
pub most_more : (stands : List Stand) (hubs : List ℕ) (i d : ℕ) → i < length hubs → most_ends stands (take (i + 1) hubs) ≡ max (most_ends stands (take i hubs)) (end_count stands (Some (get_or hubs i d)))
most_more stands hubs i d h = fold_more (λ most h. max most (end_count stands (Some h))) 0 hubs i d h

-- the step of a loop over the pairs
pub most_step : (stands : List Stand) (hubs : List ℕ) (i hub most count new : ℕ) → i < length hubs → hub ≡ get_or hubs i hub → most ≡ most_ends stands (take i hubs) → count ≡ end_count stands (Some hub) → new ≡ max most count → new ≡ most_ends stands (take (i + 1) hubs)
most_step stands hubs i hub most count new within there before counted is = let more = most_more stands hubs i hub within in cc
