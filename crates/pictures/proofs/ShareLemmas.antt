-- Counting the vias of signalling link selections one by one.
use Rattle.std.proofs.Common.{◌≡◌, ℕ, ◌+◌, Bool, cond, Option, map, zero-add}
use Rattle.std.proofs.lemmas.List.FromFn.{sum_by-map-range_with_len_more}
use Rattle.std.specs.List.{count_by, range_with_len}

-- one more selection counts if its via passes
pub share_more : (g : Option ℕ → Bool) (f : ℕ → Option ℕ) (n : ℕ) → count_by g (map f (range_with_len 0 (n + 1))) ≡ count_by g (map f (range_with_len 0 n)) + cond (g (f n)) 1 0
share_more g f n = sum_by-map-range_with_len_more (λ x. cond (g x) 1 0) f 0 n n (zero-add n)
