-- Names and counts, pair by pair.
use Rattle.std.proofs.Common.{◌≡◌, ℕ, List, [], ◌∷◌, ◌++◌, inl, inr, refl, sym, ap, ◌∙◌, append-nil, append_assoc}
use Rattle.std.specs.Prelude.{◌⊎◌}
use Rattle.answers.specs.declared.who.SeatCount.{SeatCount}
use Rattle.answers.specs.Who.{seat_count, seat_counts}

-- where one of the lists has ended there is no pair
no_pairs : (names : List (List ℕ)) (counts : List ℕ) → (names ≡ []) ⊎ (counts ≡ []) → seat_counts names counts ≡ []
no_pairs names counts (inl none) = ap (λ (l : List (List ℕ)). seat_counts l counts) none
no_pairs [] counts (inr none) = refl
no_pairs (name ∷ names) counts (inr none) = ap (seat_counts (name ∷ names)) none

-- what was paired is all then
pub paired_all : (done : List SeatCount) (names : List (List ℕ)) (counts : List ℕ) (all : List SeatCount) → done ++ seat_counts names counts ≡ all → (names ≡ []) ⊎ (counts ≡ []) → done ≡ all
paired_all done names counts all is none = sym (append-nil done) ∙ ap (λ (l : List SeatCount). done ++ l) (sym (no_pairs names counts none)) ∙ is

-- one pair more
pub paired_more : (done new : List SeatCount) (names later : List (List ℕ)) (counts others : List ℕ) (name : List ℕ) (events : ℕ) (all : List SeatCount) → names ≡ name ∷ later → counts ≡ events ∷ others
    → done ++ seat_counts names counts ≡ all → new ≡ done ++ seat_count (name, events) ∷ [] → new ++ seat_counts later others ≡ all
paired_more done new names later counts others name events all first second is added =
    ap (λ (l : List SeatCount). l ++ seat_counts later others) added ∙ append_assoc done (seat_count (name, events) ∷ []) (seat_counts later others)
    ∙ (λ i. done ++ seat_counts (sym first i) (sym second i)) ∙ is
