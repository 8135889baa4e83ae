-- Words between spaces.
use Rattle.std.proofs.Common.{Bor, ◌≡◌, ℕ, ◌<◌, ◌==◌, true, false, nat_lt, List, [], ◌∷◌, ◌++◌, map, filter, length, Some, None, sym, ap, refl, ◌∙◌, arith, append_assoc}
use Rattle.std.proofs.lemmas.Bool.Decides.{nat_tests}
use Rattle.std.specs.List.{AllByRecursion, slice_split, join_with_byte}
use Rattle.point_codes.specs.Codes.{split_of}
use Rattle.tokens.specs.Words.{words_of, IsWord}
use Rattle.tokens.proofs.PiecesLemmas.{pieces_more, pieces_last, pieces_back}

long_by : (n : ℕ) → (n == 0) ≡ false → nat_lt 0 n ≡ true
long_by n h = grind (arith, nat_tests)

some_by : (n : ℕ) → 0 < n → nat_lt 0 n ≡ true
some_by n h = grind (arith, nat_tests)

words_more : (text a b : List ℕ) → split_of 32 text ≡ Some (a, b) → words_of text ≡ filter (λ w. nat_lt 0 (length w)) (a ∷ slice_split (λ x. x == 32) b)
words_more text a b e = ap (filter (λ w. nat_lt 0 (length w))) (pieces_more 32 text a b e)

pub word_taken : (so_far whole : List (List ℕ)) (text a b : List ℕ) → split_of 32 text ≡ Some (a, b) → (length a == 0) ≡ false → so_far ++ words_of text ≡ whole → (so_far ++ a ∷ []) ++ words_of b ≡ whole
word_taken so_far whole text a b e some h =
    let here : words_of text ≡ a ∷ words_of b = words_more text a b e ∙ rw (long_by (length a) some) refl in
    append_assoc so_far (a ∷ []) (words_of b) ∙ ap (λ t. so_far ++ t) (sym here) ∙ h

pub word_last : (so_far whole : List (List ℕ)) (text : List ℕ) → split_of 32 text ≡ None → (length text == 0) ≡ false → so_far ++ words_of text ≡ whole → so_far ++ text ∷ [] ≡ whole
word_last so_far whole text e some h =
    let here : words_of text ≡ text ∷ [] = ap (filter (λ w. nat_lt 0 (length w))) (pieces_last 32 text e) ∙ rw (long_by (length text) some) refl in
    ap (λ t. so_far ++ t) (sym here) ∙ h

all_some : (ws : List (List ℕ)) → AllByRecursion IsWord ws → filter (λ w. nat_lt 0 (length w)) ws ≡ ws
all_some [] h = refl
all_some (w ∷ ws) h = rw (some_by (length w) h.0.0) (ap (λ t. w ∷ t) (all_some ws h.1))

same : (ws : List (List ℕ)) → map (λ w. w) ws ≡ ws
same [] = refl
same (w ∷ ws) = ap (λ t. w ∷ t) (same ws)

pub words_back : (ws : List (List ℕ)) → AllByRecursion IsWord ws → words_of (join_with_byte 32 ws) ≡ ws
words_back [] h = refl
words_back (w ∷ ws) h =
    let kept = same (w ∷ ws) in
    ap (λ (l : List (List ℕ)). filter (λ w. nat_lt 0 (length w)) (slice_split (λ x. x == 32) (join_with_byte 32 l))) (sym kept)
    ∙ ap (filter (λ w. nat_lt 0 (length w))) (pieces_back 32 (λ t. Some t) (λ w. w) IsWord (λ w i. i.1) w ws h ∙ kept) ∙ all_some (w ∷ ws) h

abbrev pub nows : List (Bor (List ℕ)) → List (List ℕ)
nows ws = map (λ w. w.now) ws

pub nows_more : (ws : List (Bor (List ℕ))) (w : Bor (List ℕ)) → nows (ws ++ w ∷ []) ≡ nows ws ++ w.now ∷ []
nows_more [] w = refl
nows_more (x ∷ xs) w = ap (λ t. x.now ∷ t) (nows_more xs w)
