-- Pieces between words `;`.
use Rattle.std.proofs.Common.{◌≡◌, ℕ, ◌+◌, ◌-◌, ◌<◌, ◌≤◌, Bool, true, false, cond, ltb, List, [], ◌∷◌, ◌++◌, map, length, take, drop, Option, Some, None, option_map, option_and_then, codes, sym, ap, refl, ◌∙◌, arith, Bor, append-nil, position}
use Rattle.std.proofs.lemmas.Bool.{ltb-true, ltb-false}
use Rattle.std.proofs.lemmas.List.{take_all, length-drop, drop-drop}
use Rattle.std.proofs.lemmas.List.Sums.{fails_before_first}
use Rattle.std.proofs.lemmas.List.Splits.{slice_split_none, slice_split_first}
use Rattle.std.specs.List.{position_or_len, slice_split, onto_first}
use Rattle.std.specs.Str.{bytes_eq}
use Rattle.net_building.specs.declared.wholes.Listed.{Listed}
use Rattle.tokens.specs.Pieces.{all_of}
use Rattle.tokens.proofs.PiecesLemmas.{onto, onto_more}
use Rattle.tokens.proofs.WordsLemmas.{nows}
use Rattle.script_words.specs.Wholes.{listed_of}
use Rattle.script_words.specs.Commands.{pieces_at}

abbrev Words : Type 0
Words = List (Bor (List ℕ))

abbrev is_stop : Bor (List ℕ) → Bool
is_stop w = bytes_eq w.now (codes ";")

onto_nows : (w : Bor (List ℕ)) (ps : List Words) → onto_first w.now (map nows ps) ≡ map nows (onto_first w ps)
onto_nows w [] = refl
onto_nows w (p ∷ ps) = refl

-- the pieces of words are those of their references
pieces_nows : (ws : Words) → pieces_at (nows ws) ≡ map nows (slice_split is_stop ws)
pieces_nows [] = refl
pieces_nows (w ∷ ws) = at_word w ws (is_stop w) (pieces_nows ws)
  where
    at_word : (w : Bor (List ℕ)) (ws : Words) (b : Bool) → pieces_at (nows ws) ≡ map nows (slice_split is_stop ws)
        → cond b ([] ∷ pieces_at (nows ws)) (onto_first w.now (pieces_at (nows ws))) ≡ map nows (cond b ([] ∷ slice_split is_stop ws) (onto_first w (slice_split is_stop ws)))
    at_word w ws true more = ap (λ ps. [] ∷ ps) more
    at_word w ws false more = ap (onto_first w.now) more ∙ onto_nows w (slice_split is_stop ws)

-- ---- the pieces around the first `;`

place_at : (n m i : ℕ) → cond (ltb n m) (Some n) None ≡ Some i → (n < m) × (n ≡ i)
place_at n m i e = at (ltb n m) refl e
  where
    at : (b : Bool) → ltb n m ≡ b → cond b (Some n) None ≡ Some i → (n < m) × (n ≡ i)
    at true h e = (ltb-true n m h, cc)
    at false h e = absurd (cc)

no_place : (n m : ℕ) → cond (ltb n m) (Some n) None ≡ None → m ≤ n
no_place n m e = at (ltb n m) refl e
  where
    at : (b : Bool) → ltb n m ≡ b → cond b (Some n) None ≡ None → m ≤ n
    at true h e = absurd (cc)
    at false h e = ltb-false n m h

pieces_more : (ws : Words) (i : ℕ) → position is_stop ws ≡ Some i → pieces_at (nows ws) ≡ nows (take i ws) ∷ pieces_at (nows (drop (i + 1) ws))
pieces_more [] i e = absurd (let parts = place_at (position_or_len is_stop []) 0 i e in omega arith)
pieces_more (w ∷ ws) i e =
    let parts = place_at (position_or_len is_stop (w ∷ ws)) (length (w ∷ ws)) i e in
    pieces_nows (w ∷ ws) ∙ ap (map nows) (slice_split_first is_stop (w ∷ ws) w parts.0)
    ∙ ap (λ n. nows (take n (w ∷ ws)) ∷ map nows (slice_split is_stop (drop (n + 1) (w ∷ ws)))) parts.1
    ∙ ap (λ ps. nows (take i (w ∷ ws)) ∷ ps) (sym (pieces_nows (drop (i + 1) (w ∷ ws))))

pieces_last : (ws : Words) → position is_stop ws ≡ None → pieces_at (nows ws) ≡ nows ws ∷ []
pieces_last ws e =
    let past = no_place (position_or_len is_stop ws) (length ws) e in
    pieces_nows ws ∙ ap (map nows) (slice_split_none is_stop ws (λ k d m. fails_before_first is_stop ws k d (omega arith)))

-- what is dropped to the end is the whole rest
rest_whole : (ws : Words) (n : ℕ) → take (length ws - n) (drop n ws) ≡ drop n ws
rest_whole ws n = take_all (length ws - n) (drop n ws) (let size = length-drop n ws in omega arith)

-- the next piece, from a place on
pub piece_next : (ws : Words) (n i : ℕ) → position is_stop (take (length ws - n) (drop n ws)) ≡ Some i → pieces_at (nows (drop n ws)) ≡ nows (take (n + i - n) (drop n ws)) ∷ pieces_at (nows (drop (n + (i + 1)) ws))
piece_next ws n i e =
    let here : position is_stop (drop n ws) ≡ Some i = ap (λ l. position is_stop l) (sym (rest_whole ws n)) ∙ e in
    let size : i ≡ n + i - n = omega arith in
    pieces_more (drop n ws) i here ∙ ap (λ k. nows (take k (drop n ws)) ∷ pieces_at (nows (drop (i + 1) (drop n ws)))) size
    ∙ ap (λ l. nows (take (n + i - n) (drop n ws)) ∷ pieces_at (nows l)) (drop-drop (i + 1) n ws)

-- the last piece, from a place on
pub piece_end : (ws : Words) (n : ℕ) → position is_stop (take (length ws - n) (drop n ws)) ≡ None → pieces_at (nows (drop n ws)) ≡ nows (take (length ws - n) (drop n ws)) ∷ []
piece_end ws n e = pieces_last (drop n ws) (ap (λ l. position is_stop l) (sym (rest_whole ws n)) ∙ e) ∙ ap (λ l. nows l ∷ []) (sym (rest_whole ws n))

-- ---- a list read piece by piece

-- what a first piece says, and more pieces
abbrev all_with : Option Listed → Option (List Listed) → Option (List Listed)
all_with first more = option_and_then (λ e. option_map (λ es. e ∷ es) more) first

module _ (es : List Listed) (whole : Option (List Listed)) where
  pub listed_more : (e : Listed) (p : List (List ℕ)) (text rest : List (List (List ℕ))) → text ≡ p ∷ rest → listed_of p ≡ Some e → onto es (all_of listed_of text) ≡ whole → onto (es ++ e ∷ []) (all_of listed_of rest) ≡ whole
  listed_more e p text rest split read h =
      onto_more es e (all_of listed_of rest) ∙ ap (λ o. onto es (all_with o (all_of listed_of rest))) (sym read) ∙ ap (λ t. onto es (all_of listed_of t)) (sym split) ∙ h

  pub listed_none : (p : List (List ℕ)) (text rest : List (List (List ℕ))) → text ≡ p ∷ rest → listed_of p ≡ None → onto es (all_of listed_of text) ≡ whole → None ≡ whole
  listed_none p text rest split read h =
      ap (λ o. onto es (all_with o (all_of listed_of rest))) (sym read) ∙ ap (λ t. onto es (all_of listed_of t)) (sym split) ∙ h

  pub listed_last : (e : Listed) (p : List (List ℕ)) (text : List (List (List ℕ))) → text ≡ p ∷ [] → listed_of p ≡ Some e → onto es (all_of listed_of text) ≡ whole → Some (es ++ e ∷ []) ≡ whole
  listed_last e p text split read h = ap Some (sym (append-nil (es ++ e ∷ []))) ∙ listed_more e p text [] split read h
