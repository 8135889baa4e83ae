-- The words of links, read one by one.
use Rattle.std.proofs.Common.{Bor, ◌≡◌, ℕ, ◌+◌, ◌<◌, ◌≤◌, List, [], ◌∷◌, ◌++◌, length, get_or, drop, Option, Some, None, option_map, option_and_then, ap, sym, ◌∙◌}
use Rattle.std.proofs.lemmas.List.{append-nil, at_drop_more, at_drop_all}
use Rattle.tokens.specs.Pieces.{all_of}
use Rattle.tokens.proofs.PiecesLemmas.{onto, onto_more}
use Rattle.tokens.proofs.WordsLemmas.{nows}

module _ {B : Type 0} (f : List ℕ → Option B) (ys : List B) (ws : List (Bor (List ℕ))) (i : ℕ) (whole : Option (List B)) where
  word_next : (d : Bor (List ℕ)) (o : Option B) → i < length ws → o ≡ f (get_or ws i d).now
      → all_of f (nows (drop i ws)) ≡ option_and_then (λ y. option_map (λ more. y ∷ more) (all_of f (nows (drop (i + 1) ws)))) o
  word_next d o h e =
      at_drop_more (λ l. all_of f (nows l)) ws i d h ∙ ap (λ p. option_and_then (λ y. option_map (λ more. y ∷ more) (all_of f (nows (drop (i + 1) ws)))) p) (sym e)

  pub word_read : (y : B) (d : Bor (List ℕ)) → i < length ws → Some y ≡ f (get_or ws i d).now → onto ys (all_of f (nows (drop i ws))) ≡ whole → onto (ys ++ y ∷ []) (all_of f (nows (drop (i + 1) ws))) ≡ whole
  word_read y d h e so_far = onto_more ys y (all_of f (nows (drop (i + 1) ws))) ∙ sym (ap (onto ys) (word_next d (Some y) h e)) ∙ so_far

  pub word_none : (d : Bor (List ℕ)) → i < length ws → None ≡ f (get_or ws i d).now → onto ys (all_of f (nows (drop i ws))) ≡ whole → None ≡ whole
  word_none d h e so_far = sym (ap (onto ys) (word_next d None h e)) ∙ so_far

  pub words_end : length ws ≤ i → onto ys (all_of f (nows (drop i ws))) ≡ whole → Some ys ≡ whole
  words_end h so_far = ap Some (sym (append-nil ys)) ∙ sym (at_drop_all (λ l. onto ys (all_of f (nows l))) ws i h) ∙ so_far
