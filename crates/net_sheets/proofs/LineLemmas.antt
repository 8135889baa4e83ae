-- Lines that are added to a text, and other pieces to a list.
use Rattle.std.proofs.Common.{◌≡◌, ℕ, ◌+◌, ◌<◌, ◌≤◌, List, [], ◌∷◌, ◌++◌, length, get_or, take, map, ap, sym, subst, ◌∙◌, append_assoc}
use Rattle.std.specs.List.{flat_map}
use Rattle.std.proofs.lemmas.List.{take_more, take_all, map_more, flat_map_more}
use Rattle.net_sheets.specs.Tables.{Fields, line_text, table_text}

-- a record of four fields in text
pub four_line : (a b c d : List ℕ) → a ++ (44 ∷ (b ++ (44 ∷ (c ++ (44 ∷ (d ++ 10 ∷ [])))))) ≡ line_text (a ∷ b ∷ c ∷ d ∷ [])
four_line a b c d = simp append_assoc

-- the piece of one more element
pub piece_more : {A B : Type 0} (f : A → List B) (xs : List A) (i : ℕ) (d x : A) (start t0 t1 piece : List B) → i < length xs → x ≡ get_or xs i d → t1 ≡ t0 ++ piece → piece ≡ f x
    → t0 ≡ start ++ flat_map f (take i xs) → t1 ≡ start ++ flat_map f (take (i + 1) xs)
piece_more f xs i d x start t0 t1 piece here is more said before =
    more ∙ ap (λ t. t ++ piece) before ∙ ap (λ t. (start ++ flat_map f (take i xs)) ++ t) said ∙ flat_map_more f start (take i xs) x
    ∙ ap (λ y. start ++ flat_map f (take i xs ++ y ∷ [])) is ∙ ap (λ ys. start ++ flat_map f ys) (sym (take_more xs i d here))

pub pieces_all : {A B : Type 0} (f : A → List B) (xs : List A) (i : ℕ) (start t : List B) → length xs ≤ i → t ≡ start ++ flat_map f (take i xs) → t ≡ start ++ flat_map f xs
pieces_all f xs i start t past before = before ∙ ap (λ ys. start ++ flat_map f ys) (take_all i xs past)

-- the line of one more element's record
pub record_more : {A : Type 0} (header : Fields) (record_of : A → Fields) (xs ys : List A) (i : ℕ) (d x : A) (t0 t1 line : List ℕ) → ys ≡ xs → i < length ys → x ≡ get_or ys i d → t1 ≡ t0 ++ line
    → line ≡ line_text (record_of x) → t0 ≡ table_text header (map record_of (take i xs)) → t1 ≡ table_text header (map record_of (take (i + 1) xs))
record_more header record_of xs ys i d x t0 t1 line same here is more said before =
    more ∙ ap (λ t. t ++ line) before ∙ ap (λ t. table_text header (map record_of (take i xs)) ++ t) said ∙ flat_map_more line_text (line_text header) (map record_of (take i xs)) (record_of x)
    ∙ ap (λ y. table_text header (map record_of (take i xs) ++ record_of y ∷ [])) (is ∙ ap (λ l. get_or l i d) same)
    ∙ ap (table_text header) (sym (map_more record_of xs i d (subst (λ l. i < length l) same here)))

pub records_all : {A : Type 0} (header : Fields) (record_of : A → Fields) (xs ys : List A) (i : ℕ) (t : List ℕ) → ys ≡ xs → length ys ≤ i → t ≡ table_text header (map record_of (take i xs)) → t ≡ table_text header (map record_of xs)
records_all header record_of xs ys i t same past before = before ∙ ap (λ l. table_text header (map record_of l)) (take_all i xs (subst (λ l. length l ≤ i) same past))
