-- Texts made of a first part and of others, each after a byte.
use Rattle.std.proofs.Common.{take, drop, length, get_or, ◌-◌, arith, ◌≡◌, ℕ, ◌≤◌, List, [], ◌∷◌, ◌++◌, map, ap, refl, ◌∙◌, append-nil, append_assoc}
use Rattle.std.specs.List.{flat_map, join_with_byte}
use Rattle.net_items.specs.declared.links.Link.{Link}
use Rattle.net_items.specs.declared.lists.Row.{Row}
use Rattle.point_codes.specs.Codes.{code_text}
use Rattle.tokens.specs.Marked.{marked_text}
use Rattle.tokens.specs.declared.marked.Format.TheVariants.{Two}
use Rattle.tokens.specs.Rows.{row_text}
use Rattle.tokens.specs.Entries.{plan_text}

-- joined, as the first and the others each after the byte
pub join_tails : {A : Type 0} (c : ℕ) (f : A → List ℕ) (first : List ℕ) (xs : List A) → first ++ flat_map (λ x. c ∷ f x) xs ≡ join_with_byte c (first ∷ map f xs)
join_tails c f first [] = append-nil first
join_tails c f first (x ∷ xs) = ap (λ t. first ++ (c ∷ t)) (join_tails c f (f x) xs)

take_all : {A : Type 0} (xs : List A) → take (length xs) xs ≡ xs
take_all [] = refl
take_all (x ∷ xs) = ap (λ l. x ∷ l) (take_all xs)

pub rest_all : {A : Type 0} (x : A) (xs : List A) → take (length (x ∷ xs) - 1) xs ≡ xs
rest_all x xs = let e : length (x ∷ xs) - 1 ≡ length xs = omega arith in ap (λ n. take n xs) e ∙ take_all xs

-- a list in text, by its first and its other elements
pub tails_made : {A : Type 0} (c : ℕ) (f : A → List ℕ) (ss : List A) (v : A) (t0 t1 : List ℕ) → 1 ≤ length ss → v ≡ get_or ss 0 v → t0 ≡ f v → t1 ≡ t0 ++ flat_map (λ x. c ∷ f x) (take (length ss - 1) (drop 1 ss)) → t1 ≡ join_with_byte c (map f ss)
tails_made c f [] v t0 t1 some first h0 h1 = absurd (omega arith)
tails_made c f (x ∷ xs) v t0 t1 some first h0 h1 =
    h1 ∙ ap (λ l. t0 ++ flat_map (λ x. c ∷ f x) l) (rest_all x xs) ∙ ap (λ t. t ++ flat_map (λ x. c ∷ f x) xs) (h0 ∙ ap f first) ∙ join_tails c f (f x) xs

pub plan_tails : (dest : ℕ) (rows rs : List Row) (t0 t1 : List ℕ) → t0 ≡ code_text dest → rs ≡ rows → t1 ≡ t0 ++ flat_map (λ x. 32 ∷ row_text x) rs → t1 ≡ plan_text (record { dest = dest; rows = rows })
plan_tails dest rows rs t0 t1 h0 hr h1 = h1 ∙ rw (h0, hr) (join_tails 32 row_text (code_text dest) rows)

pub set_tails : (id a b : List ℕ) (links ls : List Link) (t0 t1 : List ℕ) → t0 ≡ id ++ (32 ∷ (a ++ (32 ∷ b))) → ls ≡ links → t1 ≡ t0 ++ flat_map (λ x. 32 ∷ marked_text Two x) ls → t1 ≡ join_with_byte 32 (id ∷ a ∷ b ∷ map (marked_text Two) links)
set_tails id a b links ls t0 t1 h0 hl h1 =
    h1 ∙ rw (h0, hl) (append_assoc id (32 ∷ (a ++ (32 ∷ b))) (flat_map (λ x. 32 ∷ marked_text Two x) links)
    ∙ ap (λ t. id ++ (32 ∷ t)) (append_assoc a (32 ∷ b) (flat_map (λ x. 32 ∷ marked_text Two x) links) ∙ ap (λ t. a ++ (32 ∷ t)) (join_tails 32 (marked_text Two) b links)))
