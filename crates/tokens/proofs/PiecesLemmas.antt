-- Pieces between bytes, and what they are.
use Rattle.std.proofs.Common.{◌≡◌, ℕ, ◌+◌, ◌<◌, ◌≤◌, ◌==◌, not, Bool, true, false, cond, ltb, List, [], ◌∷◌, ◌++◌, map, length, take, drop, Option, Some, None, option_map, option_and_then, sym, ap, subst, refl, ◌∙◌, arith, append_assoc, length-append}
use Rattle.std.proofs.lemmas.Bool.{and_parts, ltb-true, ltb-false}
use Rattle.std.proofs.lemmas.List.{length-map}
use Rattle.std.proofs.lemmas.List.Sums.{fails_before_first}
use Rattle.std.proofs.lemmas.List.Splits.{slice_split-cons_no, slice_split_none, slice_split_first, length-slice_split, join_with_byte-slice_split}
use Rattle.std.specs.List.{AllByRecursion, position_or_len, slice_split, onto_first, join_with_byte}
use Rattle.point_codes.specs.Codes.{split_of}
use Rattle.tokens.specs.Pieces.{all_of, pieces_of}
use Rattle.point_codes.proofs.CodeLemmas.{lacks, lacks_parts, split_here, parts_at, and_then_Some, map_Some, both}

pub pieces_more : (c : ℕ) (text a b : List ℕ) → split_of c text ≡ Some (a, b) → slice_split (λ x. x == c) text ≡ a ∷ slice_split (λ x. x == c) b
pieces_more c text a b e =
    let n = position_or_len (λ x. x == c) text in
    let parts = parts_at text a b (ltb n (length text)) n e in
    slice_split_first (λ x. x == c) text 0 (ltb-true n (length text) parts.0)
    ∙ ap (λ t. t ∷ slice_split (λ x. x == c) (drop (n + 1) text)) parts.1 ∙ ap (λ t. a ∷ slice_split (λ x. x == c) t) parts.2

none_at : (text : List ℕ) (v : Bool) (n : ℕ) → option_map {U = List ℕ × List ℕ} (λ i. (take i text, drop (i + 1) text)) (cond v (Some n) None) ≡ None → v ≡ false
none_at text true n e = absurd (cc)
none_at text false n e = refl

pub pieces_last : (c : ℕ) (text : List ℕ) → split_of c text ≡ None → slice_split (λ x. x == c) text ≡ text ∷ []
pieces_last c text e =
    let n = position_or_len (λ x. x == c) text in
    let past : length text ≤ n = ltb-false n (length text) (none_at text (ltb n (length text)) n e) in
    slice_split_none (λ x. x == c) text (λ k d m. fails_before_first (λ x. x == c) text k d (omega arith))

pub whole_piece : (c : ℕ) (text : List ℕ) → lacks c text ≡ true → slice_split (λ x. x == c) text ≡ text ∷ []
whole_piece c [] h = refl
whole_piece c (b ∷ bs) h =
    let parts = and_parts (not (b == c)) (lacks c bs) h in
    slice_split-cons_no (λ x. x == c) b bs (lacks_parts b c parts.0) ∙ ap (onto_first b) (whole_piece c bs parts.1)

-- what is read, put after what was read
abbrev pub onto : {B : Type 0} → List B → Option (List B) → Option (List B)
onto ys o = option_map (λ more. ys ++ more) o

pub onto_more : {B : Type 0} (ys : List B) (y : B) (o : Option (List B)) → onto (ys ++ y ∷ []) o ≡ onto ys (option_map (λ more. y ∷ more) o)
onto_more ys y None = refl
onto_more ys y (Some zs) = ap Some (append_assoc ys (y ∷ []) zs)

pub onto_nothing : {B : Type 0} (o : Option (List B)) → onto [] o ≡ o
onto_nothing None = refl
onto_nothing (Some x) = refl

-- texts that are read one by one, or written
module _ {B : Type 0} (f : List ℕ → Option B) (write : B → List ℕ) (Is : B → Type 0) where
  pub all_read : ((text : List ℕ) (y : B) → f text ≡ Some y → Is y × (text ≡ write y)) → (ps : List (List ℕ)) (ys : List B) → all_of f ps ≡ Some ys → AllByRecursion Is ys × (ps ≡ map write ys)
  all_read reads [] [] e = (tt, refl)
  all_read reads [] (y ∷ ys) e = absurd (cc)
  all_read reads (p ∷ ps) ys e =
      let first = and_then_Some (f p) _ ys e in
      let rest = map_Some (all_of f ps) _ ys first.2 in
      let more = all_read reads ps rest.0 rest.1 in
      let here = reads p first.0 first.1 in
      let same : p ∷ ps ≡ map write (first.0 ∷ rest.0) = ap (λ x. x ∷ ps) here.1 ∙ ap (λ xs. write first.0 ∷ xs) more.1 in
      subst (λ l. AllByRecursion Is l × (p ∷ ps ≡ map write l)) rest.2 ((here.0, more.0), same)

  pub all_written : ((y : B) → Is y → f (write y) ≡ Some y) → (ys : List B) → AllByRecursion Is ys → all_of f (map write ys) ≡ Some ys
  all_written writes [] h = refl
  all_written writes (y ∷ ys) h = rw (writes y h.0, all_written writes ys h.1) refl

module _ {B : Type 0} (c : ℕ) (f : List ℕ → Option B) where
  first_read : (y : B) (text a b : List ℕ) → split_of c text ≡ Some (a, b) → f a ≡ Some y → pieces_of c f text ≡ option_map (λ more. y ∷ more) (pieces_of c f b)
  first_read y text a b e r =
      ap (all_of f) (pieces_more c text a b e) ∙ ap (λ o. option_and_then (λ z. option_map (λ zs. z ∷ zs) (pieces_of c f b)) o) r

  pub read_more : (ys : List B) (y : B) (text a b : List ℕ) (whole : Option (List B)) → split_of c text ≡ Some (a, b) → f a ≡ Some y → onto ys (pieces_of c f text) ≡ whole → onto (ys ++ y ∷ []) (pieces_of c f b) ≡ whole
  read_more ys y text a b whole e r h = onto_more ys y (pieces_of c f b) ∙ ap (onto ys) (sym (first_read y text a b e r)) ∙ h

  pub read_none : (ys : List B) (text a b : List ℕ) (whole : Option (List B)) → split_of c text ≡ Some (a, b) → f a ≡ None → onto ys (pieces_of c f text) ≡ whole → None ≡ whole
  read_none ys text a b whole e r h =
      ap (onto ys) (sym (ap (all_of f) (pieces_more c text a b e) ∙ ap (λ o. option_and_then (λ z. option_map (λ zs. z ∷ zs) (pieces_of c f b)) o) r)) ∙ h

  last_read : (o : Option B) (text : List ℕ) → split_of c text ≡ None → f text ≡ o → pieces_of c f text ≡ option_map (λ y. y ∷ []) o
  last_read o text e r = ap (all_of f) (pieces_last c text e) ∙ ap (λ p. option_and_then (λ z. option_map (λ zs. z ∷ zs) (Some [])) p) r ∙ one o
    where
      one : (p : Option B) → option_and_then (λ z. option_map (λ zs. z ∷ zs) (Some [])) p ≡ option_map (λ y. y ∷ []) p
      one None = refl
      one (Some x) = refl

  pub read_last : (ys : List B) (y : B) (text : List ℕ) (whole : Option (List B)) → split_of c text ≡ None → f text ≡ Some y → onto ys (pieces_of c f text) ≡ whole → Some (ys ++ y ∷ []) ≡ whole
  read_last ys y text whole e r h = ap (onto ys) (sym (last_read (Some y) text e r)) ∙ h

  pub read_last_none : (ys : List B) (text : List ℕ) (whole : Option (List B)) → split_of c text ≡ None → f text ≡ None → onto ys (pieces_of c f text) ≡ whole → None ≡ whole
  read_last_none ys text whole e r h = ap (onto ys) (sym (last_read None text e r)) ∙ h

  module _ (write : B → List ℕ) (Is : B → Type 0) where
    pub pieces_read : ((text : List ℕ) (y : B) → f text ≡ Some y → Is y × (text ≡ write y)) → (text : List ℕ) (ys : List B) → pieces_of c f text ≡ Some ys
        → (0 < length ys) × AllByRecursion Is ys × (text ≡ join_with_byte c (map write ys))
    pieces_read reads text ys e =
        let h = all_read f write Is reads (slice_split (λ x. x == c) text) ys e in
        let size : length (slice_split (λ x. x == c) text) ≡ length ys = ap length h.1 ∙ length-map ys write in
        let some = length-slice_split (λ x. x == c) text in
        (omega arith, h.0, sym (join_with_byte-slice_split c text) ∙ ap (join_with_byte c) h.1)

    pub pieces_back : ((y : B) → Is y → lacks c (write y) ≡ true) → (y : B) (ys : List B) → AllByRecursion Is (y ∷ ys) → slice_split (λ x. x == c) (join_with_byte c (map write (y ∷ ys))) ≡ map write (y ∷ ys)
    pieces_back free y [] h = whole_piece c (write y) (free y h.0)
    pieces_back free y (z ∷ zs) h =
        let rest = join_with_byte c (map write (z ∷ zs)) in
        pieces_more c (write y ++ (c ∷ rest)) (write y) rest (split_here c (write y) rest (free y h.0)) ∙ ap (λ t. write y ∷ t) (pieces_back free z zs h.1)

    pub pieces_written : ((y : B) → Is y → f (write y) ≡ Some y) → ((y : B) → Is y → lacks c (write y) ≡ true) → (ys : List B) → 0 < length ys → AllByRecursion Is ys → pieces_of c f (join_with_byte c (map write ys)) ≡ Some ys
    pieces_written writes free [] some h = absurd (omega arith)
    pieces_written writes free (y ∷ ys) some h = ap (all_of f) (pieces_back free y ys h) ∙ all_written f write Is writes (y ∷ ys) h

-- what lacks a byte still lacks it joined by another
pub lacks-append : (c : ℕ) (a b : List ℕ) → lacks c a ≡ true → lacks c b ≡ true → lacks c (a ++ b) ≡ true
lacks-append c [] b p q = q
lacks-append c (x ∷ xs) b p q = let parts = and_parts (not (x == c)) (lacks c xs) p in both _ _ parts.0 (lacks-append c xs b parts.1 q)

pub join_lacks : {B : Type 0} (c d : ℕ) (write : B → List ℕ) (Is : B → Type 0) → not (d == c) ≡ true → ((y : B) → Is y → lacks c (write y) ≡ true) → (ys : List B) → AllByRecursion Is ys → lacks c (join_with_byte d (map write ys)) ≡ true
join_lacks c d write Is other free [] h = refl
join_lacks c d write Is other free (y ∷ []) h = free y h.0
join_lacks c d write Is other free (y ∷ z ∷ zs) h =
    lacks-append c (write y) (d ∷ join_with_byte d (map write (z ∷ zs))) (free y h.0) (both _ _ other (join_lacks c d write Is other free (z ∷ zs) h.1))

pub join_some : {B : Type 0} (d : ℕ) (write : B → List ℕ) (ys : List B) → 0 < length ys → ((y : B) → 0 < length (write y)) → 0 < length (join_with_byte d (map write ys))
join_some d write [] some each = absurd (omega arith)
join_some d write (y ∷ []) some each = each y
join_some d write (y ∷ z ∷ zs) some each = let size = length-append (write y) (d ∷ join_with_byte d (map write (z ∷ zs))) in omega arith
