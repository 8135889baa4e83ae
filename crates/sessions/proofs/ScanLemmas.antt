-- What a search in many places at once tells of a text.
use Rattle.std.proofs.Common.{◌≡◌, ℕ, zero, suc, ◌<◌, ◌+◌, ◌==◌, not, ltb, Bool, true, false, cond, List, [], ◌∷◌, ◌++◌, length, take, drop, Some, None, sym, ap, refl, ◌∙◌, arith, length-drop}
use Rattle.std.proofs.lemmas.Bool.{and_parts, lt-ltb, ltb-true}
use Rattle.std.specs.Prelude.{slice_index}
use Rattle.std.specs.List.{position_or_len}
use Rattle.std.proofs.lemmas.List.{get_or-drop}
use Rattle.memchr.specs.Find.{is_byte, IsFirstByte, IsLastByte}
use Rattle.point_codes.specs.Codes.{split_of}
use Rattle.point_codes.proofs.CodeLemmas.{lacks, lacks_parts}
use Rattle.sessions.specs.Quitting.{after, after_all, after_text, is_idle, is_quit, through}
use Rattle.sessions.specs.declared.quitting.Progress.{Progress}
use Rattle.sessions.specs.declared.quitting.Progress.TheVariants as so_far

-- the first place of a byte
module _ (c : ℕ) where
  first_place : (xs : List ℕ) (k : ℕ) → k < length xs → (slice_index xs k == c) ≡ true → ((j : ℕ) → j < k → (slice_index xs j == c) ≡ true → ⊥) → position_or_len (λ b. b == c) xs ≡ k
  first_place [] k within here before = absurd (omega (arith, within))
  first_place (x ∷ xs) zero within here before = rw here refl
  first_place (x ∷ xs) (suc k) within here before = go (x == c) refl (first_place xs k (omega (arith, within)) here (λ j low e. before (suc j) (omega (arith, low)) e))
    where
      go : (b : Bool) → (x == c) ≡ b → position_or_len (λ b. b == c) xs ≡ k → position_or_len (λ b. b == c) (x ∷ xs) ≡ suc k
      go true t rest = absurd (before 0 (omega arith) t)
      go false t rest = rw t (omega (arith, rest))

  no_place : (xs : List ℕ) → ((j : ℕ) → j < length xs → (slice_index xs j == c) ≡ true → ⊥) → position_or_len (λ b. b == c) xs ≡ length xs
  no_place [] none = refl
  no_place (x ∷ xs) none = go (x == c) refl (no_place xs (λ j low e. none (suc j) (omega (arith, low)) e))
    where
      go : (b : Bool) → (x == c) ≡ b → position_or_len (λ b. b == c) xs ≡ length xs → position_or_len (λ b. b == c) (x ∷ xs) ≡ length (x ∷ xs)
      go true t rest = absurd (none 0 (omega arith) t)
      go false t rest = rw t (omega (arith, rest))

  -- a text splits at the first place that a search finds, and nowhere if it finds none
  pub split_there : (text : List ℕ) (k : ℕ) → IsFirstByte (is_byte c) text (Some k) → split_of c text ≡ Some (take k text, drop (k + 1) text)
  split_there text k found =
      let at : position_or_len (λ b. b == c) text ≡ k = first_place text k found.0.high found.1 (λ j low e. found.0.before j (omega arith) low e) in
      let within : ltb k (length text) ≡ true = lt-ltb k (length text) found.0.high in
      rw (at, within) refl

  pub split_none : (text : List ℕ) → IsFirstByte (is_byte c) text None → split_of c text ≡ None
  split_none text none =
      let at : position_or_len (λ b. b == c) text ≡ length text = no_place text (λ j low e. none j (omega arith) low e) in
      let past : ltb (length text) (length text) ≡ false = not_below (length text) in
      rw (at, past) refl
    where
      not_below : (n : ℕ) → ltb n n ≡ false
      not_below n = go (ltb n n) refl
        where
          go : (b : Bool) → ltb n n ≡ b → ltb n n ≡ false
          go true t = absurd (omega (arith, ltb-true n n t))
          go false t = t

  -- bytes among which a search finds none
  pub lacks_none : (text : List ℕ) → ((j : ℕ) → j < length text → (slice_index text j == c) ≡ true → ⊥) → lacks c text ≡ true
  lacks_none [] none = refl
  lacks_none (x ∷ xs) none = go (x == c) refl (lacks_none xs (λ j low e. none (suc j) (omega (arith, low)) e))
    where
      go : (b : Bool) → (x == c) ≡ b → lacks c xs ≡ true → lacks c (x ∷ xs) ≡ true
      go true t rest = absurd (none 0 (omega arith) t)
      go false t rest = rw t rest

-- a line without a letter of `quit` stays one where no `q` comes
idle_after : (p : Progress) (b : ℕ) → is_idle p ≡ true → (b == 113) ≡ false → is_idle (after p b) ≡ true
idle_after so_far.Spaces b idle other = rw other (go (b == 32))
  where
    go : (t : Bool) → is_idle (cond t so_far.Spaces so_far.Other) ≡ true
    go true = refl
    go false = refl
idle_after so_far.Other b idle other = refl
idle_after so_far.Q b idle other = cc
idle_after so_far.Qu b idle other = cc
idle_after so_far.Qui b idle other = cc
idle_after so_far.Quit b idle other = cc
idle_after so_far.Return b idle other = cc

idle_quit : (p : Progress) → is_idle p ≡ true → is_quit p ≡ false
idle_quit so_far.Spaces idle = refl
idle_quit so_far.Other idle = refl
idle_quit so_far.Q idle = cc
idle_quit so_far.Qu idle = cc
idle_quit so_far.Qui idle = cc
idle_quit so_far.Quit idle = cc
idle_quit so_far.Return idle = cc

-- then the input goes on
pub idle_goes_on : (p : Progress) (bytes more : List ℕ) → is_idle p ≡ true → lacks 113 bytes ≡ true → through p (bytes ++ more) ≡ bytes ++ through (after_text p bytes) more
idle_goes_on p [] more idle none = refl
idle_goes_on p (b ∷ bs) more idle none =
    let parts = and_parts (not (b == 113)) (lacks 113 bs) none in
    let other : (b == 113) ≡ false = lacks_parts b 113 parts.0 in
    go (b == 10) (idle_quit p idle) (idle_goes_on so_far.Spaces bs more refl parts.1) (idle_goes_on (after p b) bs more (idle_after p b idle other) parts.1)
  where
    go : (t : Bool) → is_quit p ≡ false → through so_far.Spaces (bs ++ more) ≡ bs ++ through (after_text so_far.Spaces bs) more → through (after p b) (bs ++ more) ≡ bs ++ through (after_text (after p b) bs) more
        → b ∷ (cond t (cond (is_quit p) [] (through so_far.Spaces (bs ++ more))) (through (after p b) (bs ++ more))) ≡ b ∷ (bs ++ through (after_text (cond t so_far.Spaces (after p b)) bs) more)
    go true quit ended rest = rw quit (ap (λ t. b ∷ t) ended)
    go false quit ended rest = ap (λ t. b ∷ t) rest

-- how far a text comes is how far its last line does
text_line : (p : Progress) (bytes : List ℕ) → lacks 10 bytes ≡ true → after_text p bytes ≡ after_all p bytes
text_line p [] none = refl
text_line p (b ∷ bs) none =
    let parts = and_parts (not (b == 10)) (lacks 10 bs) none in
    rw (lacks_parts b 10 parts.0) (text_line (after p b) bs parts.1)

text_from : (p : Progress) (bytes : List ℕ) (k : ℕ) → k < length bytes → (slice_index bytes k == 10) ≡ true → after_text p bytes ≡ after_text so_far.Spaces (drop (k + 1) bytes)
text_from p [] k within here = absurd (omega (arith, within))
text_from p (b ∷ bs) zero within here = rw here refl
text_from p (b ∷ bs) (suc k) within here =
    let next : suc k + 1 ≡ suc (k + 1) = omega arith in
    rw next (text_from (cond (b == 10) so_far.Spaces (after p b)) bs k (omega (arith, within)) here)

pub text_of_last : (p : Progress) (bytes : List ℕ) (k : ℕ) → IsLastByte (is_byte 10) bytes (Some k) → after_text p bytes ≡ after_all so_far.Spaces (drop (k + 1) bytes)
text_of_last p bytes k found =
    text_from p bytes k found.0.high found.1
    ∙ text_line so_far.Spaces (drop (k + 1) bytes) (lacks_none 10 (drop (k + 1) bytes) (λ j low e.
    found.0.after (k + 1 + j) (omega arith) (omega (arith, low, length-drop (k + 1) bytes)) (ap (λ x. x == 10) (sym (get_or-drop (k + 1) bytes j 0)) ∙ e)))

pub text_of_none : (p : Progress) (bytes : List ℕ) → IsLastByte (is_byte 10) bytes None → after_text p bytes ≡ after_all p bytes
text_of_none p bytes none = text_line p bytes (lacks_none 10 bytes (λ j low e. none j (omega arith) low e))

pub lacks_q : (bytes : List ℕ) → IsFirstByte (is_byte 113) bytes None → lacks 113 bytes ≡ true
lacks_q bytes none = lacks_none 113 bytes (λ j low e. none j (omega arith) low e)
