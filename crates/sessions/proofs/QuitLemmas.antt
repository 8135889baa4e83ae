-- What more bytes do to an input that ends with its first line `quit`.
use Rattle.std.proofs.Common.{◌≡◌, ◌≤◌, ◌+◌, ◌-◌, ◌==◌, ℕ, suc, not, Bool, true, false, List, [], ◌∷◌, ◌++◌, length, take, Some, None, sym, ap, refl, ◌∙◌, arith, append_assoc, append-nil, length-append}
use Rattle.std.specs.Prelude.{if◌then◌else◌}
use Rattle.std.proofs.lemmas.Bool.{and_parts}
use lib.Seq.{take-append_seam}
use Rattle.point_codes.specs.Codes.{split_of}
use Rattle.point_codes.proofs.CodeLemmas.{lacks, lacks_parts, split_parts}
use Rattle.sessions.specs.declared.quitting.Progress.{Progress}
use Rattle.sessions.specs.declared.quitting.Progress.TheVariants as so_far
use Rattle.sessions.specs.Quitting.{after, after_all, is_quit, through}
use Rattle.sessions.proofs.LineLemmas.{split_front, split_nowhere, split_on}

-- something else stays so
pub other_stays : (bytes : List ℕ) → after_all so_far.Other bytes ≡ so_far.Other
other_stays [] = refl
other_stays (b ∷ bs) = other_stays bs

-- bytes without a line feed go on
through_more : (p : Progress) (bytes more : List ℕ) → lacks 10 bytes ≡ true → through p (bytes ++ more) ≡ bytes ++ through (after_all p bytes) more
through_more p [] more none = refl
through_more p (b ∷ bs) more none =
    let parts = and_parts (not (b == 10)) (lacks 10 bs) none in
    rw (lacks_parts b 10 parts.0) (ap (λ t. b ∷ t) (through_more (after p b) bs more parts.1))

-- a line up to its end, whether it is `quit` or not
pub through_line : (p : Progress) (front rest : List ℕ) (ends : Bool) → lacks 10 front ≡ true → is_quit (after_all p front) ≡ ends
    → through p (front ++ 10 ∷ rest) ≡ (front ++ 10 ∷ []) ++ (if ends then [] else through so_far.Spaces rest)
through_line p front rest ends none is =
    through_more p front (10 ∷ rest) none ∙ ap (λ e. front ++ 10 ∷ (if e then [] else through so_far.Spaces rest)) is
    ∙ sym (append_assoc front (10 ∷ []) (if ends then [] else through so_far.Spaces rest))

-- the input goes on after some of the next bytes
pub record GoesOn (start : Progress) (bytes : List ℕ) (p : Progress) (rest : List ℕ) : Type 0 where
  pub done : List ℕ
  pub whole : done ++ rest ≡ bytes
  pub goes : (more : List ℕ) → through start (bytes ++ more) ≡ done ++ through p (rest ++ more)

pub at_first : (start : Progress) (bytes : List ℕ) → GoesOn start bytes start bytes
at_first start bytes = record { done = []; whole = refl; goes = λ more. refl }

-- the next line, whether it is `quit` or not
next_line : (start p : Progress) (bytes rest front behind : List ℕ) (ends : Bool) → split_of 10 rest ≡ Some (front, behind) → is_quit (after_all p front) ≡ ends
    → (on : GoesOn start bytes p rest) (more : List ℕ)
    → through start (bytes ++ more) ≡ ((on.done ++ front) ++ 10 ∷ []) ++ (if ends then [] else through so_far.Spaces (behind ++ more))
next_line start p bytes rest front behind ends split is on more =
    let tail = if ends then [] else through so_far.Spaces (behind ++ more) in
    on.goes more
    ∙ ap (λ t. on.done ++ through p (t ++ more)) (split_parts 10 rest front behind split)
    ∙ ap (λ t. on.done ++ through p t) (append_assoc front (10 ∷ behind) more)
    ∙ ap (λ t. on.done ++ t) (through_line p front (behind ++ more) ends (split_front 10 rest front behind split) is)
    ∙ sym (append_assoc on.done (front ++ 10 ∷ []) tail)
    ∙ ap (λ t. t ++ tail) (sym (append_assoc on.done front (10 ∷ [])))

-- a line that isn't `quit` goes on after its end
pub line_goes_on : (start p : Progress) (bytes rest front behind : List ℕ) → split_of 10 rest ≡ Some (front, behind) → is_quit (after_all p front) ≡ false
    → GoesOn start bytes p rest → GoesOn start bytes so_far.Spaces behind
line_goes_on start p bytes rest front behind split is on =
    record { done = (on.done ++ front) ++ 10 ∷ []; whole = split_on on.done rest front behind split ∙ on.whole; goes = next_line start p bytes rest front behind false split is on }

sizes : (all n k : ℕ) → all ≡ suc n + k → (all - k ≡ suc n) × (all - k ≤ all) × ((all - k ≡ 0) → ⊥)
sizes all n k e = (omega arith, omega arith, λ none. omega arith)

-- a line that is `quit` ends the input
pub line_ends : (start p : Progress) (bytes rest front behind : List ℕ) → split_of 10 rest ≡ Some (front, behind) → is_quit (after_all p front) ≡ true
    → GoesOn start bytes p rest
    → (length bytes - length behind ≤ length bytes) × ((length bytes - length behind ≡ 0) → ⊥)
    × ((more : List ℕ) → through start (bytes ++ more) ≡ take (length bytes - length behind) bytes)
line_ends start p bytes rest front behind split is on =
    let passed = (on.done ++ front) ++ 10 ∷ [] in
    let whole : passed ++ behind ≡ bytes = split_on on.done rest front behind split ∙ on.whole in
    let long : length passed ≡ suc (length (on.done ++ front)) = length-append (on.done ++ front) (10 ∷ []) ∙ omega arith in
    let size = sizes (length bytes) (length (on.done ++ front)) (length behind) (ap length (sym whole) ∙ length-append passed behind ∙ ap (λ n. n + length behind) long) in
    let front_of : take (length bytes - length behind) bytes ≡ passed =
    ap (λ n. take n bytes) (size.0 ∙ sym long) ∙ ap (take (length passed)) (sym whole) ∙ take-append_seam passed behind in
    (size.1, size.2, λ more. next_line start p bytes rest front behind true split is on more ∙ append-nil passed ∙ sym front_of)

-- the last bytes, without a line feed
pub rest_goes_on : (start p : Progress) (bytes rest : List ℕ) → split_of 10 rest ≡ None → GoesOn start bytes p rest
    → (more : List ℕ) → through start (bytes ++ more) ≡ bytes ++ through (after_all p rest) more
rest_goes_on start p bytes rest split on more =
    on.goes more ∙ ap (λ t. on.done ++ t) (through_more p rest more (split_nowhere 10 rest split))
    ∙ sym (append_assoc on.done rest (through (after_all p rest) more)) ∙ ap (λ t. t ++ through (after_all p rest) more) on.whole
