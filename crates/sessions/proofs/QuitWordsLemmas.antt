-- The line that ends an input is the one whose words are `quit` alone.
use Rattle.std.proofs.Common.{◌≡◌, ◌≢◌, ◌+◌, ◌-◌, ◌==◌, ◌↔◌, ◌⊎◌, inl, inr, ℕ, suc, Bool, true, false, nat_lt, List, [], ◌∷◌, ◌++◌, length, take, drop, filter, sym, ap, refl, ◌∙◌, arith, append_assoc, append-nil, codes, eqb-true}
use Rattle.std.specs.Prelude.{if◌then◌else◌, slice_index}
use Rattle.std.specs.List.{slice_split}
use Rattle.std.proofs.lemmas.Bool.{false≢true}
use Rattle.std.proofs.lemmas.Bool.Decides.{nat_tests}
use Rattle.std.proofs.lemmas.List.{drop_more, take-append-drop}
use lib.ListN.{drop_of_length-le}
use Rattle.point_codes.proofs.CodeLemmas.{lacks}
use Rattle.tokens.specs.Words.{words_of}
use Rattle.sessions.specs.declared.quitting.Progress.{Progress}
use Rattle.sessions.specs.declared.quitting.Progress.TheVariants as so_far
use Rattle.sessions.specs.Lines.{trimmed}
use Rattle.sessions.specs.Quitting.{after, after_all, is_quit, until_quit}
use Rattle.sessions.proofs.QuitLemmas.{other_stays, through_line}

-- ---- the first word of a text, up to a space, and the words behind it

abbrev front : List ℕ → List ℕ
front [] = []
front (b ∷ bs) = if b == 32 then [] else b ∷ front bs

abbrev behind : List ℕ → List (List ℕ)
behind [] = []
behind (b ∷ bs) = if b == 32 then words_of bs else behind bs

abbrev long : List ℕ → Bool
long w = nat_lt 0 (length w)

some_long : (n : ℕ) → nat_lt 0 (suc n) ≡ true
some_long n = grind (arith, nat_tests)

-- a word stays, and nothing goes
first_kept : (b : ℕ) (f : List ℕ) (others : List (List ℕ)) → filter long ((b ∷ f) ∷ others) ≡ (b ∷ f) ∷ filter long others
first_kept b f others = rw (some_long (length f)) refl

-- the pieces of a text are its front and others, whose words are those behind it
record Pieces (text : List ℕ) : Type 0 where
  others : List (List ℕ)
  pieces : slice_split (λ b. b == 32) text ≡ front text ∷ others
  words : filter long others ≡ behind text

pieces_on : (b : ℕ) (bs : List ℕ) (v : Bool) → (b == 32) ≡ v → Pieces bs → Pieces (b ∷ bs)
pieces_on b bs true e p = record { others = slice_split (λ b. b == 32) bs; pieces = rw e refl; words = rw e refl }
pieces_on b bs false e p = record { others = p.others; pieces = rw (e, p.pieces) refl; words = rw e p.words }

pieces_of : (text : List ℕ) → Pieces text
pieces_of [] = record { others = []; pieces = refl; words = refl }
pieces_of (b ∷ bs) = pieces_on b bs (b == 32) refl (pieces_of bs)

words_by : (text : List ℕ) → words_of text ≡ filter long (front text ∷ (pieces_of text).others)
words_by text = ap (filter long) (pieces_of text).pieces

-- a text that begins with a space, and one with another byte
words_spaced : (b : ℕ) (bs : List ℕ) → (b == 32) ≡ true → words_of (b ∷ bs) ≡ words_of bs
words_spaced b bs e = rw e refl

front_begun : (b : ℕ) (bs : List ℕ) → (b == 32) ≡ false → front (b ∷ bs) ≡ b ∷ front bs
front_begun b bs e = rw e refl

behind_begun : (b : ℕ) (bs : List ℕ) → (b == 32) ≡ false → behind (b ∷ bs) ≡ behind bs
behind_begun b bs e = rw e refl

words_begun : (b : ℕ) (bs : List ℕ) → (b == 32) ≡ false → words_of (b ∷ bs) ≡ (b ∷ front bs) ∷ behind bs
words_begun b bs e =
    words_by (b ∷ bs) ∙ ap (λ f. filter long (f ∷ (pieces_of (b ∷ bs)).others)) (front_begun b bs e) ∙ first_kept b (front bs) (pieces_of (b ∷ bs)).others
    ∙ ap (λ ws. (b ∷ front bs) ∷ ws) ((pieces_of (b ∷ bs)).words ∙ behind_begun b bs e)

-- nothing at all, or spaces alone
none_behind : (text : List ℕ) → front text ≡ [] → words_of text ≡ behind text
none_behind text none = words_by text ∙ rw none (pieces_of text).words

nothing_first : (f : List ℕ) (others : List (List ℕ)) → filter long (f ∷ others) ≡ [] → f ≡ []
nothing_first [] others h = refl
nothing_first (b ∷ f) others h = absurd (cc (first_kept b f others))

no_front : (text : List ℕ) → words_of text ≡ [] → front text ≡ []
no_front text h = nothing_first (front text) (pieces_of text).others (sym (words_by text) ∙ h)

no_behind : (text : List ℕ) → words_of text ≡ [] → behind text ≡ []
no_behind text h = sym (none_behind text (no_front text h)) ∙ h

-- ---- a line that has come so far ends with `quit`

abbrev Ends : Progress → List ℕ → Type 0
Ends p text = after_all p text ≡ so_far.Quit

-- what a line says whose front is this, and which has no other word
abbrev Says : List ℕ → List ℕ → Type 0
Says word text = (front text ≡ word) × (behind text ≡ [])

other_no : (text : List ℕ) → Ends so_far.Other text → ⊥
other_no text h = absurd (cc (other_stays text))

return_no : (text : List ℕ) → Ends so_far.Return text → ⊥
return_no [] h = absurd (cc)
return_no (b ∷ bs) h = other_no bs h

-- a letter and what is said behind it
said_more : (b c : ℕ) (bs word : List ℕ) → (b == c) ≡ true → (c == 32) ≡ false → Says word bs → Says (c ∷ word) (b ∷ bs)
said_more b c bs word e other h =
    let same : b ≡ c = eqb-true b c e in
    (ap (λ x. if x == 32 then [] else x ∷ front bs) same ∙ rw other (ap (λ t. c ∷ t) h.0), ap (λ x. if x == 32 then words_of bs else behind bs) same ∙ rw other h.1)

-- nothing but spaces is left
said_space : (b : ℕ) (bs : List ℕ) → (b == 32) ≡ true → Says [] bs → Says [] (b ∷ bs)
said_space b bs e h = (rw e refl, rw e (none_behind bs h.0 ∙ h.1))

-- ---- a line that ends with `quit` says it

at_return : (b : ℕ) (bs : List ℕ) (v : Bool) → after_all (if v then so_far.Return else so_far.Other) bs ≡ so_far.Quit → Says [] (b ∷ bs)
at_return b bs true h = absurd (return_no bs h)
at_return b bs false h = absurd (other_no bs h)

at_space : (b : ℕ) (bs : List ℕ) (v : Bool) → (b == 32) ≡ v → (Ends so_far.Quit bs → Says [] bs)
    → after_all (if v then so_far.Quit else if b == 13 then so_far.Return else so_far.Other) bs ≡ so_far.Quit → Says [] (b ∷ bs)
at_space b bs true e rest h = said_space b bs e (rest h)
at_space b bs false e rest h = at_return b bs (b == 13) h

quit_says : (text : List ℕ) → Ends so_far.Quit text → Says [] text
quit_says [] h = (refl, refl)
quit_says (b ∷ bs) h = at_space b bs (b == 32) refl (quit_says bs) h

-- a state that only one letter leads on from
letter_says : (c : ℕ) (next : Progress) (word : List ℕ) → (c == 32) ≡ false → ((text : List ℕ) → Ends next text → Says word text)
    → (b : ℕ) (bs : List ℕ) (v : Bool) → (b == c) ≡ v → Ends (if v then next else so_far.Other) bs → Says (c ∷ word) (b ∷ bs)
letter_says c next word other rest b bs true e h = said_more b c bs word e other (rest bs h)
letter_says c next word other rest b bs false e h = absurd (other_no bs h)

qui_says : (text : List ℕ) → Ends so_far.Qui text → Says (codes "t") text
qui_says [] h = absurd (cc)
qui_says (b ∷ bs) h = letter_says 116 so_far.Quit [] refl quit_says b bs (b == 116) refl h

qu_says : (text : List ℕ) → Ends so_far.Qu text → Says (codes "it") text
qu_says [] h = absurd (cc)
qu_says (b ∷ bs) h = letter_says 105 so_far.Qui (codes "t") refl qui_says b bs (b == 105) refl h

q_says : (text : List ℕ) → Ends so_far.Q text → Says (codes "uit") text
q_says [] h = absurd (cc)
q_says (b ∷ bs) h = letter_says 117 so_far.Qu (codes "it") refl qu_says b bs (b == 117) refl h

front_spaced : (b : ℕ) (bs : List ℕ) → (b == 32) ≡ true → front (b ∷ bs) ≡ []
front_spaced b bs e = rw e refl

words_of_behind : (b : ℕ) (bs : List ℕ) → (b == 32) ≡ true → behind (b ∷ bs) ≡ words_of bs
words_of_behind b bs e = rw e refl

-- the words of a text whose front is one
words_said : (b : ℕ) (bs word : List ℕ) → (b == 32) ≡ false → Says word (b ∷ bs) → words_of (b ∷ bs) ≡ word ∷ []
words_said b bs word e h = words_begun b bs e ∙ ap (λ w. w ∷ behind bs) (sym (front_begun b bs e) ∙ h.0) ∙ ap (λ ws. word ∷ ws) (sym (behind_begun b bs e) ∙ h.1)

at_letter : (b : ℕ) (bs : List ℕ) (v : Bool) → (b == 113) ≡ v → (b == 32) ≡ false → Ends (if v then so_far.Q else so_far.Other) bs → words_of (b ∷ bs) ≡ codes "quit" ∷ []
at_letter b bs v q other h = words_said b bs (codes "quit") other (letter_says 113 so_far.Q (codes "uit") refl q_says b bs v q h)

at_start : (b : ℕ) (bs : List ℕ) (v : Bool) → (b == 32) ≡ v → (Ends so_far.Spaces bs → words_of bs ≡ codes "quit" ∷ [])
    → after_all (if v then so_far.Spaces else if b == 113 then so_far.Q else so_far.Other) bs ≡ so_far.Quit → words_of (b ∷ bs) ≡ codes "quit" ∷ []
at_start b bs true e rest h = words_spaced b bs e ∙ rest h
at_start b bs false e rest h = at_letter b bs (b == 113) refl e h

spaces_say : (text : List ℕ) → Ends so_far.Spaces text → words_of text ≡ codes "quit" ∷ []
spaces_say [] h = absurd (cc)
spaces_say (b ∷ bs) h = at_start b bs (b == 32) refl (spaces_say bs) h

-- ---- and one that says it ends with it

said_end_at : (b : ℕ) (bs : List ℕ) (v : Bool) → (b == 32) ≡ v → (Says [] bs → Ends so_far.Quit bs) → Says [] (b ∷ bs) → Ends so_far.Quit (b ∷ bs)
said_end_at b bs true e rest h =
    let none : words_of bs ≡ [] = sym (words_of_behind b bs e) ∙ h.1 in
    ap (λ v. after_all (if v then so_far.Quit else if b == 13 then so_far.Return else so_far.Other) bs) e ∙ rest (no_front bs none, no_behind bs none)
said_end_at b bs false e rest h = absurd (cc (front_begun b bs e))

said_end : (text : List ℕ) → Says [] text → Ends so_far.Quit text
said_end [] h = refl
said_end (b ∷ bs) h = said_end_at b bs (b == 32) refl (said_end bs) h

-- the letter that a front begins with, and what is said behind it
front_letter : (c : ℕ) (word : List ℕ) (b : ℕ) (bs : List ℕ) (v : Bool) → (b == 32) ≡ v → Says (c ∷ word) (b ∷ bs) → (b ≡ c) × Says word bs
front_letter c word b bs true e h = absurd (cc (front_spaced b bs e))
front_letter c word b bs false e h =
    let same : b ∷ front bs ≡ c ∷ word = sym (front_begun b bs e) ∙ h.0 in
    (cc, (cc, sym (behind_begun b bs e) ∙ h.1))

-- a state that only one letter leads on from
letter_ends : (c : ℕ) (next : Progress) (word : List ℕ) → (c == c) ≡ true → ((text : List ℕ) → Says word text → Ends next text)
    → (b : ℕ) (bs : List ℕ) → Says (c ∷ word) (b ∷ bs) → Ends (if b == c then next else so_far.Other) bs
letter_ends c next word itself rest b bs h =
    let parts = front_letter c word b bs (b == 32) refl h in
    ap (λ v. after_all (if v then next else so_far.Other) bs) (ap (λ x. x == c) parts.0 ∙ itself) ∙ rest bs parts.1

t_ends : (text : List ℕ) → Says (codes "t") text → Ends so_far.Qui text
t_ends [] h = absurd (cc)
t_ends (b ∷ bs) h = letter_ends 116 so_far.Quit [] refl said_end b bs h

it_ends : (text : List ℕ) → Says (codes "it") text → Ends so_far.Qu text
it_ends [] h = absurd (cc)
it_ends (b ∷ bs) h = letter_ends 105 so_far.Qui (codes "t") refl t_ends b bs h

uit_ends : (text : List ℕ) → Says (codes "uit") text → Ends so_far.Q text
uit_ends [] h = absurd (cc)
uit_ends (b ∷ bs) h = letter_ends 117 so_far.Qu (codes "it") refl it_ends b bs h

-- the one word that a text has, where it begins with none but a space
one_word : (word : List ℕ) (b : ℕ) (bs : List ℕ) → (b == 32) ≡ false → words_of (b ∷ bs) ≡ word ∷ [] → Says word (b ∷ bs)
one_word word b bs e h =
    let same : (b ∷ front bs) ∷ behind bs ≡ word ∷ [] = sym (words_begun b bs e) ∙ h in
    (front_begun b bs e ∙ cc, behind_begun b bs e ∙ cc)

starts_at : (b : ℕ) (bs : List ℕ) (v : Bool) → (b == 32) ≡ v → (words_of bs ≡ codes "quit" ∷ [] → Ends so_far.Spaces bs) → words_of (b ∷ bs) ≡ codes "quit" ∷ []
    → after_all (if v then so_far.Spaces else if b == 113 then so_far.Q else so_far.Other) bs ≡ so_far.Quit
starts_at b bs true e rest h = rest (sym (words_spaced b bs e) ∙ h)
starts_at b bs false e rest h = letter_ends 113 so_far.Q (codes "uit") refl uit_ends b bs (one_word (codes "quit") b bs e h)

words_end : (text : List ℕ) → words_of text ≡ codes "quit" ∷ [] → Ends so_far.Spaces text
words_end [] h = absurd (cc)
words_end (b ∷ bs) h = starts_at b bs (b == 32) refl (words_end bs) h

-- ---- a carriage return at the end

after_more : (p : Progress) (xs : List ℕ) (b : ℕ) → after_all p (xs ++ b ∷ []) ≡ after (after_all p xs) b
after_more p [] b = refl
after_more p (x ∷ xs) b = after_more (after p x) xs b

last_tested : (b : ℕ) (v w : Bool) → (b == 32) ≡ v → (b == 13) ≡ w → (if v then so_far.Quit else if w then so_far.Return else so_far.Other) ≡ so_far.Return → b ≡ 13
last_tested b true w e f h = absurd (cc)
last_tested b false true e f h = eqb-true b 13 f
last_tested b false false e f h = absurd (cc)

one_letter : (next : Progress) (v : Bool) → (next ≡ so_far.Return → ⊥) → (if v then next else so_far.Other) ≡ so_far.Return → ⊥
one_letter next true never h = never h
one_letter next false never h = absurd (cc)

spaces_or_q : (v w : Bool) → (if v then so_far.Spaces else if w then so_far.Q else so_far.Other) ≡ so_far.Return → ⊥
spaces_or_q true w h = absurd (cc)
spaces_or_q false true h = absurd (cc)
spaces_or_q false false h = absurd (cc)

last_of : (p : Progress) (b : ℕ) → after p b ≡ so_far.Return → b ≡ 13
last_of so_far.Spaces b h = absurd (spaces_or_q (b == 32) (b == 113) h)
last_of so_far.Q b h = absurd (one_letter so_far.Qu (b == 117) (λ e. absurd (cc)) h)
last_of so_far.Qu b h = absurd (one_letter so_far.Qui (b == 105) (λ e. absurd (cc)) h)
last_of so_far.Qui b h = absurd (one_letter so_far.Quit (b == 116) (λ e. absurd (cc)) h)
last_of so_far.Quit b h = last_tested b (b == 32) (b == 13) refl refl h
last_of so_far.Return b h = absurd (cc)
last_of so_far.Other b h = absurd (cc)

-- a line that ends within its carriage return
return_last : (p : Progress) (b : ℕ) (bs : List ℕ) → after_all p (b ∷ bs) ≡ so_far.Return → slice_index (b ∷ bs) (length bs) ≡ 13
return_last p b [] h = last_of p b h
return_last p b (c ∷ bs) h = return_last (after p b) c bs h

-- ---- the line as it is read

quit_of : (p : Progress) → is_quit p ≡ true → (p ≡ so_far.Quit) ⊎ (p ≡ so_far.Return)
quit_of so_far.Spaces h = absurd (false≢true h)
quit_of so_far.Q h = absurd (false≢true h)
quit_of so_far.Qu h = absurd (false≢true h)
quit_of so_far.Qui h = absurd (false≢true h)
quit_of so_far.Quit h = inl refl
quit_of so_far.Return h = inr refl
quit_of so_far.Other h = absurd (false≢true h)

quit_before : (p : Progress) → is_quit (after p 13) ≡ true → p ≡ so_far.Quit
quit_before so_far.Spaces h = absurd (false≢true h)
quit_before so_far.Q h = absurd (false≢true h)
quit_before so_far.Qu h = absurd (false≢true h)
quit_before so_far.Qui h = absurd (false≢true h)
quit_before so_far.Quit h = refl
quit_before so_far.Return h = absurd (false≢true h)
quit_before so_far.Other h = absurd (false≢true h)

abbrev IsQuitLine : List ℕ → Type 0
IsQuitLine line = (is_quit (after_all so_far.Spaces line) ≡ true) ↔ (words_of (trimmed line) ≡ codes "quit" ∷ [])

-- without its carriage return
returned : (line xs : List ℕ) → line ≡ xs ++ 13 ∷ [] → trimmed line ≡ xs → IsQuitLine line
returned line xs e t =
    let last : after_all so_far.Spaces line ≡ after (after_all so_far.Spaces xs) 13 = ap (after_all so_far.Spaces) e ∙ after_more so_far.Spaces xs 13 in (
      λ h. ap words_of t ∙ spaces_say xs (quit_before (after_all so_far.Spaces xs) (ap is_quit (sym last) ∙ h)),
      λ h. ap is_quit last ∙ ap (λ p. is_quit (after p 13)) (words_end xs (ap words_of (sym t) ∙ h)),
    )

one_less : (bs : List ℕ) (b : ℕ) → length (b ∷ bs) - 1 ≡ length bs
one_less bs b = omega arith

not_returned : (line : List ℕ) → (slice_index line (length line - 1) == 13) ≡ false → after_all so_far.Spaces line ≡ so_far.Return → ⊥
not_returned [] e h = absurd (cc)
not_returned (b ∷ bs) e h = false≢true (sym e ∙ ap (λ i. slice_index (b ∷ bs) i == 13) (one_less bs b) ∙ ap (λ x. x == 13) (return_last so_far.Spaces b bs h))

ends_plainly : (line : List ℕ) → (slice_index line (length line - 1) == 13) ≡ false → (after_all so_far.Spaces line ≡ so_far.Quit) ⊎ (after_all so_far.Spaces line ≡ so_far.Return)
    → words_of line ≡ codes "quit" ∷ []
ends_plainly line e (inl h) = spaces_say line h
ends_plainly line e (inr h) = absurd (not_returned line e h)

whole : (line : List ℕ) → (slice_index line (length line - 1) == 13) ≡ false → trimmed line ≡ line → IsQuitLine line
whole line e t = (
  λ h. ap words_of t ∙ ends_plainly line e (quit_of (after_all so_far.Spaces line) h),
  λ h. ap is_quit (words_end line (ap words_of (sym t) ∙ h)),
)

cut_return : (b : ℕ) (bs : List ℕ) → slice_index (b ∷ bs) (length bs) ≡ 13 → b ∷ bs ≡ take (length bs) (b ∷ bs) ++ 13 ∷ []
cut_return b bs last =
    sym (take-append-drop (length bs) (b ∷ bs))
    ∙ ap (λ t. take (length bs) (b ∷ bs) ++ t)
    (drop_more (b ∷ bs) (length bs) 0 (omega arith) ∙ ap (λ x. x ∷ drop (length bs + 1) (b ∷ bs)) last ∙ ap (λ t. 13 ∷ t) (drop_of_length-le (b ∷ bs) (omega arith)))

line_cases : (line : List ℕ) (v : Bool) → (slice_index line (length line - 1) == 13) ≡ v → IsQuitLine line
line_cases line false e = whole line e (rw e refl)
line_cases [] true e = absurd (false≢true e)
line_cases (b ∷ bs) true e =
    returned (b ∷ bs) (take (length bs) (b ∷ bs)) (cut_return b bs (ap (λ i. slice_index (b ∷ bs) i) (sym (one_less bs b)) ∙ eqb-true (slice_index (b ∷ bs) (length (b ∷ bs) - 1)) 13 e))
    (rw e (ap (λ i. take i (b ∷ bs)) (one_less bs b)))

quit_line : (line : List ℕ) → IsQuitLine line
quit_line line = line_cases line (slice_index line (length line - 1) == 13) refl

-- ---- the input with a line

pub quit_ends : (line more : List ℕ) → lacks 10 line ≡ true → words_of (trimmed line) ≡ codes "quit" ∷ [] → until_quit (line ++ 10 ∷ more) ≡ line ++ 10 ∷ []
quit_ends line more none says = through_line so_far.Spaces line more true none ((quit_line line).1 says) ∙ append-nil (line ++ 10 ∷ [])

other_by : (v : Bool) → (v ≡ true → ⊥) → v ≡ false
other_by true h = absurd (h refl)
other_by false h = refl

pub quit_goes_on : (line more : List ℕ) → lacks 10 line ≡ true → words_of (trimmed line) ≢ codes "quit" ∷ [] → until_quit (line ++ 10 ∷ more) ≡ line ++ 10 ∷ until_quit more
quit_goes_on line more none other =
    through_line so_far.Spaces line more false none (other_by (is_quit (after_all so_far.Spaces line)) (λ h. other ((quit_line line).0 h)))
    ∙ append_assoc line (10 ∷ []) (until_quit more)
