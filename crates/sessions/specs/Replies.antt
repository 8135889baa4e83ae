-- What the lines of a script do, by whoever answers them, and what is written of it, by whoever tells it.
use Rattle.std.specs.Prelude.{◌≡◌, ℕ, Bool, true, false, List, [], ◌∷◌, ◌++◌, Option, Some, None}
use Rattle.answers.specs.declared.answer.Answer.{Answer}
use Rattle.answers.specs.declared.answer.Answer.TheVariants as answer
use Rattle.answers.specs.declared.answer.Reason.TheVariants as reason
use Rattle.sessions.specs.Lines.{trimmed, is_too_long, is_silent}

-- `Commands` says what a line does that is neither too long nor silent: its answer, and what stands after it
module _ {S : Type 0} (Commands : List ℕ → S → Answer → S → Type 0) where
  -- a line that is too long, one that gets no answer, and any other
  abbrev pub IsReply : Bool → Bool → List ℕ → S → Option Answer → S → Type 0
  IsReply true silent line c told new = (told ≡ Some (answer.Refused reason.BadLine)) × (new ≡ c)
  IsReply false true line c told new = (told ≡ None) × (new ≡ c)
  IsReply false false line c told new = (a : Answer) × Commands line c a new × (told ≡ Some a)

  -- what a line does: its answer, if it gets one, and what stands after it
  abbrev pub Replies : List ℕ → S → Option Answer → S → Type 0
  Replies line = IsReply (is_too_long (trimmed line)) (is_silent (trimmed line)) (trimmed line)

  -- what some lines do, one after the other: the answer to each, if it gets one, and what stands after them
  abbrev pub Answers : S → List (List ℕ) → List (Option Answer) → S → Type 0
  Answers c [] told new = (told ≡ []) × (new ≡ c)
  Answers c (line ∷ lines) told new =
      (first : Option Answer) × (mid : S) × (rest : List (Option Answer)) × Replies line c first mid × Answers mid lines rest new × (told ≡ first ∷ rest)

-- `Tells` says in which texts an answer may be told
module _ (Tells : Answer → List ℕ → Type 0) where
  -- the text of what a line gets, empty if it gets no answer
  abbrev pub IsText : Option Answer → List ℕ → Type 0
  IsText None text = text ≡ []
  IsText (Some a) text = Tells a text

  -- the texts of what some lines get, one after the other
  abbrev pub AreTexts : List (Option Answer) → List ℕ → Type 0
  AreTexts [] text = text ≡ []
  AreTexts (told ∷ more) text = (first : List ℕ) × (rest : List ℕ) × IsText told first × AreTexts more rest × (text ≡ first ++ rest)

module _ {S : Type 0} (Tells : Answer → List ℕ → Type 0) (Commands : List ℕ → S → Answer → S → Type 0) where
  -- what a line does: the text of its answer, and what stands after it
  abbrev pub Replied : List ℕ → S → List ℕ → S → Type 0
  Replied line c text new = (told : Option Answer) × Replies Commands line c told new × IsText Tells told text

  -- what some lines do, one after the other: the text of all their answers, and what stands after them
  abbrev pub Answered : S → List (List ℕ) → List ℕ → S → Type 0
  Answered c lines text new = (told : List (Option Answer)) × Answers Commands c lines told new × AreTexts Tells told text
