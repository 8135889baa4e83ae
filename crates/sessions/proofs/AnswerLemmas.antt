-- What more lines do to the answers.
use Rattle.std.proofs.Common.{◌≡◌, ◌⊎◌, ℕ, true, false, List, [], ◌∷◌, ◌++◌, Option, Some, inl, inr, sym, ap, subst, refl, ◌∙◌, append_assoc, append-nil}
use Rattle.answers.specs.declared.answer.Answer.{Answer}
use Rattle.answers.specs.declared.answer.Answer.TheVariants as answer
use Rattle.answers.specs.declared.answer.Reason.TheVariants as reason
use Rattle.sessions.specs.Lines.{trimmed, is_too_long, is_silent, whole_lines, rest_of}
use Rattle.sessions.specs.Replies.{Answers, AreTexts, Replied, Answered}
use Rattle.sessions.specs.Run.{IsAnsweredInPart, IsBegun, IsFrontOf, IsUnkept, IsCutAt}
use Rattle.sessions.proofs.LineLemmas.{cut_ended}

-- the answers in two parts
module _ {S : Type 0} (Commands : List ℕ → S → Answer → S → Type 0) where
  answers_append : (c mid new : S) (ls ms : List (List ℕ)) (told more : List (Option Answer)) → Answers Commands c ls told mid → Answers Commands mid ms more new
      → Answers Commands c (ls ++ ms) (told ++ more) new
  answers_append c mid new [] ms told more one two =
      let from : Answers Commands c ms more new = subst (λ m. Answers Commands m ms more new) one.1 two in
      subst (λ x. Answers Commands c ms (x ++ more) new) (sym one.0) from
  answers_append c mid new (l ∷ ls) ms told more one two =
      (one.0, one.1, one.2 ++ more, one.3, answers_append one.1 mid new ls ms one.2 more one.4 two, ap (λ x. x ++ more) one.5)

-- the texts in two parts
module _ (Tells : Answer → List ℕ → Type 0) where
  texts_append : (told more : List (Option Answer)) (t u : List ℕ) → AreTexts Tells told t → AreTexts Tells more u → AreTexts Tells (told ++ more) (t ++ u)
  texts_append [] more t u one two = subst (λ x. AreTexts Tells more (x ++ u)) (sym one) two
  texts_append (a ∷ told) more t u one two =
      (one.0, one.1 ++ u, one.2, texts_append told more one.1 u one.3 two, ap (λ x. x ++ u) one.4 ∙ append_assoc one.0 one.1 u)

  -- all was written
  pub front_whole : (told : List (Option Answer)) (text : List ℕ) → AreTexts Tells told text → IsFrontOf Tells told text
  front_whole told text texts = record {
    front = told;
    more = [];
    whole = sym (append-nil told);
    text = text;
    texts = texts;
    cut = ([], sym (append-nil text));
  }

  -- more was answered
  front_more : (told more : List (Option Answer)) (written : List ℕ) → IsFrontOf Tells told written → IsFrontOf Tells (told ++ more) written
  front_more told more written f = record {
    front = f.front;
    more = f.more ++ more;
    whole = ap (λ t. t ++ more) f.whole ∙ append_assoc f.front f.more more;
    text = f.text;
    texts = f.texts;
    cut = f.cut;
  }

  -- less was written
  front_less : (told : List (Option Answer)) (written less more : List ℕ) → written ≡ less ++ more → IsFrontOf Tells told written → IsFrontOf Tells told less
  front_less told written less more e f = record {
    front = f.front;
    more = f.more;
    whole = f.whole;
    text = f.text;
    texts = f.texts;
    cut = (more ++ f.cut.0, f.cut.1 ∙ ap (λ t. t ++ f.cut.0) e ∙ append_assoc less more f.cut.0);
  }

module _ {S : Type 0} (Tells : Answer → List ℕ → Type 0) (Commands : List ℕ → S → Answer → S → Type 0) where
  -- both
  pub Answered-append : (c mid new : S) (ls ms : List (List ℕ)) (t u : List ℕ) → Answered Tells Commands c ls t mid → Answered Tells Commands mid ms u new → Answered Tells Commands c (ls ++ ms) (t ++ u) new
  Answered-append c mid new ls ms t u one two =
      (one.0 ++ two.0, answers_append Commands c mid new ls ms one.0 two.0 one.1 two.1, texts_append Tells one.0 two.0 t u one.2 two.2)

  Answered-one : (c new : S) (line text : List ℕ) → Replied Tells Commands line c text new → Answered Tells Commands c (line ∷ []) text new
  Answered-one c new line text reply =
      (reply.0 ∷ [], (reply.0, new, [], reply.1, (refl, refl), refl), (text, [], reply.2, refl, sym (append-nil text)))

  -- a line that is too long is told so
  pub replied_long : (line : List ℕ) (c : S) (text : List ℕ) → is_too_long (trimmed line) ≡ true → Tells (answer.Refused reason.BadLine) text → Replied Tells Commands line c text c
  replied_long line c text long told = (Some (answer.Refused reason.BadLine), rw long (refl, refl), told)

  -- what is told of any other line that gets an answer
  pub replied_answer : (line : List ℕ) (c new : S) (text : List ℕ) → is_too_long (trimmed line) ≡ false → is_silent (trimmed line) ≡ false
      → (a : Answer) × Commands (trimmed line) c a new × Tells a text → Replied Tells Commands line c text new
  replied_answer line c new text short told made = (Some made.0, rw (short, told) (made.0, made.1, refl), made.2)

  -- the answers to one line more
  pub Answered-more : (start mid new : S) (lines : List (List ℕ)) (line text more : List ℕ) → Answered Tells Commands start lines text mid → Replied Tells Commands line mid more new
      → Answered Tells Commands start (lines ++ line ∷ []) (text ++ more) new
  Answered-more start mid new lines line text more before reply =
      Answered-append start mid new lines (line ∷ []) text more before (Answered-one mid new line more reply)

  -- the answers to what was read and one line feed more
  pub ended_answers : (start mid new : S) (read text more : List ℕ) → Answered Tells Commands start (whole_lines read) text mid → Replied Tells Commands (rest_of read) mid more new
      → Answered Tells Commands start (whole_lines (read ++ 10 ∷ [])) (text ++ more) new
  ended_answers start mid new read text more before reply =
      subst (λ c. Answered Tells Commands start c (text ++ more) new) (sym (ap (λ c. c.whole) (cut_ended read)))
      (Answered-more start mid new (whole_lines read) (rest_of read) text more before reply)

  -- the first of some lines were answered
  pub part_front : (start after : S) (done left asked : List (List ℕ)) (text : List ℕ) → asked ≡ done ++ left → Answered Tells Commands start done text after
      → IsAnsweredInPart Tells Commands start asked text
  part_front start after done left asked text e answered = record {
    done = done;
    left = left;
    whole = e;
    told = answered.0;
    after = after;
    answers = answered.1;
    front = front_whole Tells answered.0 text answered.2;
  }

  -- nothing was asked
  pub Answered-none : (start : S) → Answered Tells Commands start [] [] start
  Answered-none start = ([], (refl, refl), refl)

module _ {S : Type 0} (Fails : List ℕ → S → S → Type 0) where
  -- nothing was done
  begun_none : (lines : List (List ℕ)) (s : S) → IsBegun Fails lines s s
  begun_none [] s = refl
  begun_none (line ∷ lines) s = inl refl

  -- more lines were asked
  begun_more : (ls ms : List (List ℕ)) (s t : S) → IsBegun Fails ls s t → IsBegun Fails (ls ++ ms) s t
  begun_more [] ms s t same = subst (IsBegun Fails ms s) (sym same) (begun_none ms s)
  begun_more (line ∷ ls) ms s t begun = begun

module _ {S : Type 0} (Commands : List ℕ → S → Answer → S → Type 0) (Fails : List ℕ → S → S → Type 0) where
  -- an answer was made, and not kept, or lost
  pub unkept_answer : (line : List ℕ) (old new : S) → is_too_long (trimmed line) ≡ false → is_silent (trimmed line) ≡ false
      → ((answer : Answer) × Commands (trimmed line) old answer new) ⊎ Fails (trimmed line) old new → IsUnkept Commands Fails line old new
  unkept_answer line old new short told (inl made) = inl (Some made.0, rw (short, told) (made.0, made.1, refl))
  unkept_answer line old new short told (inr lost) = inr (inr lost)

module _ {S : Type 0} (Tells : Answer → List ℕ → Type 0) (Commands : List ℕ → S → Answer → S → Type 0) (Fails : List ℕ → S → S → Type 0) where
  -- all of some lines were answered
  pub cut_whole : (start after : S) (asked : List (List ℕ)) (text written : List ℕ) → Answered Tells Commands start asked text after → text ≡ written
      → IsCutAt Tells Commands Fails start asked written after
  cut_whole start after asked text written answered same = record {
    done = asked;
    left = [];
    whole = sym (append-nil asked);
    told = answered.0;
    mid = after;
    answers = answered.1;
    front = subst (IsFrontOf Tells answered.0) same (front_whole Tells answered.0 text answered.2);
    begun = refl;
  }

  -- the last of some lines was answered and its answer not kept, or it was begun at most
  pub cut_unkept : (start mid after : S) (before : List (List ℕ)) (line text : List ℕ) → Answered Tells Commands start before text mid → IsUnkept Commands Fails line mid after
      → IsCutAt Tells Commands Fails start (before ++ line ∷ []) text after
  cut_unkept start mid after before line text answered (inl reply) = record {
    done = before ++ line ∷ [];
    left = [];
    whole = sym (append-nil (before ++ line ∷ []));
    told = answered.0 ++ reply.0 ∷ [];
    mid = after;
    answers = answers_append Commands start mid after before (line ∷ []) answered.0 (reply.0 ∷ []) answered.1 (reply.0, after, [], reply.1, (refl, refl), refl);
    front = front_more Tells answered.0 (reply.0 ∷ []) text (front_whole Tells answered.0 text answered.2);
    begun = refl;
  }
  cut_unkept start mid after before line text answered (inr begun) = record {
    done = before;
    left = line ∷ [];
    whole = refl;
    told = answered.0;
    mid = mid;
    answers = answered.1;
    front = front_whole Tells answered.0 text answered.2;
    begun = begun;
  }

  -- more lines were asked
  pub cut_of_more : (start after : S) (written : List ℕ) (ls ms all : List (List ℕ)) → all ≡ ls ++ ms → IsCutAt Tells Commands Fails start ls written after
      → IsCutAt Tells Commands Fails start all written after
  cut_of_more start after written ls ms all e cut = record {
    done = cut.done;
    left = cut.left ++ ms;
    whole = e ∙ ap (λ l. l ++ ms) cut.whole ∙ append_assoc cut.done cut.left ms;
    told = cut.told;
    mid = cut.mid;
    answers = cut.answers;
    front = cut.front;
    begun = begun_more Fails cut.left ms cut.mid after cut.begun;
  }

  -- less was written
  pub cut_less : (start after : S) (asked : List (List ℕ)) (written less more : List ℕ) → written ≡ less ++ more → IsCutAt Tells Commands Fails start asked written after
      → IsCutAt Tells Commands Fails start asked less after
  cut_less start after asked written less more e cut = record {
    done = cut.done;
    left = cut.left;
    whole = cut.whole;
    told = cut.told;
    mid = cut.mid;
    answers = cut.answers;
    front = front_less Tells cut.told written less more e cut.front;
    begun = cut.begun;
  }

  -- without what is left of who answers
  pub cut_part : (start after : S) (asked : List (List ℕ)) (written : List ℕ) → IsCutAt Tells Commands Fails start asked written after → IsAnsweredInPart Tells Commands start asked written
  cut_part start after asked written cut = record {
    done = cut.done;
    left = cut.left;
    whole = cut.whole;
    told = cut.told;
    after = cut.mid;
    answers = cut.answers;
    front = cut.front;
  }
