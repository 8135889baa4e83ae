-- What is written of members and items, token by token.
use Rattle.std.proofs.Common.{◌≡◌, ℕ, List, [], ◌∷◌, ◌++◌, Result, Ok, Err, OnOk, sym, ap, subst, refl, ◌∙◌, append_assoc, Vec, Global, IfOk}
use Rattle.json.specs.Json.{Json, array}
use Rattle.json.specs.Token as token
use Rattle.json.specs.Print.{print}
use Rattle.json.specs.Tree.{json_tokens, items_tokens, members_tokens}
use Rattle.json.specs.Value.{items_of}
use Rattle.json.specs.Written.{Written, Writes}
use Rattle.json_answers.specs.Members.{Member, Adds, object_members, object_with, member_tokens, item_tokens}

-- an object is its members and the end
pub whole_object : (ms : List Member) → members_tokens (object_members ms) ≡ member_tokens ms ++ token.end_object ∷ []
whole_object [] = refl
whole_object (f ∷ ms) =
    ap (λ ts. token.key f.0 ∷ ts) (ap (λ ts. json_tokens f.1 ++ ts) (whole_object ms) ∙ sym (append_assoc (json_tokens f.1) (member_tokens ms) (token.end_object ∷ [])))

-- an array is its items and the end
pub whole_array : (items : List Json) → items_tokens (items_of items) ≡ item_tokens items ++ token.end_array ∷ []
whole_array [] = refl
whole_array (j ∷ items) = ap (λ ts. json_tokens j ++ ts) (whole_array items) ∙ sym (append_assoc (json_tokens j) (item_tokens items) (token.end_array ∷ []))

pub members_then : (a b : List Member) → member_tokens (a ++ b) ≡ member_tokens a ++ member_tokens b
members_then [] b = refl
members_then (f ∷ a) b = ap (λ ts. token.key f.0 ∷ ts) (ap (λ ts. json_tokens f.1 ++ ts) (members_then a b) ∙ sym (append_assoc (json_tokens f.1) (member_tokens a) (member_tokens b)))

module _ {E : Type 0} where
  -- a token that was written
  pub wrote : (r : Result (Unit {0}) E) (old new : Written) (t : token.Token) → Writes r old new t → OnOk r (Adds old new (t ∷ []))
  wrote (Ok v) old new t w = record { tokens = w.ok; before = w.room.0 }
  wrote (Err e) old new t w = tt

  -- what was written, and then more
  pub adds_more : (r : Result (Unit {0}) E) (a b c : Written) (s t u : List token.Token) → s ++ t ≡ u → Adds a b s → OnOk r (Adds b c t) → OnOk r (Adds a c u)
  adds_more (Ok v) a b c s t u is first second = record {
    tokens = second.tokens ∙ ap (λ ts. ts ++ t) first.tokens ∙ append_assoc a.tokens s t ∙ ap (λ ts. a.tokens ++ ts) is;
    before = second.before ∙ first.before;
  }
  adds_more (Err e) a b c s t u is first second = tt

pub adds_then : (a b c : Written) (s t : List token.Token) → Adds a b s → Adds b c t → Adds a c (s ++ t)
adds_then a b c s t first second = record {
  tokens = second.tokens ∙ ap (λ ts. ts ++ t) first.tokens ∙ append_assoc a.tokens s t;
  before = second.before ∙ first.before;
}

-- members, and then more
pub adds_both : (a b c : Written) (ms ns : List Member) → Adds a b (member_tokens ms) → Adds b c (member_tokens ns) → Adds a c (member_tokens (ms ++ ns))
adds_both a b c ms ns first second =
    subst (Adds a c) (sym (members_then ms ns)) (adds_then a b c (member_tokens ms) (member_tokens ns) first second)

pub adds_members : {E : Type 0} (r : Result (Unit {0}) E) (a b c : Written) (ms ns : List Member) → Adds a b (member_tokens ms) → OnOk r (Adds b c (member_tokens ns))
    → OnOk r (Adds a c (member_tokens (ms ++ ns)))
adds_members r a b c ms ns first second = adds_more r a b c (member_tokens ms) (member_tokens ns) _ (sym (members_then ms ns)) first second

module _ {E : Type 0} (r : Result (Unit {0}) E) (a b c d : Written) where
  -- an object is written by its start, its members and its end
  pub object_written : (ms : List Member) → Adds a b (token.begin_object ∷ []) → Adds b c (member_tokens ms) → OnOk r (Adds c d (token.end_object ∷ []))
      → OnOk r (Adds a d (json_tokens (object_with ms)))
  object_written ms first inner last =
      adds_more r a c d (token.begin_object ∷ member_tokens ms) (token.end_object ∷ []) _
      (ap (λ ts. token.begin_object ∷ ts) (sym (whole_object ms))) (adds_then a b c (token.begin_object ∷ []) (member_tokens ms) first inner) last

  -- an array is written by its start, its items and its end
  pub array_written : (items : List Json) → Adds a b (token.begin_array ∷ []) → Adds b c (item_tokens items) → OnOk r (Adds c d (token.end_array ∷ []))
      → OnOk r (Adds a d (json_tokens (array (items_of items))))
  array_written items first inner last =
      adds_more r a c d (token.begin_array ∷ item_tokens items) (token.end_array ∷ []) _
      (ap (λ ts. token.begin_array ∷ ts) (sym (whole_array items))) (adds_then a b c (token.begin_array ∷ []) (item_tokens items) first inner) last

-- a line after what a buffer holds, by what its writer has written
pub line_written : {E : Type 0} (r : Result (Vec ℕ Global) E) (w : Written) (out : List ℕ) (ts : List token.Token) → w.before ≡ out → w.tokens ≡ ts
    → IfOk r (λ all. all.items ≡ w.before ++ (print w.tokens ++ 10 ∷ [])) → IfOk r (λ all. all.items ≡ out ++ (print ts ++ 10 ∷ []))
line_written (Ok all) w out ts start tokens is = is ∙ ap (λ b. b ++ (print w.tokens ++ 10 ∷ [])) start ∙ ap (λ t. out ++ (print t ++ 10 ∷ [])) tokens
line_written (Err e) w out ts start tokens is = tt
