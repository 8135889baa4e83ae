-- The first word of an event.
use Rattle.std.proofs.Common.{◌≡◌, ℕ, codes, Bool, true, false, cond, List, Option, Some, None, refl, ap, ◌∙◌}
use Rattle.std.specs.Str.{bytes_eq}
use Rattle.point_codes.proofs.CodeLemmas.{same_pair}
use Rattle.tokens.proofs.MarkedLemmas.{bytes_same}
use Rattle.script_words.specs.declared.verbs.Verb.{Verb}
use Rattle.script_words.specs.declared.verbs.Verb.TheVariants as verb
use Rattle.script_words.specs.Events.{verb_of}

abbrev pub verb_word : Verb → List ℕ
verb_word verb.Fail = codes "fail"
verb_word verb.Restore = codes "restore"
verb_word verb.Block = codes "block"
verb_word verb.Unblock = codes "unblock"
verb_word verb.Inhibit = codes "inhibit"
verb_word verb.Uninhibit = codes "uninhibit"
verb_word verb.Point = codes "point"
verb_word verb.Pair = codes "pair"
verb_word verb.Unpair = codes "unpair"
verb_word verb.Set = codes "set"
verb_word verb.Link = codes "link"
verb_word verb.Plan = codes "plan"
verb_word verb.Tfr = codes "tfr"

no_verb : (v : Verb) (word : List ℕ) → None ≡ Some v → word ≡ verb_word v
no_verb v word e = absurd (cc)

this_at : (x v : Verb) (word : List ℕ) (rest : Option Verb) (b : Bool) → bytes_eq word (verb_word x) ≡ b → (rest ≡ Some v → word ≡ verb_word v) → cond b (Some x) rest ≡ Some v → word ≡ verb_word v
this_at x v word rest true p next e = bytes_same word (verb_word x) p ∙ ap verb_word (same_pair x v e)
this_at x v word rest false p next e = next e

this_or : (x v : Verb) (word : List ℕ) (rest : Option Verb) → (rest ≡ Some v → word ≡ verb_word v) → cond (bytes_eq word (verb_word x)) (Some x) rest ≡ Some v → word ≡ verb_word v
this_or x v word rest next e = this_at x v word rest (bytes_eq word (verb_word x)) refl next e

pub verb_reads : (word : List ℕ) (v : Verb) → verb_of word ≡ Some v → word ≡ verb_word v
verb_reads word v =
    this_or verb.Fail v word _ (this_or verb.Restore v word _ (this_or verb.Block v word _ (this_or verb.Unblock v word _
    (this_or verb.Inhibit v word _ (this_or verb.Uninhibit v word _ (this_or verb.Point v word _ (this_or verb.Pair v word _
    (this_or verb.Unpair v word _ (this_or verb.Set v word _ (this_or verb.Link v word _ (this_or verb.Plan v word _
    (this_or verb.Tfr v word _ (no_verb v word)))))))))))))
