-- The first words of commands, and forms of another number of words.
use Rattle.std.proofs.Common.{arith, ◌≡◌, ℕ, ◌-◌, ◌<◌, ◌≤◌, Bor, List, [], ◌∷◌, length, get_or, take, drop, Option, Some, None, option_map, refl, ap, sym, ◌∙◌}
use Rattle.std.proofs.lemmas.List.{take_all}
use Rattle.script_words.specs.declared.commands.Command.{Command}
use Rattle.script_words.specs.declared.questions.Question.{Question}
use Rattle.script_words.specs.declared.verbs.Verb.{Verb}
use Rattle.script_words.specs.declared.verbs.Verb.TheVariants as verb
use Rattle.tokens.proofs.WordsLemmas.{nows}
use Rattle.script_words.specs.Events.{verb_of}
use Rattle.script_words.specs.Wholes.{listed_by, whole_by}
use Rattle.script_words.specs.Commands.{post_of, about_of, octets_of, trace_of, command_listed, command_word_of, command_of}
use Rattle.script_words.proofs.VerbLemmas.{verb_word, verb_reads}

-- ---- the first word

verb_alone : (v : Verb) → command_word_of (verb_word v) ≡ None
verb_alone verb.Fail = refl
verb_alone verb.Restore = refl
verb_alone verb.Block = refl
verb_alone verb.Unblock = refl
verb_alone verb.Inhibit = refl
verb_alone verb.Uninhibit = refl
verb_alone verb.Point = refl
verb_alone verb.Pair = refl
verb_alone verb.Unpair = refl
verb_alone verb.Set = refl
verb_alone verb.Link = refl
verb_alone verb.Plan = refl
verb_alone verb.Tfr = refl

-- the first word of an event begins no other command
pub no_command_word : (text : List ℕ) (v : Verb) → verb_of text ≡ Some v → command_word_of text ≡ None
no_command_word text v e = ap command_word_of (verb_reads text v e) ∙ verb_alone v

-- what was read by the first word of an event is the command of the words
pub said_command : (ws : List (Bor (List ℕ))) (d : Bor (List ℕ)) (v : Verb) (command : Option Command) → 1 ≤ length ws → Some v ≡ verb_of (get_or ws 0 d).now
    → command ≡ option_map command_listed (listed_by v (nows (take (length ws - 1) (drop 1 ws)))) → command ≡ command_of (nows ws)
said_command [] d v command some verb_is read = absurd (omega arith)
said_command (w ∷ ws) d v command some verb_is read =
    read ∙ ap (λ l. option_map command_listed (listed_by v (nows l))) (take_all (length (w ∷ ws) - 1) ws (omega arith))
    ∙ rw (no_command_word w.now v (sym verb_is), ← verb_is) refl

-- ---- forms

pub no_post : (ws : List (Bor (List ℕ))) → length ws < 2 → None ≡ post_of (nows ws)
no_post [] h = refl
no_post (a ∷ []) h = refl
no_post (a ∷ b ∷ ws) h = absurd (omega arith)

pub no_whole : (v : Verb) (ws : List (Bor (List ℕ))) → length ws < 2 → None ≡ whole_by v (nows ws)
no_whole v [] h = refl
no_whole v (a ∷ []) h = refl
no_whole v (a ∷ b ∷ ws) h = absurd (omega arith)

pub no_about : (asked : Question) (ws : List (Bor (List ℕ))) → (length ws ≡ 2 → ⊥) → None ≡ about_of asked (nows ws)
no_about asked [] h = refl
no_about asked (a ∷ []) h = refl
no_about asked (a ∷ b ∷ []) h = absurd (h (omega arith))
no_about asked (a ∷ b ∷ c ∷ ws) h = refl

pub no_octets : (ws : List (Bor (List ℕ))) → (length ws ≡ 3 → ⊥) → None ≡ octets_of (nows ws)
no_octets [] h = refl
no_octets (a ∷ []) h = refl
no_octets (a ∷ b ∷ []) h = refl
no_octets (a ∷ b ∷ c ∷ []) h = absurd (h (omega arith))
no_octets (a ∷ b ∷ c ∷ d ∷ ws) h = refl

pub no_trace : (ws : List (Bor (List ℕ))) → (length ws ≡ 3 → ⊥) → None ≡ trace_of (nows ws)
no_trace [] h = refl
no_trace (a ∷ []) h = refl
no_trace (a ∷ b ∷ []) h = refl
no_trace (a ∷ b ∷ c ∷ []) h = absurd (h (omega arith))
no_trace (a ∷ b ∷ c ∷ d ∷ ws) h = refl
