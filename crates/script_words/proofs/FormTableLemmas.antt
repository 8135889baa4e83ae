-- The table of the words that begin a command, against the reading.
use Rattle.std.proofs.Common.{◌≡◌, ◌∙◌, ℕ, Bool, true, false, ◌&&◌, cond, List, [], ◌∷◌, Option, Some, None, option_map, option_and_then, is_some, IsSome, nat_lt, ltb-true, codes, find, refl, ap, sym, subst}
use Rattle.std.specs.List.{All, list_all}
use Rattle.std.specs.Option.{option_map_or}
use Rattle.std.specs.Str.{bytes_eq, is_utf8, IsAscii}
use Rattle.std.proofs.lemmas.Bool.{false≢true}
use Rattle.std.proofs.lemmas.List.Elements.{All-nil, All-cons}
use Rattle.std.proofs.lemmas.Str.{is_utf8-from_IsUtf8}
use Rattle.std.proofs.lemmas.Str.Ascii.{IsAscii-nil, IsAscii-cons, encodes-IsAscii}
use Rattle.tokens.specs.Words.{words_of}
use Rattle.tokens.proofs.MarkedLemmas.{bytes_same}
use Rattle.script_words.specs.declared.commands.Command.{Command}
use Rattle.script_words.specs.declared.command_words.CommandWord.{CommandWord}
use Rattle.script_words.specs.declared.verbs.Verb.{Verb}
use Rattle.script_words.specs.Events.{verb_of}
use Rattle.script_words.specs.Wholes.{listed_by}
use Rattle.script_words.specs.Commands.{command_by, command_listed, command_of, command_word_of, desk_word_of, net_word_of}
use Rattle.script_words.specs.Forms.{FormValue, IsExample, IsListed, command_forms, is_of}

-- the value that is there
value_in : {A : Type 0} (o : Option A) → IsSome o → (x : A) × (o ≡ Some x)
value_in None h = absurd (false≢true h)
value_in (Some x) h = (x, refl)

both : (a b : Bool) → (a && b) ≡ true → (a ≡ true) × (b ≡ true)
both true b h = (refl, h)
both false b h = absurd (false≢true h)

-- ---- examples

-- whether words begin with a word and are a command
abbrev begins_command : List ℕ → List (List ℕ) → Bool
begins_command word [] = false
begins_command word (first ∷ rest) = bytes_eq first word && is_some (command_of (first ∷ rest))

example_at : (form : FormValue) (words : List (List ℕ)) → words_of form.example ≡ words → begins_command form.word words ≡ true → IsExample form
example_at form [] same h = absurd (false≢true h)
example_at form (first ∷ rest) same h =
    let parts = both (bytes_eq first form.word) (is_some (command_of (first ∷ rest))) h in
    let command = value_in (command_of (first ∷ rest)) parts.1 in
    record { rest = rest; begins = same ∙ ap (λ word. word ∷ rest) (bytes_same first form.word parts.0); command = command.0; says = ap command_of same ∙ command.1 }

abbrev is_example : FormValue → Bool
is_example form = begins_command form.word (words_of form.example)

all_examples : (forms : List FormValue) → list_all is_example forms ≡ true → All IsExample forms
all_examples [] h = All-nil IsExample
all_examples (form ∷ forms) h =
    let parts = both (is_example form) (list_all is_example forms) h in
    All-cons IsExample form forms (example_at form (words_of form.example) refl parts.0) (all_examples forms parts.1)

-- a text below 128
ascii : (text : List ℕ) → list_all (λ b. nat_lt b 128) text ≡ true → IsAscii text
ascii [] h = IsAscii-nil
ascii (b ∷ text) h =
    let parts = both (nat_lt b 128) (list_all (λ b. nat_lt b 128) text) h in
    IsAscii-cons b text (ltb-true b 128 parts.0) (ascii text parts.1)

-- the names of the files in the examples of `picture` and `save`
picture_named : is_utf8 (codes "net.svg") ≡ true
picture_named =
    let name = codes "net.svg" in
    is_utf8-from_IsUtf8 name (name, (refl, encodes-IsAscii name (ascii name refl)))

save_named : is_utf8 (codes "net.toml") ≡ true
save_named =
    let name = codes "net.toml" in
    is_utf8-from_IsUtf8 name (name, (refl, encodes-IsAscii name (ascii name refl)))

pub examples : All IsExample command_forms
examples = all_examples command_forms (rw (picture_named, save_named) refl)

-- ---- the words stand in the table

-- a word is found in the table
abbrev IsFound : List ℕ → Type 0
IsFound word = IsSome (find (is_of word) command_forms)

found_at : {A : Type 0} (word text : List ℕ) (x : A) (rest : Option A) (b : Bool) → bytes_eq word text ≡ b → IsFound text → (IsSome rest → IsFound word)
    → IsSome (cond b (Some x) rest) → IsFound word
found_at word text x rest true same here next h = subst IsFound (sym (bytes_same word text same)) here
found_at word text x rest false other here next h = next h

-- a word that is this one, or is read as one of the rest
found_or : {A : Type 0} (word text : List ℕ) (x : A) (rest : Option A) → IsFound text → (IsSome rest → IsFound word) → IsSome (cond (bytes_eq word text) (Some x) rest) → IsFound word
found_or word text x rest here next h = found_at word text x rest (bytes_eq word text) refl here next h

none_found : (A : Type 0) (word : List ℕ) → IsSome {T = A} None → IsFound word
none_found A word h = absurd (false≢true h)

verb_found : (word : List ℕ) → IsSome (verb_of word) → IsFound word
verb_found word =
    found_or word (codes "fail") _ _ refl (found_or word (codes "restore") _ _ refl (found_or word (codes "block") _ _ refl (found_or word (codes "unblock") _ _ refl
    (found_or word (codes "inhibit") _ _ refl (found_or word (codes "uninhibit") _ _ refl (found_or word (codes "point") _ _ refl (found_or word (codes "pair") _ _ refl
    (found_or word (codes "unpair") _ _ refl (found_or word (codes "set") _ _ refl (found_or word (codes "link") _ _ refl (found_or word (codes "plan") _ _ refl
    (found_or word (codes "tfr") _ _ refl (none_found Verb word)))))))))))))

net_word_found : (word : List ℕ) → IsSome (net_word_of word) → IsFound word
net_word_found word =
    found_or word (codes "whatif") _ _ refl (found_or word (codes "reroutes") _ _ refl (found_or word (codes "survey") _ _ refl (found_or word (codes "warn") _ _ refl (found_or word (codes "show") _ _ refl (found_or word (codes "statuses") _ _ refl (found_or word (codes "audit") _ _ refl (found_or word (codes "changes") _ _ refl (found_or word (codes "watch") _ _ refl (found_or word (codes "picture") _ _ refl (found_or word (codes "save") _ _ refl (none_found CommandWord word)))))))))))

desk_word_found : (word : List ℕ) → IsSome (desk_word_of word) → IsFound word
desk_word_found word =
    found_or word (codes "sync") _ _ refl (found_or word (codes "post") _ _ refl (found_or word (codes "open") _ _ refl (found_or word (codes "take") _ _ refl (found_or word (codes "give") _ _ refl (found_or word (codes "abandon") _ _ refl (found_or word (codes "publish") _ _ refl (found_or word (codes "version") _ _ refl (found_or word (codes "last") _ _ refl (found_or word (codes "who") _ _ refl (net_word_found word))))))))))

command_word_found : (word : List ℕ) → IsSome (command_word_of word) → IsFound word
command_word_found word =
    found_or word (codes "status") _ _ refl (found_or word (codes "sls") _ _ refl (found_or word (codes "messages") _ _ refl (found_or word (codes "octets") _ _ refl
    (found_or word (codes "why") _ _ refl (found_or word (codes "mend") _ _ refl (found_or word (codes "remedy") _ _ refl (found_or word (codes "trace") _ _ refl (desk_word_found word))))))))

first_found : (word : List ℕ) (rest : List (List ℕ)) (other : Option CommandWord) (verb : Option Verb) → (IsSome other → IsFound word) → (IsSome verb → IsFound word)
    → IsSome (option_map_or (λ w. command_by w rest) other (option_map command_listed (option_and_then (λ v. listed_by v rest) verb))) → IsFound word
first_found word rest (Some other) verb by_other by_verb h = by_other refl
first_found word rest None (Some verb) by_other by_verb h = by_verb refl
first_found word rest None None by_other by_verb h = absurd (false≢true h)

pub complete : (first : List ℕ) (rest : List (List ℕ)) (command : Command) → command_of (first ∷ rest) ≡ Some command → IsListed first
complete first rest command e =
    value_in (find (is_of first) command_forms) (first_found first rest (command_word_of first) (verb_of first) (command_word_found first) (verb_found first) (ap is_some e))
