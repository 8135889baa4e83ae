-- Words without a fault that name a subcommand name one of the desk's, and each file or folder that it needs.
use Rattle.std.proofs.Common.{arith, ◌≡◌, ℕ, ◌&&◌, ◌||◌, Bool, true, false, not, List, [], ◌∷◌, Option, Some, refl, codes}
use Rattle.std.specs.Prelude.{IfSome, fold, find}
use Rattle.std.specs.Str.{bytes_eq}
use Rattle.std.specs.List.{list_all, list_any}
use Rattle.std.proofs.lemmas.Grind.{common_steps}
use Rattle.std.proofs.lemmas.Slice.Eq.{bytes_eq-Decides}
use Rattle.clap.specs.Kinds.{HasKind, check_kinds}
use Rattle.clap.specs.Walk.{Held, Names, Row, Rule, Step, next, trailing, subcommand, value, Text, Waiting, Walk, is_empty, answers_to, nothing_held, rows_after, walk, walk_from, walked, word_met}
use Rattle.clap.specs.Simple.{App, Shape, argument_words, built, entered, label_of, names_of, subcommand_of}
use Rattle.clap.specs.Takes.{is_given}
use Rattle.clap.specs.Faults.{built_fault, entered_fault, fault_of, level_fault, turn_fault, walk_fault, word_fault}
use Rattle.clap.specs.declared.error.Error.{Error}
use Rattle.clap.specs.declared.error.kind.ErrorKind.TheVariants.{MissingSubcommand}
use Rattle.command_line.specs.Words.{desk_app, has_required, is_whole, is_whole_in, IsWordFault}
use Rattle.command_line.specs.declared.words.WordFault.TheVariants.{Clap}
use Rattle.command_line.proofs.RowLemmas.{AllFilled, fills, found_passes, none_of_both, level_filled, given_value}

-- ---- a walk without a fault doesn't stop at `help`

abbrev IsNotHelp : Text → Type 0
IsNotHelp name = bytes_eq name (codes "help") ≡ false

abbrev StopsRight : Walk → Type 0
StopsRight w = IfSome w.stopped (λ p. IsNotHelp p.0)

-- a step to a subcommand isn't one to `help`
abbrev IsRightStep : Step → Type 0
IsRightStep (next waiting) = Unit {0}
IsRightStep (trailing position) = Unit {0}
IsRightStep (subcommand name) = IsNotHelp name
IsRightStep value = Unit {0}

module _ (s : Shape) (names : Names) (enabled : s.disable_help_subcommand ≡ false) where
  word_right : (is_trailing : Bool) (waiting : Waiting) (position : ℕ) (word : Text) (h : Held) → word_fault s names is_trailing waiting word h ≡ []
      → IsRightStep (word_met s.rules names is_trailing waiting position word h).1
  word_right is_trailing waiting position word h e = grind (arith, common_steps)

  turn_right : (w : Walk) (word : Text) → turn_fault s names w word ≡ [] → StopsRight w → StopsRight (walked s.rules names w word)
  unfolding walked
  turn_right w word e right =
      let met = word_right w.is_trailing w.waiting w.position word w.held in
      grind (arith, common_steps)

  walk_right : (words : List Text) (w : Walk) → walk_fault s names w words ≡ [] → StopsRight w → StopsRight (fold (walked s.rules names) w words)
  unfolding walk_fault
  walk_right [] w e right = right
  walk_right (word ∷ rest) w e right =
      let parts = none_of_both (turn_fault s names w word) _ e in
      walk_right rest (walked s.rules names w word) parts.1 (turn_right w word parts.0 right)

-- the subcommand that a command without a fault enters isn't `help`, and has no fault of its own
stopped_right : (a : App) (words : List Text) → a.top.disable_help_subcommand ≡ false → built_fault a nothing_held words ≡ []
    → StopsRight (walk a.top.rules (names_of a) nothing_held words) × (entered_fault a (walk a.top.rules (names_of a) nothing_held words).stopped ≡ [])
stopped_right a words enabled e =
    let parts = none_of_both (walk_fault a.top (names_of a) (walk_from nothing_held) words) _ e in (
      walk_right a.top (names_of a) enabled words (walk_from nothing_held) parts.0 tt,
      (none_of_both (entered_fault a (walk a.top.rules (names_of a) nothing_held words).stopped) _ parts.1).0,
    )

-- ---- a subcommand without a fault has what it needs

-- the last check has no fault only if nothing that is required is missing
none_missing : (help lower negates missing : Bool) → check_kinds help lower (not (negates && false) && missing) ≡ [] → missing ≡ false
none_missing help lower negates missing e = grind (arith, common_steps)

all_given : (rules : List Rule) (rows : List Row) → AllFilled rows → list_any (λ a. a.required && not (is_given a.id rows)) rules ≡ false
    → has_required rules rows ≡ true
all_given [] rows filled e = refl
all_given (a ∷ rest) rows filled e =
    let one = given_value a.id rows filled in
    let later = all_given rest rows filled in
    grind (arith, common_steps)

-- a subcommand without a fault has a value for each argument that it requires
level_whole : (s : Shape) (words : List Text) → list_all fills s.rules ≡ true → level_fault s [] nothing_held words false [] ≡ []
    → has_required s.rules (rows_after s.rules [] words) ≡ true
level_whole s words fill e =
    let end = level_filled s words fill e in
    all_given s.rules (rows_after s.rules [] words) end.0 (none_missing _ _ s.subcommand_negates_reqs _ end.1)

-- each subcommand of the desk has its own name alone, and is `help` or has only arguments whose uses leave a value
abbrev is_filling : Shape → Bool
is_filling s = is_empty s.aliases && (bytes_eq s.name (codes "help") || list_all fills s.rules)

-- a subcommand without aliases answers to its name alone, so it is found by its name
own_name : (word name : Text) (aliases : List Text) → is_empty aliases ≡ true → answers_to word (name, aliases) ≡ bytes_eq word name
own_name word name aliases none = let here = bytes_eq-Decides word name in let there = bytes_eq-Decides name word in grind (arith, common_steps)

same_found : (word : Text) (xs : List Shape) → list_all is_filling xs ≡ true → find (λ s. bytes_eq word s.name) xs ≡ find (λ s. answers_to word (label_of s)) xs
same_found word [] fit = refl
same_found word (s ∷ rest) fit = let own = own_name word s.name s.aliases in let later = same_found word rest in grind (arith, common_steps)

-- what a command enters without a fault is whole, if its subcommands are such
entered_whole : (a : App) (p : Text × List Text) (found : Text × List Row) → list_all is_filling a.subs ≡ true → IsNotHelp p.0 → entered_fault a (Some p) ≡ []
    → entered a (Some p) ≡ Some found → is_whole_in a.subs found ≡ true
entered_whole a p found filling right e is =
    let called : Shape → Bool = λ s. answers_to p.0 (label_of s) in
    let fit = found_passes is_filling called a.subs filling in
    let same = same_found p.0 a.subs filling in
    grind (arith, common_steps, level_whole, own_name, bytes_eq-Decides)

whole_found : (words : List Text) (found : Text × List Row) → fault_of desk_app words ≡ [] → subcommand_of desk_app words ≡ Some found → is_whole found ≡ true
whole_found words found e is =
    let stops = stopped_right (built desk_app) (argument_words desk_app words) refl e in
    let whole = λ (p : Text × List Text). entered_whole (built desk_app) p found refl in
    grind (arith, common_steps)

-- where the matches of words without a fault make no order, a subcommand is missing
pub missing_subcommand : (words : List Text) (found : Option (Text × List Row)) (e : Error) → fault_of desk_app words ≡ [] → found ≡ subcommand_of desk_app words
    → IfSome found (λ f. is_whole f ≡ false) → HasKind (MissingSubcommand ∷ []) e → IsWordFault (fault_of desk_app words) (subcommand_of desk_app words) (Clap e)
missing_subcommand words found e none is unfit kind = grind (arith, common_steps, whole_found)
