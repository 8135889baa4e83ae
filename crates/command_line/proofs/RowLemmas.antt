-- Where a walk over words has no fault, each row that it makes has a value.
use Rattle.std.proofs.Common.{arith, ◌≡◌, ◌++◌, ℕ, Bool, true, false, cond, zero, suc, List, [], ◌∷◌, length, drop, Option, Some, None, is_some, refl}
use Rattle.std.specs.Prelude.{IfSome, encode_utf8, slice_get, find, fold, nat_lt}
use Rattle.std.specs.List.{list_all}
use Rattle.std.specs.Option.{option_map_or}
use Rattle.std.specs.Str.{chars}
use Rattle.std.proofs.lemmas.Grind.{common_steps}
use Rattle.clap.specs.Facts.{unwrap_or_range}
use Rattle.clap.specs.Lexer.{long_of, short_of}
use Rattle.clap.specs.Kinds.{Kinds, or_else}
use Rattle.clap.specs.Walk.{Held, Names, Outcome, done, plain, Row, Rule, Step, Text, Waiting, Walk, action_of, after_flag, after_step, arg_by_id, arg_by_index, arg_by_long, arg_by_short, at_row, attached_value, bundle, bundle_met, bundle_step, first_of, flag_met, long_met, long_or_other, more_values, nothing_held, option_met, plain_word, reacted, reading_by, rows_after, settled, settled_rows, short_met, short_or_plain, takes_values, to_positional, used, used_by_id, walk, walk_from, walked, with_default, with_values, without, word_met}
use Rattle.clap.specs.Simple.{Shape}
use Rattle.clap.specs.Takes.{is_given}
use Rattle.clap.specs.Faults.{bundle_fault, bundle_step_fault, check_fault, defaults_fault, flag_word_fault, flags_fault, level_fault, long_fault, option_fault, positional_fault, react_fault, settle_fault, short_fault, step_fault, stray_fault, turn_fault, use_fault, walk_fault, word_fault}
use Rattle.clap.specs.declared.builder.action.ArgAction.TheVariants.{Set, SetTrue, Help}
use Rattle.clap.specs.declared.builder.action.ArgAction.{ArgAction}
use Rattle.clap.specs.declared.error.kind.ErrorKind.TheVariants.{TooManyValues}
use Rattle.clap.specs.declared.parser.matches.ValueSource.{ValueSource}
use Rattle.clap.specs.declared.parser.matches.ValueSource.TheVariants.{CommandLine, DefaultValue}
use Rattle.clap.specs.declared.builder.value_parser.Reading.{Reading}

-- each row has a value
abbrev pub AllFilled : List Row → Type 0
AllFilled [] = Unit {0}
AllFilled (r ∷ rows) = (is_some (slice_get r.values 0) ≡ true) × AllFilled rows

-- a use of the argument that has no fault leaves a value: it wants one, or has one that stands for none; a flag that asks for help
-- has a fault always
abbrev fills_by : ArgAction → Rule → Bool
fills_by Set a = nat_lt 0 (unwrap_or_range a.range).start_inclusive
fills_by SetTrue a = is_some (slice_get a.missing 0)
fills_by Help a = true
fills_by other a = false

abbrev pub fills : Rule → Bool
fills a = fills_by (action_of a) a

abbrev Fills : Rule → Type 0
Fills a = fills a ≡ true

abbrev AllFill : List Rule → Type 0
AllFill rules = list_all fills rules ≡ true

-- where two steps in turn have no fault, neither has one
pub none_of_both : (a b : Kinds) → or_else a b ≡ [] → (a ≡ []) × (b ≡ [])
none_of_both [] b e = (refl, e)
none_of_both (k ∷ ks) b e = cc

append_filled : (xs ys : List Row) → AllFilled xs → AllFilled ys → AllFilled (xs ++ ys)
append_filled [] ys x y = y
append_filled (r ∷ xs) ys x y = (x.0, append_filled xs ys x.1 y)

first_more : (xs ys : List Text) → is_some (slice_get xs 0) ≡ true → is_some (slice_get (xs ++ ys) 0) ≡ true
first_more [] ys e = cc
first_more (x ∷ xs) ys e = refl

at_row_filled : (id : Text) (change : Row → List Row) (missing rows : List Row) → ((r : Row) → is_some (slice_get r.values 0) ≡ true → AllFilled (change r)) → AllFilled missing
    → AllFilled rows → AllFilled (at_row id change missing rows)
at_row_filled id change missing [] changed m h = m
at_row_filled id change missing (r ∷ rows) changed m h =
    let later = at_row_filled id change missing rows changed m in
    let here = append_filled (change r) rows in
    grind (arith, common_steps)

-- ---- one use of an argument

with_filled : (id : Text) (how : Reading) (source : ValueSource) (values : List Text) (rows : List Row) → is_some (slice_get values 0) ≡ true → AllFilled rows
    → AllFilled (with_values id how source values rows)
with_filled id how source values rows some h = at_row_filled id (more_values source values) _ rows (λ r e. (first_more r.values values e, tt)) (some, tt) h

without_filled : (id : Text) (rows : List Row) → AllFilled rows → AllFilled (without id rows)
without_filled id rows h = at_row_filled id (λ _. []) [] rows (λ r e. tt) tt h

used_filled : (a : Rule) → Fills a → (again : Bool) (values : List Text) (rows : List Row) → use_fault again a values rows ≡ [] → AllFilled rows
    → AllFilled (used a values rows)
used_filled a fill again values rows e h =
    let one = λ (given : List Text). with_filled a.id (reading_by a) CommandLine given (without a.id rows) in
    let left = without_filled a.id rows h in
    grind (arith, common_steps)

-- ---- the walk

-- what is found in a list that passes a test passes it
pub found_passes : {X : Type 0} (test p : X → Bool) (xs : List X) → list_all test xs ≡ true → IfSome (find p xs) (λ x. (p x ≡ true) × (test x ≡ true))
found_passes test p [] e = tt
found_passes test p (x ∷ rest) e = let later = found_passes test p rest in grind (arith, common_steps)

found_fills : (p : Rule → Bool) (rules : List Rule) → AllFill rules → IfSome (find p rules) Fills
found_fills p rules fill = let found = found_passes fills p rules fill in grind (arith, common_steps)

use_filled : (again : Bool) (found : Option Rule) (values : List Text) (rows : List Row) → IfSome found Fills
    → option_map_or (λ a. use_fault again a values rows) found [] ≡ [] → AllFilled rows → AllFilled (used_by_id found values rows)
use_filled again None values rows fit e h = h
use_filled again (Some a) values rows fit e h = used_filled a fit again values rows e h

module _ (c : List Rule) (again : Bool) (fill : AllFill c) where
  pub settle_filled : (h : Held) → settle_fault c again h ≡ [] → AllFilled h.rows → AllFilled (settled c h).rows
  settle_filled h e f = go h.pending e
    where
      go : (p : Option (Text × List Text)) → option_map_or (λ p. option_map_or (λ a. use_fault again a p.1 h.rows) (arg_by_id c p.0) []) p [] ≡ []
          → AllFilled (settled_rows c p h.rows)
      go None e = f
      go (Some p) e = use_filled again (arg_by_id c p.0) p.1 h.rows (found_fills _ c fill) e f

  react_filled : (a : Rule) (values : List Text) (h : Held) → Fills a → react_fault c again a values h ≡ [] → AllFilled h.rows → AllFilled (reacted c a values h).rows
  react_filled a values h fit e f =
      let parts = none_of_both (settle_fault c again h) _ e in
      used_filled a fit again values (settled c h).rows parts.1 (settle_filled h parts.0 f)

  option_filled : (a : Rule) (v : Option Text) (h : Held) → Fills a → option_fault c again a v h ≡ [] → AllFilled h.rows → AllFilled (option_met c a v h).0.rows
  option_filled a None h fit e f = settle_filled h e f
  option_filled a (Some v) h fit e f = react_filled a (v ∷ []) h fit e f

  long_filled : (found : Option Rule) (v : Option Text) (h : Held) → IfSome found Fills → long_fault c again found v h ≡ [] → AllFilled h.rows
      → AllFilled (long_met c found v h).0.rows
  long_filled None v h fit e f = f
  long_filled (Some a) v h fit e f = go (takes_values a) v e
    where
      go : (b : Bool) (v : Option Text) → cond b (option_fault c again a v h) (cond (is_some v) (TooManyValues ∷ []) (react_fault c again a [] h)) ≡ []
          → AllFilled (cond b (option_met c a v h) (flag_met c a v h)).0.rows
      go true v e = option_filled a v h fit e f
      go false None e = react_filled a [] h fit e f
      go false (Some v) e = f

  short_filled : (found : Option Rule) (rest : Text) (h : Held) (fault : Held → Kinds) (met : Held → Held × Outcome) → IfSome found Fills
      → ((g : Held) → fault g ≡ [] → AllFilled g.rows → AllFilled (met g).0.rows)
      → short_fault c again found rest h fault ≡ [] → AllFilled h.rows → AllFilled (short_met c found rest h met).0.rows
  short_filled None rest h fault met fit later e f = f
  short_filled (Some a) rest h fault met fit later e f = go (takes_values a) e
    where
      go : (b : Bool) → cond b (option_fault c again a (attached_value rest) h) (or_else (react_fault c again a [] h) (fault (reacted c a [] h))) ≡ []
          → AllFilled (cond b (option_met c a (attached_value rest) h) (met (reacted c a [] h))).0.rows
      go true e = option_filled a (attached_value rest) h fit e f
      go false e =
          let parts = none_of_both (react_fault c again a [] h) _ e in
          later (reacted c a [] h) parts.1 (react_filled a [] h fit parts.0 f)

  step_of_bundle : (x : Option ℕ) (flags : Text) (skip : ℕ) (so_far : Outcome) (h : Held) (fault : Text → ℕ → Held → Kinds) (met : Text → ℕ → Outcome → Held → Held × Outcome)
      → ((t : Text) (n : ℕ) (o : Outcome) (g : Held) → fault t n g ≡ [] → AllFilled g.rows → AllFilled (met t n o g).0.rows)
      → bundle_step_fault c again x flags skip h fault ≡ [] → AllFilled h.rows → AllFilled (bundle_step c x flags skip so_far h met).0.rows
  step_of_bundle None flags skip so_far h fault met later e f = f
  step_of_bundle (Some x) flags zero so_far h fault met later e f =
      let rest = drop (length (encode_utf8 x)) flags in
      short_filled (arg_by_short c x) rest h (fault rest 0) (met rest 0 done) (found_fills _ c fill) (later rest 0 done) e f
  step_of_bundle (Some x) flags (suc skip) so_far h fault met later e f = later (drop (length (encode_utf8 x)) flags) skip so_far h e f

  bundle_filled : (k : ℕ) (flags : Text) (skip : ℕ) (so_far : Outcome) (h : Held) → flags_fault c again k flags skip h ≡ [] → AllFilled h.rows
      → AllFilled (bundle_met c k flags skip so_far h).0.rows
  unfolding flags_fault bundle_met
  bundle_filled zero flags skip so_far h e f = f
  bundle_filled (suc k) flags skip so_far h e f =
      step_of_bundle (slice_get (chars flags) 0) flags skip so_far h (flags_fault c again k) (bundle_met c k) (bundle_filled k) e f

-- what is no flag leaves the rows
plain_filled : (c : List Rule) (waiting : Waiting) (word : Text) (h : Held) → AllFilled h.rows → AllFilled (plain_word c waiting word h).0.rows
plain_filled c waiting word h f = grind (arith, common_steps)

after_filled : (c : List Rule) (waiting : Waiting) (word : Text) (h : Held) (o : Outcome) → AllFilled h.rows → AllFilled (after_flag c waiting word h o).0.rows
after_filled c waiting word h o f = let kept = plain_filled c waiting word h f in grind (arith, common_steps)

module _ (s : Shape) (fill : AllFill s.rules) where
  short_word_filled : (flags : Option Text) (waiting : Waiting) (word : Text) (h : Held)
      → option_map_or (λ flags. bundle_fault s.rules s.args_override_self flags h) flags [] ≡ [] → AllFilled h.rows
      → AllFilled (short_or_plain s.rules waiting word flags h).0.rows
  short_word_filled None waiting word h e f = plain_filled s.rules waiting word h f
  short_word_filled (Some flags) waiting word h e f =
      let met = bundle s.rules flags h in
      after_filled s.rules waiting word met.0 met.1
      (bundle_filled s.rules s.args_override_self fill (length flags) flags h.skip plain (record h { skip = 0 }) e f)

  long_word_filled : (long : Option (Text × Option Text)) (waiting : Waiting) (word : Text) (h : Held)
      → flag_word_fault s.rules s.args_override_self long word h ≡ [] → AllFilled h.rows → AllFilled (long_or_other s.rules waiting word long h).0.rows
  long_word_filled None waiting word h e f = short_word_filled (short_of word) waiting word h e f
  long_word_filled (Some p) waiting word h e f =
      let met = long_met s.rules (arg_by_long s.rules p.0) p.1 h in
      after_filled s.rules waiting word met.0 met.1
      (long_filled s.rules s.args_override_self fill (arg_by_long s.rules p.0) p.1 h (found_fills _ s.rules fill) e f)

  word_filled : (names : Names) (is_trailing : Bool) (waiting : Waiting) (position : ℕ) (word : Text) (h : Held)
      → word_fault s names is_trailing waiting word h ≡ [] → AllFilled h.rows → AllFilled (word_met s.rules names is_trailing waiting position word h).0.rows
  word_filled names is_trailing waiting position word h e f = let long = long_word_filled (long_of word) waiting word h in grind (arith, common_steps)

  positional_filled : (found : Option Rule) (word : Text) (w : Walk) (h : Held)
      → option_map_or (λ a. positional_fault s.rules s.args_override_self a h) found (stray_fault s) ≡ [] → AllFilled h.rows
      → AllFilled (to_positional s.rules found word w h).held.rows
  positional_filled found word w h e f = let settled = settle_filled s.rules s.args_override_self fill h in grind (arith, common_steps)

  step_filled : (w : Walk) (word : Text) (h : Held) (step : Step) → step_fault s w.position h step ≡ [] → AllFilled h.rows
      → AllFilled (after_step s.rules word w h step).held.rows
  step_filled w word h step e f = let to = positional_filled (arg_by_index s.rules w.position) word w h in grind (arith, common_steps)

  turn_filled : (names : Names) (w : Walk) (word : Text) → turn_fault s names w word ≡ [] → AllFilled w.held.rows
      → AllFilled (walked s.rules names w word).held.rows
  unfolding walked
  turn_filled names w word e f =
      let met = word_filled names w.is_trailing w.waiting w.position word w.held in
      let step = step_filled w word in
      grind (arith, common_steps)

  walk_filled : (names : Names) (words : List Text) (w : Walk) → walk_fault s names w words ≡ [] → AllFilled w.held.rows
      → AllFilled (fold (walked s.rules names) w words).held.rows
  unfolding walk_fault
  walk_filled names [] w e f = f
  walk_filled names (word ∷ rest) w e f =
      let parts = none_of_both (turn_fault s names w word) _ e in
      walk_filled names rest (walked s.rules names w word) parts.1 (turn_filled names w word parts.0 f)

-- ---- after the walk

default_filled : (a : Rule) (rows : List Row) → AllFilled rows → AllFilled (with_default rows a)
default_filled a rows f = let default = with_filled a.id (reading_by a) DefaultValue a.defaults rows in grind (arith, common_steps)

defaults_filled : (rules : List Rule) (rows : List Row) → AllFilled rows → AllFilled (fold with_default rows rules)
defaults_filled [] rows f = f
defaults_filled (a ∷ rest) rows f = defaults_filled rest (with_default rows a) (default_filled a rows f)

-- a level without a fault has a value in each row, and passes the last checks
pub level_filled : (s : Shape) (words : List Text) → AllFill s.rules → level_fault s [] nothing_held words false [] ≡ []
    → AllFilled (rows_after s.rules [] words) × (check_fault s (rows_after s.rules [] words) false ≡ [])
level_filled s words fill e =
    let end = (walk s.rules [] nothing_held words).held in
    let walked_on = none_of_both (walk_fault s [] (walk_from nothing_held) words) _ e in
    let ended = none_of_both (settle_fault s.rules s.args_override_self end) _ walked_on.1 in
    let checked = none_of_both (defaults_fault (settled s.rules end).rows s.rules) _ ended.1 in
    let held = walk_filled s fill [] words (walk_from nothing_held) walked_on.0 tt in
    (defaults_filled s.rules (settled s.rules end).rows (settle_filled s.rules s.args_override_self fill end ended.0 held), checked.1)

-- an argument that is given has a first value
pub given_value : (id : Text) (rows : List Row) → AllFilled rows → is_given id rows ≡ true → is_some (first_of id rows) ≡ true
given_value id [] f e = cc
given_value id (r ∷ rows) f e = let later = given_value id rows f.1 in grind (arith, common_steps)
