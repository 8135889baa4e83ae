-- The keys of a network text, and what they hold.
use Rattle.std.specs.Prelude.{ℕ, ◌==◌, ◌&&◌, ◌||◌, nat_le, ℤ, pos, negsuc, option_and_then, Bool, true, false, if◌then◌else◌, List, [], ◌∷◌, Option, Some, None, option_map, map, is_some, unwrap_or, Ok, Err, codes}
use Rattle.std.specs.List.{list_all}
use Rattle.std.specs.Str.{bytes_eq}
use Rattle.toml.specs.Data.{Data, Items, no_items, item, Members, no_members, member, get_member, as_integer, as_array, as_bool, as_str}
use Rattle.toml.specs.View.{view}
use Rattle.tokens.specs.declared.marked.Format.{Format}
use Rattle.tokens.specs.declared.marked.Format.TheVariants.{One, Two}
use Rattle.net_text.specs.Faults.{Answer, chain}
use Rattle.net_text.specs.declared.faults.Key.{Key}
use Rattle.net_text.specs.declared.faults.Key.TheVariants.{Ni, Tfr, Points, Pairs, Sets, Plans, Unknown}
use Rattle.net_text.specs.declared.faults.LoadFault.TheVariants.{BadKey}
use Rattle.net_text.specs.declared.keys.Fields.{Fields}

-- whether a format has the key `tfr`
abbrev pub has_tfr : Format → Bool
has_tfr One = false
has_tfr Two = true

-- whether a key is one of the table
abbrev pub is_known : Format → List ℕ → Bool
is_known format key =
    bytes_eq key (codes "format") || (bytes_eq key (codes "ni") || ((bytes_eq key (codes "tfr") && has_tfr format)
    || (bytes_eq key (codes "points") || (bytes_eq key (codes "pairs") || (bytes_eq key (codes "sets") || bytes_eq key (codes "plans"))))))

-- whether each key is one of the table
abbrev pub has_known_keys : Format → Members → Bool
has_known_keys format no_members = true
has_known_keys format (member key d rest) = is_known format key && has_known_keys format rest

-- the value at a key
abbrev pub at : List ℕ → Members → Option Data
at key doc = get_member key doc

-- a number that isn't negative
abbrev pub unsigned : ℤ → Option ℕ
unsigned (pos n) = Some n
unsigned (negsuc n) = None

-- the number that a value is, if it is one that isn't negative
abbrev pub unsigned_of : Option Data → Option ℕ
unsigned_of found = option_and_then unsigned (option_and_then as_integer found)

-- the format by which keys are known: 1 if it is the number 1, else 2
abbrev pub keys_format : Option ℕ → Format
keys_format (Some n) = if n == 1 then One else Two
keys_format None = Two

-- the format, 1 or 2
abbrev pub format_from : Option ℕ → Answer Format
format_from (Some n) = if n == 1 then Ok One else (if n == 2 then Ok Two else Err (BadKey Key.Format))
format_from None = Err (BadKey Key.Format)

-- the network indicator, 0 to 3
abbrev pub ni_from : Option ℕ → Answer ℕ
ni_from (Some n) = if nat_le n 3 then Ok n else Err (BadKey Ni)
ni_from None = Err (BadKey Ni)

-- the option, if the value is a truth value
abbrev pub bool_from : Option Bool → Answer Bool
bool_from None = Err (BadKey Tfr)
bool_from (Some b) = Ok b

-- the option `tfr`, true where missing
abbrev pub tfr_from : Option Data → Answer Bool
tfr_from None = Ok true
tfr_from (Some d) = bool_from (as_bool d)

-- the elements of an array
abbrev pub list_of : Items → List Data
list_of no_items = []
list_of (item d ds) = d ∷ list_of ds

-- whether a value is a string
abbrev pub is_text : Data → Bool
is_text d = is_some (as_str d)

-- the string that a value is
abbrev pub text_of : Data → List ℕ
text_of d = unwrap_or (as_str d) []

-- the strings of an array of strings
abbrev pub texts_in : Key → Option (List Data) → Answer (List (List ℕ))
texts_in key None = Err (BadKey key)
texts_in key (Some ds) = if list_all is_text ds then Ok (map text_of ds) else Err (BadKey key)

-- the strings of the array at a key; a missing array is empty
abbrev pub texts_from : Key → Option Data → Answer (List (List ℕ))
texts_from key None = Ok []
texts_from key (Some d) = texts_in key (option_map list_of (as_array d))

-- what the keys hold
pub record Held : Type 0 where
  pub format : Format
  pub ni : ℕ
  pub tfr : Bool
  pub points : List (List ℕ)
  pub pairs : List (List ℕ)
  pub sets : List (List ℕ)
  pub plans : List (List ℕ)

-- what the keys hold, as the program keeps it
abbrev pub held : Fields → Held
held f = record {
  format = f.format;
  ni = f.ni;
  tfr = f.tfr;
  points = map (λ v. text_of (view v)) f.points.now;
  pairs = map (λ v. text_of (view v)) f.pairs.now;
  sets = map (λ v. text_of (view v)) f.sets.now;
  plans = map (λ v. text_of (view v)) f.plans.now;
}

-- the format, the network indicator and the option, or the first fault of one of them
abbrev pub options_in : Members → Answer (Format × ℕ × Bool)
options_in doc =
    chain (format_from (unsigned_of (at (codes "format") doc))) (λ format.
    chain (ni_from (unsigned_of (at (codes "ni") doc))) (λ ni.
    chain (tfr_from (at (codes "tfr") doc)) (λ tfr. Ok (format, ni, tfr))))

-- what the keys hold, or the first fault: unknown keys first, then each key in the order of the table
abbrev pub held_by : Members → Answer Held
held_by doc =
    if has_known_keys (keys_format (unsigned_of (at (codes "format") doc))) doc then
    chain (options_in doc) (λ (format, ni, tfr).
    chain (texts_from Points (at (codes "points") doc)) (λ points.
    chain (texts_from Pairs (at (codes "pairs") doc)) (λ pairs.
    chain (texts_from Sets (at (codes "sets") doc)) (λ sets.
    chain (texts_from Plans (at (codes "plans") doc)) (λ plans.
    Ok (record { format = format; ni = ni; tfr = tfr; points = points; pairs = pairs; sets = sets; plans = plans }))))))
    else Err (BadKey Unknown)
