-- The command line of the desk.
use Rattle.std.specs.Prelude.{◌≡◌, ◌≢◌, ◌<◌, ◌≤◌, ◌↔◌, ◌⊎◌, IsTrue, ◌&&◌, ◌||◌, ℕ, [], ◌∷◌, List, Bool, Option, Some, None, IsSomeAnd, Result, Ok, Err, true, false, not, find, fold, is_some, codes, map, option_map, length, slice_index}
use Rattle.std.specs.Fmt.{decimal}
use Rattle.std.specs.List.{list_all}
use Rattle.std.specs.Option.{option_map_or}
use Rattle.std.specs.Str.{bytes_eq}
use Rattle.clap.specs.Words.{App, Rule, Row, Shape, Text, new_app, new_rule, with_rule, with_subcommand, first_of, Kinds, HasKind, kind_of}
use Rattle.clap.specs.Simple.{built, on_top}
use Rattle.clap.specs.declared.builder.action.ArgAction.TheVariants.{SetTrue}
use Rattle.clap.specs.declared.error.kind.ErrorKind.TheVariants.{MissingSubcommand}
use Rattle.command_line.specs.declared.commands.Argument.{Argument}
use Rattle.command_line.specs.declared.commands.Argument.TheVariants.{Required, Optional, Valued, Flag}
use Rattle.command_line.specs.declared.commands.Subcommand.{Subcommand}
use Rattle.command_line.specs.declared.words.Order.{Order}
use Rattle.command_line.specs.declared.words.Options.{Options}
use Rattle.command_line.specs.declared.words.Task.{Task}
use Rattle.command_line.specs.declared.words.Task.TheVariants.{Run, Play, Serve, Check, Survey, Picture, Report, Import, Export, Explain}
use Rattle.command_line.specs.declared.orders.NoOrder.{NoOrder}
use Rattle.command_line.specs.declared.orders.NoOrder.TheVariants as no
use Rattle.command_line.specs.declared.orders.NoOrder.TheVariants.{NotWhole}
use Rattle.command_line.specs.declared.words.WordFault.{WordFault}
use Rattle.command_line.specs.declared.words.WordFault.TheVariants.{Clap, Workers}

-- `NAME`, which is required
abbrev pub required_rule : Text → Rule
required_rule name = record (new_rule name) { required = true; value_names = 1 }

-- `NAME`, which may be left out
abbrev pub optional_rule : Text → Rule
optional_rule name = record (new_rule name) { value_names = 1 }

-- `--NAME VALUE`
abbrev pub valued_rule : Text → Rule
valued_rule name = record (new_rule name) { long = Some name; value_names = 1 }

-- `--NAME`, which has no value
abbrev pub flag_rule : Text → Rule
flag_rule name = record (new_rule name) { long = Some name; action = Some SetTrue }

-- how an argument of the table is read
abbrev pub rule_by : Argument → Rule
rule_by (Required name value help) = required_rule name.now
rule_by (Optional name value help) = optional_rule name.now
rule_by (Valued name value help) = valued_rule name.now
rule_by (Flag name help) = flag_rule name.now

-- a command of this name with these arguments
abbrev pub app_with : Text → List Rule → App
app_with name rules = fold with_rule (new_app name) rules

-- how a command of the table is read
abbrev pub app_by : Subcommand → App
app_by command = app_with command.name.now (map rule_by command.arguments.now)

-- the commands of the table
abbrev pub apps : List App
apps =
    -- `run NET --workers N --save FILE --explain --json --strict --no-files`
    app_with (codes "run")
    (required_rule (codes "net") ∷ valued_rule (codes "workers") ∷ valued_rule (codes "save") ∷ flag_rule (codes "explain") ∷ flag_rule (codes "json") ∷ flag_rule (codes "strict")
    ∷ flag_rule (codes "no-files") ∷ [])
    -- `play NET STEPS --save FILE --explain --json --strict --no-files`
    ∷ app_with (codes "play")
    (required_rule (codes "net") ∷ required_rule (codes "steps") ∷ valued_rule (codes "save") ∷ flag_rule (codes "explain") ∷ flag_rule (codes "json") ∷ flag_rule (codes "strict")
    ∷ flag_rule (codes "no-files") ∷ [])
    -- `serve NET SEATS --workers N --save FILE --explain --json --no-files`
    ∷ app_with (codes "serve")
    (required_rule (codes "net") ∷ required_rule (codes "seats") ∷ valued_rule (codes "workers") ∷ valued_rule (codes "save") ∷ flag_rule (codes "explain") ∷ flag_rule (codes "json")
    ∷ flag_rule (codes "no-files") ∷ [])
    -- `check NET --warn --explain --json`
    ∷ app_with (codes "check") (required_rule (codes "net") ∷ flag_rule (codes "warn") ∷ flag_rule (codes "explain") ∷ flag_rule (codes "json") ∷ [])
    -- `survey NET --points --explain --json`
    ∷ app_with (codes "survey") (required_rule (codes "net") ∷ flag_rule (codes "points") ∷ flag_rule (codes "explain") ∷ flag_rule (codes "json") ∷ [])
    -- `picture NET --about X --svg --explain`
    ∷ app_with (codes "picture") (required_rule (codes "net") ∷ valued_rule (codes "about") ∷ flag_rule (codes "svg") ∷ flag_rule (codes "explain") ∷ [])
    -- `report NET --about X --explain`
    ∷ app_with (codes "report") (required_rule (codes "net") ∷ valued_rule (codes "about") ∷ flag_rule (codes "explain") ∷ [])
    -- `import DIR --explain`
    ∷ app_with (codes "import") (required_rule (codes "dir") ∷ flag_rule (codes "explain") ∷ [])
    -- `export NET DIR --ranks --explain`
    ∷ app_with (codes "export") (required_rule (codes "net") ∷ required_rule (codes "dir") ∷ flag_rule (codes "ranks") ∷ flag_rule (codes "explain") ∷ [])
    -- `explain WHAT --json`
    ∷ app_with (codes "explain") (optional_rule (codes "what") ∷ flag_rule (codes "json") ∷ []) ∷ []

-- `route_desk` alone, which tells its version
abbrev pub bare_app : App
bare_app = on_top (λ s. record s { has_version = true }) (new_app (codes "route_desk"))

-- a command with one more subcommand
abbrev pub with_app : App → App → App
with_app app sub = with_subcommand app sub.top

-- `route_desk`
abbrev pub desk_app : App
desk_app = fold with_app bare_app apps

-- what is given for N says this many workers; if nothing is given, it is the number before
abbrev pub IsWorkers : ℕ → Option Text → ℕ → Type 0
IsWorkers otherwise None n = n ≡ otherwise
IsWorkers otherwise (Some text) n = (text ≡ decimal n) × (n ≤ 32)

-- the matches have this flag: its value is `true`
abbrev pub HasFlag : Text → List Row → Type 0
HasFlag id rows = first_of id rows ≡ Some (codes "true")

-- the task is what the matches of the subcommand of this name say
abbrev pub IsTask : Task → Text × List Row → Type 0
IsTask (Run net workers) (name, rows) =
    (name ≡ codes "run") × (first_of (codes "net") rows ≡ Some net.now) × IsWorkers 0 (first_of (codes "workers") rows) workers
IsTask (Play net steps) (name, rows) =
    (name ≡ codes "play") × (first_of (codes "net") rows ≡ Some net.now) × (first_of (codes "steps") rows ≡ Some steps.now)
IsTask (Serve net seats workers) (name, rows) =
    (name ≡ codes "serve") × (first_of (codes "net") rows ≡ Some net.now) × (first_of (codes "seats") rows ≡ Some seats.now)
    × IsWorkers 1 (first_of (codes "workers") rows) workers
IsTask (Check net warned) (name, rows) =
    (name ≡ codes "check") × (first_of (codes "net") rows ≡ Some net.now) × (IsTrue warned ↔ HasFlag (codes "warn") rows)
IsTask (Survey net points) (name, rows) =
    (name ≡ codes "survey") × (first_of (codes "net") rows ≡ Some net.now) × (IsTrue points ↔ HasFlag (codes "points") rows)
IsTask (Picture net about svg) (name, rows) =
    (name ≡ codes "picture") × (first_of (codes "net") rows ≡ Some net.now) × (first_of (codes "about") rows ≡ option_map (λ s. s.now) about)
    × (IsTrue svg ↔ HasFlag (codes "svg") rows)
IsTask (Report net about) (name, rows) =
    (name ≡ codes "report") × (first_of (codes "net") rows ≡ Some net.now) × (first_of (codes "about") rows ≡ option_map (λ s. s.now) about)
IsTask (Import dir) (name, rows) = (name ≡ codes "import") × (first_of (codes "dir") rows ≡ Some dir.now)
IsTask (Export net dir ranks) (name, rows) =
    (name ≡ codes "export") × (first_of (codes "net") rows ≡ Some net.now) × (first_of (codes "dir") rows ≡ Some dir.now)
    × (IsTrue ranks ↔ HasFlag (codes "ranks") rows)
IsTask (Explain what) (name, rows) = (name ≡ codes "explain") × (first_of (codes "what") rows ≡ option_map (λ s. s.now) what)

-- the options are what the matches say
abbrev pub HasOptions : Options → List Row → Type 0
HasOptions options rows =
    (first_of (codes "save") rows ≡ option_map (λ s. s.now) options.save)
    × (IsTrue options.explained ↔ HasFlag (codes "explain") rows) × (IsTrue options.json ↔ HasFlag (codes "json") rows)
    × (IsTrue options.strict ↔ HasFlag (codes "strict") rows) × (IsTrue options.no_files ↔ HasFlag (codes "no-files") rows)

-- the order is what the subcommand's matches say
abbrev pub IsOrder : Order → Option (Text × List Row) → Type 0
IsOrder order found =
    (name : Text) × (rows : List Row) × (found ≡ Some (name, rows)) × IsTask order.task (name, rows) × HasOptions order.options rows

-- the task has at most 32 workers
abbrev pub HasFewWorkers : Task → Type 0
HasFewWorkers (Run net workers) = workers ≤ 32
HasFewWorkers (Serve net seats workers) = workers ≤ 32
HasFewWorkers other = Unit {0}

-- the order is one for at most 32 workers
abbrev pub IsWithin : Order → Type 0
IsWithin order = HasFewWorkers order.task

-- whether the argument has a value
abbrev pub has_value : Text → List Row → Bool
has_value id rows = is_some (first_of id rows)

-- whether each of these arguments that is required has a value
abbrev pub has_required : List Rule → List Row → Bool
has_required rules rows = list_all (λ rule. not rule.required || has_value rule.id rows) rules

-- whether one of these subcommands has this name, and a value for each file or folder that it needs; `help` is only `clap`'s
abbrev pub is_whole_in : List Shape → Text × List Row → Bool
is_whole_in subs (name, rows) =
    not (bytes_eq name (codes "help")) && option_map_or (λ s. has_required s.rules rows) (find (λ s. bytes_eq name s.name) subs) false

-- whether the subcommand is one of the desk's, as `clap` builds them, with each file or folder that it needs
abbrev pub is_whole : Text × List Row → Bool
is_whole found = is_whole_in (built desk_app).subs found

-- the text begins with a plus or a zero, and goes on
abbrev pub IsPadded : Text → Type 0
IsPadded text = (1 < length text) × ((slice_index text 0 ≡ 43) ⊎ (slice_index text 0 ≡ 48))

-- the text says no number of workers
abbrev pub IsNoCount : Text → Type 0
IsNoCount text = (n : ℕ) → n ≤ 32 → text ≢ decimal n

-- N is given, and says no number of workers, and the matches ask for faults to be explained exactly if this is true
abbrev pub HasBadCount : Bool → List Row → Type 0
HasBadCount explained rows =
    (text : Text) × (first_of (codes "workers") rows ≡ Some text) × IsNoCount text × (IsTrue explained ↔ HasFlag (codes "explain") rows)

-- a subcommand of this name has workers
abbrev pub HasWorkers : Text → Type 0
HasWorkers name = (name ≡ codes "run") ⊎ (name ≡ codes "serve")

-- the subcommand is `run` or `serve`, with such an N
abbrev pub HasBadWorkers : Bool → Text × List Row → Type 0
HasBadWorkers explained (name, rows) = HasWorkers name × HasBadCount explained rows

-- what is told of a subcommand is its task, with at most 32 workers; or that it isn't whole; or that it has such an N
abbrev pub Tells : Result Task NoOrder → Text × List Row → Type 0
Tells (Ok task) found = IsTask task found × HasFewWorkers task
Tells (Err NotWhole) found = is_whole found ≡ false
Tells (Err (no.Workers explained)) found = HasBadWorkers explained found

-- Clap: memory was wanting, or the words have one of these faults, or they have none and name no subcommand
-- Workers: the words have no fault, N of `run` or of `serve` says no number of workers, and whether they ask for faults to be explained
abbrev pub IsWordFault : Kinds → Option (Text × List Row) → WordFault → Type 0
IsWordFault kinds found (Clap e) = HasKind kinds e ⊎ ((kinds ≡ []) × (found ≡ None) × (kind_of e ≡ MissingSubcommand))
IsWordFault kinds found (Workers explained) = (kinds ≡ []) × IsSomeAnd found (HasBadWorkers explained)
