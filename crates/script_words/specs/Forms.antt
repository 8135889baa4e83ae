-- The words that begin a command, the forms of their commands, an example of each, and what they do.
use Rattle.std.specs.Prelude.{◌≡◌, ℕ, Bool, List, [], ◌∷◌, ◌++◌, Some, codes, find}
use Rattle.std.specs.Str.{bytes_eq}
use Rattle.tokens.specs.Words.{words_of}
use Rattle.script_words.specs.declared.commands.Command.{Command}
use Rattle.script_words.specs.declared.form_table.Form.{Form}
use Rattle.script_words.specs.Commands.{command_of}

-- a word that begins a command, the form of its commands, an example, and what they do
pub record FormValue : Type 0 where
  pub word : List ℕ
  pub form : List ℕ
  pub example : List ℕ
  pub meaning : List ℕ

-- what an entry of the table says
abbrev pub value_of : Form → FormValue
value_of form = record { word = form.word.now; form = form.form.now; example = form.example.now; meaning = form.meaning.now }

-- that of each word but `help` and `quit`
abbrev pub command_forms : List FormValue
command_forms =
    record { word = codes "fail"; form = codes "fail ID SLC"; example = codes "fail 2 0"; meaning = codes "the link SLC of the set ID fails" } ∷
    record { word = codes "restore"; form = codes "restore ID SLC"; example = codes "restore 2 0"; meaning = codes "the failed link is back; what else is marked stays" } ∷
    record { word = codes "block"; form = codes "block ID SLC END"; example = codes "block 2 0 b"; meaning = codes "the end a or b of the link blocks it, as in a processor outage; a if none is named" } ∷
    record { word = codes "unblock"; form = codes "unblock ID SLC END"; example = codes "unblock 2 0 b"; meaning = codes "the end blocks the link no longer" } ∷
    record { word = codes "inhibit"; form = codes "inhibit ID SLC END"; example = codes "inhibit 2 0 a"; meaning = codes "the end a or b of the link keeps traffic off it, for maintenance; a if none is named" } ∷
    record { word = codes "uninhibit"; form = codes "uninhibit ID SLC END"; example = codes "uninhibit 2 0 a"; meaning = codes "the end inhibits the link no longer" } ∷
    record { word = codes "point"; form = codes "point add CODE KIND or point drop CODE or point CHANGE CODE END"; example = codes "point fail 2-10-1"; meaning = codes "a point comes, sep or stp, or goes; or each link of all its sets is changed by fail, restore, block, unblock, inhibit or uninhibit, where a is the end at the point" } ∷
    record { word = codes "pair"; form = codes "pair CODE CODE"; example = codes "pair 2-10-1 2-10-2"; meaning = codes "two transfer points become mates" } ∷
    record { word = codes "unpair"; form = codes "unpair CODE"; example = codes "unpair 2-10-1"; meaning = codes "the point and its mate are mates no longer" } ∷
    record { word = codes "set"; form = codes "set add ID CODE CODE SLC SLC .. or set drop ID or set CHANGE ID END"; example = codes "set fail 2"; meaning = codes "a set comes, with its points a and b and its links, or goes; or each of its links is changed by fail, restore, block, unblock, inhibit or uninhibit" } ∷
    record { word = codes "link"; form = codes "link add ID SLC or link drop ID SLC"; example = codes "link add 2 1"; meaning = codes "a link of the set comes, failed at first, or goes" } ∷
    record { word = codes "plan"; form = codes "plan set CODE ROW ROW .. or plan drop CODE"; example = codes "plan set 2-1-2 2-1-1:2:2-10-1 2-10-1:1:2-1-2"; meaning = codes "the plan of the destination is set, or goes; a ROW is CODE:RANK:CLASSES of a point" } ∷
    record { word = codes "tfr"; form = codes "tfr on or tfr off"; example = codes "tfr off"; meaning = codes "whether transfer-restricted messages are in use" } ∷
    record { word = codes "post"; form = codes "post C SEQ EVENT"; example = codes "post 1 1 fail 2 0"; meaning = codes "an event of the collector C under its number SEQ; the last one again isn't taken twice" } ∷
    record { word = codes "open"; form = codes "open"; example = codes "open"; meaning = codes "all that is accepted becomes the next version, and what it touches waits" } ∷
    record { word = codes "take"; form = codes "take K"; example = codes "take 0"; meaning = codes "the first destination that waits is worked out, and the result kept in the slot K, 0 to 31" } ∷
    record { word = codes "give"; form = codes "give K"; example = codes "give 0"; meaning = codes "the result in the slot K is given to the desk" } ∷
    record { word = codes "abandon"; form = codes "abandon K"; example = codes "abandon 0"; meaning = codes "the destination of the result in the slot K waits again" } ∷
    record { word = codes "publish"; form = codes "publish"; example = codes "publish"; meaning = codes "the next version is published, once all of it is worked out" } ∷
    record { word = codes "sync"; form = codes "sync"; example = codes "sync"; meaning = codes "all that is accepted is worked out and published; questions are answered from what is published" } ∷
    record { word = codes "version"; form = codes "version"; example = codes "version"; meaning = codes "which version is published, and how many events are accepted" } ∷
    record { word = codes "last"; form = codes "last C"; example = codes "last 0"; meaning = codes "the last number of the collector C; 0 is that of plain lines" } ∷
    record { word = codes "who"; form = codes "who"; example = codes "who"; meaning = codes "how many events came through each session" } ∷
    record { word = codes "show"; form = codes "show or show down or show set ID or show point CODE or show plan X"; example = codes "show down"; meaning = codes "how large the network is; or each link that isn't available, as ID:SLC and f failed, ba or bb blocked, ia or ib inhibited, a or b being the end; or a set, a point or a plan" } ∷
    record { word = codes "statuses"; form = codes "statuses X"; example = codes "statuses 2-1-2"; meaning = codes "how each point reaches the destination X" } ∷
    record { word = codes "status"; form = codes "status Y X"; example = codes "status 2-1-1 2-1-2"; meaning = codes "whether the point Y reaches the destination X, and over what" } ∷
    record { word = codes "sls"; form = codes "sls Y X"; example = codes "sls 2-1-1 2-1-2"; meaning = codes "the link, ID:SLC, of each of the sixteen signalling link selections from Y to X" } ∷
    record { word = codes "messages"; form = codes "messages Y X"; example = codes "messages 2-10-1 2-1-2"; meaning = codes "what Y has told about X to which point: TFA allowed, TFR restricted, TFP prohibited" } ∷
    record { word = codes "octets"; form = codes "octets Y Z X"; example = codes "octets 2-10-1 2-1-1 2-1-2"; meaning = codes "the octets of the message about X that Y has told Z" } ∷
    record { word = codes "why"; form = codes "why Y X"; example = codes "why 2-1-1 2-1-2"; meaning = codes "each way that Y has to X, what stands against it, and which is used" } ∷
    record { word = codes "mend"; form = codes "mend Y X or mend allowed Y X"; example = codes "mend 2-1-1 2-1-2"; meaning = codes "the fewest links to restore for Y to reach X, or to reach it allowed; marked as in show down" } ∷
    record { word = codes "remedy"; form = codes "remedy Y X or remedy allowed Y X"; example = codes "remedy allowed 2-1-1 2-1-2"; meaning = codes "the commands that restore them, and which point gives each" } ∷
    record { word = codes "trace"; form = codes "trace Y X S"; example = codes "trace 2-1-1 2-1-2 0"; meaning = codes "the way of the signalling link selection S, 0 to 15, from Y to X" } ∷
    record { word = codes "whatif"; form = codes "whatif EVENT ; EVENT .."; example = codes "whatif set fail 2 ; inhibit 1 0 a"; meaning = codes "which statuses these events would change; they aren't made" } ∷
    record { word = codes "reroutes"; form = codes "reroutes EVENT ; EVENT .."; example = codes "reroutes point fail 2-10-1 ; restore 2 0"; meaning = codes "what these events would move to other routes, take and bring back; they aren't made" } ∷
    record { word = codes "survey"; form = codes "survey WHAT or survey WHAT EVENT ; EVENT .."; example = codes "survey sets"; meaning = codes "WHAT is sets or points, and tells how many pairs of point and destination each would take if it failed alone; or down, and tells how many each set that is down would bring back if it alone were restored, with all marks of its links gone; after these events, if any" } ∷
    record { word = codes "warn"; form = codes "warn"; example = codes "warn"; meaning = codes "what a planner should look at: rows and plans that are missing, points and sets that no plan uses, and what a single failure would take; route_desk explain NAME says what each means" } ∷
    record { word = codes "picture"; form = codes "picture FILE or picture FILE X"; example = codes "picture net.svg 2-1-2"; meaning = codes "a picture of the network, or of the routes to X, into a file that ends in .svg, .dot or .gv" } ∷
    record { word = codes "save"; form = codes "save FILE"; example = codes "save net.toml"; meaning = codes "the network after all accepted events into a file" } ∷
    record { word = codes "changes"; form = codes "changes or changes N or changes WHICH or changes N WHICH"; example = codes "changes 2"; meaning = codes "what moved since the version before, or since version N, one of the last eight: Y/X is the point Y and the destination X, with its status or its route before and after; WHICH is lost, regained or moved, and tells those alone" } ∷
    record { word = codes "watch"; form = codes "watch on or watch off"; example = codes "watch on"; meaning = codes "whether each publication tells what it moves" } ∷
    record { word = codes "audit"; form = codes "audit"; example = codes "audit"; meaning = codes "whether each table is right" } ∷
    []

-- that of `help`
abbrev pub help_form : FormValue
help_form = record { word = codes "help"; form = codes "help or help WORD"; example = codes "help status"; meaning = codes "every word, or what a word does" }

-- that of `quit`
abbrev pub quit_form : FormValue
quit_form = record { word = codes "quit"; form = codes "quit"; example = codes "quit"; meaning = codes "the script, or the session, ends here" }

-- the table
abbrev pub forms : List FormValue
forms = command_forms ++ help_form ∷ quit_form ∷ []

-- whether it is that of a word
abbrev pub is_of : List ℕ → FormValue → Bool
is_of word form = bytes_eq word form.word

-- a word other than `help` and `quit` has an entry
abbrev pub IsListed : List ℕ → Type 0
IsListed word = (form : FormValue) × (find (is_of word) command_forms ≡ Some form)

-- its example is a command, and begins with its word
pub record IsExample (form : FormValue) : Type 0 where
  pub rest : List (List ℕ)
  pub begins : words_of form.example ≡ form.word ∷ rest
  pub command : Command
  pub says : command_of (words_of form.example) ≡ Some command
