-- The table of a network: its network indicator, the option of transfer-restricted messages, its plans without rows and, where they are
-- given, the ranks of the rows of its plans (own).
use Rattle.std.specs.Prelude.{◌≡◌, ℕ, Bool, true, false, if◌then◌else◌, List, [], ◌∷◌, ◌++◌, map, option_map, option_and_then, Option, Some, None, Ok, Err, codes}
use Rattle.std.specs.Str.{bytes_eq}
use Rattle.std.specs.Fmt.{decimal}
use Rattle.std.specs.List.{flat_map}
use Rattle.net_items.specs.declared.items.Plan.{Plan}
use Rattle.net_items.specs.declared.lists.Row.{Row}
use Rattle.net_sets.specs.Sets.{is_nil}
use Rattle.net_data.specs.Network.{Network}
use Rattle.point_codes.specs.Codes.{split_of, code_of, code_text}
use Rattle.tokens.specs.Numbers.{slc_of, rank_of}
use Rattle.plan_ranks.specs.declared.given.RowRank.{RowRank}
use Rattle.plan_ranks.specs.Given.{row_rank}
use Rattle.net_sheets.specs.declared.about.Entry.{Entry}
use Rattle.net_sheets.specs.declared.about.Entry.TheVariants as entry
use Rattle.net_sheets.specs.declared.faults.Flaw.TheVariants.{Column}
use Rattle.net_sheets.specs.Tables.{Fields, table_text}
use Rattle.net_sheets.specs.Records.{field}
use Rattle.net_sheets.specs.Values.{Read, column, Holds}

abbrev pub network_header : Fields
network_header = codes "key" ∷ codes "value" ∷ []

-- true and false in text
abbrev pub flag_text : Bool → List ℕ
flag_text true = codes "true"
flag_text false = codes "false"

abbrev pub flag_of : List ℕ → Option Bool
flag_of text = if bytes_eq text (codes "true") then Some true else if bytes_eq text (codes "false") then Some false else None

-- a rank in text: the destination, the point of the row and the rank, between single spaces
abbrev pub rank_text : RowRank → List ℕ
rank_text r = code_text r.dest ++ (32 ∷ (code_text r.point ++ (32 ∷ decimal r.rank)))

abbrev pub rank_in : List ℕ → Option RowRank
rank_in text =
    option_and_then (λ (dest, rest).
    option_and_then (λ (point, rank).
    option_and_then (λ x.
    option_and_then (λ y.
    option_map (λ k. record { dest = x; point = y; rank = k }) (rank_of rank)) (code_of point)) (code_of dest)) (split_of 32 rest)) (split_of 32 text)

-- a key and its value
abbrev pub entry_record : Entry → Fields
entry_record (entry.Ni n) = codes "ni" ∷ decimal n ∷ []
entry_record (entry.Tfr b) = codes "tfr" ∷ flag_text b ∷ []
entry_record (entry.Bare dest) = codes "plan" ∷ code_text dest ∷ []
entry_record (entry.Rank r) = codes "rank" ∷ rank_text r ∷ []

-- what a key of plans and its value say
abbrev pub plan_value_of : List ℕ → List ℕ → Read Entry
plan_value_of key value =
    if bytes_eq key (codes "plan") then column 2 (code_of value) (λ dest. Ok (entry.Bare dest))
    else if bytes_eq key (codes "rank") then column 2 (rank_in value) (λ r. Ok (entry.Rank r))
    else Err (Column 1)

-- what a key and its value say
abbrev pub value_of : List ℕ → List ℕ → Read Entry
value_of key value =
    if bytes_eq key (codes "ni") then column 2 (slc_of value) (λ n. Ok (entry.Ni n))
    else if bytes_eq key (codes "tfr") then column 2 (flag_of value) (λ b. Ok (entry.Tfr b))
    else plan_value_of key value

abbrev pub entry_of : Fields → Read Entry
entry_of fields = value_of (field fields 0) (field fields 1)

-- the keys that say a network indicator, the option, the destinations of plans without rows and ranks
abbrev pub entries_of : ℕ → Bool → List ℕ → List RowRank → List Entry
entries_of ni tfr bare ranks = entry.Ni ni ∷ entry.Tfr tfr ∷ (map entry.Bare bare ++ map entry.Rank ranks)

-- the destination of a plan, if it has no row
abbrev pub bare_dest : Plan → List ℕ
bare_dest p = if is_nil p.rows then p.dest ∷ [] else []

abbrev pub bare_of : List Plan → List ℕ
bare_of plans = flat_map bare_dest plans

abbrev pub plan_ranks : Plan → List RowRank
plan_ranks p = map (row_rank p.dest) p.rows

-- the ranks of the rows of plans, plan by plan and row by row
abbrev pub ranks_of : List Plan → List RowRank
ranks_of plans = flat_map plan_ranks plans

-- the ranks that are told of plans: all of them or none
abbrev pub ranks_told : Bool → List Plan → List RowRank
ranks_told true plans = ranks_of plans
ranks_told false plans = []

-- the entries of a network, with its ranks or without
abbrev pub entries_about : Bool → Network → List Entry
entries_about ranked net = entries_of net.ni net.tfr (bare_of net.plans) (ranks_told ranked net.plans)

abbrev pub network_text : Bool → Network → List ℕ
network_text ranked net = table_text network_header (map entry_record (entries_about ranked net))

-- a plan without rows
abbrev pub bare_plan : ℕ → Plan
bare_plan dest = record { dest = dest; rows = [] }

-- what the table says; where there is none, that the network is national, has the option, and each plan has rows
abbrev pub IsAbout : Option (List ℕ) → ℕ → Bool → List ℕ → List RowRank → Type 0
IsAbout None ni tfr bare ranks = (ni ≡ 2) × (tfr ≡ true) × (bare ≡ []) × (ranks ≡ [])
IsAbout (Some text) ni tfr bare ranks = Holds entry_of network_header text (Ok (entries_of ni tfr bare ranks))
