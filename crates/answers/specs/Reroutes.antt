-- How it is told what moves (own): each point and destination whose choice differs.
use Rattle.std.specs.Prelude.{ℕ, Bool, if◌then◌else◌, List, ◌∷◌, ◌++◌, Option, Some, None, Result, Ok, Err, codes}
use Rattle.std.specs.List.{flat_map}
use Rattle.std.specs.Option.{option_map, option_to_list}
use Rattle.std.specs.Fmt.{decimal}
use Rattle.point_codes.specs.Codes.{code_text}
use Rattle.route_choice.specs.declared.choices.Choice.{Choice}
use Rattle.route_choice.specs.declared.choices.Far.{Far}
use Rattle.tokens.specs.Rows.{vias_text}
use Rattle.what_if.specs.declared.reports.Refused.{Refused}
use Rattle.what_if.specs.declared.reroutes.Reroute.{Reroute}
use Rattle.what_if.specs.declared.reroutes.RerouteCounts.{RerouteCounts}
use Rattle.what_if.specs.Reports.{is_same}
use Rattle.what_if.specs.Reroutes.{reroute_counts}
use Rattle.answers.specs.Status.{far_text}
use Rattle.answers.specs.WhatIfs.{status_word}
use Rattle.answers.specs.declared.answer.Answer.{Answer}
use Rattle.answers.specs.declared.answer.Answer.TheVariants as answer
use Rattle.answers.specs.declared.answer.Moved.{Moved}
use Rattle.answers.specs.declared.answer.NetAnswer.TheVariants as net
use Rattle.answers.specs.declared.answer.Reason.TheVariants as reason

-- the status of a choice, if there is one
abbrev pub choice_status : Option Choice → Option Far
choice_status choice = option_map (λ (c : Choice). c.status) choice

-- `STATUS:CLASS:CODE+CODE`: a choice with its vias
abbrev pub choice_text : Choice → List ℕ
choice_text c = far_text c.status ++ 58 ∷ (decimal c.class ++ 58 ∷ vias_text (flat_map option_to_list c.members))

-- the same, `none` if there is no row
abbrev pub choice_word : Option Choice → List ℕ
choice_word None = codes "none"
choice_word (Some c) = choice_text c

-- whether the status stays
abbrev pub keeps_status : Reroute → Bool
keeps_status r = is_same (choice_status r.before) (choice_status r.after)

-- a choice before or after: with its class and its vias where the status stays, else by its status alone
abbrev pub side_text : Reroute → Option Choice → List ℕ
side_text r choice = if keeps_status r then choice_word choice else status_word (choice_status choice)

-- `Y/X`: a point and a destination
abbrev pub row_of_text : Reroute → List ℕ
row_of_text r = code_text r.point ++ 47 ∷ code_text r.dest

-- `before>after`
abbrev pub sides_text : Reroute → List ℕ
sides_text r = side_text r r.before ++ 62 ∷ side_text r r.after

-- what moves, after a space: `Y/X before>after`
abbrev pub reroute_text : Reroute → List ℕ
reroute_text r = 32 ∷ (row_of_text r ++ 32 ∷ sides_text r)

-- ` lost L regained R moved M`
abbrev pub counts_text : RerouteCounts → List ℕ
counts_text counts = codes " lost " ++ (decimal counts.lost ++ (codes " regained " ++ (decimal counts.regained ++ (codes " moved " ++ decimal counts.moved))))

-- the same, and each of those that are told
abbrev pub told_text : RerouteCounts → List Reroute → List ℕ
told_text counts list = counts_text counts ++ flat_map reroute_text list

-- how many there are of each kind, and each of them
abbrev pub reroutes_text : List Reroute → List ℕ
reroutes_text list = told_text (reroute_counts list) list

-- ` since N`: the version before; nothing if there is none
abbrev pub since_text : Option ℕ → List ℕ
since_text None = codes ""
since_text (Some number) = codes " since " ++ decimal number

-- what moved, and since which version
abbrev pub moved_text : Moved → List ℕ
moved_text moved = since_text moved.since ++ told_text moved.counts moved.reroutes

-- what events would move, or the refusal and its place
abbrev pub reroutes_answer : Result (List Reroute) Refused → Answer
reroutes_answer (Ok list) = answer.Net (net.Reroutes list)
reroutes_answer (Err refused) = answer.Refused (reason.Event refused)
