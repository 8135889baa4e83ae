-- The commands that restore links (own, after Q.704 clauses 3.2 and 10), and how they are told.
use Rattle.std.specs.Prelude.{ℕ, Bool, if◌then◌else◌, List, [], ◌∷◌, ◌++◌, Option, Some, None, map, codes}
use Rattle.std.specs.List.{flat_map, join_with_byte}
use Rattle.std.specs.Option.{option_map, option_and_then}
use Rattle.link_state.specs.declared.marks.End.{End}
use Rattle.link_state.specs.declared.marks.End.TheVariants.{First, Second}
use Rattle.link_state.specs.declared.marks.LinkChange.{LinkChange}
use Rattle.link_state.specs.declared.marks.LinkChange.TheVariants.{Fail, Restore, Block, Unblock, Inhibit, Uninhibit}
use Rattle.link_state.specs.declared.marks.Marks.{Marks}
use Rattle.net_data.specs.declared.events.Event.TheVariants as on
use Rattle.net_items.specs.declared.items.LinkSet.{LinkSet}
use Rattle.net_items.specs.Lookups.{set_at}
use Rattle.point_codes.specs.Codes.{code_text}
use Rattle.script_words.specs.EventWords.{event_words, end_text}
use Rattle.what_if.specs.declared.mending.SetLink.{SetLink}
use Rattle.answers.specs.declared.remedies.Action.{Action}

-- ---- the commands

-- a change, if a link has the mark that it clears
abbrev pub cleared : Bool → LinkChange → List LinkChange
cleared mark change = if mark then change ∷ [] else []

-- the changes that clear all marks of a link
abbrev pub clearing : Marks → List LinkChange
clearing m =
    cleared m.failed Restore ++ (cleared m.blocked_a (Unblock First) ++ (cleared m.blocked_b (Unblock Second)
    ++ (cleared m.inhibited_a (Uninhibit First) ++ cleared m.inhibited_b (Uninhibit Second))))

-- the point at an end of a set
abbrev pub point_at_end : LinkSet → End → ℕ
point_at_end set First = set.a
point_at_end set Second = set.b

-- the end that makes a change; a link fails and is restored by neither
abbrev pub end_of : LinkChange → Option End
end_of Fail = None
end_of Restore = None
end_of (Block end) = Some end
end_of (Unblock end) = Some end
end_of (Inhibit end) = Some end
end_of (Uninhibit end) = Some end

-- the point that makes a change of a link of the set with this id
abbrev pub maker : List LinkSet → ℕ → LinkChange → Option ℕ
maker sets id change = option_and_then (λ end. option_map (λ (set : LinkSet). point_at_end set end) (set_at sets id)) (end_of change)

-- the change of a link of a set, with the point that makes it
abbrev pub action : List LinkSet → SetLink → LinkChange → Action
action sets l change = record { id = l.id; slc = l.link.slc; change = change; by = maker sets l.id change }

-- what restores a link: the clearing of each of its marks
abbrev pub link_actions : List LinkSet → SetLink → List Action
link_actions sets l = map (action sets l) (clearing l.link.marks)

-- what restores links, one after the other
abbrev pub actions : List LinkSet → List SetLink → List Action
actions sets links = flat_map (link_actions sets) links

-- ---- how they are told

-- the first word of the command of a change
abbrev pub change_word : LinkChange → List ℕ
change_word Fail = codes "fail"
change_word Restore = codes "restore"
change_word (Block end) = codes "block"
change_word (Unblock end) = codes "unblock"
change_word (Inhibit end) = codes "inhibit"
change_word (Uninhibit end) = codes "uninhibit"

-- an end after a space
abbrev pub end_part : Option End → List ℕ
end_part None = []
end_part (Some end) = 32 ∷ end_text end

-- ` by CODE`: the point that makes the change
abbrev pub by_text : Option ℕ → List ℕ
by_text None = []
by_text (Some code) = codes " by " ++ code_text code

-- the command of a change
abbrev pub command_text : Action → List ℕ
command_text a = join_with_byte 32 (event_words (on.Link a.id a.slc a.change))

-- a change: its command, and whose it is
abbrev pub action_text : Action → List ℕ
action_text a = command_text a ++ by_text a.by

-- the same after ` ; `
abbrev pub next_action : Action → List ℕ
next_action a = codes " ; " ++ action_text a

-- `remedy COMMAND ; COMMAND ..`, `remedy ok` if nothing has to be done, `remedy none` if no restoring does it
abbrev pub remedy_text : Option (List Action) → List ℕ
remedy_text None = codes "remedy none"
remedy_text (Some []) = codes "remedy ok"
remedy_text (Some (first ∷ rest)) = codes "remedy " ++ (action_text first ++ flat_map next_action rest)
