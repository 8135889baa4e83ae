-- What is shown of a network, as members of an object (own).
use Rattle.std.specs.Prelude.{ℕ, List, [], ◌∷◌, ◌++◌, Option, Some, None, map, codes}
use Rattle.std.specs.Fmt.{decimal}
use Rattle.json.specs.Json.{Json, null, boolean, string, number, array}
use Rattle.json.specs.Value.{items_of}
use Rattle.point_codes.specs.Codes.{code_text}
use Rattle.net_items.specs.declared.items.LinkSet.{LinkSet}
use Rattle.net_items.specs.declared.items.Point.{Point}
use Rattle.tokens.specs.Kinds.{kind_text}
use Rattle.answers.specs.Status.{far_text}
use Rattle.answers.specs.declared.shown.NetSize.{NetSize}
use Rattle.answers.specs.declared.shown.PointStatus.{PointStatus}
use Rattle.answers.specs.declared.shown.Shown.{Shown}
use Rattle.answers.specs.declared.shown.Shown.TheVariants as shown
use Rattle.answers.specs.declared.shown.StatusCounts.{StatusCounts}
use Rattle.json_answers.specs.Members.{Member}
use Rattle.json_answers.specs.Values.{code_member, list_member, number_member, text_member, word_member}
use Rattle.json_answers.specs.Marked.{marked_value, mend_members}

-- what is shown, behind the word
abbrev pub show_members : List ℕ → List Member → List Member
show_members what values = word_member (codes "show") ∷ text_member (codes "what") what ∷ values

-- two numbers, each under a name
abbrev pub two_numbers : List ℕ → ℕ → List ℕ → ℕ → List Member
two_numbers name n other m = number_member name n ∷ number_member other m ∷ []

-- how many points, sets and links there are
abbrev pub part_members : NetSize → List Member
part_members s = number_member (codes "points") s.points ∷ two_numbers (codes "sets") s.sets (codes "links") s.links

-- how many links aren't available, how many plans there are, and the option of transfer-restricted messages
abbrev pub state_members : NetSize → List Member
state_members s = two_numbers (codes "down") s.down (codes "plans") s.plans ++ (codes "tfr", boolean s.tfr) ∷ []

-- how large a network is
abbrev pub size_members : NetSize → List Member
size_members s = part_members s ++ state_members s

-- the ends of a set
abbrev pub end_members : LinkSet → List Member
end_members s = code_member (codes "first") s.a ∷ code_member (codes "second") s.b ∷ []

-- a set, with its ends and its links
abbrev pub set_members : LinkSet → List Member
set_members s = number_member (codes "set") s.id ∷ (end_members s ++ (codes "links", array (items_of (map marked_value s.links))) ∷ [])

-- a code, null if there is none
abbrev pub code_if : Option ℕ → Json
code_if None = null
code_if (Some code) = string (code_text code)

-- an id
abbrev pub id_value : ℕ → Json
id_value id = number (decimal id)

-- a point with its kind
abbrev pub kind_members : Point → List Member
kind_members p = code_member (codes "point") p.code ∷ text_member (codes "kind") (kind_text p.kind) ∷ []

-- a point, with its mate and the sets that end at it
abbrev pub point_members : Point → List ℕ → List Member
point_members p ids = kind_members p ++ ((codes "mate", code_if p.mate) ∷ (codes "sets", array (items_of (map id_value ids))) ∷ [])

-- how many points have each status
abbrev pub count_members : StatusCounts → List Member
count_members c = number_member (codes "allowed") c.allowed ∷ two_numbers (codes "restricted") c.restricted (codes "prohibited") c.prohibited

-- the status of a point
abbrev pub point_status_members : PointStatus → List Member
point_status_members s = code_member (codes "point") s.point ∷ text_member (codes "status") (far_text s.status) ∷ []

-- how points reach a destination, and how many of them so
abbrev pub counted_members : StatusCounts → List PointStatus → List Member
counted_members counts statuses = count_members counts ++ list_member (codes "points") point_status_members statuses ∷ []

-- what is shown
abbrev pub shown_members : Shown → List Member
shown_members (shown.Size size) = show_members (codes "size") (size_members size)
shown_members (shown.Down links) = show_members (codes "down") (list_member (codes "links") mend_members links ∷ [])
shown_members (shown.Set s) = show_members (codes "set") (set_members s)
shown_members (shown.Point p ids) = show_members (codes "point") (point_members p ids)
shown_members (shown.Plan text) = show_members (codes "plan") (text_member (codes "plan") text ∷ [])
shown_members (shown.Statuses counts statuses) =
    word_member (codes "statuses") ∷ counted_members counts statuses
