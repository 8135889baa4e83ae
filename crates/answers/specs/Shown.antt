-- What is shown of a network, and how (own).
use Rattle.std.specs.Prelude.{ℕ, ◌==◌, ◌||◌, not, Bool, true, false, if◌then◌else◌, List, [], ◌∷◌, ◌++◌, Option, Some, None, codes, filter, length, map}
use Rattle.std.specs.List.{flat_map}
use Rattle.std.specs.Option.{option_map_or}
use Rattle.std.specs.Fmt.{decimal}
use Rattle.point_codes.specs.Codes.{code_text}
use Rattle.net_items.specs.declared.links.Link.{Link}
use Rattle.net_items.specs.declared.items.LinkSet.{LinkSet}
use Rattle.net_items.specs.declared.items.Plan.{Plan}
use Rattle.net_items.specs.declared.items.Point.{Point}
use Rattle.net_items.specs.declared.lists.Row.{Row}
use Rattle.net_items.specs.Lookups.{plan_at, point_at, set_at}
use Rattle.net_data.specs.declared.events.Refusal.TheVariants as edit
use Rattle.net_data.specs.Network.{Network}
use Rattle.net_items.specs.Links.{link_available}
use Rattle.route_choice.specs.declared.choices.Far.{Far}
use Rattle.route_choice.specs.declared.choices.Far.TheVariants.{Allowed, Restricted, Prohibited}
use Rattle.profile.specs.Status.{Source, source_in, status}
use Rattle.what_if.specs.declared.mending.SetLink.{SetLink}
use Rattle.work_units.specs.declared.replies.Refusal.TheVariants as desk
use Rattle.tokens.specs.Entries.{plan_text, point_text, set_text}
use Rattle.script_words.specs.declared.shows.Show.{Show}
use Rattle.script_words.specs.declared.shows.Show.TheVariants as show
use Rattle.answers.specs.Mend.{set_link_word}
use Rattle.answers.specs.Status.{far_text}
use Rattle.answers.specs.declared.answer.Answer.{Answer}
use Rattle.answers.specs.declared.answer.Answer.TheVariants as answer
use Rattle.answers.specs.declared.answer.Reason.TheVariants as reason
use Rattle.answers.specs.declared.shown.NetSize.{NetSize}
use Rattle.answers.specs.declared.shown.PointStatus.{PointStatus}
use Rattle.answers.specs.declared.shown.StatusCounts.{StatusCounts}
use Rattle.answers.specs.declared.shown.Shown.{Shown}
use Rattle.answers.specs.declared.shown.Shown.TheVariants as shown

-- ---- what is shown

-- the links of a set, each with the id of the set
abbrev pub links_in : LinkSet → List SetLink
links_in s = map (λ (l : Link). record { id = s.id; link = l }) s.links

-- those of all sets
abbrev pub all_links : Network → List SetLink
all_links net = flat_map links_in net.sets

-- the link isn't available (Q.704 clause 3.2)
abbrev pub is_down : SetLink → Bool
is_down l = not (link_available l.link)

-- the links that aren't
abbrev pub down_links : Network → List SetLink
down_links net = filter is_down (all_links net)

-- how large a network is
abbrev pub net_size : Network → NetSize
net_size net = record {
  points = length net.points;
  sets = length net.sets;
  links = length (all_links net);
  down = length (down_links net);
  plans = length net.plans;
  tfr = net.tfr;
}

abbrev pub size_shown : Network → Answer
size_shown net = answer.Shown (shown.Size (net_size net))

-- whether a set ends at a point
abbrev pub ends_at : ℕ → LinkSet → Bool
ends_at y s = s.a == y || s.b == y

-- how a point reaches the destination
abbrev pub point_statuses : Source → ℕ → PointStatus
point_statuses src y = record { point = y; status = status src y }

-- whether a status is this one
abbrev pub is_status : Far → Far → Bool
is_status Allowed Allowed = true
is_status Restricted Restricted = true
is_status Prohibited Prohibited = true
is_status _ _ = false

-- how many points have a status
abbrev pub status_count : Far → List PointStatus → ℕ
status_count far statuses = length (filter (λ (s : PointStatus). is_status far s.status) statuses)

-- how many have each
abbrev pub status_counts : List PointStatus → StatusCounts
status_counts statuses = record {
  allowed = status_count Allowed statuses;
  restricted = status_count Restricted statuses;
  prohibited = status_count Prohibited statuses;
}

-- how points reach a destination, and how many of them so
abbrev pub counted : List PointStatus → Answer
counted statuses = answer.Shown (shown.Statuses (status_counts statuses) statuses)

-- the set of an id
abbrev pub set_answer : Network → ℕ → Answer
set_answer net id = option_map_or (λ s. answer.Shown (shown.Set s)) (set_at net.sets id) (answer.Refused (reason.Desk (desk.Edit edit.NoSet)))

-- the point of a code, and the sets that end at it
abbrev pub point_answer : Network → ℕ → Answer
point_answer net y =
    option_map_or (λ p. answer.Shown (shown.Point p (map (λ (s : LinkSet). s.id) (filter (ends_at y) net.sets)))) (point_at net.points y)
    (answer.Refused (reason.Desk (desk.Edit edit.NoPoint)))

abbrev pub shown_plan : Plan → Answer
shown_plan plan = answer.Shown (shown.Plan (plan_text plan))

-- how each point of a plan reaches its destination, from scratch
abbrev pub shown_statuses : Source → Plan → Answer
shown_statuses src plan = counted (map (point_statuses src) (map (λ (row : Row). row.point) plan.rows))

-- what is shown of a network
abbrev pub shown_answer : Show → Network → Answer
-- `show`
shown_answer show.Size net = size_shown net
-- `show down`
shown_answer show.Down net = answer.Shown (shown.Down (down_links net))
-- `show set ID`
shown_answer (show.Set id) net = set_answer net id
-- `show point CODE`
shown_answer (show.Point y) net = point_answer net y
-- `show plan X`
shown_answer (show.Plan x) net = option_map_or shown_plan (plan_at net.plans x) (answer.Refused reason.NoPlan)
-- `statuses X`
shown_answer (show.Statuses x) net =
    option_map_or (λ (plan : Plan). shown_statuses (source_in net.points net.sets plan net.tfr) plan) (plan_at net.plans x) (answer.Refused reason.NoPlan)

-- ---- how it is told

-- `on` or `off`
abbrev pub switch_text : Bool → List ℕ
switch_text is_on = if is_on then codes "on" else codes "off"

-- `show points N sets N links N`
abbrev pub parts_text : NetSize → List ℕ
parts_text s = codes "show points " ++ (decimal s.points ++ (codes " sets " ++ (decimal s.sets ++ (codes " links " ++ decimal s.links))))

-- ` down N plans N tfr on`
abbrev pub state_text : NetSize → List ℕ
state_text s = codes " down " ++ (decimal s.down ++ (codes " plans " ++ (decimal s.plans ++ (codes " tfr " ++ switch_text s.tfr))))

-- `show points N sets N links N down N plans N tfr on`
abbrev pub size_text : NetSize → List ℕ
size_text s = parts_text s ++ state_text s

-- ` mate CODE`, if there is one
abbrev pub mate_text : Option ℕ → List ℕ
mate_text None = []
mate_text (Some m) = codes " mate " ++ code_text m

-- an id after a space
abbrev pub id_word : ℕ → List ℕ
id_word id = 32 ∷ decimal id

-- `show point CODE KIND mate CODE sets ID ID ..`
abbrev pub shown_point_text : Point → List ℕ → List ℕ
shown_point_text p ids = codes "show point " ++ (point_text p ++ (mate_text p.mate ++ (codes " sets" ++ flat_map id_word ids)))

-- ` CODE:STATUS`
abbrev pub point_status_word : PointStatus → List ℕ
point_status_word s = 32 ∷ (code_text s.point ++ 58 ∷ far_text s.status)

-- ` allowed N restricted N`
abbrev pub usable_text : StatusCounts → List ℕ
usable_text c = codes " allowed " ++ (decimal c.allowed ++ (codes " restricted " ++ decimal c.restricted))

-- ` prohibited N CODE:STATUS ..`
abbrev pub rest_text : StatusCounts → List PointStatus → List ℕ
rest_text c statuses = codes " prohibited " ++ (decimal c.prohibited ++ flat_map point_status_word statuses)

-- `statuses allowed N restricted N prohibited N CODE:STATUS ..`
abbrev pub statuses_text : StatusCounts → List PointStatus → List ℕ
statuses_text c statuses = codes "statuses" ++ (usable_text c ++ rest_text c statuses)

-- what is shown, in text
abbrev pub shown_text : Shown → List ℕ
shown_text (shown.Size size) = size_text size
shown_text (shown.Down links) = codes "show down" ++ flat_map set_link_word links
shown_text (shown.Set s) = codes "show set " ++ set_text s
shown_text (shown.Point p ids) = shown_point_text p ids
shown_text (shown.Plan text) = codes "show plan " ++ text
shown_text (shown.Statuses counts statuses) = statuses_text counts statuses
