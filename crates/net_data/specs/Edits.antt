-- What an edit refuses, and what it changes.
use Rattle.std.specs.Prelude.{◌≡◌, ℕ, Bool, true, false, not, ◌&&◌, ◌||◌, ◌==◌, nat_lt, nat_le, Option, Some, None, is_some, Result, Ok, Err, MatchResult, List, [], ◌∷◌, length}
use Rattle.std.specs.List.{list_all, list_any}
use Rattle.std.specs.Option.{option_map, option_map_or}
use Rattle.net_items.specs.declared.items.Point.{Point}
use Rattle.net_items.specs.declared.items.LinkSet.{LinkSet}
use Rattle.net_items.specs.declared.items.Plan.{Plan}
use Rattle.net_items.specs.declared.lists.Row.{Row}
use Rattle.net_data.specs.declared.events.Event.{Event}
use Rattle.net_data.specs.declared.events.Event.TheVariants as on
use Rattle.plan_rows.specs.declared.causes.WrongRow.{WrongRow}
use Rattle.net_data.specs.declared.events.Refusal.{Refusal}
use Rattle.net_data.specs.declared.events.Refusal.TheVariants.{OutOfMemory, NoPoint, PointThere, PointUsed, NotStp, Paired, NotPaired, PairUsed, NoSet, SetThere, Joined, SameEnds, BadLinks, NoLink, LinkThere, LastLink, SetUsed, NoPlan, BadRow, Limit}
use Rattle.net_items.specs.Keyed.{put, edit, without}
use Rattle.net_items.specs.Lookups.{has_point, is_stp, mate_of, set_at, set_between, plan_at}
use Rattle.net_sets.specs.Sets.{is_distinct, is_nil, is_end, has_link, has_last_link, set_passes, new_links, with_change, with_link, without_link, edit_set}
use Rattle.plan_rows.specs.Rows.{is_small_row}
use Rattle.plan_rows.specs.Causes.{when, first, wrong_row}
use Rattle.plan_rows.specs.Uses.{uses_pair, uses_point, has_flag, uses_set}
use Rattle.net_data.specs.Network.{Network}

-- the first refusal of an edit, in the order of their numbers
abbrev pub refusal_of : Network → Event → Option Refusal
refusal_of net (on.Link id slc change) = first (
    when (not (is_some (set_at net.sets id))) NoSet
    ∷ when (not (set_passes (has_link slc) net.sets id)) NoLink
    ∷ [])
refusal_of net (on.AddPoint c kind) = first (
    when (has_point net.points c) PointThere
    ∷ when (nat_le 1024 (length net.points)) Limit
    ∷ [])
refusal_of net (on.RemovePoint c) = first (
    when (not (has_point net.points c)) NoPoint
    ∷ when (list_any (is_end c) net.sets || list_any (uses_point c) net.plans) PointUsed
    ∷ when (is_some (mate_of net.points c)) Paired
    ∷ [])
refusal_of net (on.Pair p q) = first (
    when (not (has_point net.points p && has_point net.points q)) NoPoint
    ∷ when (not (is_stp net.points p && is_stp net.points q)) NotStp
    ∷ when (is_some (mate_of net.points p) || is_some (mate_of net.points q)) Paired
    ∷ when (list_any (uses_pair p q) net.plans) PairUsed
    ∷ when (p == q) SameEnds
    ∷ [])
refusal_of net (on.Unpair p) = first (
    when (not (has_point net.points p)) NoPoint
    ∷ when (not (is_some (mate_of net.points p))) NotPaired
    ∷ when (list_any (has_flag p) net.plans || option_map_or (λ m. list_any (has_flag m) net.plans) (mate_of net.points p) false) PairUsed
    ∷ [])
refusal_of net (on.AddSet id a b slcs) = first (
    when (not (has_point net.points a && has_point net.points b)) NoPoint
    ∷ when (is_some (set_at net.sets id)) SetThere
    ∷ option_map (λ (s : LinkSet). Joined s.id) (set_between net.sets a b)
    ∷ when (a == b) SameEnds
    ∷ when (is_nil slcs || not (list_all (λ c. nat_lt c 16) slcs && is_distinct slcs)) BadLinks
    ∷ when (nat_lt 4095 id) Limit
    ∷ [])
refusal_of net (on.RemoveSet id) = first (
    when (not (is_some (set_at net.sets id))) NoSet
    ∷ when (option_map_or (λ s. list_any (uses_set net.points s) net.plans) (set_at net.sets id) false) SetUsed
    ∷ [])
refusal_of net (on.AddLink id slc) = first (
    when (not (is_some (set_at net.sets id))) NoSet
    ∷ when (nat_lt 15 slc) BadLinks
    ∷ when (set_passes (has_link slc) net.sets id) LinkThere
    ∷ [])
refusal_of net (on.RemoveLink id slc) = first (
    when (not (is_some (set_at net.sets id))) NoSet
    ∷ when (not (set_passes (has_link slc) net.sets id)) NoLink
    ∷ when (set_passes has_last_link net.sets id) LastLink
    ∷ [])
refusal_of net (on.SetPlan p) = first (
    when (not (has_point net.points p.dest && list_all (λ (r : Row). has_point net.points r.point) p.rows)) NoPoint
    ∷ option_map (λ (w : WrongRow). BadRow w.point w.cause) (wrong_row net.points net.sets p.dest p.rows [] p.rows)
    ∷ when (not (list_all is_small_row p.rows)) Limit
    ∷ [])
refusal_of net (on.DropPlan dest) = first (
    when (not (has_point net.points dest)) NoPoint
    ∷ when (not (is_some (plan_at net.plans dest))) NoPlan
    ∷ [])
refusal_of net (on.SetTfr b) = None

-- those rows put among others, one after the other
abbrev pub put_rows : List Row → List Row → List Row
put_rows [] others = others
put_rows (r ∷ rs) others = put_rows rs (put (λ (r : Row). r.point) r others)

-- the rows in rising code
abbrev pub in_order : List Row → List Row
in_order rows = put_rows rows []

-- a point with that mate
abbrev pub with_mate : Option ℕ → Point → Point
with_mate m p = record p { mate = m }

-- the points after one's mate is changed
abbrev pub set_mate : ℕ → Option ℕ → List Point → List Point
set_mate c m points = edit (λ (p : Point). p.code) c (with_mate m) points

-- the network with that one change
abbrev pub changed : Network → Event → Network
changed net (on.Link id slc change) = record net { sets = edit_set id (with_change slc change) net.sets }
changed net (on.AddPoint c kind) = record net { points = put (λ (p : Point). p.code) (record { code = c; kind = kind; mate = None }) net.points }
changed net (on.RemovePoint c) = record net { points = without (λ (p : Point). p.code) c net.points }
changed net (on.Pair p q) = record net { points = set_mate p (Some q) (set_mate q (Some p) net.points) }
changed net (on.Unpair p) = option_map_or (λ m. record net { points = set_mate p None (set_mate m None net.points) }) (mate_of net.points p) net
changed net (on.AddSet id a b slcs) = record net { sets = put (λ (s : LinkSet). s.id) (record { id = id; a = a; b = b; links = new_links slcs }) net.sets }
changed net (on.RemoveSet id) = record net { sets = without (λ (s : LinkSet). s.id) id net.sets }
changed net (on.AddLink id slc) = record net { sets = edit_set id (with_link slc) net.sets }
changed net (on.RemoveLink id slc) = record net { sets = edit_set id (without_link slc) net.sets }
changed net (on.SetPlan p) = record net { plans = put (λ (p : Plan). p.dest) (record p { rows = in_order p.rows }) net.plans }
changed net (on.DropPlan dest) = record net { plans = without (λ (p : Plan). p.dest) dest net.plans }
changed net (on.SetTfr b) = record net { tfr = b }

-- the answer of a refusal or of a change, and the network that it leaves: the refusal and the old network, else the change, or out of memory and the old network
abbrev pub IsAnswer : Option Refusal → Network → Network → Result (Unit {0}) Refusal → Network → Type 0
IsAnswer (Some refusal) change old result new = (result ≡ Err refusal) × (new ≡ old)
IsAnswer None change old result new = MatchResult result (λ _. new ≡ change) (λ e. (e ≡ OutOfMemory) × (new ≡ old))

-- the answer to an edit, and the network that it leaves: the first refusal, else that one change, or out of memory
abbrev pub Answers : Network → Event → Result (Unit {0}) Refusal → Network → Type 0
Answers old event result new = IsAnswer (refusal_of old event) (changed old event) old result new

-- whether an edit never takes memory
abbrev pub takes_none : Event → Bool
takes_none (on.Link id slc change) = true
takes_none (on.RemovePoint c) = true
takes_none (on.Pair p q) = true
takes_none (on.Unpair p) = true
takes_none (on.RemoveSet id) = true
takes_none (on.RemoveLink id slc) = true
takes_none (on.DropPlan dest) = true
takes_none (on.SetTfr b) = true
takes_none _ = false

-- a network after events, one after the other
abbrev pub replay : Network → List Event → Network
replay net [] = net
replay net (e ∷ es) = replay (changed net e) es

-- the refusal, else what comes after
abbrev pub unless_refused : Option Refusal → Result Network Refusal → Result Network Refusal
unless_refused (Some refusal) rest = Err refusal
unless_refused None rest = rest

-- a network after events, one after the other, or the refusal of the first that is refused
abbrev pub apply_all : Network → List Event → Result Network Refusal
apply_all net [] = Ok net
apply_all net (e ∷ es) = unless_refused (refusal_of net e) (apply_all (changed net e) es)
