-- How it is told why a point uses what it uses (own): what it is offered over each via, and over its mate.
use Rattle.std.specs.Prelude.{ℕ, ◌==◌, if◌then◌else◌, List, [], ◌∷◌, ◌++◌, codes}
use Rattle.std.specs.List.{flat_map}
use Rattle.std.specs.Fmt.{decimal}
use Rattle.point_codes.specs.Codes.{code_text}
use Rattle.net_items.specs.declared.items.LinkSet.{LinkSet}
use Rattle.route_choice.specs.declared.choices.Far.{Far}
use Rattle.route_choice.specs.declared.choices.Far.TheVariants.{Allowed, Restricted, Prohibited}
use Rattle.tokens.specs.Words.{word_if}
use Rattle.answers.specs.Ends.{links_words}
use Rattle.answers.specs.Status.{far_text}
use Rattle.answers.specs.declared.ways.Offer.{Offer}
use Rattle.answers.specs.declared.ways.Offer.TheVariants as offer
use Rattle.answers.specs.declared.ways.Way.{Way}

-- a point that an available set reaches, by its status
abbrev pub far_reason : Far → List ℕ
far_reason Allowed = codes "ok"
far_reason Restricted = codes "far restricted"
far_reason Prohibited = codes "far prohibited"

-- `down ID LINK LINK .. far STATUS`: a set that is down, each of its links, and the status of the point beyond it
abbrev pub down_text : LinkSet → Far → List ℕ
down_text set far = codes "down " ++ (decimal set.id ++ (links_words set ++ (codes " far " ++ far_text far)))

-- REASON: the status, or the set that is down
abbrev pub offer_text : Offer → List ℕ
offer_text (offer.Far far) = far_reason far
offer_text (offer.Down set far) = down_text set far
offer_text offer.Unjoined = []

-- what a way is called: `class K`, or `mate`
abbrev pub class_text : ℕ → List ℕ
class_text class = if class == 5 then codes "mate" else codes "class " ++ decimal class

-- ` ; class K CODE REASON` or ` ; mate CODE REASON`, and ` used` if traffic is led over it
abbrev pub way_text : Way → List ℕ
way_text way = codes " ; " ++ (class_text way.class ++ 32 ∷ (code_text way.over ++ 32 ∷ (offer_text way.offer ++ word_if way.used (codes " used"))))

-- `why STATUS`, and each way
abbrev pub why_text : Far → List Way → List ℕ
why_text far ways = codes "why " ++ (far_text far ++ flat_map way_text ways)
