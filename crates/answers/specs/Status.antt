-- How what a row uses is answered.
use Rattle.std.specs.Prelude.{ℕ, ◌==◌, if◌then◌else◌, List, [], ◌∷◌, ◌++◌, Option, Some, None, codes}
use Rattle.std.specs.List.{flat_map}
use Rattle.std.specs.Fmt.{decimal}
use Rattle.point_codes.specs.Codes.{code_text}
use Rattle.route_choice.specs.declared.choices.Far.{Far}
use Rattle.route_choice.specs.declared.choices.Far.TheVariants.{Allowed, Restricted, Prohibited}
use Rattle.route_choice.specs.declared.choices.Choice.{Choice}

-- a status
abbrev pub far_text : Far → List ℕ
far_text Allowed = codes "allowed"
far_text Restricted = codes "restricted"
far_text Prohibited = codes "prohibited"

-- a member after a space, nothing at a place without one
abbrev pub member_text : Option ℕ → List ℕ
member_text None = []
member_text (Some code) = 32 ∷ code_text code

-- `status allowed class 1 by CODE CODE`, and `status prohibited` for class 0
abbrev pub status_text : Choice → List ℕ
status_text c =
    if c.class == 0 then codes "status prohibited"
    else codes "status " ++ (far_text c.status ++ (codes " class " ++ (decimal c.class ++ (codes " by" ++ flat_map member_text c.members))))
