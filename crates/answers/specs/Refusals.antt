-- How refusals are printed: a number, a name, and the values of those that have some.
use Rattle.std.specs.Prelude.{ℕ, List, [], ◌∷◌, ◌++◌, codes}
use Rattle.std.specs.Fmt.{decimal}
use Rattle.point_codes.specs.Codes.{code_text}
use Rattle.net_data.specs.declared.events.Refusal.{Refusal}
use Rattle.net_data.specs.declared.events.Refusal.TheVariants as refusal
use Rattle.plan_rows.specs.declared.causes.Cause.{Cause}
use Rattle.plan_rows.specs.declared.causes.Cause.TheVariants as cause

-- the number and the name of a refusal
abbrev pub refusal_name : Refusal → List ℕ
refusal_name refusal.OutOfMemory = codes "1 OutOfMemory"
refusal_name refusal.NoPoint = codes "10 NoPoint"
refusal_name refusal.PointThere = codes "11 PointThere"
refusal_name refusal.PointUsed = codes "12 PointUsed"
refusal_name refusal.NotStp = codes "13 NotStp"
refusal_name refusal.Paired = codes "14 Paired"
refusal_name refusal.NotPaired = codes "15 NotPaired"
refusal_name refusal.PairUsed = codes "16 PairUsed"
refusal_name refusal.NoSet = codes "17 NoSet"
refusal_name refusal.SetThere = codes "18 SetThere"
refusal_name (refusal.Joined id) = codes "19 Joined"
refusal_name refusal.SameEnds = codes "20 SameEnds"
refusal_name refusal.BadLinks = codes "21 BadLinks"
refusal_name refusal.NoLink = codes "22 NoLink"
refusal_name refusal.LinkThere = codes "23 LinkThere"
refusal_name refusal.LastLink = codes "24 LastLink"
refusal_name refusal.SetUsed = codes "25 SetUsed"
refusal_name refusal.NoPlan = codes "26 NoPlan"
refusal_name (refusal.BadRow point why) = codes "27 BadRow"
refusal_name refusal.Limit = codes "28 Limit"

-- the letter of what is wrong with a row
abbrev pub cause_letter : Cause → List ℕ
cause_letter cause.IsDest = codes "a"
cause_letter cause.Twice = codes "b"
cause_letter cause.NotJoined = codes "c"
cause_letter cause.ViaTwice = codes "d"
cause_letter cause.NotLower = codes "e"
cause_letter cause.ViaMate = codes "f"
cause_letter cause.BadMate = codes "g"
cause_letter cause.NoRoute = codes "h"

-- the values of a refusal, each after a space
abbrev pub refusal_values : Refusal → List ℕ
refusal_values (refusal.Joined id) = 32 ∷ decimal id
refusal_values (refusal.BadRow point why) = 32 ∷ (code_text point ++ 32 ∷ cause_letter why)
refusal_values refusal = []

-- a refusal
abbrev pub refusal_text : Refusal → List ℕ
refusal_text refusal = refusal_name refusal ++ refusal_values refusal
