-- How the link of each signalling link selection is answered.
use Rattle.std.specs.Prelude.{ℕ, ◌==◌, if◌then◌else◌, List, [], ◌∷◌, ◌++◌, Option, Some, None, codes}
use Rattle.std.specs.List.{flat_map}
use Rattle.std.specs.Fmt.{decimal}
use Rattle.profile.specs.declared.tables.LinkRef.{LinkRef}

-- a link after a space, `ID:SLC`; nothing if there is none
abbrev pub link_text : Option LinkRef → List ℕ
link_text None = []
link_text (Some link) = 32 ∷ (decimal link.id ++ 58 ∷ decimal link.slc)

-- `sls ID:SLC ID:SLC ..` in rising signalling link selection, and `sls none` for class 0
abbrev pub links_text : ℕ → List (Option LinkRef) → List ℕ
links_text class links = if class == 0 then codes "sls none" else codes "sls" ++ flat_map link_text links
