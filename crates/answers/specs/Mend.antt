-- How the links are told that have to be restored (own).
use Rattle.std.specs.Prelude.{ℕ, List, [], ◌∷◌, ◌++◌, Option, Some, None, codes}
use Rattle.std.specs.List.{flat_map}
use Rattle.std.specs.Fmt.{decimal}
use Rattle.tokens.specs.Marked.{marked_text}
use Rattle.tokens.specs.declared.marked.Format.TheVariants.{Two}
use Rattle.what_if.specs.declared.mending.SetLink.{SetLink}

-- ` ID:MARKED`: a link, with the id of its set
abbrev pub set_link_word : SetLink → List ℕ
set_link_word l = 32 ∷ (decimal l.id ++ 58 ∷ marked_text Two l.link)

-- `mend ID:MARKED ..`, `mend ok` if none has to be restored, `mend none` if no restoring does it
abbrev pub mend_text : Option (List SetLink) → List ℕ
mend_text None = codes "mend none"
mend_text (Some []) = codes "mend ok"
mend_text (Some (l ∷ links)) = codes "mend" ++ flat_map set_link_word (l ∷ links)
