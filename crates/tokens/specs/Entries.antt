-- How the entries of a network text are written, in format 2.
use Rattle.std.specs.Prelude.{ℕ, List, [], ◌∷◌, map}
use Rattle.std.specs.List.{join_with_byte}
use Rattle.std.specs.Fmt.{decimal}
use Rattle.net_items.specs.declared.items.Point.{Point}
use Rattle.net_items.specs.declared.items.LinkSet.{LinkSet}
use Rattle.net_items.specs.declared.items.Plan.{Plan}
use Rattle.point_codes.specs.Codes.{code_text}
use Rattle.tokens.specs.Kinds.{kind_text}
use Rattle.tokens.specs.Marked.{marked_text}
use Rattle.tokens.specs.declared.marked.Format.TheVariants.{Two}
use Rattle.tokens.specs.Rows.{row_text}

-- `CODE KIND`
abbrev pub point_text : Point → List ℕ
point_text p = join_with_byte 32 (code_text p.code ∷ kind_text p.kind ∷ [])

-- `CODE CODE`
abbrev pub pair_text : ℕ → ℕ → List ℕ
pair_text p q = join_with_byte 32 (code_text p ∷ code_text q ∷ [])

-- `ID CODE CODE MARKED MARKED ..`
abbrev pub set_text : LinkSet → List ℕ
set_text s = join_with_byte 32 (decimal s.id ∷ code_text s.a ∷ code_text s.b ∷ map (marked_text Two) s.links)

-- `CODE ROW ROW ..`
abbrev pub plan_text : Plan → List ℕ
plan_text p = join_with_byte 32 (code_text p.dest ∷ map row_text p.rows)
