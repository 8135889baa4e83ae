use Rattle.std.proofs.Common.{◌≡◌, ◌++◌, ◌∷◌, take, string_bytes}
use Rattle.std.specs.List.{flat_map}
use Rattle.point_codes.specs.Codes.{code_text}
use Rattle.tokens.proofs.entries.put_vias.Given as goal

abbrev pub invariant-loop-via : goal.invariant-loop-via
invariant-loop-via l = string_bytes l.text ≡ string_bytes l.fn.text ++ flat_map (λ x. 43 ∷ code_text x) (take l.via-index l.vias)
