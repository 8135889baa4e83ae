use Rattle.std.proofs.Common.{◌≡◌, ◌++◌, ◌∷◌, take, string_bytes}
use Rattle.std.specs.List.{flat_map}
use Rattle.tokens.specs.Rows.{vias_text}
use Rattle.tokens.proofs.entries.put_classes.Given as goal

abbrev pub invariant-loop-class : goal.invariant-loop-class
invariant-loop-class l = string_bytes l.text ≡ string_bytes l.fn.text ++ flat_map (λ x. 47 ∷ vias_text x) (take l.class-index l.classes)
