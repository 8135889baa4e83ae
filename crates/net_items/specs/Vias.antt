-- The vias of a class as a list, however they are kept.
use Rattle.std.specs.Prelude.{ℕ, List, []}
use Rattle.net_items.specs.declared.vias.ViaList.{ViaList}
use Rattle.net_items.specs.declared.vias.ViaList.TheVariants as of

-- the vias in order
abbrev pub vias_in : ViaList → List ℕ
vias_in of.None = []
vias_in (of.One vias) = vias
vias_in (of.Two vias) = vias
vias_in (of.More list) = list.value.items
