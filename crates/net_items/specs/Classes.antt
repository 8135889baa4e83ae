-- The classes of a row as a list, however they are kept.
use Rattle.std.specs.Prelude.{ℕ, List, []}
use Rattle.net_items.specs.declared.classes.ClassList.{ClassList}
use Rattle.net_items.specs.declared.classes.ClassList.TheVariants as of

-- the classes in order
abbrev pub classes_in : ClassList → List (List ℕ)
classes_in of.None = []
classes_in (of.One classes) = classes
classes_in (of.Two classes) = classes.value
classes_in (of.More list) = list.value.items
