-- KIND: the kind of a signalling point.
use Rattle.std.specs.Prelude.{ℕ, if◌then◌else◌, List, Option, Some, None, codes}
use Rattle.std.specs.Str.{bytes_eq}
use Rattle.net_items.specs.declared.items.Kind.{Kind}
use Rattle.net_items.specs.declared.items.Kind.TheVariants.{Sep, Stp}

-- the kind that a token is
abbrev pub kind_of : List ℕ → Option Kind
kind_of word = if bytes_eq word (codes "sep") then Some Sep else if bytes_eq word (codes "stp") then Some Stp else None

-- how a kind is written
abbrev pub kind_text : Kind → List ℕ
kind_text Sep = codes "sep"
kind_text Stp = codes "stp"
