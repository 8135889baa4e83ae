-- The changes that give the links of a new set their marks, added one kind after the other.
use Rattle.std.proofs.Common.{◌≡◌, ℕ, List, [], ◌∷◌, ◌++◌, refl, append_assoc, append-nil}
use Rattle.std.specs.List.{flat_map}
use Rattle.link_state.specs.declared.marks.End.TheVariants.{First, Second}
use Rattle.link_state.specs.declared.marks.LinkChange.TheVariants.{Restore, Block, Inhibit}
use Rattle.net_items.specs.declared.items.LinkSet.{LinkSet}
use Rattle.net_items.specs.declared.links.Link.{Link}
use Rattle.net_building.specs.Building.{changes_of, mark_events}

-- the changes of all kinds, for the links of a set
pub marks_made : (set : LinkSet) (id : ℕ) (ls : List Link) → id ≡ set.id → ls ≡ set.links → flat_map (changes_of id ls) (Restore ∷ Block First ∷ Block Second ∷ Inhibit First ∷ Inhibit Second ∷ []) ≡ mark_events set
marks_made set id ls same h = rw (same, h) refl

-- a list to whose end five lists are added in turn
pub five_more : {A : Type 0} (e0 e1 e2 e3 e4 e5 a b c d e : List A) → e1 ≡ e0 ++ a → e2 ≡ e1 ++ b → e3 ≡ e2 ++ c → e4 ≡ e3 ++ d → e5 ≡ e4 ++ e → e5 ≡ e0 ++ (a ++ (b ++ (c ++ (d ++ (e ++ [])))))
five_more e0 e1 e2 e3 e4 e5 a b c d e h1 h2 h3 h4 h5 = rw (h5, h4, h3, h2, h1) (simp (append_assoc, append-nil))
