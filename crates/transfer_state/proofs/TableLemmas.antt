-- Rows and messages that are made one by one.
use Rattle.std.proofs.Common.{◌≡◌, ℕ, ◌+◌, ◌<◌, ◌≤◌, List, [], ◌∷◌, ◌++◌, Option, map, eqb, Bool, true, false, not, refl, sym, ap, ◌∙◌, length, get_or, drop}
use Rattle.std.proofs.lemmas.List.Elements.{filter-append}
use Rattle.std.specs.Prelude.{filter}
use Rattle.std.proofs.lemmas.List.{drop_more, drop_all, append_assoc, append-nil}
use Rattle.net_items.specs.declared.lists.Row.{Row}
use Rattle.profile.specs.declared.tables.LinkRef.{LinkRef}
use Rattle.profile.specs.declared.tables.Message.{Message}
use Rattle.profile.specs.Status.{Source}
use Rattle.route_choice.specs.declared.choices.Choice.{Choice}
use Rattle.profile.specs.Local.{message}
use Rattle.link_sets.specs.Neighbours.{neighbours}
use Rattle.profile.specs.Whole.{messages_of, state_of}

-- one row more stands in its place
pub made_more : {X Y : Type 0} (f : X → Y) (xs : List X) (i : ℕ) (d : X) (ys all : List Y) (y : Y) → i < length xs → y ≡ f (get_or xs i d) → ys ++ map f (drop i xs) ≡ all → (ys ++ y ∷ []) ++ map f (drop (i + 1) xs) ≡ all
made_more {X} f xs i d ys all y low is so_far =
    append_assoc ys (y ∷ []) (map f (drop (i + 1) xs))
    ∙ ap (λ z. ys ++ z ∷ map f (drop (i + 1) xs)) is
    ∙ ap (λ (r : List X). ys ++ map f r) (sym (drop_more xs i d low))
    ∙ so_far

pub made_all : {X Y : Type 0} (f : X → Y) (xs : List X) (i : ℕ) (ys all : List Y) → length xs ≤ i → ys ++ map f (drop i xs) ≡ all → ys ≡ all
made_all {X} f xs i ys all high so_far = sym (append-nil ys) ∙ ap (λ (r : List X). ys ++ map f r) (sym (drop_all i xs high)) ∙ so_far

pub state_made : (src : Source) (row : Row) (c right : Choice) (links : List (Option LinkRef)) (messages : List Message) → links ≡ (state_of src row c).links → messages ≡ messages_of src row c → c ≡ right
    → record { point = row.point; choice = c; links = links; messages = messages } ≡ state_of src row right
state_made src row c right links messages l m e =
    ap (λ (links : List (Option LinkRef)). record { point = row.point; choice = c; links = links; messages = messages }) l
    ∙ ap (λ (messages : List Message). record { point = row.point; choice = c; links = (state_of src row c).links; messages = messages }) m
    ∙ ap (state_of src row) e

-- one more that doesn't pass
pub filter_past : {X : Type 0} (p : X → Bool) (xs : List X) (x : X) → p x ≡ false → filter p (xs ++ x ∷ []) ≡ filter p xs
filter_past p xs x other = rw (filter-append p xs (x ∷ []), other) (append-nil (filter p xs))

-- the messages of a transfer point
pub messages_from : (src : Source) (row : Row) (c : Choice) → src.is_stp row.point ≡ true → map (λ z. record { kind = message c z; to = z }) (filter (λ z. not (eqb z src.dest)) (neighbours src.sets row.point)) ≡ messages_of src row c
messages_from src row c stp = rw stp refl
