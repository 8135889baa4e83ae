-- The receivers of a point's messages.
use Rattle.std.proofs.Common.{◌≡◌, ℕ, List, [], ◌∷◌, map, cond, eqb, Bool, true, false, not, ◌&&◌, refl, sym, ap}
use Rattle.std.specs.Prelude.{filter}
use Rattle.net_items.specs.declared.lists.Row.{Row}
use Rattle.route_choice.specs.declared.choices.Choice.{Choice}
use Rattle.link_sets.specs.Availability.{connected}
use Rattle.profile.specs.Status.{Source}
use Rattle.profile.specs.Local.{message}
use Rattle.link_sets.specs.Neighbours.{all_codes, neighbours}
use Rattle.profile.specs.Whole.{messages_of}

-- a message of y goes to z
abbrev pub is_receiver : Source → ℕ → ℕ → Bool
is_receiver src y z = connected src.sets y z && not (eqb z src.dest)

-- two filters make one
pub filter_both : {X : Type 0} (p q : X → Bool) (xs : List X) → filter q (filter p xs) ≡ filter (λ x. p x && q x) xs
filter_both p q [] = refl
filter_both p q (x ∷ xs) = go (p x) refl (filter_both p q xs)
  where
    go : (a : Bool) → p x ≡ a → filter q (filter p xs) ≡ filter (λ x. p x && q x) xs
        → filter q (cond (p x) (x ∷ filter p xs) (filter p xs)) ≡ cond (p x && q x) (x ∷ filter (λ x. p x && q x) xs) (filter (λ x. p x && q x) xs)
    go true t rec = rw (t, rec) refl
    go false t rec = rw t rec

pub receivers_are : (src : Source) (y : ℕ) → filter (λ z. not (eqb z src.dest)) (neighbours src.sets y) ≡ filter (is_receiver src y) all_codes
receivers_are src y = filter_both (connected src.sets y) (λ z. not (eqb z src.dest)) all_codes

pub messages_when : (src : Source) (row : Row) (c : Choice) → src.is_stp row.point ≡ true → map (λ z. record { kind = message c z; to = z }) (filter (is_receiver src row.point) all_codes) ≡ messages_of src row c
messages_when src row c stp = rw stp (ap (map (λ z. record { kind = message c z; to = z })) (sym (receivers_are src row.point)))

pub messages_never : (src : Source) (row : Row) (c : Choice) → src.is_stp row.point ≡ false → [] ≡ messages_of src row c
messages_never src row c stp = rw stp refl
