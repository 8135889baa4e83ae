-- The message to one point among those in force.
use Rattle.std.proofs.Common.{◌≡◌, ℕ, ◌<◌, List, [], ◌∷◌, Option, Some, None, map, cond, eqb, Bool, true, false, not, ◌&&◌, refl, sym, ap, ◌∙◌}
use Rattle.std.specs.Prelude.{find, filter}
use Rattle.std.specs.Option.{option_map}
use Rattle.std.proofs.lemmas.Bool.{eqb-true}
use Rattle.net_items.specs.declared.lists.Row.{Row}
use Rattle.route_choice.specs.declared.choices.Choice.{Choice}
use Rattle.link_sets.specs.Availability.{connected}
use Rattle.link_sets.specs.Neighbours.{all_codes, neighbours}
use Rattle.profile.specs.declared.tables.Message.{Message}
use Rattle.profile.specs.Status.{Source}
use Rattle.profile.specs.Local.{message}
use Rattle.profile.specs.Whole.{messages_of}
use Rattle.profile.proofs.CertificateLemmas.{find-map, code_found}

-- a number is found among those that pass if it passes and is there
find_passing : (p : ℕ → Bool) (xs : List ℕ) (y : ℕ) → find (λ z. eqb z y) (filter p xs) ≡ cond (p y) (find (λ z. eqb z y) xs) None
find_passing p [] y = go (p y)
  where
    go : (b : Bool) → find (λ z. eqb z y) (filter p []) ≡ cond b (find (λ z. eqb z y) []) None
    go true = refl
    go false = refl
find_passing p (x ∷ xs) y = go (eqb x y) refl (p x) refl (p y) refl (find_passing p xs y)
  where
    go : (same : Bool) → eqb x y ≡ same → (a : Bool) → p x ≡ a → (b : Bool) → p y ≡ b → find (λ z. eqb z y) (filter p xs) ≡ cond (p y) (find (λ z. eqb z y) xs) None
        → find (λ z. eqb z y) (filter p (x ∷ xs)) ≡ cond (p y) (find (λ z. eqb z y) (x ∷ xs)) None
    go true e true f true g rest = rw (f, g, e) refl
    go true e true f false g rest = let bad : true ≡ false = sym f ∙ (ap p (eqb-true x y e) ∙ g) in cc
    go true e false f true g rest = let bad : false ≡ true = sym f ∙ (ap p (eqb-true x y e) ∙ g) in cc
    go true e false f false g rest = rw (f, rest, g) refl
    go false e true f true g rest = rw (f, e, rest, g) refl
    go false e true f false g rest = rw (f, e, rest, g) refl
    go false e false f true g rest = rw (f, rest, g, e) refl
    go false e false f false g rest = rw (f, rest, g) refl

-- the message in force to a point: a transfer point sends one to each neighbour but the destination
pub message_found : (src : Source) (row : Row) (c : Choice) (z : ℕ) → z < 16384
    → find (λ (m : Message). eqb m.to z) (messages_of src row c) ≡ cond (src.is_stp row.point && (not (eqb z src.dest) && connected src.sets row.point z)) (Some (record { kind = message c z; to = z })) None
message_found src row c z coded = go (src.is_stp row.point) refl
  where
    to : ℕ → Message
    to y = record { kind = message c y; to = y }

    apart : ℕ → Bool
    apart y = not (eqb y src.dest)

    sent : find (λ (m : Message). eqb m.to z) (map to (filter apart (neighbours src.sets row.point))) ≡ option_map to (cond (apart z) (cond (connected src.sets row.point z) (Some z) None) None)
    sent =
        find-map (λ (m : Message). eqb m.to z) (λ y. eqb y z) to (λ y. refl) (filter apart (neighbours src.sets row.point))
        ∙ ap (option_map to) (find_passing apart (neighbours src.sets row.point) z ∙ ap (λ (o : Option ℕ). cond (apart z) o None) (find_passing (connected src.sets row.point) all_codes z ∙ ap (λ (o : Option ℕ). cond (connected src.sets row.point z) o None) (code_found z coded)))

    over : (a b : Bool) → option_map to (cond a (cond b (Some z) None) None) ≡ cond (a && b) (Some (to z)) None
    over true true = refl
    over true false = refl
    over false b = refl

    go : (stp : Bool) → src.is_stp row.point ≡ stp → find (λ (m : Message). eqb m.to z) (messages_of src row c) ≡ cond (stp && (apart z && connected src.sets row.point z)) (Some (to z)) None
    go true e = rw e (sent ∙ over (apart z) (connected src.sets row.point z))
    go false e = rw e refl
