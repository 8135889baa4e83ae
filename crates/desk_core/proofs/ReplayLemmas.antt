-- Networks after events, and what events touch, one more at a time.
use Rattle.std.proofs.Common.{◌≡◌, ℕ, Bool, true, false, ◌||◌, List, [], ◌∷◌, ◌++◌, refl, ap, ◌∙◌}
use Rattle.net_data.specs.declared.events.Event.{Event}
use Rattle.net_data.specs.Network.{Network}
use Rattle.net_data.specs.Edits.{changed, replay}
use Rattle.dirty_sets.specs.Touch.{touches}
use Rattle.desk_core.specs.Desk.{touched_by}

pub replay-push : (net : Network) (es : List Event) (e : Event) → replay net (es ++ e ∷ []) ≡ changed (replay net es) e
replay-push net [] e = refl
replay-push net (x ∷ xs) e = replay-push (changed net x) xs e

pub replay-append : (net : Network) (xs ys : List Event) → replay net (xs ++ ys) ≡ replay (replay net xs) ys
replay-append net [] ys = refl
replay-append net (x ∷ xs) ys = replay-append (changed net x) xs ys

or_false : (b : Bool) → (b || false) ≡ b
or_false true = refl
or_false false = refl

or_assoc : (a b c : Bool) → (a || (b || c)) ≡ ((a || b) || c)
or_assoc true b c = refl
or_assoc false b c = refl

pub touched_by-push : (net : Network) (es : List Event) (e : Event) (x : ℕ) → touched_by net (es ++ e ∷ []) x ≡ (touched_by net es x || touches (replay net es) e x)
touched_by-push net [] e x = or_false (touches net e x)
touched_by-push net (y ∷ ys) e x =
    ap (λ b. touches net y x || b) (touched_by-push (changed net y) ys e x)
    ∙ or_assoc (touches net y x) (touched_by (changed net y) ys x) (touches (replay (changed net y) ys) e x)
