-- Events that are applied one after the other.
use Rattle.std.proofs.Common.{◌≡◌, ℕ, Bool, false, Option, Some, None, Result, Ok, Err, List, [], ◌∷◌, ◌++◌, refl, ap, ◌∙◌}
use Rattle.std.specs.Option.{option_or}
use Rattle.net_items.specs.declared.items.Point.{Point}
use Rattle.net_items.specs.declared.items.LinkSet.{LinkSet}
use Rattle.net_items.specs.declared.items.Plan.{Plan}
use Rattle.net_data.specs.declared.events.Event.{Event}
use Rattle.net_data.specs.declared.events.Refusal.{Refusal}
use Rattle.net_data.specs.Network.{Network}
use Rattle.net_data.specs.Edits.{refusal_of, changed, apply_all, replay, unless_refused}
use Rattle.plan_rows.specs.Causes.{when}

-- an event that is accepted, and those after it
pub step : (net net' : Network) (e : Event) (es : List Event) → refusal_of net e ≡ None → changed net e ≡ net' → apply_all net (e ∷ es) ≡ apply_all net' es
step net net' e es none made = ap (λ o. unless_refused o (apply_all (changed net e) es)) none ∙ ap (λ n. apply_all n es) made

-- events that are accepted, and those after them
pub apply_append : (net mid : Network) (es fs : List Event) → apply_all net es ≡ Ok mid → apply_all net (es ++ fs) ≡ apply_all mid fs
apply_append net mid [] fs h = ap (λ r. after r fs) h
  where
    after : Result Network Refusal → List Event → Result Network Refusal
    after (Ok n) gs = apply_all n gs
    after (Err e) gs = Err e
apply_append net mid (e ∷ es) fs h = go (refusal_of net e) refl (apply_append (changed net e) mid es fs)
  where
    go : (o : Option Refusal) → refusal_of net e ≡ o → (apply_all (changed net e) es ≡ Ok mid → apply_all (changed net e) (es ++ fs) ≡ apply_all mid fs)
        → unless_refused (refusal_of net e) (apply_all (changed net e) (es ++ fs)) ≡ apply_all mid fs
    go (Some r) t next = absurd (cc (rw t at h))
    go None t next = rw t (next (rw t at h))

-- a network that events make, none of which is refused
pub all_made : (net new : Network) (events : List Event) → apply_all net events ≡ Ok new → new ≡ replay net events
all_made net new [] e = cc
all_made net new (event ∷ events) e = go (refusal_of net event) refl (all_made (changed net event) new events)
  where
    go : (o : Option Refusal) → refusal_of net event ≡ o → (apply_all (changed net event) events ≡ Ok new → new ≡ replay (changed net event) events) → new ≡ replay (changed net event) events
    go None none rec = rec (rw none at e)
    go (Some refusal) some rec = let no : Err refusal ≡ Ok new = rw some at e in cc

-- a test that fails refuses nothing
pub passed : {R : Type 0} (b : Bool) (r : R) (o : Option R) → b ≡ false → o ≡ None → option_or (when b r) o ≡ None
passed b r o off rest = rw off rest

-- nothing found refuses nothing
pub skipped : {R : Type 0} (o p : Option R) → o ≡ None → p ≡ None → option_or o p ≡ None
skipped o p none rest = rw none rest

-- a network of those parts
abbrev pub made : ℕ → Bool → List Point → List LinkSet → List Plan → Network
made ni tfr points sets plans = record { ni = ni; tfr = tfr; points = points; sets = sets; plans = plans }
