-- An accepted event that doesn't touch a destination leaves what its table reads.
use Rattle.std.proofs.Common.{◌≡◌, ℕ, Bool, false, eqb, None, refl, ap, ◌∙◌}
use Rattle.std.specs.Option.{option_map}
use Rattle.std.proofs.lemmas.Bool.{or_parts}
use Rattle.net_items.specs.declared.items.Plan.{Plan}
use Rattle.net_items.specs.Lookups.{plan_at}
use Rattle.net_items.proofs.KeyedLemmas.{at_key-put, at_key-without}
use Rattle.net_sets.specs.Sets.{new_links, with_change, with_link, without_link}
use Rattle.net_data.specs.declared.events.Event.{Event}
use Rattle.net_data.specs.declared.events.Event.TheVariants as on
use Rattle.net_data.specs.Network.{Network}
use Rattle.net_data.specs.Edits.{refusal_of, changed, in_order}
use Rattle.net_data.specs.Valid.{IsValid}
use Rattle.net_data.proofs.PreservationLemmas.{not_some}
use Rattle.excerpts.specs.Excerpt.{content_in, content_at}
use Rattle.dirty_sets.specs.Touch.{touches, reads_set}
use Rattle.dirty_sets.proofs.UntouchedSetLemmas.{content-edit_set, content-without_set, content-put_set}
use Rattle.dirty_sets.proofs.UntouchedPointLemmas.{content-AddPoint, content-RemovePoint, content-Pair, content-Unpair}

-- a plan of another destination comes
content-SetPlan : (net : Network) (x : ℕ) (plan : Plan) → eqb plan.dest x ≡ false → content_at (changed net (on.SetPlan plan)) x ≡ content_at net x
content-SetPlan net x plan other =
    let new : Plan = record plan { rows = in_order plan.rows } in
    ap (option_map (content_in net)) (at_key-put (λ (p : Plan). p.dest) new net.plans x ∙ rw other refl)

-- the plan of another destination goes
content-DropPlan : (net : Network) (x dest : ℕ) → IsValid net → eqb dest x ≡ false → content_at (changed net (on.DropPlan dest)) x ≡ content_at net x
content-DropPlan net x dest v other =
    ap (option_map (content_in net)) (at_key-without (λ (p : Plan). p.dest) dest net.plans x v.plans_rise ∙ rw other refl)

-- the option changes for those that are planned
content-SetTfr : (net : Network) (x : ℕ) (tfr : Bool) → plan_at net.plans x ≡ None → content_at (changed net (on.SetTfr tfr)) x ≡ content_at net x
content-SetTfr net x tfr none = rw none refl

pub law : (net : Network) (event : Event) (x : ℕ) → IsValid net → refusal_of net event ≡ None → touches net event x ≡ false → content_at (changed net event) x ≡ content_at net x
law net (on.Link id slc change) x v none off =
    content-edit_set net x id (or_parts (reads_set net x id) _ off).0 (with_change slc change) (λ points plan s. refl)
law net (on.AddLink id slc) x v none off =
    content-edit_set net x id (or_parts (reads_set net x id) _ off).0 (with_link slc) (λ points plan s. refl)
law net (on.RemoveLink id slc) x v none off =
    content-edit_set net x id (or_parts (reads_set net x id) _ off).0 (without_link slc) (λ points plan s. refl)
law net (on.RemoveSet id) x v none off =
    content-without_set net x id (or_parts (reads_set net x id) _ off).0
law net (on.AddSet id a b slcs) x v none off =
    let parts = or_parts (reads_set net x id) _ off in
    content-put_set net x (record { id = id; a = a; b = b; links = new_links slcs }) parts.0 parts.1
law net (on.SetPlan plan) x v none off = content-SetPlan net x plan off
law net (on.DropPlan dest) x v none off = content-DropPlan net x dest v off
law net (on.SetTfr tfr) x v none off = content-SetTfr net x tfr (not_some _ off)
law net (on.AddPoint c kind) x v none off = content-AddPoint net v x c kind none
law net (on.RemovePoint c) x v none off = content-RemovePoint net v x c none
law net (on.Pair p q) x v none off = content-Pair net v x p q none
law net (on.Unpair p) x v none off = content-Unpair net v x p none
