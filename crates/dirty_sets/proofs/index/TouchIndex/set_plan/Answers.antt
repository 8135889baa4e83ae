use Rattle.std.proofs.Common.{◌≡◌, sym, ap, ◌∙◌, subst, false, List}
use Rattle.std.specs.Prelude.{◌-◌}
use Rattle.std.specs.Vec.{vec_len, vec_capacity}
use Rattle.std.specs.Option.{option_map_or}
use Rattle.net_items.specs.declared.items.Point.{Point}
use Rattle.net_items.specs.Lookups.{set_at}
use Rattle.excerpts.specs.Excerpt.{is_read_by}
use Rattle.net_items.specs.Keyed.{IsRising, put}
use Rattle.net_items.proofs.KeyedLemmas.{IsRising-put}
use Rattle.dirty_sets.specs.declared.readers.Reader.{Reader}
use Rattle.dirty_sets.specs.Index.{LeadsOn, TouchIndexValue}
use Rattle.dirty_sets.proofs.IndexLemmas.{index-SetPlan}
use Rattle.dirty_sets.proofs.ReadingLemmas.{leads_accepted}
use Rattle.dirty_sets.proofs.index.TouchIndex.set_plan.Goals as goal

pub invariant_of-self : goal.invariant_of-self
invariant_of-self c = subst (IsRising (λ (r : Reader). r.dest)) (sym c.put_reader.ensures) (IsRising-put (λ (r : Reader). r.dest) _ c.self.inside.readers.items c.self.invariant)

pub sets_read-ids-requires-clause-leads : goal.sets_read-ids-requires-clause-leads
sets_read-ids-requires-clause-leads c =
    subst (λ (points : List Point). LeadsOn points c.args.plan.now) (sym c.points-2.ensures) (leads_accepted c.args.before.now c.args.plan.now c.requires.accepted)

pub returns : goal.returns
returns c =
    let net = c.args.before.now in
    let held = c.args.self.now in
    let plan = c.args.plan.now in
    let v = c.put_reader.new.readers in
    let same : c.self.inside.readers.items ≡ held.readers = ap (λ (h : TouchIndexValue). h.readers) c.self.view_is in
    index-SetPlan net held.readers held.room c.requires.index c.validity.ensures plan c.requires.accepted c.sets_read-ids.result
    (λ n. c.sets_read-ids.ensures n
    ∙ (ap (λ ps. option_map_or (is_read_by ps plan) (set_at c.sets.result.now n) false) c.points-2.ensures
    ∙ ap (λ ss. option_map_or (is_read_by net.points plan) (set_at ss n) false) c.sets.ensures))
    v.items (vec_capacity v - vec_len v)
    (c.put_reader.ensures ∙ ap (put (λ (r : Reader). r.dest) (record { dest = plan.dest; ids = c.sets_read-ids.result })) same)
