use Rattle.std.proofs.Common.{◌≡◌, sym, ap, ◌∙◌, subst, true, is_some}
use Rattle.std.specs.Prelude.{◌-◌}
use Rattle.std.specs.Vec.{vec_len, vec_capacity}
use Rattle.net_items.specs.Keyed.{IsRising, at_key, without}
use Rattle.net_items.proofs.KeyedLemmas.{IsRising-without}
use Rattle.dirty_sets.specs.declared.readers.Reader.{Reader}
use Rattle.dirty_sets.specs.Index.{TouchIndexValue}
use Rattle.dirty_sets.proofs.IndexLemmas.{index-DropPlan, planned-DropPlan, some_reader}
use Rattle.dirty_sets.proofs.index.TouchIndex.drop_plan.Goals as goal

pub remove_reader-requires-clause-there : goal.remove_reader-requires-clause-there
remove_reader-requires-clause-there c =
    let net = c.args.before.now in
    let held = c.args.self.now in
    subst (λ (h : TouchIndexValue). is_some (at_key (λ (r : Reader). r.dest) c.args.dest h.readers) ≡ true) (sym c.self.view_is)
    (some_reader net held.readers held.room c.requires.index c.args.dest ∙ planned-DropPlan net c.args.dest c.requires.accepted)

pub invariant_of-self : goal.invariant_of-self
invariant_of-self c = subst (IsRising (λ (r : Reader). r.dest)) (sym c.remove_reader.ensures) (IsRising-without (λ (r : Reader). r.dest) c.args.dest c.self.inside.readers.items c.self.invariant)

pub returns : goal.returns
returns c =
    let net = c.args.before.now in
    let held = c.args.self.now in
    let v = c.remove_reader.new.readers in
    let same : c.self.inside.readers.items ≡ held.readers = ap (λ (h : TouchIndexValue). h.readers) c.self.view_is in
    let up : IsRising (λ (r : Reader). r.dest) held.readers = subst (IsRising (λ (r : Reader). r.dest)) same c.self.invariant in
    index-DropPlan net held.readers held.room c.requires.index c.validity.ensures c.args.dest up v.items (vec_capacity v - vec_len v)
    (c.remove_reader.ensures ∙ ap (without (λ (r : Reader). r.dest) c.args.dest) same)
