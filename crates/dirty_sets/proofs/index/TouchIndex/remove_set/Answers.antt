use Rattle.std.proofs.Common.{◌≡◌, sym, ap, ◌∙◌, subst, ℕ, false, List, map}
use Rattle.std.specs.Prelude.{◌-◌}
use Rattle.std.specs.List.{AllZip}
use Rattle.std.specs.Vec.{vec_len, vec_capacity, with_items}
use Rattle.std.proofs.lemmas.List.{with_items_is}
use Rattle.net_items.specs.Keyed.{IsRising}
use Rattle.net_data.specs.declared.events.Event.TheVariants as on
use Rattle.net_data.specs.Edits.{changed}
use Rattle.dirty_sets.specs.declared.readers.Reader.{Reader}
use Rattle.dirty_sets.specs.Touch.{IsTouchIndex}
use Rattle.dirty_sets.specs.Index.{TouchIndexValue, IsWithId, reads_of}
use Rattle.dirty_sets.proofs.ReaderLemmas.{rising_keys, with_id-planned}
use Rattle.dirty_sets.proofs.IndexLemmas.{index-RemoveSet}
use Rattle.dirty_sets.proofs.index.TouchIndex.remove_set.Goals as goal

pub invariant_of-self : goal.invariant_of-self
invariant_of-self c =
    let news : List Reader = c.remove_set.new.readers in
    let items : (with_items c.self.inside.readers news).items ≡ news = with_items_is c.self.inside.readers news (c.remove_set.auto.readers ∙ c.deref_mut.ensures.len) in
    let planned : map (λ (r : Reader). r.dest) c.self.inside.readers.items ≡ map (λ (r : Reader). r.dest) news =
    ap (map (λ (r : Reader). r.dest)) (sym c.deref_mut.ensures.value) ∙ sym (with_id-planned _ _ c.deref_mut.result.now news c.remove_set.ensures) in
    subst (IsRising (λ (r : Reader). r.dest)) (sym items) (rising_keys (λ (r : Reader). r.dest) (λ (r : Reader). r.dest) c.self.inside.readers.items news planned c.self.invariant)

pub returns : goal.returns
returns c =
    let net = c.args.before.now in
    let held = c.args.self.now in
    let news : List Reader = c.remove_set.new.readers in
    let v = with_items c.self.inside.readers news in
    let items : v.items ≡ news = with_items_is c.self.inside.readers news (c.remove_set.auto.readers ∙ c.deref_mut.ensures.len) in
    let same : c.deref_mut.result.now ≡ held.readers = c.deref_mut.ensures.value ∙ ap (λ (h : TouchIndexValue). h.readers) c.self.view_is in
    let all : AllZip (IsWithId c.args.id (λ (x : ℕ). false)) held.readers news = subst (λ rs. AllZip (IsWithId c.args.id (λ (x : ℕ). false)) rs news) same c.remove_set.ensures in
    subst (λ (rs : List Reader). IsTouchIndex (changed net (on.RemoveSet c.args.id)) (reads_of (record { readers = rs; room = vec_capacity v - vec_len v }))) (sym items)
    (index-RemoveSet net held.readers held.room c.requires.index c.validity.ensures c.args.id news (vec_capacity v - vec_len v) all)
