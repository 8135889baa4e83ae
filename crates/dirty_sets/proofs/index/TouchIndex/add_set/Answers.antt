use Rattle.std.proofs.Common.{◌≡◌, sym, ap, ◌∙◌, subst, List, map}
use Rattle.std.specs.Prelude.{◌-◌}
use Rattle.std.specs.List.{AllZip}
use Rattle.std.specs.Vec.{vec_len, vec_capacity, with_items}
use Rattle.std.proofs.lemmas.List.{with_items_is}
use Rattle.net_items.specs.declared.items.LinkSet.{LinkSet}
use Rattle.net_items.specs.Keyed.{IsRising}
use Rattle.net_data.specs.declared.events.Event.TheVariants as on
use Rattle.net_data.specs.Edits.{changed}
use Rattle.dirty_sets.specs.declared.readers.Reader.{Reader}
use Rattle.dirty_sets.specs.Touch.{IsTouchIndex}
use Rattle.dirty_sets.specs.Index.{TouchIndexValue, IsWithId, bare_set, reads_of, would_read}
use Rattle.dirty_sets.proofs.ReaderLemmas.{rising_keys, with_id-planned}
use Rattle.dirty_sets.proofs.IndexLemmas.{index-AddSet}
use Rattle.dirty_sets.proofs.index.TouchIndex.add_set.Goals as goal

pub invariant_of-self : goal.invariant_of-self
invariant_of-self c =
    let news : List Reader = c.add_set.new.readers in
    let items : (with_items c.self.inside.readers news).items ≡ news = with_items_is c.self.inside.readers news (c.add_set.auto.readers ∙ c.deref_mut.ensures.len) in
    let planned : map (λ (r : Reader). r.dest) c.self.inside.readers.items ≡ map (λ (r : Reader). r.dest) news =
    ap (map (λ (r : Reader). r.dest)) (sym c.deref_mut.ensures.value) ∙ sym (with_id-planned _ _ c.deref_mut.result.now news c.add_set.ensures) in
    subst (IsRising (λ (r : Reader). r.dest)) (sym items) (rising_keys (λ (r : Reader). r.dest) (λ (r : Reader). r.dest) c.self.inside.readers.items news planned c.self.invariant)

pub returns : goal.returns
returns c = λ slcs.
    let net = c.args.before.now in
    let held = c.args.self.now in
    let news : List Reader = c.add_set.new.readers in
    let v = with_items c.self.inside.readers news in
    let items : v.items ≡ news = with_items_is c.self.inside.readers news (c.add_set.auto.readers ∙ c.deref_mut.ensures.len) in
    let same : c.deref_mut.result.now ≡ held.readers = c.deref_mut.ensures.value ∙ ap (λ (h : TouchIndexValue). h.readers) c.self.view_is in
    let all : AllZip (IsWithId c.args.id (would_read net (bare_set c.args.id c.args.a c.args.b))) held.readers news =
    subst (λ (s : LinkSet). AllZip (IsWithId s.id (would_read net s)) held.readers news) c.bare_set-set.ensures
    (subst (λ rs. AllZip (IsWithId c.bare_set-set.result.id (would_read net c.bare_set-set.result)) rs news) same c.add_set.ensures) in
    subst (λ (rs : List Reader). IsTouchIndex (changed net (on.AddSet c.args.id c.args.a c.args.b slcs)) (reads_of (record { readers = rs; room = vec_capacity v - vec_len v }))) (sym items)
    (index-AddSet net held.readers held.room c.requires.index c.args.id c.args.a c.args.b news (vec_capacity v - vec_len v) all slcs)
