use Rattle.std.proofs.Common.{◌≡◌, ◌<◌, ◌≤◌, sym, ap, ◌∙◌, subst, [], ◌∷◌, ◌++◌, List, length, take, get_or, arith, rules}
use Rattle.std.specs.List.{AllZip}
use Rattle.std.specs.Vec.{vec_len, vec_capacity}
use Rattle.std.specs.Prelude.{◌-◌}
use Rattle.std.proofs.lemmas.List.{take_more, take_all}
use Rattle.net_items.specs.declared.items.Plan.{Plan}
use Rattle.dirty_sets.specs.declared.readers.Reader.{Reader}
use Rattle.dirty_sets.specs.Index.{IsReaderOf}
use Rattle.dirty_sets.proofs.ReaderLemmas.{readers-planned, rising_keys, zip-push}
use Rattle.dirty_sets.proofs.IndexLemmas.{index_of}
use Rattle.dirty_sets.proofs.index.TouchIndex.new.Goals as goal

pub loop-position-preserved : goal.loop-position-preserved
loop-position-preserved c =
    let net = c.args.net.now in
    let position = c.loop-position.position in
    let R = IsReaderOf net.points net.sets in
    let d : Plan = record { dest = 0; rows = [] } in
    let count : c.len-count.result ≡ length net.plans = c.len-count.ensures ∙ ap length c.plans.ensures in
    let within : position < length net.plans = omega arith in
    subst (λ ps. AllZip R ps c.push.new.self.items) (sym (take_more net.plans position d within))
    (subst (λ rs. AllZip R (take position net.plans ++ get_or net.plans position d ∷ []) rs) (sym c.in_ok-push.ensures.items)
    (zip-push R (take position net.plans) c.loop-position.list.items (get_or net.plans position d) c.reader_at.result c.loop-position.invariant (c.reader_at.ensures d)))

pub invariant_of-result : goal.invariant_of-result
invariant_of-result c =
    let net = c.args.net.now in
    let position = c.loop-position.position in
    let list : List Reader = c.loop-position.list.items in
    let R = IsReaderOf net.points net.sets in
    let count : c.len-count.result ≡ length net.plans = c.len-count.ensures ∙ ap length c.plans.ensures in
    let past : length net.plans ≤ position = omega arith in
    let all : AllZip R net.plans list = subst (λ ps. AllZip R ps list) (take_all position net.plans past) c.loop-position.invariant in
    rising_keys (λ (p : Plan). p.dest) (λ (r : Reader). r.dest) net.plans list (sym (readers-planned net.points net.sets net.plans list all)) c.validity.ensures.plans_rise

pub returns : goal.returns
returns c =
    let net = c.args.net.now in
    let position = c.loop-position.position in
    let list : List Reader = c.loop-position.list.items in
    let R = IsReaderOf net.points net.sets in
    let count : c.len-count.result ≡ length net.plans = c.len-count.ensures ∙ ap length c.plans.ensures in
    let past : length net.plans ≤ position = omega arith in
    let all : AllZip R net.plans list = subst (λ ps. AllZip R ps list) (take_all position net.plans past) c.loop-position.invariant in
    index_of net list (vec_capacity c.loop-position.list - vec_len c.loop-position.list) all

pub loop-position-init : goal.loop-position-init
loop-position-init c = search rules
