use Rattle.std.proofs.Common.{◌≡◌, ap, ◌∙◌}
use Rattle.std.specs.Prelude.{IfOk}
use Rattle.rayon.proofs.ListFacts.{IfOk-then}
use Rattle.rayon.proofs.ToStd.{slice-AllZip}
use Rattle.what_if.specs.Survey.{effect_of}
use Rattle.all_tables.proofs.CheckingLemmas.{collected, each_is}
use Rattle.console.proofs.surveying.effects_by.Goals as goal

pub returns : goal.returns
returns g c =
    let slice = ap (λ it. it.slice.now) c.with_min_len.ensures.base ∙ c.par_iter.ensures in
    let h = c.in_ok-collect.ensures in
    let chain = rw (c.map.ensures.base, c.map.ensures.f) at h.1 in
    let net = c.args.version.now.network in
    IfOk-then c.in_ok-collect.field-0 _ _ (collected _ (λ single effect. effect ≡ effect_of net single) (λ v. v.items) c.in_ok-collect.field-0 c.args.singles.now h.0
    (slice-AllZip chain.0 c.args.singles.now (chain.1 ∙ slice) (λ p x. IfOk x (λ e. e ≡ effect_of net p)) h.0 chain.2) h.2)
    (λ v each. each_is (effect_of net) c.args.singles.now v.items each)
