use Rattle.std.proofs.Common.{◌≡◌, ap, ◌∙◌}
use Rattle.std.specs.Prelude.{IfOk}
use Rattle.rayon.proofs.ListFacts.{IfOk-then}
use Rattle.rayon.proofs.ToStd.{slice-AllZip}
use Rattle.excerpts.specs.Excerpt.{table_at}
use Rattle.all_tables.proofs.CheckingLemmas.{collected, each_is}
use Rattle.all_tables.proofs.making.tables_at.Goals as goal

pub returns : goal.returns
returns g c =
    let slice = ap (λ it. it.slice.now) c.with_min_len.ensures.base ∙ c.par_iter.ensures in
    let h = c.in_ok-collect.ensures in
    let chain = rw (c.map.ensures.base, c.map.ensures.f) at h.1 in
    IfOk-then c.in_ok-collect.field-0 _ _ (collected _ (λ dest table. table ≡ table_at c.args.net.now dest) (λ v. v.items) c.in_ok-collect.field-0 c.args.dests.now h.0
    (slice-AllZip chain.0 c.args.dests.now (chain.1 ∙ slice) (λ p x. IfOk x (λ t. t ≡ table_at c.args.net.now p)) h.0 chain.2) h.2)
    (λ v each. each_is (table_at c.args.net.now) c.args.dests.now v.items each)
