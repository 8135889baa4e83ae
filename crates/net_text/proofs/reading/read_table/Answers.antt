use Rattle.std.proofs.Common.{◌∙◌, map, rules}
use Rattle.toml.specs.View.{view, table_view}
use Rattle.net_text.specs.Keys.{text_of}
use Rattle.net_text.proofs.PlanLemmas.{plans_last}
use Rattle.net_text.proofs.reading.read_table.Goals as goal

pub returns-in_err-apply_owned_entries-clause-err : goal.returns-in_err-apply_owned_entries-clause-err
returns-in_err-apply_owned_entries-clause-err c =
    let (h, read, format, made) = c.in_ok-net.ensures.ok in
    let last = plans_last (table_view c.args.table) h _ (map (λ v. text_of (view v)) c.take_plans-plans.result.items) read made c.take_plans-plans.ensures in
    search (rules, last)

pub returns-clause-ok : goal.returns-clause-ok
returns-clause-ok c =
    let (h, read, format, made) = c.in_ok-net.ensures.ok in
    plans_last (table_view c.args.table) h _ (map (λ v. text_of (view v)) c.take_plans-plans.result.items) read made c.take_plans-plans.ensures
    ∙ c.in_ok-apply_owned_entries.ensures.ok
