use Rattle.std.proofs.Common.{ap, sym, subst, ◌∙◌, ◌≤◌, Some}
use Rattle.std.specs.Str.{IsUtf8}
use Rattle.toml.specs.Data.{members_depth}
use Rattle.net_saving.specs.Writing.{document_of}
use Rattle.net_saving.proofs.TableLemmas.{document_depth}
use Rattle.net_saving.proofs.SaveLemmas.{network_reads}
use Rattle.net_saving.proofs.saving.print_document.Goals as goal

pub returns-in-Ok : goal.returns-in-Ok
returns-in-Ok c =
    let net = c.args.net.now in
    let doc = c.in_ok-table.ensures in (
      Some (document_of net),
      (
        subst IsUtf8 c.as_str-seen.ensures.value c.as_str-seen.utf8,
        c.in-Ok.ensures.reads_back (subst (λ d. members_depth d ≤ 80) (sym doc) (document_depth net)) ∙ ap Some doc,
      ),
      network_reads net c.validity.ensures,
    )
