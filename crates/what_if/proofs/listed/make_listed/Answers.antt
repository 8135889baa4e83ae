use Rattle.std.proofs.Common.{◌+◌, List, drop, ap, sym, ◌∙◌, rules}
use Rattle.net_data.specs.declared.events.Event.{Event}
use Rattle.net_data.specs.Edits.{apply_all}
use Rattle.net_building.specs.declared.wholes.Listed.{Listed}
use Rattle.net_building.proofs.StepLemmas.{apply_append}
use Rattle.what_if.specs.Listed.{before_more, meant_from}
use Rattle.what_if.proofs.ListedLemmas.{one_more, rest_here}
use Rattle.what_if.proofs.listed.make_listed.Goals as goal

pub loop-entry-preserved : goal.loop-entry-preserved
loop-entry-preserved c =
    let l = c.loop-entry in
    let taken = c.in_ok-refusal.ensures.taken c.in_default.is in
    let rest = rest_here c.args.entries.now l.entry-index c.entry-item.result c.loop-entry-test.true c.entry-item.is in
    let whole = ap (λ (es : List Listed). before_more l.events.items (meant_from (l.entry-index + 1) l.net es)) (sym rest) ∙ l.invariant.whole in
    let both = apply_append c.args.net l.net l.events.items taken.0 l.invariant.made in record {
      place = search rules;
      whole =
          ap (λ (es : List Event). before_more es (meant_from (l.entry-index + 1 + 1) c.take_entry.new.net (drop (l.entry-index + 1) c.args.entries.now))) taken.3
          ∙ one_more (l.entry-index + 1) l.net c.take_entry.new.net c.entry-item.result (drop (l.entry-index + 1) c.args.entries.now) l.events.items taken.0 _ taken.1 taken.2 whole;
      made = ap (apply_all c.args.net) taken.3 ∙ both ∙ taken.2;
    }
