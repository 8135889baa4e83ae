use Rattle.std.proofs.Common.{◌≡◌, ◌+◌, Ok, drop}
use Rattle.net_data.specs.Edits.{apply_all}
use Rattle.what_if.specs.Listed.{before_more, meant_from}
use Rattle.what_if.proofs.listed.make_listed.Given as goal

-- the events so far and those of the entries that are left are those of all; the events so far make the network so far
abbrev pub invariant-loop-entry : goal.invariant-loop-entry
invariant-loop-entry l = record {
  place : l.place ≡ l.entry-index;
  whole : before_more l.events.items (meant_from (l.entry-index + 1) l.net (drop l.entry-index l.entries)) ≡ meant_from 1 l.fn.net l.entries;
  made : apply_all l.fn.net l.events.items ≡ Ok l.net;
}
