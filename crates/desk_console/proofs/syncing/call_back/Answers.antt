use Rattle.std.proofs.Common.{◌≡◌, Some, sym, ◌∙◌}
use Rattle.desk_core.specs.Steps.{target_number}
use Rattle.desk_core.proofs.RunLemmas.{run_none}
use Rattle.desk_console.proofs.RunLemmas.{abandoned, goes_on}
use Rattle.desk_console.proofs.StepLemmas.{IsAbandoned, abandon_first, none_first, only_none, only_then}
use Rattle.desk_console.proofs.syncing.call_back.Goals as goal

pub loop-dest-init : goal.loop-dest-init
loop-dest-init c = record { only = only_none c.args.desk.now; run = run_none c.args.desk.now }

-- one abandonment more
pub loop-dest-preserved : goal.loop-dest-preserved
loop-dest-preserved c =
    let named : target_number c.loop-dest.desk ≡ Some c.args.number = c.loop-dest.invariant.only.number ∙ c.requires in
    let is : IsAbandoned c.loop-dest.desk c.abandon.result c.abandon.new.self
    = abandon_first c.loop-dest.desk c.args.number c.in-Some.dest c.abandon.result c.abandon.new.self named (sym c.first_out.ensures ∙ c.in-Some.is) c.abandon.ensures in
    record {
      only = only_then c.args.desk.now c.loop-dest.desk c.abandon.new.self c.loop-dest.invariant.only is.only;
      run = goes_on c.args.desk.now c.loop-dest.desk c.abandon.new.self c.loop-dest.invariant.run (abandoned c.loop-dest.desk c.abandon.new.self c.args.number c.in-Some.dest c.abandon.result c.abandon.ensures);
    }

-- fewer are out
pub loop-dest-smaller : goal.loop-dest-smaller
loop-dest-smaller c =
    let named : target_number c.loop-dest.desk ≡ Some c.args.number = c.loop-dest.invariant.only.number ∙ c.requires in
    let is : IsAbandoned c.loop-dest.desk c.abandon.result c.abandon.new.self
    = abandon_first c.loop-dest.desk c.args.number c.in-Some.dest c.abandon.result c.abandon.new.self named (sym c.first_out.ensures ∙ c.in-Some.is) c.abandon.ensures in
    is.fewer

-- no abandonment is refused
pub unreachable-requires : goal.unreachable-requires
unreachable-requires c =
    let named : target_number c.loop-dest.desk ≡ Some c.args.number = c.loop-dest.invariant.only.number ∙ c.requires in
    let is : IsAbandoned c.loop-dest.desk c.abandon.result c.abandon.new.self
    = abandon_first c.loop-dest.desk c.args.number c.in-Some.dest c.abandon.result c.abandon.new.self named (sym c.first_out.ensures ∙ c.in-Some.is) c.abandon.ensures in
    let wrong = sym c.in-Err.is ∙ is.done in
    cc

-- without a first nothing is out
pub returns-clause-none : goal.returns-clause-none
returns-clause-none c = none_first c.loop-dest.desk (sym c.first_out.ensures ∙ c.in_default.is)
