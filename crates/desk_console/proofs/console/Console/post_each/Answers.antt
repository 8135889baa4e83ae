use Rattle.desk_console.proofs.WholeLemmas.{posted_next}
use Rattle.desk_console.proofs.console.Console.post_each.Goals as goal

pub loop-event-preserved : goal.loop-event-preserved
loop-event-preserved c =
    let l = c.loop-event in
    let one = c.in_ok-post_one.ensures in
    let next = posted_next 0 c.args.events.now l.event-index c.event-item.result c.args.self.now l.self one.0 c.post_one.new.self c.loop-event-test.true c.event-item.is l.invariant.posted l.invariant.can one.1 in
    record { posted = next.0; can = next.1 }
