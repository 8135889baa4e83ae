use Rattle.std.proofs.Common.{◌+◌, List, [], ◌∷◌, ap, sym, ◌∙◌, arith, length-append}
use Rattle.desk_core.specs.declared.steps.Step.{Step}
use Rattle.desk_core.specs.declared.steps.Reply.{Reply}
use Rattle.desk_core.proofs.RunLemmas.{runs-push}
use Rattle.desk_core.proofs.runs.run_all.Goals as goal

-- one more step is done
pub loop-step-preserved : goal.loop-step-preserved
loop-step-preserved c =
    let yielded : List Step = c.loop-step.yielded in
    let replies : List Reply = c.loop-step.replies.items in
    rw c.in-Ok.ensures.items (record {
      done = runs-push c.args.desk c.loop-step.desk c.step-reply.new.self yielded replies c.in-Some.step c.step-reply.result c.loop-step.invariant.done c.step-reply.ensures;
      len = length-append replies (c.step-reply.result ∷ []) ∙ ap (λ n. n + 1) c.loop-step.invariant.len ∙ sym (length-append yielded (c.in-Some.step ∷ []));
      room = let room = c.loop-step.invariant.room in omega (arith, c.in-Ok.ensures.capacity, room);
    })
