use Rattle.std.proofs.Common.{◌≡◌, ◌∷◌, ◌++◌, [], ap, ◌∙◌, arith, replicate}
use Rattle.std.proofs.lemmas.List.{replicate_more}
use Rattle.desk_core.specs.Desk.{no_post}
use Rattle.desk_core.proofs.desk.no_posts.Goals as goal

pub loop-preserved : goal.loop-preserved
loop-preserved c = c.in_ok-push.ensures.items ∙ ap (λ l. l ++ no_post ∷ []) c.loop.invariant ∙ replicate_more c.loop.counter no_post

pub returns : goal.returns
returns c = let all : c.loop.counter ≡ 256 = omega arith in c.loop.invariant ∙ ap (λ n. replicate n no_post) all
