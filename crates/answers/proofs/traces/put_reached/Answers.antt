use Rattle.std.proofs.Common.{◌++◌, ◌∙◌, List, ap, append_assoc, codes, string_bytes}
use Rattle.std.specs.List.{flat_map}
use Rattle.std.proofs.lemmas.Result.{on_ok_weaker}
use Rattle.profile.specs.declared.hops.Hop.{Hop}
use Rattle.answers.specs.Traces.{hop_text}
use Rattle.answers.proofs.traces.put_reached.Goals as goal

pub returns : goal.returns
returns c =
    on_ok_weaker c.put_hops.result
    (λ is. is ∙ ap (λ t. t ++ flat_map hop_text c.as_slice.result.now) c.in_ok-push_str.ensures.bytes
    ∙ append_assoc (string_bytes c.args.text.now) (codes "trace reached") (flat_map hop_text c.as_slice.result.now)
    ∙ ap (λ (hops : List Hop). string_bytes c.args.text.now ++ (codes "trace reached" ++ flat_map hop_text hops)) c.as_slice.ensures) c.put_hops.ensures
