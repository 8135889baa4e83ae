use Rattle.std.proofs.Common.{◌++◌, ◌∷◌, [], codes, ap, sym, ◌∙◌, append_assoc}
use Rattle.std.specs.Fmt.{decimal}
use Rattle.net_sheets.specs.About.{flag_text}
use Rattle.net_sheets.proofs.writing.write_head.Goals as goal

pub returns : goal.returns
returns c =
    c.in_ok-text.ensures.ok
    ∙ rw c.flag_word-tfr.ensures (ap (λ t. codes "key,value\nni," ++ t) (sym (append_assoc (decimal c.args.ni) (10 ∷ []) (codes "tfr," ++ (flag_text c.args.tfr ++ 10 ∷ [])))))
