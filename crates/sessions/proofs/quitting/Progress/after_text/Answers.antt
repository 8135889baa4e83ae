use Rattle.std.proofs.Common.{sym, ap, ◌≡◌, ◌∙◌, length, ◌+◌, ◌-◌, take, drop, arith, length-drop}
use Rattle.std.proofs.lemmas.List.{take_all}
use Rattle.sessions.specs.Quitting.{after_all}
use Rattle.sessions.specs.declared.quitting.Progress.TheVariants as so_far
use Rattle.sessions.proofs.ScanLemmas.{text_of_last, text_of_none}
use Rattle.sessions.proofs.quitting.Progress.after_text.Goals as goal

pub returns-in-Some : goal.returns-in-Some
returns-in-Some c =
    let bytes = c.args.bytes.now in
    let rest : take (length bytes - (c.in-Some.at + 1)) (drop (c.in-Some.at + 1) bytes) ≡ drop (c.in-Some.at + 1) bytes
    = take_all (length bytes - (c.in-Some.at + 1)) (drop (c.in-Some.at + 1) bytes) (omega (arith, length-drop (c.in-Some.at + 1) bytes)) in
    c.after_all.ensures ∙ ap (after_all so_far.Spaces) rest ∙ sym (text_of_last c.args.self bytes c.in-Some.at c.in-Some.ensures)

pub returns-in-None : goal.returns-in-None
returns-in-None c = c.after_all-in-None.ensures ∙ sym (text_of_none c.args.self c.args.bytes.now c.in-None.ensures)
