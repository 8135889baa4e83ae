use Rattle.std.proofs.Common.{◌≡◌, Bool, true, false, Some, None, if◌then◌else◌, ap, refl, sym, ◌∙◌}
use Rattle.std.specs.Str.{is_utf8}
use Rattle.std.proofs.lemmas.Str.{IsUtf8-from_is_utf8, is_utf8-from_IsUtf8}
use Rattle.script_words.proofs.pictures.read_name.Goals as goal

pub returns-in_ok-from_str-in-Ok : goal.returns-in_ok-from_str-in-Ok
returns-in_ok-from_str-in-Ok c =
    let word = c.args.word.now in
    ap Some (c.from_string.ensures ∙ c.in_ok-from_str-in-Ok.ensures.ok ∙ c.in-Ok.ensures.cases.0)
    ∙ ap (λ (b : Bool). if b then Some word else None) (sym (is_utf8-from_IsUtf8 word c.in-Ok.ensures.cases.1))

pub returns-in-Err : goal.returns-in-Err
returns-in-Err c = go (is_utf8 c.args.word.now) refl
  where
    go : (b : Bool) → is_utf8 c.args.word.now ≡ b → None ≡ (if b then Some c.args.word.now else None)
    go true e = absurd (c.in-Err.ensures.cases.0 (IsUtf8-from_is_utf8 c.args.word.now e))
    go false e = refl
