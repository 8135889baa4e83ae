-- A slot whose result is taken out and put back.
use Rattle.std.proofs.Common.{◌≡◌, ℕ, List, Option, None, ap, sym, ◌∙◌}
use Rattle.std.specs.Prelude.{slice_set, slice_index_or}
use Rattle.std.proofs.lemmas.List.{set-set, set-get_or}
use Rattle.work_units.specs.Work.{Work}

-- nothing was there
pub left_empty : (slots : List (Option Work)) (k : ℕ) → slice_index_or slots k None ≡ None → slice_set slots k None ≡ slots
left_empty slots k none = ap (slice_set slots k) (sym none) ∙ set-get_or slots k None

-- what was taken out is put back
pub put_back : (slots : List (Option Work)) (k : ℕ) (held : Option Work) → slice_index_or slots k None ≡ held → slice_set (slice_set slots k None) k held ≡ slots
put_back slots k held is = set-set slots k None held ∙ ap (slice_set slots k) (sym is) ∙ set-get_or slots k None
