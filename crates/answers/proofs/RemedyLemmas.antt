-- The command of a change of a link, word by word.
use Rattle.std.proofs.Common.{◌≡◌, ℕ, List, ◌∷◌, ◌++◌, codes, ap, sym, refl, append-nil}
use Rattle.std.specs.List.{join_with_byte}
use Rattle.std.specs.Fmt.{decimal}
use Rattle.link_state.specs.declared.marks.End.TheVariants.{First, Second}
use Rattle.link_state.specs.declared.marks.LinkChange.{LinkChange}
use Rattle.link_state.specs.declared.marks.LinkChange.TheVariants.{Fail, Restore, Block, Unblock, Inhibit, Uninhibit}
use Rattle.net_data.specs.declared.events.Event.TheVariants as on
use Rattle.script_words.specs.EventWords.{event_words}
use Rattle.answers.specs.Remedies.{change_word, command_text, end_of, end_part}
use Rattle.answers.specs.declared.remedies.Action.{Action}

command_of : (id slc : ℕ) (change : LinkChange)
    → join_with_byte 32 (event_words (on.Link id slc change)) ≡ change_word change ++ 32 ∷ (decimal id ++ 32 ∷ (decimal slc ++ end_part (end_of change)))
command_of id slc Fail = ap (λ (t : List ℕ). codes "fail" ++ 32 ∷ (decimal id ++ 32 ∷ t)) (sym (append-nil (decimal slc)))
command_of id slc Restore = ap (λ (t : List ℕ). codes "restore" ++ 32 ∷ (decimal id ++ 32 ∷ t)) (sym (append-nil (decimal slc)))
command_of id slc (Block First) = refl
command_of id slc (Block Second) = refl
command_of id slc (Unblock First) = refl
command_of id slc (Unblock Second) = refl
command_of id slc (Inhibit First) = refl
command_of id slc (Inhibit Second) = refl
command_of id slc (Uninhibit First) = refl
command_of id slc (Uninhibit Second) = refl

pub command_parts : (a : Action) → command_text a ≡ change_word a.change ++ 32 ∷ (decimal a.id ++ 32 ∷ (decimal a.slc ++ end_part (end_of a.change)))
command_parts a = command_of a.id a.slc a.change
