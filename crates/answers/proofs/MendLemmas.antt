-- What is told of the links to restore is what the network wants.
use Rattle.std.proofs.Common.{◌≡◌, ◌∙◌, ℕ, List, Option, Some, None, ap, sym, refl, subst}
use Rattle.net_items.specs.declared.items.Plan.{Plan}
use Rattle.net_items.specs.Lookups.{plan_at}
use Rattle.net_data.specs.Network.{Network}
use Rattle.net_data.specs.Valid.{IsValid}
use Rattle.profile.specs.Status.{Source, source_in}
use Rattle.profile.specs.Whole.{scratch}
use Rattle.profile.specs.declared.tables.RowState.{RowState}
use Rattle.excerpts.proofs.ExcerptLemmas.{extract_right}
use Rattle.script_words.specs.declared.questions.Question.{Question}
use Rattle.what_if.specs.Mending.{IsMend, mend}
use Rattle.what_if.specs.declared.mending.SetLink.{SetLink}
use Rattle.what_if.specs.declared.wanted.Wanted.{Wanted}
use Rattle.what_if.proofs.LeastLemmas.{mend_law_is}
use Rattle.answers.specs.Rows.{IsMendAt, asked_of, plan_answer, row_answer, row_in}
use Rattle.answers.specs.declared.answer.Answer.TheVariants as answer
use Rattle.answers.specs.declared.answer.RowAnswer.TheVariants as row
use Rattle.answers.proofs.RowLemmas.{found_of}

module _ (asked : Question) (wanted : Wanted) (asks : (ni : ℕ) (src : Source) (state : RowState) → asked_of asked ni src state ≡ row.Mend (mend src wanted state.point)) where
  -- what is told of a row
  told_of : (ni : ℕ) (src : Source) (y : ℕ) (told : Option (List SetLink)) (o : Option RowState) → row_in (scratch src) y ≡ o
      → row_answer asked ni src o ≡ answer.Row (row.Mend told) → mend src wanted y ≡ told
  told_of ni src y told None at e = absurd (cc)
  told_of ni src y told (Some state) at e =
      let is : answer.Row (row.Mend (mend src wanted state.point)) ≡ answer.Row (row.Mend told) = sym (ap answer.Row (asks ni src state)) ∙ e in
      let same : mend src wanted state.point ≡ told = cc in
      ap (mend src wanted) (sym (found_of (scratch src).rows y state at)) ∙ same

  -- what is told by the plan of a destination
  pub meant : (net : Network) → IsValid net → (y x : ℕ) (told : Option (List SetLink)) (o : Option Plan) → plan_at net.plans x ≡ o → plan_answer asked net y o ≡ answer.Row (row.Mend told) → IsMendAt net x wanted y told
  meant net valid y x told None at e = absurd (cc)
  meant net valid y x told (Some plan) at e =
      let src : Source = source_in net.points net.sets plan net.tfr in
      let right = extract_right net valid x plan at in (
        plan,
        at,
        subst (IsMend src wanted y) (told_of net.ni src y told (row_in (scratch src) y) refl e) (mend_law_is src right.valid valid.sets_rise wanted y),
      )
