-- The octets of a message from the row that is found are those of one from the point.
use Rattle.std.proofs.Common.{◌≡◌, ◌∙◌, ℕ, ◌==◌, Bool, true, false, eqb, List, [], ◌∷◌, Option, Some, None, option_map, find, ap, sym, refl}
use Rattle.std.proofs.lemmas.Bool.{eqb-true}
use Rattle.point_codes.specs.Octets.{octets_of}
use Rattle.profile.specs.declared.tables.Message.{Message}
use Rattle.profile.specs.declared.tables.RowState.{RowState}
use Rattle.answers.specs.Messages.{message_to, octets_to}
use Rattle.answers.specs.declared.answer.RowAnswer.{RowAnswer}
use Rattle.answers.specs.declared.answer.RowAnswer.TheVariants as row

-- a row that is found is of the point
pub found_of : (states : List RowState) (y : ℕ) (state : RowState) → find (λ (s : RowState). s.point == y) states ≡ Some state → state.point ≡ y
found_of [] y state at = cc
found_of (s ∷ states) y state at = go (eqb s.point y) refl (found_of states y state)
  where
    go : (b : Bool) → eqb s.point y ≡ b → (find (λ (s : RowState). s.point == y) states ≡ Some state → state.point ≡ y) → state.point ≡ y
    go true t rec = let here : Some s ≡ Some state = rw t at at in let same : s ≡ state = cc in ap (λ (q : RowState). q.point) (sym same) ∙ eqb-true s.point y t
    go false t rec = rec (rw t at at)

-- the octets that are told of a point, by its message
abbrev pub octets_by : ℕ → ℕ → ℕ → ℕ → Option Message → RowAnswer
octets_by ni dest y z message = row.Octets (option_map (λ (m : Message). octets_of ni z y m.kind dest) message)

-- the octets by the message of the row that is found
pub octets_found : (ni dest y z : ℕ) (message : Option Message) (states : List RowState) (o : Option RowState) → find (λ (s : RowState). s.point == y) states ≡ o → Some message ≡ option_map (λ (s : RowState). message_to s.messages z) o
    → Some (octets_by ni dest y z message) ≡ option_map (λ (s : RowState). row.Octets (octets_to ni dest s z)) o
octets_found ni dest y z message states None at is = absurd (cc)
octets_found ni dest y z message states (Some state) at is =
    let same : message ≡ message_to state.messages z = cc in
    ap (λ m. Some (octets_by ni dest y z m)) same ∙ ap (λ k. Some (octets_by ni dest k z (message_to state.messages z))) (sym (found_of states y state at))
