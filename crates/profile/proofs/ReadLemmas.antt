-- An excerpt finds the sets that it holds.
use Rattle.std.proofs.Common.{IsTrue, ◌≡◌, ℕ, suc, List, [], ◌∷◌, Option, Some, None, All, map, cond, eqb, Bool, true, false, refl, sym, ap, ◌∙◌, arith}
use Rattle.std.specs.Prelude.{find, filter}
use Rattle.std.specs.List.{list_any}
use Rattle.std.specs.Option.{option_and_then}
use Rattle.std.proofs.lemmas.List.Elements.{All-nil, All-cons, All-weaker}
use Rattle.std.proofs.lemmas.Bool.{or_left, or_right, eq-eqb}
use Rattle.net_items.specs.Lookups.{is_via}
use Rattle.route_choice.specs.declared.choices.Far.{Far}
use Rattle.route_choice.specs.declared.choices.Far.TheVariants.{Allowed, Prohibited}
use Rattle.net_items.specs.declared.lists.Row.{Row}
use Rattle.route_choice.specs.declared.choices.Choice.{Choice}
use Rattle.link_sets.specs.Availability.{connected}
use Rattle.route_choice.specs.Routes.{direct, choose}
use Rattle.profile.specs.Status.{Source, source_row, source_rank, offer, offers, mate_row, over_mate, choice_by, status_by, status}
use Rattle.profile.specs.Valid.{IsValidSource}
use Rattle.link_sets.proofs.ListLemmas.{map_same}
use Rattle.profile.proofs.UnfoldingLemmas.{row_valid, mate_row_has, status_is, status_alone}
use Rattle.profile.proofs.SettledLemmas.{planned_there}

-- two sources that give the same of what a table's statuses read
pub record GivesSame (src other : Source) : Type 0 where
  pub dest : src.dest ≡ other.dest
  pub rows : src.rows ≡ other.rows
  pub tfr : src.tfr ≡ other.tfr
  pub mates : (row : Row) → source_row src row.point ≡ Some row → IsTrue row.mate → src.mate_of row.point ≡ other.mate_of row.point
  pub over_vias : (y z : ℕ) (row : Row) → source_row src y ≡ Some row → is_via row z ≡ true → connected src.sets row.point z ≡ connected other.sets row.point z
  pub over_mates : (row mate : Row) → source_row src row.point ≡ Some row → IsTrue row.mate → src.mate_of row.point ≡ Some mate.point → connected src.sets row.point mate.point ≡ connected other.sets row.point mate.point

-- a look-up for what a filter keeps finds the same
pub find-filter : {X : Type 0} (p keep : X → Bool) (xs : List X) → ((x : X) → p x ≡ true → keep x ≡ true) → find p (filter keep xs) ≡ find p xs
find-filter p keep [] kept = refl
find-filter p keep (x ∷ xs) kept = go (p x) refl (keep x) refl (find-filter p keep xs kept)
  where
    go : (a : Bool) → p x ≡ a → (b : Bool) → keep x ≡ b → find p (filter keep xs) ≡ find p xs → find p (cond (keep x) (x ∷ filter keep xs) (filter keep xs)) ≡ cond (p x) (Some x) (find p xs)
    go true pa true kb rec = rw (kb, pa) refl
    go true pa false kb rec = let no : keep x ≡ true = kept x pa in cc
    go false pa true kb rec = rw (kb, pa) rec
    go false pa false kb rec = rw (kb, pa) rec

-- what a test on lists of lists passes has what holds of each that passes
pub each_in : (P : ℕ → Type 0) (class : List ℕ) → ((z : ℕ) → list_any (λ v. eqb v z) class ≡ true → P z) → All P class
each_in P [] h = All-nil P
each_in P (v ∷ vs) h = All-cons P v vs (h v (or_left (eqb v v) (list_any (λ w. eqb w v) vs) (eq-eqb v v refl)))
    (each_in P vs (λ z e. h z (or_right (eqb v z) (list_any (λ w. eqb w z) vs) e)))

pub each_via : (P : ℕ → Type 0) (classes : List (List ℕ)) → ((z : ℕ) → list_any (λ vias. list_any (λ v. eqb v z) vias) classes ≡ true → P z) → All (All P) classes
each_via P [] h = All-nil (All P)
each_via P (c ∷ cs) h = All-cons (All P) c cs
    (each_in P c (λ z e. h z (or_left (list_any (λ v. eqb v z) c) (list_any (λ vias. list_any (λ v. eqb v z) vias) cs) e)))
    (each_via P cs (λ z e. h z (or_right (list_any (λ v. eqb v z) c) (list_any (λ vias. list_any (λ v. eqb v z) vias) cs) e)))

module _ (src other : Source) (valid : IsValidSource src) (same : GivesSame src other) where
  pub row_of_same : (y : ℕ) → source_row other y ≡ source_row src y
  row_of_same y = ap (λ (rows : List Row). find (λ row. eqb row.point y) rows) (sym same.rows)

  pub offers_given : (f : ℕ → Far) (row : Row) → source_row src row.point ≡ Some row → offers other f row ≡ offers src f row
  offers_given f row planned =
      map_same (map (offer other f row.point)) (map (offer src f row.point)) row.classes
      (All-weaker (All (λ z. offer other f row.point z ≡ offer src f row.point z)) (λ vias. map (offer other f row.point) vias ≡ map (offer src f row.point) vias)
      (λ vias each. map_same (offer other f row.point) (offer src f row.point) vias each) row.classes
      (each_via (λ z. offer other f row.point z ≡ offer src f row.point z) row.classes
      (λ z via. let j : connected other.sets row.point z ≡ connected src.sets row.point z = sym (same.over_vias row.point z row planned via) in
      ap (λ b. record { via = z; far = cond b (f z) Prohibited }) j)))

  pub mate_row_given : (row : Row) → source_row src row.point ≡ Some row → mate_row other row ≡ mate_row src row
  mate_row_given row planned = go row.mate refl
    where
      rows : (o : Option ℕ) → option_and_then (source_row other) o ≡ option_and_then (source_row src) o
      rows None = refl
      rows (Some m) = row_of_same m

      go : (b : Bool) → row.mate ≡ b → cond row.mate (option_and_then (source_row other) (other.mate_of row.point)) None ≡ cond row.mate (option_and_then (source_row src) (src.mate_of row.point)) None
      go false e = rw e refl
      go true e = rw e (ap (option_and_then (source_row other)) (sym (same.mates row planned e)) ∙ rows (src.mate_of row.point))

  pub choice_given : (f : ℕ → Far) (row : Row) → source_row src row.point ≡ Some row → choice_by other f row ≡ choice_by src f row
  choice_given f row planned =
      let vias = offers_given f row planned in
      let option : other.tfr ≡ src.tfr = sym same.tfr in
      rw (vias, option) (ap (choose src.tfr (offers src f row)) (mates (mate_row src row) refl))
    where
      mates : (o : Option Row) → mate_row src row ≡ o
          → option_and_then (λ mate. over_mate other row mate (direct src.tfr (offers other f mate))) (mate_row other row)
          ≡ option_and_then (λ mate. over_mate src row mate (direct src.tfr (offers src f mate))) (mate_row src row)
      mates None e = rw (mate_row_given row planned, e) refl
      mates (Some mate) e =
          let ok = (row_valid src valid row.point row planned).1 in
          let h = mate_row_has src valid row mate ok e in
          let is : mate_row src row ≡ Some h.0.mate = e ∙ ap Some (sym h.1) in
          let there = offers_given f h.0.mate h.0.planned in
          let joined : connected other.sets row.point h.0.mate.point ≡ connected src.sets row.point h.0.mate.point = sym (same.over_mates row h.0.mate planned h.2 h.0.paired) in
          rw (mate_row_given row planned, is, there, joined) refl

  pub status_by_given : (f : ℕ → Far) (y : ℕ) → status_by other f y ≡ status_by src f y
  status_by_given f y = go (source_row src y) refl
    where
      go : (o : Option Row) → source_row src y ≡ o → status_by other f y ≡ status_by src f y
      go None e = rw (row_of_same y, e, same.dest) refl
      go (Some row) e =
          let choices : choice_by other f row ≡ choice_by src f row = choice_given f row (planned_there src valid y row e) in
          rw (row_of_same y, e, same.dest) (ap (λ (c : Choice). cond (eqb y other.dest) Allowed c.status) choices)

  -- an excerpt gives the statuses of its network
  pub status_given : IsValidSource other → (y : ℕ) → status other y ≡ status src y
  status_given ok y = status_alone src valid (status other) (suc (source_rank src y))
      (λ z low. status_is other ok z ∙ status_by_given (status other) z) y (omega arith)
