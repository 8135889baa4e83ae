-- A first class of which a via is allowed is the choice, whatever stands behind it and whatever the mate offers.
use Rattle.std.proofs.Common.{◌≡◌, ℕ, List, [], ◌∷◌, Option, Some, None, ◌≤◌, length, get_or, drop, map, cond, Bool, true, false, ◌||◌, refl, sym, ap, ◌∙◌, arith}
use Rattle.std.specs.Prelude.{is_some}
use Rattle.std.specs.Option.{IfSome}
use Rattle.std.proofs.lemmas.List.{drop_more}
use Rattle.net_items.specs.declared.lists.Row.{Row}
use Rattle.route_choice.specs.declared.choices.Choice.{Choice}
use Rattle.route_choice.specs.declared.choices.Far.{Far}
use Rattle.route_choice.specs.declared.choices.Far.TheVariants.{Allowed, Restricted, Prohibited}
use Rattle.route_choice.specs.Routes.{Offer, is_better, better_of, best, best_in, same_far, has_via, member_at, direct_choice, choose, offered_in}
use Rattle.std.proofs.lemmas.List.Elements.{All-weaker}
use Rattle.net_items.specs.Lookups.{adjacent}
use Rattle.link_sets.proofs.ListLemmas.{map_same}
use Rattle.profile.specs.Status.{Source, offer, offers, mate_offer}
use Rattle.profile.specs.Valid.{IsSmall}
use Rattle.excerpts.specs.Intact.{IsIntact}
use Rattle.transfer_state.specs.Kept.{KeptValue, kept, kept_first, opened, IsChosenFirst}
use Rattle.transfer_state.specs.Told.{offer_connected, AreJoined}
use Rattle.transfer_state.proofs.KeptLemmas.{opened_back}

-- nothing is better than allowed
allowed_first : (x : Far) → better_of Allowed x ≡ Allowed
allowed_first Allowed = refl
allowed_first Restricted = refl
allowed_first Prohibited = refl

allowed_last : (x : Far) → better_of x Allowed ≡ Allowed
allowed_last Allowed = refl
allowed_last Restricted = refl
allowed_last Prohibited = refl

none_better : (x : Far) → is_better x Allowed ≡ false
none_better Allowed = refl
none_better Restricted = refl
none_better Prohibited = refl

is_allowed : (x : Far) → same_far x Allowed ≡ true → x ≡ Allowed
is_allowed Allowed e = refl
is_allowed Restricted e = cc
is_allowed Prohibited e = cc

-- a class of which a via is allowed offers allowed
best_allowed : (class : List Offer) → has_via Allowed class ≡ true → best_in class ≡ Allowed
best_allowed [] e = cc
best_allowed (o ∷ os) e = go (same_far o.far Allowed) refl (best_allowed os)
  where
    go : (t : Bool) → same_far o.far Allowed ≡ t → (has_via Allowed os ≡ true → best_in os ≡ Allowed) → best_in (o ∷ os) ≡ Allowed
    go true t rest = ap (λ (x : Far). better_of x (best_in os)) (is_allowed o.far t) ∙ allowed_first (best_in os)
    go false t rest = ap (better_of o.far) (rest (rw t at e)) ∙ allowed_last o.far

-- the choice of a first class with an allowed via
abbrev chosen : List Offer → Choice
chosen class = record { class = 1; members = member_at Allowed class 0 ∷ member_at Allowed class 1 ∷ []; status = Allowed }

first_chosen : (tfr : Bool) (class : List Offer) (later : List (List Offer)) (mate : Option Offer) → has_via Allowed class ≡ true → choose tfr (class ∷ later) mate ≡ chosen class
first_chosen tfr class later mate has = go mate
  where
    best_is : best (class ∷ later) ≡ Allowed
    best_is = ap (λ (x : Far). better_of x (best later)) (best_allowed class has) ∙ allowed_first (best later)

    status_is : (t : Bool) → direct_choice t (class ∷ later) ≡ chosen class
    status_is true = rw (best_is, has) refl
    status_is false = rw (best_is, has) refl

    go : (m : Option Offer) → choose tfr (class ∷ later) m ≡ chosen class
    go None = status_is tfr
    go (Some m) = let worse : is_better m.far (best (class ∷ later)) ≡ false = ap (is_better m.far) best_is ∙ none_better m.far in rw worse (status_is tfr)

-- classes of one via and of two
pub one_allowed : (o : Offer) → same_far o.far Allowed ≡ true → has_via Allowed (o ∷ []) ≡ true
one_allowed o is = rw is refl

pub two_allowed : (o p : Offer) → (same_far o.far Allowed || same_far p.far Allowed) ≡ true → has_via Allowed (o ∷ p ∷ []) ≡ true
two_allowed o p some = go (same_far o.far Allowed) (same_far p.far Allowed) some
  where
    go : (s t : Bool) → (s || t) ≡ true → (s || (t || false)) ≡ true
    go true t e = refl
    go false true e = refl
    go false false e = cc

used_allowed : (t : Bool) (z : ℕ) → is_some (cond t (Some z) None) ≡ t
used_allowed true z = refl
used_allowed false z = refl

-- so what is kept tells which of its vias are allowed
pub kept_one : (tfr : Bool) (o : Offer) (later : List (List Offer)) (mate : Option Offer) → same_far o.far Allowed ≡ true → kept (choose tfr ((o ∷ []) ∷ later) mate) ≡ kept_first true false
kept_one tfr o later mate is = rw (first_chosen tfr (o ∷ []) later mate (one_allowed o is), is) refl

pub kept_two : (tfr : Bool) (o p : Offer) (later : List (List Offer)) (mate : Option Offer) → (same_far o.far Allowed || same_far p.far Allowed) ≡ true
    → kept (choose tfr ((o ∷ p ∷ []) ∷ later) mate) ≡ kept_first (same_far o.far Allowed) (same_far p.far Allowed)
kept_two tfr o p later mate some = rw (first_chosen tfr (o ∷ p ∷ []) later mate (two_allowed o p some), used_allowed (same_far o.far Allowed) o.via, used_allowed (same_far p.far Allowed) p.via) refl

-- and it opens to the choice of the row
pub chosen_first : (src : Source) (far : ℕ → Far) (row : Row) → IsSmall row → (k : KeptValue) (class : List Offer) (later : List (List Offer)) → offers src far row ≡ class ∷ later → has_via Allowed class ≡ true
    → ((mate : Option Offer) → k ≡ kept (choose src.tfr (class ∷ later) mate)) → IsChosenFirst src far row k
chosen_first src far row small k class later is has keeps = record {
  keeps = λ mate. keeps mate ∙ ap (λ (os : List (List Offer)). kept (choose src.tfr os mate)) (sym is);
  opens = λ mate.
      let own : Option Offer = mate_offer src far row in
      let same : choose src.tfr (offers src far row) own ≡ choose src.tfr (offers src far row) mate
      = ap (λ (os : List (List Offer)). choose src.tfr os own) is ∙ first_chosen src.tfr class later own has ∙ sym (first_chosen src.tfr class later mate has) ∙ ap (λ (os : List (List Offer)). choose src.tfr os mate) (sym is) in
      ap (opened src row) (keeps own ∙ ap (λ (os : List (List Offer)). kept (choose src.tfr os own)) (sym is)) ∙ opened_back src row far small ∙ same;
}

-- what is offered over vias that are joined to an intact point
pub offers_intact : (src : Source) (far : ℕ → Far) (y : ℕ) (vias : List ℕ) → IsIntact src.sets y → AreJoined src.sets y vias → map (offer_connected far) vias ≡ map (offer src far y) vias
offers_intact src far y vias intact joined =
    map_same (offer_connected far) (offer src far y) vias (All-weaker (λ z. adjacent src.sets y z ≡ true) (λ z. offer_connected far z ≡ offer src far y z) (λ z there. let up = intact z there in rw up refl) vias joined)

-- the choice of a row by what its first class offers
pub first_is : (src : Source) (far : ℕ → Far) (row : Row) → IsSmall row → (vias : List ℕ) (fars : List Far) → 1 ≤ length row.classes → vias ≡ get_or row.classes 0 vias
    → offered_in vias fars ≡ map (offer src far row.point) vias → (o : Option KeptValue) → (is_some o ≡ true → has_via Allowed (offered_in vias fars) ≡ true)
    → IfSome o (λ (k : KeptValue). (tfr : Bool) (later : List (List Offer)) (mate : Option Offer) → k ≡ kept (choose tfr (offered_in vias fars ∷ later) mate)) → IfSome o (IsChosenFirst src far row)
first_is src far row small vias fars some is offered None has keeps = tt
first_is src far row small vias fars some is offered (Some k) has keeps =
    let class : List Offer = offered_in vias fars in
    let later : List (List Offer) = map (map (offer src far row.point)) (drop 1 row.classes) in
    let split : row.classes ≡ vias ∷ drop 1 row.classes = drop_more row.classes 0 vias (omega arith) ∙ ap (λ (vs : List ℕ). vs ∷ drop 1 row.classes) (sym is) in
    let all : offers src far row ≡ class ∷ later = ap (map (map (offer src far row.point))) split ∙ ap (λ (os : List Offer). os ∷ later) (sym offered) in
    chosen_first src far row small k class later all (has refl) (keeps src.tfr later)
