-- What a row uses, from what it is offered over each via and over its mate (own, after Q.704 clauses 13.2 to 13.4).
use Rattle.std.specs.Prelude.{ℕ, ◌==◌, ◌+◌, ◌||◌, not, nat_lt, Bool, List, [], ◌∷◌, Option, Some, None, if◌then◌else◌, slice_get}
use Rattle.std.specs.List.{list_any}
use Rattle.std.specs.Option.{option_and_then}
use Rattle.route_choice.specs.declared.choices.Far.{Far}
use Rattle.route_choice.specs.declared.choices.Far.TheVariants.{Allowed, Restricted, Prohibited}
use Rattle.route_choice.specs.declared.choices.Choice.{Choice}

-- allowed (Q.704 clause 13.3) is better than restricted (13.4), restricted better than prohibited (13.2)
abbrev pub goodness : Far → ℕ
goodness Allowed = 2
goodness Restricted = 1
goodness Prohibited = 0

-- the first is better than the second
abbrev pub is_better : Far → Far → Bool
is_better x y = nat_lt (goodness y) (goodness x)

-- the two are the same
abbrev pub same_far : Far → Far → Bool
same_far x y = goodness x == goodness y

-- the better of the two
abbrev pub better_of : Far → Far → Far
better_of x y = if is_better y x then y else x

-- a via, and the far status that it offers: prohibited if it isn't usable
pub record Offer : Type 0 where
  pub via : ℕ
  pub far : Far

-- what the vias of a class offer, from their far statuses in place
abbrev pub offered_in : List ℕ → List Far → List Offer
offered_in [] fars = []
offered_in (via ∷ vias) [] = []
offered_in (via ∷ vias) (far ∷ fars) = record { via = via; far = far } ∷ offered_in vias fars

-- what the classes of a row are offered, from the far statuses by class and place
abbrev pub offered : List (List ℕ) → List (List Far) → List (List Offer)
offered [] fars = []
offered (vias ∷ classes) [] = []
offered (vias ∷ classes) (fars ∷ rest) = offered_in vias fars ∷ offered classes rest

-- the best far status that a class is offered
abbrev pub best_in : List Offer → Far
best_in [] = Prohibited
best_in (o ∷ os) = better_of o.far (best_in os)

-- the best far status over usable vias, prohibited if there is none
abbrev pub best : List (List Offer) → Far
best [] = Prohibited
best (class ∷ classes) = better_of (best_in class) (best classes)

-- a via of the class offers this status
abbrev pub has_via : Far → List Offer → Bool
has_via b class = list_any (λ o. same_far o.far b) class

-- the via at this place of a class, if it offers this status
abbrev pub member_at : Far → List Offer → ℕ → Option ℕ
member_at b class place = option_and_then (λ o. if same_far o.far b then Some o.via else None) (slice_get class place)

-- the status that goes with a best far status and a class number: restricted over another class than the first (Q.704 clause 13.4), unless without the option
abbrev pub direct_status : Bool → Far → ℕ → Far
direct_status tfr Allowed class = if not tfr || class == 1 then Allowed else Restricted
direct_status tfr Restricted class = if tfr then Restricted else Allowed
direct_status tfr Prohibited class = Prohibited

-- no route (Q.704 clause 13.2)
abbrev pub no_choice : Choice
no_choice = record { class = 0; members = None ∷ None ∷ []; status = Prohibited }

-- the lowest of these classes, numbered from k, with a via that offers this status
abbrev pub lowest : Bool → Far → ℕ → List (List Offer) → Choice
lowest tfr b k [] = no_choice
lowest tfr b k (class ∷ classes) =
    if has_via b class
    then record { class = k; members = member_at b class 0 ∷ member_at b class 1 ∷ []; status = direct_status tfr b k }
    else lowest tfr b (k + 1) classes

-- the direct class, its members, and the direct status
abbrev pub direct_choice : Bool → List (List Offer) → Choice
direct_choice tfr classes =
    if same_far (best classes) Prohibited then no_choice else lowest tfr (best classes) 1 classes

-- the direct status
abbrev pub direct : Bool → List (List Offer) → Far
direct tfr classes = (direct_choice tfr classes).status

-- the mate as the only member, with the status that follows
abbrev pub mate_choice : Bool → ℕ → Choice
mate_choice tfr mate =
    record { class = 5; members = Some mate ∷ None ∷ []; status = if tfr then Restricted else Allowed }

-- the mate if it offers better, and else the direct class (own)
abbrev pub choose : Bool → List (List Offer) → Option Offer → Choice
choose tfr classes None = direct_choice tfr classes
choose tfr classes (Some mate) =
    if is_better mate.far (best classes) then mate_choice tfr mate.via else direct_choice tfr classes

-- a mate and its direct status, as an offer
abbrev pub mate_of_pair : Option (ℕ × Far) → Option Offer
mate_of_pair None = None
mate_of_pair (Some pair) = Some (record { via = pair.0; far = pair.1 })
