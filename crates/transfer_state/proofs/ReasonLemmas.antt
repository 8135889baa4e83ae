-- The statuses that a routing tells, by what is kept of its choices.
use Rattle.std.proofs.Common.{◌≡◌, ◌∙◌, ℕ, List, ap, option_map, slice_get}
use Rattle.std.proofs.lemmas.Option.{slice_get-map}
use Rattle.net_items.specs.declared.lists.Row.{Row}
use Rattle.profile.specs.Status.{offers, choice, status}
use Rattle.excerpts.specs.Excerpt.{ExcerptValue, source_of, IsRight}
use Rattle.transfer_state.specs.Kept.{KeptValue, kept}
use Rattle.transfer_state.specs.Routing.{IsChosen}
use Rattle.transfer_state.specs.Told.{far_from, AreChoices}
use Rattle.transfer_state.proofs.FollowLemmas.{offers_agree, scratch_tells}

-- what is kept in the rows' places is that of their choices
each_chosen : (x : ExcerptValue) (choices : List KeptValue) → IsChosen x choices → AreChoices (source_of x) choices
each_chosen x choices is j row here =
    ap (λ (cs : List KeptValue). slice_get cs j) is ∙ slice_get-map (λ (r : Row). kept (choice (source_of x) r)) x.plan.rows j
    ∙ ap (option_map (λ (r : Row). kept (choice (source_of x) r))) here

-- it tells the statuses from scratch
pub status_told : (x : ExcerptValue) → IsRight x → (choices : List KeptValue) → IsChosen x choices → (z : ℕ) → far_from (source_of x) choices z ≡ status (source_of x) z
status_told x right choices is z = scratch_tells (source_of x) right.valid right.rows_rise choices (each_chosen x choices is) z

-- and so what a row is offered
pub offers_told : (x : ExcerptValue) → IsRight x → (choices : List KeptValue) → IsChosen x choices → (row : Row) → offers (source_of x) (far_from (source_of x) choices) row ≡ offers (source_of x) (status (source_of x)) row
offers_told x right choices is row =
    offers_agree (source_of x) right.valid right.rows_rise (far_from (source_of x) choices) (status (source_of x)) row (λ z via joined. status_told x right choices is z)
