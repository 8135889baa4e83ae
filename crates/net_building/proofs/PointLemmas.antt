-- The points of a network are added one after the other.
use Rattle.std.proofs.Common.{map, ◌≡◌, ℕ, ◌<◌, ◌≤◌, Bool, leb, None, is_some, List, [], ◌∷◌, ◌++◌, length, refl, ap, sym, ◌∙◌, arith, append_assoc, append-nil, length-append}
use Rattle.std.specs.List.{AllByRecursion}
use Rattle.std.proofs.lemmas.Bool.Decides.{nat_tests}
use Rattle.net_items.specs.declared.items.Point.{Point}
use Rattle.net_items.specs.Keyed.{IsRising}
use Rattle.net_items.specs.Lookups.{has_point}
use Rattle.net_data.specs.declared.events.Event.{Event}
use Rattle.net_data.specs.Edits.{refusal_of, with_mate, apply_all}
use Rattle.net_building.specs.Building.{point_event}
use Rattle.net_building.proofs.EndLemmas.{below_next, put_end, none_below}
use Rattle.net_building.proofs.StepLemmas.{step, passed, made}

-- a point without its mate
abbrev pub bare : Point → Point
bare p = with_mate None p

module _ (ni : ℕ) (tfr : Bool) (es : List Event) where
  -- a point after others of lower codes is accepted
  accepted : (done : List Point) (p : Point) → AllByRecursion (λ (q : Point). q.code < p.code) done → length done < 1024 → refusal_of (made ni tfr done [] []) (point_event p) ≡ None
  accepted done p below few =
      passed (has_point done p.code) _ _ (ap is_some (none_below (λ (p : Point). p.code) p.code done below)) (passed (leb 1024 (length done)) _ _ (grind (arith, nat_tests)) refl)

  -- points that rise after others are added to them as they stand, without mates
  pub points_made : (rest done : List Point) → IsRising (λ (p : Point). p.code) (done ++ map bare rest) → length (done ++ map bare rest) ≤ 1024
      → apply_all (made ni tfr done [] []) (map point_event rest ++ es) ≡ apply_all (made ni tfr (done ++ map bare rest) [] []) es
  points_made [] done up few = ap (λ ps. apply_all (made ni tfr ps [] []) es) (sym (append-nil done))
  points_made (p ∷ ps) done up few =
      let below : AllByRecursion (λ (q : Point). q.code < p.code) done = below_next (λ (p : Point). p.code) done (bare p) (map bare ps) up in
      let again : (done ++ bare p ∷ []) ++ map bare ps ≡ done ++ bare p ∷ map bare ps = append_assoc done (bare p ∷ []) (map bare ps) in
      let room : length done < 1024 = omega (arith, length-append done (bare p ∷ map bare ps)) in
      step (made ni tfr done [] []) (made ni tfr (done ++ bare p ∷ []) [] []) (point_event p) (map point_event ps ++ es) (accepted done p below room)
      (ap (λ ps. made ni tfr ps [] []) (put_end (λ (p : Point). p.code) (bare p) done below))
      ∙ points_made ps (done ++ bare p ∷ []) (rw again up) (rw again few)
      ∙ ap (λ ps. apply_all (made ni tfr ps [] []) es) again
