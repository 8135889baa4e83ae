-- The sets of a network are added one after the other, each with the marks of its links.
use Rattle.std.proofs.Common.{map, ◌≡◌, ℕ, ◌<◌, Bool, false, not, ◌&&◌, ◌||◌, eqb, ltb, None, is_some, List, [], ◌∷◌, ◌++◌, refl, ap, sym, ◌∙◌, arith, append_assoc, append-nil}
use Rattle.std.specs.List.{AllByRecursion, flat_map, list_all}
use Rattle.std.specs.Option.{option_map}
use Rattle.std.proofs.lemmas.Bool.{and_from, or_from, not_from_true, ne_eqb, false_from_ne_true, ltb-true}
use Rattle.link_state.specs.declared.marks.End.TheVariants.{First, Second}
use Rattle.link_state.specs.declared.marks.LinkChange.{LinkChange}
use Rattle.link_state.specs.declared.marks.LinkChange.TheVariants.{Restore, Block, Inhibit}
use Rattle.net_items.specs.declared.links.Link.{Link}
use Rattle.net_items.specs.declared.items.Point.{Point}
use Rattle.net_items.specs.declared.items.LinkSet.{LinkSet}
use Rattle.net_items.specs.Keyed.{IsRising, put}
use Rattle.net_items.specs.Lookups.{has_point, joins, set_at, set_between, adjacent}
use Rattle.net_sets.specs.Sets.{is_distinct, is_nil, IsOnePerPair}
use Rattle.net_data.specs.declared.events.Event.{Event}
use Rattle.net_data.specs.declared.events.Event.TheVariants as on
use Rattle.net_data.specs.Edits.{refusal_of, apply_all}
use Rattle.net_data.specs.Valid.{IsRightSet}
use Rattle.net_data.proofs.PreservationLemmas.{joins_back}
use Rattle.net_building.specs.Building.{changes_of, set_events}
use Rattle.net_building.proofs.EndLemmas.{below_next, put_end, none_below}
use Rattle.net_building.proofs.StepLemmas.{step, passed, skipped, made}
use Rattle.net_building.proofs.LinkLemmas.{fresh, all_marked, new_links-fresh, is_distinct-rising, codes_small, codes_some}
use Rattle.net_building.proofs.RoundLemmas.{with_last, rounds_made}

-- a set among others that join no pair doesn't join it
not_joins : (front : List LinkSet) (s : LinkSet) (rest : List LinkSet) (y z : ℕ) → adjacent (front ++ s ∷ rest) y z ≡ false → joins y z s ≡ false
not_joins [] s rest y z none = grind arith
not_joins (t ∷ ts) s rest y z none = not_joins ts s rest y z (grind arith)

-- no earlier set joins the ends of a set
apart : (front : List LinkSet) (s : LinkSet) (rest : List LinkSet) → IsOnePerPair (front ++ s ∷ rest) → set_between front s.a s.b ≡ None
apart [] s rest one = refl
apart (t ∷ ts) s rest one =
    let off : joins s.a s.b t ≡ false = joins_back s t ∙ not_joins ts s rest t.a t.b one.0 in
    rw off (apart ts s rest one.1)

-- the codes of the links of a set
abbrev pub codes_of : LinkSet → List ℕ
codes_of s = map (λ (l : Link). l.slc) s.links

abbrev pub all_changes : List LinkChange
all_changes = Restore ∷ Block First ∷ Block Second ∷ Inhibit First ∷ Inhibit Second ∷ []

module _ (ni : ℕ) (tfr : Bool) (points : List Point) (es : List Event) where
  -- a right set after others is accepted
  accepted : (done : List LinkSet) (s : LinkSet) (rest : List LinkSet) → AllByRecursion (λ (t : LinkSet). t.id < s.id) done → IsOnePerPair (done ++ s ∷ rest) → IsRightSet points s
      → refusal_of (made ni tfr points done []) (on.AddSet s.id s.a s.b (codes_of s)) ≡ None
  accepted done s rest below one right =
      let small = right.small in
      passed (not (has_point points s.a && has_point points s.b)) _ _ (not_from_true _ (and_from _ _ right.a_there right.b_there))
      (passed (is_some (set_at done s.id)) _ _ (ap is_some (none_below (λ (s : LinkSet). s.id) s.id done below))
      (skipped _ _ (ap (option_map _) (apart done s rest one))
      (passed (eqb s.a s.b) _ _ (ne_eqb s.a s.b right.ends_differ)
      (passed (is_nil (codes_of s) || not (list_all (λ c. ltb c 16) (codes_of s) && is_distinct (codes_of s))) _ _
      (or_from _ _ (codes_some s.links right.some_link) (not_from_true _ (and_from _ _ (codes_small s.links right.links_small) (is_distinct-rising s.links right.links_rise))))
      (passed (ltb 4095 s.id) _ _ (false_from_ne_true (ltb 4095 s.id) (λ e. let lt : 4095 < s.id = ltb-true 4095 s.id e in omega arith)) refl)))))

  -- a set and the marks of its links
  set_made : (done : List LinkSet) (s : LinkSet) (rest : List LinkSet) (more : List Event) → AllByRecursion (λ (t : LinkSet). t.id < s.id) done → IsOnePerPair (done ++ s ∷ rest) → IsRightSet points s
      → apply_all (made ni tfr points done []) (set_events s ++ more) ≡ apply_all (made ni tfr points (done ++ s ∷ []) []) more
  set_made done s rest more below one right =
      let changes : List Event = flat_map (changes_of s.id s.links) all_changes in
      let new : LinkSet = record s { links = map fresh s.links } in
      step (made ni tfr points done []) (with_last ni tfr points done s (map fresh s.links)) (on.AddSet s.id s.a s.b (codes_of s)) (changes ++ more)
      (accepted done s rest below one right)
      (ap (λ links. made ni tfr points (put (λ (s : LinkSet). s.id) (record s { links = links }) done) []) (new_links-fresh s.links right.links_rise)
      ∙ ap (λ sets. made ni tfr points sets []) (put_end (λ (s : LinkSet). s.id) new done below))
      ∙ rounds_made ni tfr points done s below s.links right.links_rise more all_changes fresh (λ l. refl)
      ∙ ap (λ links. apply_all (with_last ni tfr points done s links) more) (all_marked s.links)

  -- right sets that rise after others are added to them
  pub sets_made : (rest done : List LinkSet) → IsRising (λ (s : LinkSet). s.id) (done ++ rest) → IsOnePerPair (done ++ rest) → AllByRecursion (IsRightSet points) rest
      → apply_all (made ni tfr points done []) (flat_map set_events rest ++ es) ≡ apply_all (made ni tfr points (done ++ rest) []) es
  sets_made [] done up one right = ap (λ sets. apply_all (made ni tfr points sets []) es) (sym (append-nil done))
  sets_made (s ∷ ss) done up one right =
      let again : (done ++ s ∷ []) ++ ss ≡ done ++ s ∷ ss = append_assoc done (s ∷ []) ss in
      ap (λ xs. apply_all (made ni tfr points done []) xs) (append_assoc (set_events s) (flat_map set_events ss) es)
      ∙ set_made done s ss (flat_map set_events ss ++ es) (below_next (λ (s : LinkSet). s.id) done s ss up) one right.0
      ∙ sets_made ss (done ++ s ∷ []) (rw again up) (rw again one) right.1
      ∙ ap (λ sets. apply_all (made ni tfr points sets []) es) again
