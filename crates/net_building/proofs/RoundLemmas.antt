-- The changes of the links of the last set, change after change and link after link.
use Rattle.std.proofs.Common.{map, ◌≡◌, ℕ, ◌<◌, Bool, true, false, not, Some, None, is_some, List, [], ◌∷◌, ◌++◌, refl, ap, sym, ◌∙◌, append_assoc}
use Rattle.std.specs.List.{AllByRecursion, flat_map}
use Rattle.std.specs.Option.{option_map_or}
use Rattle.link_state.specs.declared.marks.LinkChange.{LinkChange}
use Rattle.net_items.specs.declared.links.Link.{Link}
use Rattle.net_items.specs.declared.items.Point.{Point}
use Rattle.net_items.specs.declared.items.LinkSet.{LinkSet}
use Rattle.net_items.specs.Keyed.{IsRising}
use Rattle.net_items.specs.Lookups.{set_at}
use Rattle.net_sets.specs.Sets.{has_link, set_passes, with_change}
use Rattle.net_data.specs.Network.{Network}
use Rattle.net_data.specs.declared.events.Event.{Event}
use Rattle.net_data.specs.declared.events.Event.TheVariants as on
use Rattle.net_data.specs.Edits.{refusal_of, apply_all}
use Rattle.net_building.specs.Building.{is_needed, changes_of}
use Rattle.net_building.proofs.EndLemmas.{below_next, found_after, edit_after, IsRising-swap, IsRising-mapped}
use Rattle.net_building.proofs.StepLemmas.{step, passed, made}
use Rattle.net_building.proofs.LinkLemmas.{change_if, stepped, stepped-keeps}

-- a link so far, after each of those changes that its marks at the end need
abbrev pub after_all : List LinkChange → (Link → Link) → Link → Link
after_all [] so_far = so_far
after_all (change ∷ changes) so_far = after_all changes (stepped change so_far)

-- a network whose last set is that one with those links, and without plans
abbrev pub with_last : ℕ → Bool → List Point → List LinkSet → LinkSet → List Link → Network
with_last ni tfr points done s links = made ni tfr points (done ++ record s { links = links } ∷ []) []

module _ (ni : ℕ) (tfr : Bool) (points : List Point) (done : List LinkSet) (s : LinkSet) (below : AllByRecursion (λ (t : LinkSet). t.id < s.id) done) where
  abbrev ending : List Link → Network
  ending links = with_last ni tfr points done s links

  -- a change of a link that is there is accepted
  accepted : (change : LinkChange) (front : List Link) (l : Link) (rest : List Link) → AllByRecursion (λ (x : Link). x.slc < l.slc) front → refusal_of (ending (front ++ l ∷ rest)) (on.Link s.id l.slc change) ≡ None
  accepted change front l rest low =
      let last : LinkSet = record s { links = front ++ l ∷ rest } in
      let sets : List LinkSet = done ++ last ∷ [] in
      let at : set_at sets s.id ≡ Some last = found_after (λ (s : LinkSet). s.id) done last [] below in
      let there : has_link l.slc last ≡ true = ap is_some (found_after (λ (l : Link). l.slc) front l rest low) in
      passed (not (is_some (set_at sets s.id))) _ _ (ap (λ o. not (is_some o)) at)
      (passed (not (set_passes (has_link l.slc) sets s.id)) _ _ (ap (λ o. not (option_map_or (has_link l.slc) o false)) at ∙ ap not there) refl)

  -- a change of one link
  one_made : (change : LinkChange) (slc : ℕ) (front : List Link) (l : Link) (rest : List Link) (es : List Event) → l.slc ≡ slc → AllByRecursion (λ (x : Link). x.slc < l.slc) front
      → apply_all (ending (front ++ l ∷ rest)) (on.Link s.id slc change ∷ es) ≡ apply_all (ending (front ++ change_if true change l ∷ rest)) es
  one_made change slc front l rest es same low =
      let last : LinkSet = record s { links = front ++ l ∷ rest } in
      ap (λ n. apply_all (ending (front ++ l ∷ rest)) (on.Link s.id n change ∷ es)) (sym same)
      ∙ step (ending (front ++ l ∷ rest)) (ending (front ++ change_if true change l ∷ rest)) (on.Link s.id l.slc change) es
      (accepted change front l rest low)
      (ap (λ sets. made ni tfr points sets []) (edit_after (λ (s : LinkSet). s.id) (with_change l.slc change) done last [] below)
      ∙ ap ending (edit_after (λ (l : Link). l.slc) (change_if true change) front l rest low))

  -- one change of the links after a front, of each that needs it, and the events after that
  abbrev IsRound : LinkChange → (Link → Link) → List Event → List Link → List Link → Type 0
  IsRound change so_far es rest front = apply_all (ending (front ++ map so_far rest)) (changes_of s.id rest change ++ es) ≡ apply_all (ending (front ++ map (stepped change so_far) rest)) es

  round_made : (change : LinkChange) (so_far : Link → Link) → ((l : Link) → (so_far l).slc ≡ l.slc) → (es : List Event) (rest front : List Link) → IsRising (λ (l : Link). l.slc) (front ++ map so_far rest) → IsRound change so_far es rest front
  round_made change so_far keeps es [] front up = refl
  round_made change so_far keeps es (l ∷ ls) front up = go (is_needed change l.marks) refl (λ x. round_made change so_far keeps es ls (front ++ x ∷ []))
    where
      again : (x : Link) (g : Link → Link) → (front ++ x ∷ []) ++ map g ls ≡ front ++ x ∷ map g ls
      again x g = append_assoc front (x ∷ []) (map g ls)

      next : (x : Link) → (so_far l).slc ≡ x.slc
          → (IsRising (λ (l : Link). l.slc) ((front ++ x ∷ []) ++ map so_far ls) → IsRound change so_far es ls (front ++ x ∷ []))
          → apply_all (ending (front ++ x ∷ map so_far ls)) (changes_of s.id ls change ++ es) ≡ apply_all (ending (front ++ x ∷ map (stepped change so_far) ls)) es
      next x same rec =
          ap (λ links. apply_all (ending links) (changes_of s.id ls change ++ es)) (sym (again x so_far))
          ∙ rec (rw (again x so_far) (IsRising-swap (λ (l : Link). l.slc) front (so_far l) x (map so_far ls) same up))
          ∙ ap (λ links. apply_all (ending links) es) (again x (stepped change so_far))

      go : (b : Bool) → is_needed change l.marks ≡ b
          → ((x : Link) → IsRising (λ (l : Link). l.slc) ((front ++ x ∷ []) ++ map so_far ls) → IsRound change so_far es ls (front ++ x ∷ []))
          → IsRound change so_far es (l ∷ ls) front
      go true b rec =
          rw b (one_made change l.slc front (so_far l) (map so_far ls) (changes_of s.id ls change ++ es) (keeps l) (below_next (λ (l : Link). l.slc) front (so_far l) (map so_far ls) up)
          ∙ next (change_if true change (so_far l)) refl (rec (change_if true change (so_far l))))
      go false b rec = rw b (next (so_far l) refl (rec (so_far l)))

  -- each change in turn
  pub rounds_made : (links : List Link) → IsRising (λ (l : Link). l.slc) links → (es : List Event) (changes : List LinkChange) (so_far : Link → Link) → ((l : Link) → (so_far l).slc ≡ l.slc)
      → apply_all (with_last ni tfr points done s (map so_far links)) (flat_map (changes_of s.id links) changes ++ es) ≡ apply_all (with_last ni tfr points done s (map (after_all changes so_far) links)) es
  rounds_made links up es [] so_far keeps = refl
  rounds_made links up es (change ∷ changes) so_far keeps =
      ap (λ xs. apply_all (ending (map so_far links)) xs) (append_assoc (changes_of s.id links change) (flat_map (changes_of s.id links) changes) es)
      ∙ round_made change so_far keeps (flat_map (changes_of s.id links) changes ++ es) links [] (IsRising-mapped so_far (λ (l : Link). l.slc) (λ (l : Link). l.slc) keeps links up)
      ∙ rounds_made links up es changes (stepped change so_far) (stepped-keeps change so_far keeps)
