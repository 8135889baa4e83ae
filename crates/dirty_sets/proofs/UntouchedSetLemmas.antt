-- What a table reads stays where a set changes that it doesn't read.
use Rattle.std.proofs.Common.{◌≡◌, ℕ, Bool, true, false, eqb, ltb, Option, Some, None, List, [], ◌∷◌, cond, refl, ap, sym, ◌∙◌, subst}
use Rattle.std.specs.Prelude.{filter, map}
use Rattle.std.specs.Option.{option_map, option_map_or}
use Rattle.std.proofs.lemmas.Bool.{cond_both, eqb-true, eqb-false, eq-eqb, ne_eqb}
use Rattle.net_items.specs.declared.items.Point.{Point}
use Rattle.net_items.specs.declared.items.LinkSet.{LinkSet}
use Rattle.net_items.specs.declared.items.Plan.{Plan}
use Rattle.net_items.specs.Keyed.{at_key, put, edit, without}
use Rattle.net_items.specs.Lookups.{set_at, plan_at}
use Rattle.net_items.proofs.KeyedLemmas.{at_key-put}
use Rattle.net_data.specs.Network.{Network}
use Rattle.excerpts.specs.Excerpt.{content_in, content_at, is_read_by, row_point}
use Rattle.dirty_sets.specs.Touch.{reads_set}

module _ {X : Type 0} (key : X → ℕ) (test : X → Bool) where
  -- an edit of one that doesn't pass
  filter-edit : (k : ℕ) (f : X → X) → ((x : X) → test (f x) ≡ test x) → (xs : List X) → option_map_or test (at_key key k xs) false ≡ false → filter test (edit key k f xs) ≡ filter test xs
  filter-edit k f same [] off = refl
  filter-edit k f same (x ∷ xs) off =
      cond_both (eqb (key x) k) (f x ∷ xs) (x ∷ edit key k f xs) (λ ys. filter test ys ≡ filter test (x ∷ xs))
      (λ here. let fails : test x ≡ false = rw here at off in let fails_after = same x ∙ fails in rw (fails, fails_after) refl)
      (λ other. ap (λ ys. cond (test x) (x ∷ ys) ys) (filter-edit k f same xs (rw other at off)))

  -- one goes that doesn't pass
  filter-without : (k : ℕ) (xs : List X) → option_map_or test (at_key key k xs) false ≡ false → filter test (without key k xs) ≡ filter test xs
  filter-without k [] off = refl
  filter-without k (x ∷ xs) off =
      cond_both (eqb (key x) k) xs (x ∷ without key k xs) (λ ys. filter test ys ≡ filter test (x ∷ xs))
      (λ here. let fails : test x ≡ false = rw here at off in rw fails refl)
      (λ other. ap (λ ys. cond (test x) (x ∷ ys) ys) (filter-without k xs (rw other at off)))

  -- one comes that doesn't pass
  filter-put : (x : X) → test x ≡ false → (xs : List X) → option_map_or test (at_key key (key x) xs) false ≡ false → filter test (put key x xs) ≡ filter test xs
  filter-put x fails [] off = rw fails refl
  filter-put x fails (y ∷ ys) off =
      cond_both (ltb (key x) (key y)) (x ∷ y ∷ ys) (cond (eqb (key x) (key y)) (x ∷ ys) (y ∷ put key x ys)) (λ zs. filter test zs ≡ filter test (y ∷ ys))
      (λ b. rw fails refl)
      (λ b. cond_both (eqb (key x) (key y)) (x ∷ ys) (y ∷ put key x ys) (λ zs. filter test zs ≡ filter test (y ∷ ys))
      (λ here. let back : eqb (key y) (key x) ≡ true = eq-eqb _ _ (sym (eqb-true _ _ here)) in let y_fails : test y ≡ false = rw back at off in rw (fails, y_fails) refl)
      (λ other. let back : eqb (key y) (key x) ≡ false = ne_eqb _ _ (λ e. eqb-false _ _ other (sym e)) in ap (λ zs. cond (test y) (y ∷ zs) zs) (filter-put x fails ys (rw back at off))))

-- other sets, of which the table of a plan reads the same
pub content-sets : (net : Network) (sets' : List LinkSet) (x : ℕ)
    → ((plan : Plan) → plan_at net.plans x ≡ Some plan → filter (is_read_by net.points plan) sets' ≡ filter (is_read_by net.points plan) net.sets)
    → content_at (record net { sets = sets' }) x ≡ content_at net x
content-sets net sets' x same = go (plan_at net.plans x) refl
  where
    go : (o : Option Plan) → plan_at net.plans x ≡ o → option_map (content_in (record net { sets = sets' })) o ≡ option_map (content_in net) o
    go None e = refl
    go (Some plan) e = ap (λ (sets : List LinkSet). Some (record { plan = plan; points = map (row_point net.points) plan.rows; sets = sets; tfr = net.tfr })) (same plan e)

-- what isn't read of a set is not read by the destination's plan
of_plan : (net : Network) (x id : ℕ) (plan : Plan) → plan_at net.plans x ≡ Some plan → reads_set net x id ≡ false → option_map_or (is_read_by net.points plan) (set_at net.sets id) false ≡ false
of_plan net x id plan e off = subst (λ o. option_map_or (λ p. option_map_or (is_read_by net.points p) (set_at net.sets id) false) o false ≡ false) e off

module _ (net : Network) (x id : ℕ) (off : reads_set net x id ≡ false) where
  -- a set that isn't read changes, but not its ends
  pub content-edit_set : (f : LinkSet → LinkSet) → ((points : List Point) (plan : Plan) (s : LinkSet) → is_read_by points plan (f s) ≡ is_read_by points plan s)
      → content_at (record net { sets = edit (λ (s : LinkSet). s.id) id f net.sets }) x ≡ content_at net x
  content-edit_set f same = content-sets net (edit (λ (s : LinkSet). s.id) id f net.sets) x
      (λ plan e. filter-edit (λ (s : LinkSet). s.id) (is_read_by net.points plan) id f (same net.points plan) net.sets (of_plan net x id plan e off))

  -- a set that isn't read goes
  pub content-without_set : content_at (record net { sets = without (λ (s : LinkSet). s.id) id net.sets }) x ≡ content_at net x
  content-without_set = content-sets net (without (λ (s : LinkSet). s.id) id net.sets) x
      (λ plan e. filter-without (λ (s : LinkSet). s.id) (is_read_by net.points plan) id net.sets (of_plan net x id plan e off))

-- a set comes that isn't read
pub content-put_set : (net : Network) (x : ℕ) (new : LinkSet) → reads_set net x new.id ≡ false → reads_set (record net { sets = put (λ (s : LinkSet). s.id) new net.sets }) x new.id ≡ false
    → content_at (record net { sets = put (λ (s : LinkSet). s.id) new net.sets }) x ≡ content_at net x
content-put_set net x new before after =
    let net' : Network = record net { sets = put (λ (s : LinkSet). s.id) new net.sets } in
    content-sets net net'.sets x
    (λ plan e.
    let not_new : option_map_or (is_read_by net.points plan) (set_at net'.sets new.id) false ≡ false = of_plan net' x new.id plan e after in
    let found : set_at net'.sets new.id ≡ Some new = at_key-put (λ (s : LinkSet). s.id) new net.sets new.id ∙ rw (eq-eqb new.id new.id refl) refl in
    let unread : is_read_by net.points plan new ≡ false = subst (λ o. option_map_or (is_read_by net.points plan) o false ≡ false) found not_new in
    filter-put (λ (s : LinkSet). s.id) (is_read_by net.points plan) new unread net.sets (of_plan net x new.id plan e before))
