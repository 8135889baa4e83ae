-- The tasks and the places of an open target.
use Rattle.std.proofs.Common.{◌≡◌, ◌≢◌, ℕ, ◌<◌, Bool, true, false, ◌||◌, eqb, List, [], ◌∷◌, ◌++◌, Option, Some, None, is_some, map, refl, sym, ap, ◌∙◌, subst, get_or, arith}
use Rattle.std.specs.Prelude.{Err, slice_set}
use Rattle.std.specs.List.{AllByRecursion}
use Rattle.std.specs.Option.{option_map}
use Rattle.std.proofs.lemmas.Bool.{eq-eqb, ne_eqb, eqb-true, eqb-false}
use Rattle.net_items.specs.declared.items.Plan.{Plan}
use Rattle.net_items.specs.Keyed.{IsRising, IsFoundAt, IsGapAt, at_key, edit}
use Rattle.net_items.specs.Lookups.{plan_at}
use Rattle.net_data.specs.Network.{Network}
use Rattle.profile.proofs.CertificateLemmas.{find-map}
use Rattle.excerpts.specs.Excerpt.{Content, ExcerptValue, content_at, content_in, content_of, excerpt_at, excerpt_in}
use Rattle.excerpts.specs.declared.faults.ExcerptFault.TheVariants.{NoPlan, OutOfMemory}
use Rattle.transfer_state.specs.Routing.{RoutingSlotValue}
use Rattle.work_units.specs.Work.{IsJob}
use Rattle.dirty_sets.specs.Touch.{is_planned}
use Rattle.dirty_sets.specs.Waiting.{Task, waiting_task, is_out, first_waiting, taken, put_last, without_task}
use Rattle.net_versions.proofs.PlannedLemmas.{excerpts_rise, excerpt_found}
use Rattle.desk_core.specs.Targets.{is_task, IsFilled, AreFilled}

-- ---- tasks

-- a destination that is out is a task
out_is_task : (tasks : List Task) (x : ℕ) → is_out tasks x ≡ true → is_task tasks x ≡ true
out_is_task [] x is = is
out_is_task (t ∷ ts) x is = go t.is_out refl (eqb t.dest x) refl (out_is_task ts x)
  where
    go : (o : Bool) → t.is_out ≡ o → (b : Bool) → eqb t.dest x ≡ b → (is_out ts x ≡ true → is_task ts x ≡ true) → is_task (t ∷ ts) x ≡ true
    go o e true here rec = rw here refl
    go true e false here rec = rw here (rec (rw (e, here) at is))
    go false e false here rec = rw here (rec (rw e at is))

-- so is the first that waits
first_is_task : (tasks : List Task) (x : ℕ) → first_waiting tasks ≡ Some x → is_task tasks x ≡ true
first_is_task [] x first = absurd (cc)
first_is_task (t ∷ ts) x first = go t.is_out refl (first_is_task ts x)
  where
    go : (o : Bool) → t.is_out ≡ o → (first_waiting ts ≡ Some x → is_task ts x ≡ true) → is_task (t ∷ ts) x ≡ true
    go true e rec = grind (arith, rec (rw e at first))
    go false e rec = let here : Some t.dest ≡ Some x = rw e at first in let same : t.dest ≡ x = cc in rw (eq-eqb t.dest x same) refl

-- what holds of each task holds of a destination that is one
task_has : (P : ℕ → Type 0) (tasks : List Task) (x : ℕ) → AllByRecursion (λ (t : Task). P t.dest) tasks → is_task tasks x ≡ true → P x
task_has P [] x all is = absurd (cc)
task_has P (t ∷ ts) x all is = go (eqb t.dest x) refl (task_has P ts x all.1)
  where
    go : (b : Bool) → eqb t.dest x ≡ b → (is_task ts x ≡ true → P x) → P x
    go true here rec = subst P (eqb-true t.dest x here) all.0
    go false here rec = rec (rw here at is)

-- one that is taken stays a task
is_task-taken : (tasks : List Task) (x : ℕ) → is_task (taken tasks) x ≡ is_task tasks x
is_task-taken [] x = refl
is_task-taken (t ∷ ts) x = go t.is_out refl (is_task-taken ts x)
  where
    go : (o : Bool) → t.is_out ≡ o → is_task (taken ts) x ≡ is_task ts x → is_task (taken (t ∷ ts)) x ≡ is_task (t ∷ ts) x
    go true e rec = rw e (ap (λ b. eqb t.dest x || b) rec)
    go false e rec = rw e refl

All-taken : (P : ℕ → Type 0) (tasks : List Task) → AllByRecursion (λ (t : Task). P t.dest) tasks → AllByRecursion (λ (t : Task). P t.dest) (taken tasks)
All-taken P [] all = tt
All-taken P (t ∷ ts) all = go t.is_out refl (All-taken P ts all.1)
  where
    go : (o : Bool) → t.is_out ≡ o → AllByRecursion (λ (t : Task). P t.dest) (taken ts) → AllByRecursion (λ (t : Task). P t.dest) (taken (t ∷ ts))
    go true e rec = rw e (all.0, rec)
    go false e rec = rw e (all.0, all.1)

-- one that is done leaves the others
is_task-without : (x : ℕ) (tasks : List Task) (y : ℕ) → y ≢ x → is_task (without_task x tasks) y ≡ is_task tasks y
is_task-without x [] y differs = refl
is_task-without x (t ∷ ts) y differs = go (eqb t.dest x) refl (is_task-without x ts y differs)
  where
    go : (b : Bool) → eqb t.dest x ≡ b → is_task (without_task x ts) y ≡ is_task ts y → is_task (without_task x (t ∷ ts)) y ≡ is_task (t ∷ ts) y
    go true here rec = let other : eqb t.dest y ≡ false = ne_eqb t.dest y (λ e. differs (sym e ∙ eqb-true t.dest x here)) in rw (here, other) rec
    go false here rec = rw here (ap (λ b. eqb t.dest y || b) rec)

All-without : (P : Task → Type 0) (x : ℕ) (tasks : List Task) → AllByRecursion P tasks → AllByRecursion P (without_task x tasks)
All-without P x [] all = tt
All-without P x (t ∷ ts) all = go (eqb t.dest x) refl (All-without P x ts all.1)
  where
    go : (b : Bool) → eqb t.dest x ≡ b → AllByRecursion P (without_task x ts) → AllByRecursion P (without_task x (t ∷ ts))
    go true here rec = rw here rec
    go false here rec = rw here (all.0, rec)

All-append : {X : Type 0} (P : X → Type 0) (xs ys : List X) → AllByRecursion P xs → AllByRecursion P ys → AllByRecursion P (xs ++ ys)
All-append P [] ys a b = b
All-append P (x ∷ xs) ys a b = (a.0, All-append P xs ys a.1 b)

is_task-append : (xs ys : List Task) (y : ℕ) → is_task (xs ++ ys) y ≡ (is_task xs y || is_task ys y)
is_task-append [] ys y = refl
is_task-append (x ∷ xs) ys y = go (eqb x.dest y) refl (is_task-append xs ys y)
  where
    go : (b : Bool) → eqb x.dest y ≡ b → is_task (xs ++ ys) y ≡ (is_task xs y || is_task ys y) → is_task (x ∷ xs ++ ys) y ≡ (is_task (x ∷ xs) y || is_task ys y)
    go true e rec = rw e refl
    go false e rec = rw e rec

or_right : (a b : Bool) → b ≡ true → (a || b) ≡ true
or_right true b e = refl
or_right false b e = e

or_left : (a b : Bool) → a ≡ true → (a || b) ≡ true
or_left true b e = refl
or_left false b e = absurd (cc)

-- one that waits again stays a task, and so do the others
is_task-put_last : (x : ℕ) (tasks : List Task) (y : ℕ) → is_task tasks y ≡ true → is_task (put_last x tasks) y ≡ true
is_task-put_last x tasks y is = go (eqb y x) refl
  where
    go : (b : Bool) → eqb y x ≡ b → is_task (put_last x tasks) y ≡ true
    go true e =
        is_task-append (without_task x tasks) (waiting_task x ∷ []) y
        ∙ or_right (is_task (without_task x tasks) y) _ (rw (eq-eqb x y (sym (eqb-true y x e))) refl)
    go false e =
        is_task-append (without_task x tasks) (waiting_task x ∷ []) y
        ∙ or_left (is_task (without_task x tasks) y) _ (is_task-without x tasks y (eqb-false y x e) ∙ is)

-- ---- places

-- a place stays filled where tasks stay
still_filled : (tasks tasks' : List Task) → ((y : ℕ) → is_task tasks y ≡ true → is_task tasks' y ≡ true) → (slot : RoutingSlotValue) → IsFilled tasks slot → IsFilled tasks' slot
still_filled tasks tasks' stay slot filled = go slot.settled refl
  where
    go : (b : Bool) → slot.settled ≡ b → IsFilled tasks' slot
    go true e = rw e refl
    go false e = rw e (stay slot.excerpt.plan.dest (rw e at filled))

All-filled : (tasks tasks' : List Task) → ((y : ℕ) → is_task tasks y ≡ true → is_task tasks' y ≡ true) → (slots : List RoutingSlotValue) → AllByRecursion (IsFilled tasks) slots → AllByRecursion (IsFilled tasks') slots
All-filled tasks tasks' stay [] all = tt
All-filled tasks tasks' stay (s ∷ ss) all = (still_filled tasks tasks' stay s all.0, All-filled tasks tasks' stay ss all.1)

module _ (net : Network) (tasks : List Task) (slots : List RoutingSlotValue) (are : AreFilled net tasks slots) where
  pub filled-taken : AreFilled net (taken tasks) slots
  filled-taken = record {
    all = are.all;
    filled = All-filled tasks (taken tasks) (λ y is. is_task-taken tasks y ∙ is) slots are.filled;
    planned = All-taken (λ x. is_planned net x ≡ true) tasks are.planned;
  }

  pub filled-put_last : (x : ℕ) → is_out tasks x ≡ true → AreFilled net (put_last x tasks) slots
  filled-put_last x is = record {
    all = are.all;
    filled = All-filled tasks (put_last x tasks) (is_task-put_last x tasks) slots are.filled;
    planned = All-append (λ (t : Task). is_planned net t.dest ≡ true) (without_task x tasks) (waiting_task x ∷ []) (All-without (λ (t : Task). is_planned net t.dest ≡ true) x tasks are.planned)
        (task_has (λ y. is_planned net y ≡ true) tasks x are.planned (out_is_task tasks x is), tt);
  }

  -- the first that waits is planned
  pub first_planned : (x : ℕ) → first_waiting tasks ≡ Some x → is_planned net x ≡ true
  first_planned x first = task_has (λ y. is_planned net y ≡ true) tasks x are.planned (first_is_task tasks x first)

-- no job is refused for want of a plan if the destination is planned
pub planned_job : (net : Network) (x version : ℕ) → is_planned net x ≡ true → IsJob version (excerpt_at net x) (Err NoPlan) → ⊥
planned_job net x version planned answer = go (plan_at net.plans x) refl
  where
    go : (o : Option Plan) → plan_at net.plans x ≡ o → ⊥
    go None e = let none : false ≡ true = subst (λ (q : Option Plan). is_some q ≡ true) e planned in absurd (cc)
    go (Some plan) e = let wrong : NoPlan ≡ OutOfMemory = subst (λ (q : Option Plan). IsJob version (option_map (excerpt_in net) q) (Err NoPlan)) e answer in absurd (cc)

-- if nothing is waited for all have come
pub all_settled : (slots : List RoutingSlotValue) → AllByRecursion (IsFilled []) slots → AllByRecursion (λ (s : RoutingSlotValue). s.settled ≡ true) slots
all_settled [] all = tt
all_settled (s ∷ ss) all = (go s.settled refl, all_settled ss all.1)
  where
    go : (b : Bool) → s.settled ≡ b → s.settled ≡ true
    go true e = e
    go false e = absurd (let f : false ≡ true = rw e at all.0 in cc)

-- ---- a place by its destination

All-unmap : {X Y : Type 0} (P : Y → Type 0) (f : X → Y) (xs : List X) → AllByRecursion P (map f xs) → AllByRecursion (λ x. P (f x)) xs
All-unmap P f [] all = tt
All-unmap P f (x ∷ xs) all = (all.0, All-unmap P f xs all.1)

IsRising-unmap : {X Y : Type 0} (key : Y → ℕ) (f : X → Y) (xs : List X) → IsRising key (map f xs) → IsRising (λ x. key (f x)) xs
IsRising-unmap key f [] rising = tt
IsRising-unmap key f (x ∷ xs) rising = (All-unmap (λ y. key (f x) < key y) f xs rising.0, IsRising-unmap key f xs rising.1)

abbrev dest_of : RoutingSlotValue → ℕ
dest_of s = s.excerpt.plan.dest

module _ (net : Network) (tasks : List Task) (slots : List RoutingSlotValue) (are : AreFilled net tasks slots) (rising : IsRising (λ (p : Plan). p.dest) net.plans) where
  pub slots_rise : IsRising dest_of slots
  slots_rise = IsRising-unmap (λ (x : ExcerptValue). x.plan.dest) (λ (s : RoutingSlotValue). s.excerpt) slots (subst (IsRising (λ (x : ExcerptValue). x.plan.dest)) (sym are.all) (excerpts_rise net rising))

  -- the extract of the place of a destination
  slot_excerpt : (x : ℕ) → option_map (λ (s : RoutingSlotValue). s.excerpt) (at_key dest_of x slots) ≡ excerpt_at net x
  slot_excerpt x =
      sym (find-map (λ (e : ExcerptValue). eqb e.plan.dest x) (λ (s : RoutingSlotValue). eqb s.excerpt.plan.dest x) (λ (s : RoutingSlotValue). s.excerpt) (λ s. refl) slots)
      ∙ ap (at_key (λ (e : ExcerptValue). e.plan.dest) x) are.all ∙ excerpt_found net x

  content_of_excerpt : (o : Option Plan) → option_map content_of (option_map (excerpt_in net) o) ≡ option_map (content_in net) o
  content_of_excerpt None = refl
  content_of_excerpt (Some p) = refl

  slot_content : (x : ℕ) → option_map (λ (s : RoutingSlotValue). content_of s.excerpt) (at_key dest_of x slots) ≡ content_at net x
  slot_content x = go (at_key dest_of x slots) ∙ ap (option_map content_of) (slot_excerpt x) ∙ content_of_excerpt (plan_at net.plans x)
    where
      go : (o : Option RoutingSlotValue) → option_map (λ (s : RoutingSlotValue). content_of s.excerpt) o ≡ option_map content_of (option_map (λ (s : RoutingSlotValue). s.excerpt) o)
      go None = refl
      go (Some s) = refl

  -- the place that is found reads what the destination's table reads
  pub found_content : (x : ℕ) (i : ℕ) (slot : RoutingSlotValue) (content : Content) → IsFoundAt dest_of x slots i → slot ≡ get_or slots i slot → content_at net x ≡ Some content → content ≡ content_of slot.excerpt
  found_content x i slot content found is at =
      let there : at_key dest_of x slots ≡ Some slot = found.finds slot ∙ ap Some (sym is) in
      let both : Some (content_of slot.excerpt) ≡ Some content = sym (ap (option_map (λ (s : RoutingSlotValue). content_of s.excerpt)) there) ∙ slot_content x ∙ at in
      cc

  pub nowhere_content : (x : ℕ) (i : ℕ) (content : Content) → IsGapAt dest_of x slots i → content_at net x ≡ Some content → ⊥
  nowhere_content x i content gap at =
      let both : None ≡ Some content = sym (ap (option_map (λ (s : RoutingSlotValue). content_of s.excerpt)) gap.absent) ∙ slot_content x ∙ at in
      absurd (cc)

  map_edit : (x : ℕ) (f : RoutingSlotValue → RoutingSlotValue) → ((s : RoutingSlotValue) → (f s).excerpt ≡ s.excerpt) → (ss : List RoutingSlotValue) → map (λ (s : RoutingSlotValue). s.excerpt) (edit dest_of x f ss) ≡ map (λ (s : RoutingSlotValue). s.excerpt) ss
  map_edit x f same [] = refl
  map_edit x f same (s ∷ ss) = go (eqb (dest_of s) x) refl (map_edit x f same ss)
    where
      go : (b : Bool) → eqb (dest_of s) x ≡ b → map (λ (s : RoutingSlotValue). s.excerpt) (edit dest_of x f ss) ≡ map (λ (s : RoutingSlotValue). s.excerpt) ss
          → map (λ (s : RoutingSlotValue). s.excerpt) (edit dest_of x f (s ∷ ss)) ≡ map (λ (s : RoutingSlotValue). s.excerpt) (s ∷ ss)
      go true e rec = rw e (ap (λ y. y ∷ map (λ (s : RoutingSlotValue). s.excerpt) ss) (same s))
      go false e rec = rw e (ap (λ ys. s.excerpt ∷ ys) rec)

  filled_others : (x : ℕ) (ss : List RoutingSlotValue) → AllByRecursion (λ (s : RoutingSlotValue). x < dest_of s) ss → AllByRecursion (IsFilled tasks) ss → AllByRecursion (IsFilled (without_task x tasks)) ss
  filled_others x [] above all = tt
  filled_others x (s ∷ ss) above all = (go s.settled refl, filled_others x ss above.1 all.1)
    where
      go : (b : Bool) → s.settled ≡ b → IsFilled (without_task x tasks) s
      go true e = rw e refl
      go false e = rw e (is_task-without x tasks (dest_of s) (λ same. let higher : x < dest_of s = above.0 in omega (arith, higher, same)) ∙ rw e at all.0)

  filled_edit : (x : ℕ) (ss : List RoutingSlotValue) → IsRising dest_of ss → AllByRecursion (IsFilled tasks) ss → AllByRecursion (IsFilled (without_task x tasks)) (edit dest_of x (λ s. record s { settled = true }) ss)
  filled_edit x [] up all = tt
  filled_edit x (s ∷ ss) up all = go (eqb (dest_of s) x) refl (filled_edit x ss up.1 all.1)
    where
      go : (b : Bool) → eqb (dest_of s) x ≡ b → AllByRecursion (IsFilled (without_task x tasks)) (edit dest_of x (λ s. record s { settled = true }) ss) → AllByRecursion (IsFilled (without_task x tasks)) (edit dest_of x (λ s. record s { settled = true }) (s ∷ ss))
      go true e rec = rw e (refl, filled_others x ss (subst (λ y. AllByRecursion (λ (s : RoutingSlotValue). y < dest_of s) ss) (eqb-true (dest_of s) x e) up.0) all.1)
      go false e rec = rw e (kept s.settled refl, rec)
        where
          kept : (b : Bool) → s.settled ≡ b → IsFilled (without_task x tasks) s
          kept true t = rw t refl
          kept false t = rw t (is_task-without x tasks (dest_of s) (eqb-false (dest_of s) x e) ∙ rw t at all.0)

  -- a routing that has come to its place, whose destination is done
  pub filled-done : (x i : ℕ) (slot : RoutingSlotValue) → IsFoundAt dest_of x slots i → slot ≡ get_or slots i slot → AreFilled net (without_task x tasks) (slice_set slots i (record slot { settled = true }))
  filled-done x i slot found is =
      let put : slice_set slots i (record slot { settled = true }) ≡ edit dest_of x (λ s. record s { settled = true }) slots
      = ap (λ (s : RoutingSlotValue). slice_set slots i (record s { settled = true })) is ∙ found.edits (λ s. record s { settled = true }) slot in
      subst (AreFilled net (without_task x tasks)) (sym put) (record {
        all = map_edit x (λ s. record s { settled = true }) (λ s. refl) slots ∙ are.all;
        filled = filled_edit x slots slots_rise are.filled;
        planned = All-without (λ (t : Task). is_planned net t.dest ≡ true) x tasks are.planned;
      })
