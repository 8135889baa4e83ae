-- The tasks of an open target: what one that is abandoned, taken or done leaves.
use Rattle.std.proofs.Common.{◌≡◌, ℕ, suc, ◌<◌, ◌≤◌, Bool, true, false, ◌||◌, eqb, List, [], ◌∷◌, ◌++◌, Option, Some, None, refl, sym, ap, subst, length, arith}
use Rattle.std.specs.Prelude.{nat_lt}
use Rattle.std.specs.List.{list_any}
use Rattle.std.proofs.lemmas.Bool.{eq-eqb}
use Rattle.dirty_sets.specs.Waiting.{Task, waiting_task, out, waiting, is_out, least, lesser, put_last, without_task}

or_right : (a b : Bool) → b ≡ true → (a || b) ≡ true
or_right true b e = refl
or_right false b e = e

-- the lesser of two is one of them
lesser_case : (P : Type 0) (y : ℕ) (o : Option ℕ) (x : ℕ) → lesser y o ≡ x → (y ≡ x → P) → (o ≡ Some x → P) → P
lesser_case P y None x e here there = here e
lesser_case P y (Some z) x e here there = go (nat_lt z y) refl
  where
    go : (b : Bool) → nat_lt z y ≡ b → P
    go true less = there (ap Some (rw less at e))
    go false less = here (rw less at e)

-- the least is one of them
least_there : (xs : List ℕ) (x : ℕ) → least xs ≡ Some x → list_any (λ y. eqb y x) xs ≡ true
least_there [] x e = absurd (cc)
least_there (y ∷ ys) x e =
    let same : lesser y (least ys) ≡ x = cc in
    lesser_case (list_any (λ z. eqb z x) (y ∷ ys) ≡ true) y (least ys) x same (λ here. rw (eq-eqb y x here) refl) (λ there. or_right (eqb y x) _ (least_there ys x there))

-- the least that is out is out
pub first_is_out : (tasks : List Task) (x : ℕ) → least (out tasks) ≡ Some x → is_out tasks x ≡ true
first_is_out tasks x e = least_there (out tasks) x e

-- without a destination no more are out
out_without_le : (x : ℕ) (tasks : List Task) → length (out (without_task x tasks)) ≤ length (out tasks)
out_without_le x [] = omega arith
out_without_le x (t ∷ ts) = go (eqb t.dest x) refl t.is_out refl (out_without_le x ts)
  where
    go : (b : Bool) → eqb t.dest x ≡ b → (o : Bool) → t.is_out ≡ o → length (out (without_task x ts)) ≤ length (out ts) → length (out (without_task x (t ∷ ts))) ≤ length (out (t ∷ ts))
    go true here true e rec = rw (here, e) (omega arith)
    go true here false e rec = rw (here, e) rec
    go false here true e rec = rw (here, e) (omega arith)
    go false here false e rec = rw (here, e) rec

-- and fewer are, if it was out
out_without_lt : (x : ℕ) (tasks : List Task) → is_out tasks x ≡ true → length (out (without_task x tasks)) < length (out tasks)
out_without_lt x [] is = absurd (cc)
out_without_lt x (t ∷ ts) is = go (eqb t.dest x) refl t.is_out refl (out_without_le x ts) (out_without_lt x ts)
  where
    go : (b : Bool) → eqb t.dest x ≡ b → (o : Bool) → t.is_out ≡ o → length (out (without_task x ts)) ≤ length (out ts) → (is_out ts x ≡ true → length (out (without_task x ts)) < length (out ts))
        → length (out (without_task x (t ∷ ts))) < length (out (t ∷ ts))
    go true here true e le rec = rw (here, e) (omega arith)
    go true here false e le rec = rw (here, e) (rec (rw e at is))
    go false here true e le rec = let less = rec (rw (e, here) at is) in rw (here, e) (omega arith)
    go false here false e le rec = rw (here, e) (rec (rw e at is))

-- without a destination no more wait
pub waiting_without_le : (x : ℕ) (tasks : List Task) → length (waiting (without_task x tasks)) ≤ length (waiting tasks)
waiting_without_le x [] = omega arith
waiting_without_le x (t ∷ ts) = go (eqb t.dest x) refl t.is_out refl (waiting_without_le x ts)
  where
    go : (b : Bool) → eqb t.dest x ≡ b → (o : Bool) → t.is_out ≡ o → length (waiting (without_task x ts)) ≤ length (waiting ts) → length (waiting (without_task x (t ∷ ts))) ≤ length (waiting (t ∷ ts))
    go true here true e rec = rw (here, e) rec
    go true here false e rec = rw (here, e) (omega arith)
    go false here true e rec = rw (here, e) rec
    go false here false e rec = rw (here, e) (omega arith)

-- nothing is out without a destination, if nothing was
pub out_without_none : (x : ℕ) (tasks : List Task) → length (out tasks) ≡ 0 → length (out (without_task x tasks)) ≡ 0
out_without_none x tasks none = omega (arith, out_without_le x tasks)

-- one more that waits is not out
out_push : (tasks : List Task) (x : ℕ) → out (tasks ++ waiting_task x ∷ []) ≡ out tasks
out_push [] x = refl
out_push (t ∷ ts) x = go t.is_out refl (out_push ts x)
  where
    go : (o : Bool) → t.is_out ≡ o → out (ts ++ waiting_task x ∷ []) ≡ out ts → out (t ∷ ts ++ waiting_task x ∷ []) ≡ out (t ∷ ts)
    go true e rec = rw e (ap (λ ys. t.dest ∷ ys) rec)
    go false e rec = rw e rec

-- fewer are out once one waits again
pub out_put_last : (x : ℕ) (tasks : List Task) → is_out tasks x ≡ true → length (out (put_last x tasks)) < length (out tasks)
out_put_last x tasks is = subst (λ ys. length ys < length (out tasks)) (sym (out_push (without_task x tasks) x)) (out_without_lt x tasks is)

-- if nothing is out and something waits, the first waits
pub first_waits : (P : List Task → Type 0) → ((x : ℕ) (more : List Task) → length (out more) ≡ 0 → P (waiting_task x ∷ more)) → (tasks : List Task) → length (out tasks) ≡ 0 → 0 < length (waiting tasks) → P tasks
first_waits P all [] none some = absurd (omega arith)
first_waits P all (t ∷ ts) none some = go t.is_out refl
  where
    go : (o : Bool) → t.is_out ≡ o → P (t ∷ ts)
    go true e = absurd (let wrong : suc (length (out ts)) ≡ 0 = rw e at none in omega arith)
    go false e =
        let same : waiting_task t.dest ≡ t = ap (λ (o : Bool). record { dest = t.dest; is_out = o }) (sym e) in
        subst (λ (u : Task). P (u ∷ ts)) same (all t.dest ts (rw e at none))

-- if nothing is out and nothing waits, there is no task
pub none_left : (tasks : List Task) → length (out tasks) ≡ 0 → length (waiting tasks) ≡ 0 → length tasks ≡ 0
none_left [] none idle = refl
none_left (t ∷ ts) none idle = go t.is_out refl
  where
    go : (o : Bool) → t.is_out ≡ o → length (t ∷ ts) ≡ 0
    go true e = absurd (let wrong : suc (length (out ts)) ≡ 0 = rw e at none in omega arith)
    go false e = absurd (let wrong : suc (length (waiting ts)) ≡ 0 = rw e at idle in omega arith)
