-- The plans of a document are applied to what its other entries make.
use Rattle.std.proofs.Common.{◌≡◌, ℕ, Bool, true, false, cond, List, Ok, Err, IfOk, codes, refl, ap, subst, ◌∙◌}
use Rattle.toml.specs.Data.{Members}
use Rattle.net_data.specs.Network.{Network}
use Rattle.net_text.specs.declared.faults.Key.TheVariants.{Points, Pairs, Sets, Plans, Unknown}
use Rattle.net_text.specs.declared.faults.LoadFault.{LoadFault}
use Rattle.net_text.specs.declared.faults.LoadFault.TheVariants.{BadKey}
use Rattle.net_text.specs.Faults.{Answer, chain}
use Rattle.net_text.specs.Keys.{at, unsigned_of, keys_format, has_known_keys, texts_from, options_in, Held, held_by}
use Rattle.net_text.specs.Reading.{apply_entries, apply_parts, start, build, network_of}

chain_ok : {A B : Type 0} (r : Answer A) (f : A → Answer B) (P : B → Type 0) → ((x : A) → r ≡ Ok x → IfOk (f x) P) → IfOk (chain r f) P
chain_ok (Ok x) f P k = k x refl
chain_ok (Err e) f P k = tt

cond_ok : {A : Type 0} (b : Bool) (r : Answer A) (e : LoadFault) (P : A → Type 0) → IfOk r P → IfOk (cond b r (Err e)) P
cond_ok true r e P h = h
cond_ok false r e P h = tt

-- the plans that are held are those at their key
held_plans : (doc : Members) → IfOk (held_by doc) (λ h. texts_from Plans (at (codes "plans") doc) ≡ Ok h.plans)
held_plans doc =
    cond_ok (has_known_keys (keys_format (unsigned_of (at (codes "format") doc))) doc) _ (BadKey Unknown) _
    (chain_ok (options_in doc) _ _ (λ o _. chain_ok (texts_from Points (at (codes "points") doc)) _ _ (λ points _.
    chain_ok (texts_from Pairs (at (codes "pairs") doc)) _ _ (λ pairs _. chain_ok (texts_from Sets (at (codes "sets") doc)) _ _ (λ sets _.
    chain_ok (texts_from Plans (at (codes "plans") doc)) _ _ (λ plans got. got))))))

chain_twice : {A B C : Type 0} (r : Answer A) (f : A → Answer B) (g : B → Answer C) → chain r (λ a. chain (f a) g) ≡ chain (chain r f) g
chain_twice (Ok x) f g = refl
chain_twice (Err e) f g = refl

chain_thrice : {A B C D : Type 0} (r : Answer A) (f : A → Answer B) (g : B → Answer C) (k : C → Answer D) → chain r (λ a. chain (f a) (λ b. chain (g b) k)) ≡ chain (chain r (λ a. chain (f a) g)) k
chain_thrice (Ok x) f g k = chain_twice (f x) g k
chain_thrice (Err e) f g k = refl

-- what a document says is its plans applied to what its other entries make
pub plans_last : (doc : Members) (h : Held) (net : Network) (texts : List (List ℕ)) → held_by doc ≡ Ok h → apply_parts h (start h) ≡ Ok net
    → IfOk (texts_from Plans (at (codes "plans") doc)) (λ ts. texts ≡ ts) → network_of doc ≡ apply_entries Plans h.format 1 net texts
plans_last doc h net texts read made taken =
    let found : texts_from Plans (at (codes "plans") doc) ≡ Ok h.plans = subst (λ r. IfOk r (λ k. texts_from Plans (at (codes "plans") doc) ≡ Ok k.plans)) read (held_plans doc) in
    let same : texts ≡ h.plans = subst (λ r. IfOk r (λ ts. texts ≡ ts)) found taken in
    ap (λ r. chain r build) read
    ∙ chain_thrice (apply_entries Points h.format 1 (start h) h.points) (λ a. apply_entries Pairs h.format 1 a h.pairs) (λ b. apply_entries Sets h.format 1 b h.sets) (λ c. apply_entries Plans h.format 1 c h.plans)
    ∙ ap (λ r. chain r (λ c. apply_entries Plans h.format 1 c h.plans)) made ∙ rw same
