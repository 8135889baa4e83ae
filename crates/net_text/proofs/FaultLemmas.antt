-- No text says that the file can't be read.
use Rattle.std.proofs.Common.{◌≡◌, ◌≢◌, ℕ, ◌+◌, ◌==◌, nat_le, Bool, true, false, cond, List, [], ◌∷◌, Option, Some, None, option_map, Ok, Err, ap, sym, ◌∙◌, map, codes}
use Rattle.std.specs.List.{list_all}
use Rattle.toml.specs.Data.{Data, Members, as_array, as_bool}
use Rattle.net_data.specs.declared.events.Event.{Event}
use Rattle.net_data.specs.Network.{Network}
use Rattle.net_data.specs.Edits.{apply_all}
use Rattle.net_text.specs.declared.faults.Key.{Key}
use Rattle.net_text.specs.declared.faults.Key.TheVariants.{Ni, Points, Pairs, Sets, Plans, Unknown}
use Rattle.net_text.specs.declared.faults.LoadFault.{LoadFault}
use Rattle.net_text.specs.declared.faults.LoadFault.TheVariants.{BadKey, OutOfMemory, Read}
use Rattle.tokens.specs.declared.marked.Format.{Format}
use Rattle.tokens.specs.declared.marked.Format.TheVariants.{One, Two}
use Rattle.net_text.specs.Faults.{Answer, chain}
use Rattle.net_text.specs.Keys.{at, unsigned_of, keys_format, has_known_keys, format_from, ni_from, bool_from, tfr_from, list_of, is_text, text_of, texts_in, texts_from, options_in, held_by}
use Rattle.net_text.specs.Entries.{entry_of}
use Rattle.net_text.specs.Reading.{named, apply_entry, apply_entries, start, network_of}

-- an answer that isn't Read
abbrev pub IsOther : {T : Type 0} → Answer T → Type 0
IsOther answer = answer ≢ Err Read

chain_other : {A B : Type 0} (r : Answer A) (f : A → Answer B) → IsOther r → ((x : A) → IsOther (f x)) → IsOther (chain r f)
chain_other (Ok x) f h k = k x
chain_other (Err e) f h k = λ q. let same : e ≡ Read = cc in h (ap Err same)

cond_other : {T : Type 0} (b : Bool) (x y : Answer T) → IsOther x → IsOther y → IsOther (cond b x y)
cond_other true x y h k = h
cond_other false x y h k = k

ok_other : {T : Type 0} (x : T) → IsOther (Ok x)
ok_other x q = cc

key_other : {T : Type 0} (key : Key) → IsOther {T = T} (Err (BadKey key))
key_other key q = cc

format_other : (n : Option ℕ) → IsOther (format_from n)
format_other None = key_other Key.Format
format_other (Some n) = cond_other (n == 1) (Ok One) _ (ok_other One) (cond_other (n == 2) (Ok Two) _ (ok_other Two) (key_other Key.Format))

ni_other : (n : Option ℕ) → IsOther (ni_from n)
ni_other None = key_other Ni
ni_other (Some n) = cond_other (nat_le n 3) (Ok n) _ (ok_other n) (key_other Ni)

bool_other : (b : Option Bool) → IsOther (bool_from b)
bool_other None q = cc
bool_other (Some b) q = cc

tfr_other : (d : Option Data) → IsOther (tfr_from d)
tfr_other None = ok_other true
tfr_other (Some d) = bool_other (as_bool d)

texts_in_other : (key : Key) (ds : Option (List Data)) → IsOther (texts_in key ds)
texts_in_other key None = key_other key
texts_in_other key (Some ds) = cond_other (list_all is_text ds) (Ok (map text_of ds)) _ (ok_other (map text_of ds)) (key_other key)

texts_other : (key : Key) (d : Option Data) → IsOther (texts_from key d)
texts_other key None = ok_other []
texts_other key (Some d) = texts_in_other key (option_map list_of (as_array d))

options_other : (doc : Members) → IsOther (options_in doc)
options_other doc =
    let number = unsigned_of (at (codes "format") doc) in
    chain_other (format_from number) _ (format_other number) (λ format.
    chain_other (ni_from (unsigned_of (at (codes "ni") doc))) _ (ni_other (unsigned_of (at (codes "ni") doc))) (λ ni.
    chain_other (tfr_from (at (codes "tfr") doc)) _ (tfr_other (at (codes "tfr") doc)) (λ tfr. ok_other (format, ni, tfr))))

held_other : (doc : Members) → IsOther (held_by doc)
held_other doc =
    let number = unsigned_of (at (codes "format") doc) in
    cond_other (has_known_keys (keys_format number) doc) _ _
    (chain_other (options_in doc) _ (options_other doc) (λ o.
    chain_other (texts_from Points (at (codes "points") doc)) _ (texts_other Points (at (codes "points") doc)) (λ points.
    chain_other (texts_from Pairs (at (codes "pairs") doc)) _ (texts_other Pairs (at (codes "pairs") doc)) (λ pairs.
    chain_other (texts_from Sets (at (codes "sets") doc)) _ (texts_other Sets (at (codes "sets") doc)) (λ sets.
    chain_other (texts_from Plans (at (codes "plans") doc)) _ (texts_other Plans (at (codes "plans") doc)) (λ plans.
    ok_other (record { format = o.0; ni = o.1; tfr = o.2; points = points; pairs = pairs; sets = sets; plans = plans })))))))
    (key_other Unknown)

entry_other : (key : Key) (place : ℕ) (net : Network) (events : Option (List Event)) → IsOther (apply_entry key place net events)
entry_other key place net None = λ q. cc
entry_other key place net (Some es) = elim (apply_all net es) as (λ r. IsOther (named key place r)) [ Ok x ↦ ok_other x | Err e ↦ λ q. cc ]

entries_other : (key : Key) (format : Format) (place : ℕ) (net : Network) (texts : List (List ℕ)) → IsOther (apply_entries key format place net texts)
entries_other key format place net [] = ok_other net
entries_other key format place net (text ∷ texts) = chain_other _ _ (entry_other key place net (entry_of key format text)) (λ more. entries_other key format (place + 1) more texts)

pub network_other : (doc : Members) → IsOther (network_of doc)
network_other doc =
    chain_other _ _ (held_other doc) (λ h. chain_other _ _ (entries_other Points h.format 1 (start h) h.points) (λ a.
    chain_other _ _ (entries_other Pairs h.format 1 a h.pairs) (λ b. chain_other _ _ (entries_other Sets h.format 1 b h.sets) (λ c. entries_other Plans h.format 1 c h.plans))))

pub never_read : (doc : Members) (e : LoadFault) → (e ≢ OutOfMemory → network_of doc ≡ Err e) → e ≡ Read → ⊥
never_read doc e says same = network_other doc (says (λ m. let other : Read ≡ OutOfMemory = sym same ∙ m in absurd (cc)) ∙ ap Err same)
