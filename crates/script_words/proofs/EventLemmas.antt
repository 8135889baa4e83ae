-- What is read is what is written.
use Rattle.std.proofs.Common.{◌≡◌, ◌⊎◌, inl, inr, ℕ, ◌<◌, ◌==◌, Bool, true, false, cond, List, [], ◌∷◌, length, Option, Some, None, option_map, option_and_then, codes, sym, ap, subst, refl, ◌∙◌, arith}
use Rattle.std.proofs.lemmas.Bool.Decides.{nat_tests}
use Rattle.std.proofs.lemmas.List.{length-map}
use Rattle.std.specs.Fmt.{decimal}
use Rattle.std.specs.Str.{bytes_eq}
use Rattle.link_state.specs.declared.marks.End.TheVariants.{First, Second}
use Rattle.link_state.specs.declared.marks.LinkChange.{LinkChange}
use Rattle.link_state.specs.declared.marks.LinkChange.TheVariants.{Fail, Restore, Block, Unblock, Inhibit, Uninhibit}
use Rattle.net_items.specs.declared.items.Kind.{Kind}
use Rattle.net_items.specs.declared.items.Kind.TheVariants.{Sep, Stp}
use Rattle.net_items.specs.declared.lists.Row.{Row}
use Rattle.net_data.specs.declared.events.Event.{Event}
use Rattle.net_data.specs.declared.events.Event.TheVariants as on
use Rattle.point_codes.specs.Codes.{code_of}
use Rattle.point_codes.proofs.NumberLemmas.{number_reads}
use Rattle.point_codes.proofs.CodeLemmas.{and_then_Some, map_Some, same_pair, code_reads}
use Rattle.tokens.specs.Kinds.{kind_of, kind_text}
use Rattle.tokens.specs.Numbers.{id_of, slc_of}
use Rattle.tokens.specs.Pieces.{all_of}
use Rattle.tokens.specs.Rows.{row_of, row_text, IsRow}
use Rattle.tokens.proofs.MarkedLemmas.{bytes_same}
use Rattle.tokens.proofs.PiecesLemmas.{all_read}
use Rattle.tokens.proofs.RowLemmas.{row_law}
use Rattle.script_words.specs.declared.verbs.Verb.{Verb}
use Rattle.script_words.specs.declared.verbs.Verb.TheVariants as verb
use Rattle.script_words.specs.Events.{verb_of, change_by, change_of, at_end, end_change_of, added_point_of, dropped_point_of, pair_of, unpaired_of, added_set_of, dropped_set_of, added_link_of, dropped_link_of, plan_of, dropped_plan_of, tfr_of, event_by, event_of}
use Rattle.script_words.specs.EventWords.{change_words, event_words, short_change, short_words, IsWritten, IsId, IsSlc, IsEvent}
use Rattle.script_words.proofs.VerbLemmas.{verb_word, verb_reads}

-- ---- options and tests

two_read : {A B : Type 0} (o : Option A) (p : Option B) (make : A → B → Event) (event : Event) → option_and_then (λ x. option_map (λ y. make x y) p) o ≡ Some event
    → (x : A) × (y : B) × (o ≡ Some x) × (p ≡ Some y) × (make x y ≡ event)
two_read None p make event e = absurd (cc)
two_read (Some x) None make event e = absurd (cc)
two_read (Some x) (Some y) make event e = (x, y, refl, refl, same_pair (make x y) event e)

test_passed : {A : Type 0} (b : Bool) (o : Option A) (y : A) → cond b None o ≡ Some y → (b ≡ false) × (o ≡ Some y)
test_passed true o y e = absurd (cc)
test_passed false o y e = (refl, e)

either_at : {A : Type 0} (one other what : List ℕ) (x y : Option A) (z : A) (b c : Bool) → bytes_eq what one ≡ b → bytes_eq what other ≡ c → cond b x (cond c y None) ≡ Some z
    → ((what ≡ one) × (x ≡ Some z)) ⊎ ((what ≡ other) × (y ≡ Some z))
either_at one other what x y z true c p q e = inl (bytes_same what one p, e)
either_at one other what x y z false true p q e = inr (bytes_same what other q, e)
either_at one other what x y z false false p q e = absurd (cc)

-- one of two words, and what each of them gives
either_read : {A : Type 0} (one other what : List ℕ) (x y : Option A) (z : A) → cond (bytes_eq what one) x (cond (bytes_eq what other) y None) ≡ Some z
    → ((what ≡ one) × (x ≡ Some z)) ⊎ ((what ≡ other) × (y ≡ Some z))
either_read one other what x y z e = either_at one other what x y z (bytes_eq what one) (bytes_eq what other) refl refl e

-- ---- what is said of an event

abbrev pub Says : Event → List (List ℕ) → Type 0
Says event words = IsEvent event × IsWritten event words

said : (made event : Event) (words : List (List ℕ)) → made ≡ event → IsEvent made → words ≡ event_words made → Says event words
said made event words same is written = subst (λ (e : Event). IsEvent e × IsWritten e words) same (is, inl written)

said_short : (made event : Event) (words : List (List ℕ)) → made ≡ event → IsEvent made → words ≡ short_words made → Says event words
said_short made event words same is written = subst (λ (e : Event). IsEvent e × IsWritten e words) same (is, inr written)

-- a word and the words after it
then : {v w : List ℕ} {vs ws : List (List ℕ)} → v ≡ w → vs ≡ ws → v ∷ vs ≡ w ∷ ws
then {v = v} {w = w} {vs = vs} {ws = ws} h k = ap (λ x. x ∷ vs) h ∙ ap (λ xs. w ∷ xs) k

id_reads : (i : ℕ) (text : List ℕ) → id_of text ≡ Some i → IsId i × (text ≡ decimal i)
id_reads i text e = number_reads 65535 i text (omega arith) e

slc_reads : (s : ℕ) (text : List ℕ) → slc_of text ≡ Some s → IsSlc s × (text ≡ decimal s)
slc_reads s text e = number_reads 255 s text (omega arith) e

kind_reads : (kind : Kind) (text : List ℕ) → kind_of text ≡ Some kind → text ≡ kind_text kind
kind_reads kind text e =
    elim (either_read (codes "sep") (codes "stp") text (Some Sep) (Some Stp) kind e) [
      | inl h ↦ h.0 ∙ ap kind_text (same_pair Sep kind h.1)
      | inr h ↦ h.0 ∙ ap kind_text (same_pair Stp kind h.1)
    ]

-- ---- changes of links

change_reads : (change : LinkChange) (id slc : List ℕ) (event : Event) → change_by change id slc ≡ Some event
    → (i : ℕ) × (s : ℕ) × IsEvent (on.Link i s change) × (id ≡ decimal i) × (slc ≡ decimal s) × (on.Link i s change ≡ event)
change_reads change id slc event e =
    let h = two_read (id_of id) (slc_of slc) (λ i s. on.Link i s change) event e in
    let a = id_reads h.0 id h.2 in
    let b = slc_reads h.1 slc h.3 in
    (h.0, h.1, (a.0, b.0), a.1, b.1, h.4)

plain_reads : (change : LinkChange) (word : List ℕ) → ((id slc : List ℕ) → word ∷ id ∷ slc ∷ [] ≡ change_words id slc change)
    → (rest : List (List ℕ)) (event : Event) → change_of change rest ≡ Some event → Says event (word ∷ rest)
plain_reads change word full [] event e = absurd (cc)
plain_reads change word full (id ∷ []) event e = absurd (cc)
plain_reads change word full (id ∷ slc ∷ []) event e =
    let h = change_reads change id slc event e in
    said (on.Link h.0 h.1 change) event (word ∷ id ∷ slc ∷ []) h.5 h.2 (then refl (then h.3 (then h.4 refl)) ∙ full (decimal h.0) (decimal h.1))
plain_reads change word full (id ∷ slc ∷ x ∷ xs) event e = absurd (cc)

named_reads : (change : LinkChange) (word name : List ℕ) → ((id slc : List ℕ) → word ∷ id ∷ slc ∷ name ∷ [] ≡ change_words id slc change)
    → (id slc end : List ℕ) (event : Event) → end ≡ name → change_by change id slc ≡ Some event → Says event (word ∷ id ∷ slc ∷ end ∷ [])
named_reads change word name full id slc end event named e =
    let h = change_reads change id slc event e in
    said (on.Link h.0 h.1 change) event (word ∷ id ∷ slc ∷ end ∷ []) h.5 h.2 (then refl (then h.3 (then h.4 (then named refl))) ∙ full (decimal h.0) (decimal h.1))

end_reads : (first second : LinkChange) (word : List ℕ) → ((id slc : List ℕ) → word ∷ id ∷ slc ∷ [] ≡ short_change id slc first)
    → ((id slc : List ℕ) → word ∷ id ∷ slc ∷ codes "a" ∷ [] ≡ change_words id slc first) → ((id slc : List ℕ) → word ∷ id ∷ slc ∷ codes "b" ∷ [] ≡ change_words id slc second)
    → (rest : List (List ℕ)) (event : Event) → end_change_of first second rest ≡ Some event → Says event (word ∷ rest)
end_reads first second word short at_a at_b [] event e = absurd (cc)
end_reads first second word short at_a at_b (id ∷ []) event e = absurd (cc)
end_reads first second word short at_a at_b (id ∷ slc ∷ []) event e =
    let h = change_reads first id slc event e in
    said_short (on.Link h.0 h.1 first) event (word ∷ id ∷ slc ∷ []) h.5 h.2 (then refl (then h.3 (then h.4 refl)) ∙ short (decimal h.0) (decimal h.1))
end_reads first second word short at_a at_b (id ∷ slc ∷ end ∷ []) event e =
    let h = and_then_Some (at_end first second end) (λ change. change_by change id slc) event e in
    elim (either_read (codes "a") (codes "b") end (Some first) (Some second) h.0 h.1) [
      | inl a ↦ named_reads first word (codes "a") at_a id slc end event a.0 (ap (λ c. change_by c id slc) (same_pair first h.0 a.1) ∙ h.2)
      | inr b ↦ named_reads second word (codes "b") at_b id slc end event b.0 (ap (λ c. change_by c id slc) (same_pair second h.0 b.1) ∙ h.2)
    ]
end_reads first second word short at_a at_b (id ∷ slc ∷ end ∷ x ∷ xs) event e = absurd (cc)

-- ---- points and pairs

added_point_reads : (rest : List (List ℕ)) (event : Event) → added_point_of rest ≡ Some event → Says event (codes "point" ∷ codes "add" ∷ rest)
added_point_reads [] event e = absurd (cc)
added_point_reads (code ∷ []) event e = absurd (cc)
added_point_reads (code ∷ kind ∷ []) event e =
    let h = two_read (code_of code) (kind_of kind) (λ c k. on.AddPoint c k) event e in
    let a = code_reads h.0 code h.2 in
    said (on.AddPoint h.0 h.1) event (codes "point" ∷ codes "add" ∷ code ∷ kind ∷ []) h.4 a.0 (then refl (then refl (then a.1 (then (kind_reads h.1 kind h.3) refl))))
added_point_reads (code ∷ kind ∷ x ∷ xs) event e = absurd (cc)

dropped_point_reads : (rest : List (List ℕ)) (event : Event) → dropped_point_of rest ≡ Some event → Says event (codes "point" ∷ codes "drop" ∷ rest)
dropped_point_reads [] event e = absurd (cc)
dropped_point_reads (code ∷ []) event e =
    let h = map_Some (code_of code) (λ c. on.RemovePoint c) event e in
    let a = code_reads h.0 code h.1 in
    said (on.RemovePoint h.0) event (codes "point" ∷ codes "drop" ∷ code ∷ []) h.2 a.0 (then refl (then refl (then a.1 refl)))
dropped_point_reads (code ∷ x ∷ xs) event e = absurd (cc)

pair_reads : (rest : List (List ℕ)) (event : Event) → pair_of rest ≡ Some event → Says event (codes "pair" ∷ rest)
pair_reads [] event e = absurd (cc)
pair_reads (one ∷ []) event e = absurd (cc)
pair_reads (one ∷ other ∷ []) event e =
    let h = two_read (code_of one) (code_of other) (λ p q. on.Pair p q) event e in
    let a = code_reads h.0 one h.2 in
    let b = code_reads h.1 other h.3 in
    said (on.Pair h.0 h.1) event (codes "pair" ∷ one ∷ other ∷ []) h.4 (a.0, b.0) (then refl (then a.1 (then b.1 refl)))
pair_reads (one ∷ other ∷ x ∷ xs) event e = absurd (cc)

unpaired_reads : (rest : List (List ℕ)) (event : Event) → unpaired_of rest ≡ Some event → Says event (codes "unpair" ∷ rest)
unpaired_reads [] event e = absurd (cc)
unpaired_reads (code ∷ []) event e =
    let h = map_Some (code_of code) (λ c. on.Unpair c) event e in
    let a = code_reads h.0 code h.1 in
    said (on.Unpair h.0) event (codes "unpair" ∷ code ∷ []) h.2 a.0 (then refl (then a.1 refl))
unpaired_reads (code ∷ x ∷ xs) event e = absurd (cc)

-- ---- sets and their links

some_left : (n m : ℕ) → n ≡ m → (n == 0) ≡ false → 0 < m
some_left n m same some = grind (arith, nat_tests)

added_set_reads : (rest : List (List ℕ)) (event : Event) → added_set_of rest ≡ Some event → Says event (codes "set" ∷ codes "add" ∷ rest)
added_set_reads [] event e = absurd (cc)
added_set_reads (id ∷ []) event e = absurd (cc)
added_set_reads (id ∷ a ∷ []) event e = absurd (cc)
added_set_reads (id ∷ a ∷ b ∷ slcs) event e =
    let test = test_passed (length slcs == 0) _ event e in
    let list = and_then_Some (all_of slc_of slcs) _ event test.1 in
    let first = and_then_Some (id_of id) _ event list.2 in
    let h = two_read (code_of a) (code_of b) (λ p q. on.AddSet first.0 p q list.0) event first.2 in
    let ss = all_read slc_of decimal IsSlc (λ text s. slc_reads s text) slcs list.0 list.1 in
    let i = id_reads first.0 id first.1 in
    let p = code_reads h.0 a h.2 in
    let q = code_reads h.1 b h.3 in
    let some = some_left (length slcs) (length list.0) (ap length ss.1 ∙ length-map list.0 decimal) test.0 in
    said (on.AddSet first.0 h.0 h.1 list.0) event (codes "set" ∷ codes "add" ∷ id ∷ a ∷ b ∷ slcs) h.4 (i.0, p.0, q.0, some, ss.0) (then refl (then refl (then i.1 (then p.1 (then q.1 ss.1)))))

dropped_set_reads : (rest : List (List ℕ)) (event : Event) → dropped_set_of rest ≡ Some event → Says event (codes "set" ∷ codes "drop" ∷ rest)
dropped_set_reads [] event e = absurd (cc)
dropped_set_reads (id ∷ []) event e =
    let h = map_Some (id_of id) (λ i. on.RemoveSet i) event e in
    let a = id_reads h.0 id h.1 in
    said (on.RemoveSet h.0) event (codes "set" ∷ codes "drop" ∷ id ∷ []) h.2 a.0 (then refl (then refl (then a.1 refl)))
dropped_set_reads (id ∷ x ∷ xs) event e = absurd (cc)

added_link_reads : (rest : List (List ℕ)) (event : Event) → added_link_of rest ≡ Some event → Says event (codes "link" ∷ codes "add" ∷ rest)
added_link_reads [] event e = absurd (cc)
added_link_reads (id ∷ []) event e = absurd (cc)
added_link_reads (id ∷ slc ∷ []) event e =
    let h = two_read (id_of id) (slc_of slc) (λ i s. on.AddLink i s) event e in
    let a = id_reads h.0 id h.2 in
    let b = slc_reads h.1 slc h.3 in
    said (on.AddLink h.0 h.1) event (codes "link" ∷ codes "add" ∷ id ∷ slc ∷ []) h.4 (a.0, b.0) (then refl (then refl (then a.1 (then b.1 refl))))
added_link_reads (id ∷ slc ∷ x ∷ xs) event e = absurd (cc)

dropped_link_reads : (rest : List (List ℕ)) (event : Event) → dropped_link_of rest ≡ Some event → Says event (codes "link" ∷ codes "drop" ∷ rest)
dropped_link_reads [] event e = absurd (cc)
dropped_link_reads (id ∷ []) event e = absurd (cc)
dropped_link_reads (id ∷ slc ∷ []) event e =
    let h = two_read (id_of id) (slc_of slc) (λ i s. on.RemoveLink i s) event e in
    let a = id_reads h.0 id h.2 in
    let b = slc_reads h.1 slc h.3 in
    said (on.RemoveLink h.0 h.1) event (codes "link" ∷ codes "drop" ∷ id ∷ slc ∷ []) h.4 (a.0, b.0) (then refl (then refl (then a.1 (then b.1 refl))))
dropped_link_reads (id ∷ slc ∷ x ∷ xs) event e = absurd (cc)

-- ---- plans and the option

plan_reads : (rest : List (List ℕ)) (event : Event) → plan_of rest ≡ Some event → Says event (codes "plan" ∷ codes "set" ∷ rest)
plan_reads [] event e = absurd (cc)
plan_reads (dest ∷ rows) event e =
    let make : ℕ → List Row → Event = λ c rs. on.SetPlan (record { dest = c; rows = rs }) in
    let h = two_read (code_of dest) (all_of row_of rows) make event e in
    let a = code_reads h.0 dest h.2 in
    let rs = all_read row_of row_text IsRow (λ text row. (row_law row text).0) rows h.1 h.3 in
    said (make h.0 h.1) event (codes "plan" ∷ codes "set" ∷ dest ∷ rows) h.4 (a.0, rs.0) (then refl (then refl (then a.1 rs.1)))

dropped_plan_reads : (rest : List (List ℕ)) (event : Event) → dropped_plan_of rest ≡ Some event → Says event (codes "plan" ∷ codes "drop" ∷ rest)
dropped_plan_reads [] event e = absurd (cc)
dropped_plan_reads (code ∷ []) event e =
    let h = map_Some (code_of code) (λ c. on.DropPlan c) event e in
    let a = code_reads h.0 code h.1 in
    said (on.DropPlan h.0) event (codes "plan" ∷ codes "drop" ∷ code ∷ []) h.2 a.0 (then refl (then refl (then a.1 refl)))
dropped_plan_reads (code ∷ x ∷ xs) event e = absurd (cc)

tfr_reads : (rest : List (List ℕ)) (event : Event) → tfr_of rest ≡ Some event → Says event (codes "tfr" ∷ rest)
tfr_reads [] event e = absurd (cc)
tfr_reads (what ∷ []) event e =
    elim (either_read (codes "on") (codes "off") what (Some (on.SetTfr true)) (Some (on.SetTfr false)) event e) [
      | inl h ↦ said (on.SetTfr true) event (codes "tfr" ∷ what ∷ []) (same_pair (on.SetTfr true) event h.1) tt (then refl (then h.0 refl))
      | inr h ↦ said (on.SetTfr false) event (codes "tfr" ∷ what ∷ []) (same_pair (on.SetTfr false) event h.1) tt (then refl (then h.0 refl))
    ]
tfr_reads (what ∷ x ∷ xs) event e = absurd (cc)

-- ---- events

-- a second word that says which of two forms comes
which_reads : (word one other : List ℕ) (f g : List (List ℕ) → Option Event) → ((rest : List (List ℕ)) (event : Event) → f rest ≡ Some event → Says event (word ∷ one ∷ rest))
    → ((rest : List (List ℕ)) (event : Event) → g rest ≡ Some event → Says event (word ∷ other ∷ rest)) → (what : List ℕ) (rest : List (List ℕ)) (event : Event)
    → cond (bytes_eq what one) (f rest) (cond (bytes_eq what other) (g rest) None) ≡ Some event → Says event (word ∷ what ∷ rest)
which_reads word one other f g reads_one reads_other what rest event e =
    elim (either_read one other what (f rest) (g rest) event e) [
      | inl h ↦ subst (λ w. Says event (word ∷ w ∷ rest)) (sym h.0) (reads_one rest event h.1)
      | inr h ↦ subst (λ w. Says event (word ∷ w ∷ rest)) (sym h.0) (reads_other rest event h.1)
    ]

by_reads : (v : Verb) (rest : List (List ℕ)) (event : Event) → event_by v rest ≡ Some event → Says event (verb_word v ∷ rest)
by_reads verb.Fail rest event e = plain_reads Fail (codes "fail") (λ id slc. refl) rest event e
by_reads verb.Restore rest event e = plain_reads Restore (codes "restore") (λ id slc. refl) rest event e
by_reads verb.Block rest event e = end_reads (Block First) (Block Second) (codes "block") (λ id slc. refl) (λ id slc. refl) (λ id slc. refl) rest event e
by_reads verb.Unblock rest event e = end_reads (Unblock First) (Unblock Second) (codes "unblock") (λ id slc. refl) (λ id slc. refl) (λ id slc. refl) rest event e
by_reads verb.Inhibit rest event e = end_reads (Inhibit First) (Inhibit Second) (codes "inhibit") (λ id slc. refl) (λ id slc. refl) (λ id slc. refl) rest event e
by_reads verb.Uninhibit rest event e = end_reads (Uninhibit First) (Uninhibit Second) (codes "uninhibit") (λ id slc. refl) (λ id slc. refl) (λ id slc. refl) rest event e
by_reads verb.Point [] event e = absurd (cc)
by_reads verb.Point (what ∷ rest) event e = which_reads (codes "point") (codes "add") (codes "drop") added_point_of dropped_point_of added_point_reads dropped_point_reads what rest event e
by_reads verb.Pair rest event e = pair_reads rest event e
by_reads verb.Unpair rest event e = unpaired_reads rest event e
by_reads verb.Set [] event e = absurd (cc)
by_reads verb.Set (what ∷ rest) event e = which_reads (codes "set") (codes "add") (codes "drop") added_set_of dropped_set_of added_set_reads dropped_set_reads what rest event e
by_reads verb.Link [] event e = absurd (cc)
by_reads verb.Link (what ∷ rest) event e = which_reads (codes "link") (codes "add") (codes "drop") added_link_of dropped_link_of added_link_reads dropped_link_reads what rest event e
by_reads verb.Plan [] event e = absurd (cc)
by_reads verb.Plan (what ∷ rest) event e = which_reads (codes "plan") (codes "set") (codes "drop") plan_of dropped_plan_of plan_reads dropped_plan_reads what rest event e
by_reads verb.Tfr rest event e = tfr_reads rest event e

pub event_reads : (words : List (List ℕ)) (event : Event) → event_of words ≡ Some event → Says event words
event_reads [] event e = absurd (cc)
event_reads (word ∷ rest) event e =
    let h = and_then_Some (verb_of word) (λ v. event_by v rest) event e in
    subst (λ w. Says event (w ∷ rest)) (sym (verb_reads word h.0 h.1)) (by_reads h.0 rest event h.2)
