-- What is written is read.
use Rattle.std.proofs.Common.{◌≡◌, ◌↔◌, inl, inr, ℕ, ◌<◌, ◌==◌, Bool, true, false, cond, List, map, length, Option, Some, None, option_map, option_and_then, ap, refl, ◌∙◌, arith}
use Rattle.std.proofs.lemmas.Bool.Decides.{nat_tests}
use Rattle.std.proofs.lemmas.List.{length-map}
use Rattle.std.specs.Fmt.{decimal}
use Rattle.link_state.specs.declared.marks.End.TheVariants.{First, Second}
use Rattle.link_state.specs.declared.marks.LinkChange.{LinkChange}
use Rattle.link_state.specs.declared.marks.LinkChange.TheVariants.{Fail, Restore, Block, Unblock, Inhibit, Uninhibit}
use Rattle.net_items.specs.declared.items.Kind.{Kind}
use Rattle.net_items.specs.declared.items.Kind.TheVariants.{Sep, Stp}
use Rattle.net_data.specs.declared.events.Event.{Event}
use Rattle.net_data.specs.declared.events.Event.TheVariants as on
use Rattle.point_codes.specs.Codes.{code_of, code_text}
use Rattle.point_codes.proofs.NumberLemmas.{number_written}
use Rattle.point_codes.proofs.CodeLemmas.{code_written}
use Rattle.tokens.specs.Kinds.{kind_of, kind_text}
use Rattle.tokens.specs.Numbers.{id_of, slc_of}
use Rattle.tokens.specs.Pieces.{all_of}
use Rattle.tokens.specs.Rows.{row_of, row_text, IsRow}
use Rattle.tokens.proofs.PiecesLemmas.{all_written}
use Rattle.tokens.proofs.RowLemmas.{row_writes}
use Rattle.script_words.specs.Events.{change_by, set_from, event_of}
use Rattle.script_words.specs.EventWords.{change_words, event_words, short_change, short_words, IsWritten, IsId, IsSlc, IsEvent}
use Rattle.script_words.proofs.EventLemmas.{event_reads}

one_written : {A : Type 0} (o : Option A) (make : A → Event) (x : A) → o ≡ Some x → option_map (λ x. make x) o ≡ Some (make x)
one_written o make x h = rw h refl

two_written : {A B : Type 0} (o : Option A) (p : Option B) (make : A → B → Event) (x : A) (y : B) → o ≡ Some x → p ≡ Some y → option_and_then (λ x. option_map (λ y. make x y) p) o ≡ Some (make x y)
two_written o p make x y h k = rw (h, k) refl

id_written : (i : ℕ) → IsId i → id_of (decimal i) ≡ Some i
id_written i h = number_written 65535 i (omega arith) h

slc_written : (s : ℕ) → IsSlc s → slc_of (decimal s) ≡ Some s
slc_written s h = number_written 255 s (omega arith) h

kind_written : (kind : Kind) → kind_of (kind_text kind) ≡ Some kind
kind_written Sep = refl
kind_written Stp = refl

-- ---- changes of links

change_written : (change : LinkChange) (i s : ℕ) → IsId i × IsSlc s → change_by change (decimal i) (decimal s) ≡ Some (on.Link i s change)
change_written change i s h = two_written (id_of (decimal i)) (slc_of (decimal s)) (λ i s. on.Link i s change) i s (id_written i h.0) (slc_written s h.1)

link_writes : (change : LinkChange) (i s : ℕ) → IsId i × IsSlc s → event_of (change_words (decimal i) (decimal s) change) ≡ Some (on.Link i s change)
link_writes Fail i s h = change_written Fail i s h
link_writes Restore i s h = change_written Restore i s h
link_writes (Block First) i s h = change_written (Block First) i s h
link_writes (Block Second) i s h = change_written (Block Second) i s h
link_writes (Unblock First) i s h = change_written (Unblock First) i s h
link_writes (Unblock Second) i s h = change_written (Unblock Second) i s h
link_writes (Inhibit First) i s h = change_written (Inhibit First) i s h
link_writes (Inhibit Second) i s h = change_written (Inhibit Second) i s h
link_writes (Uninhibit First) i s h = change_written (Uninhibit First) i s h
link_writes (Uninhibit Second) i s h = change_written (Uninhibit Second) i s h

short_link_writes : (change : LinkChange) (i s : ℕ) → IsId i × IsSlc s → event_of (short_change (decimal i) (decimal s) change) ≡ Some (on.Link i s change)
short_link_writes (Block First) i s h = change_written (Block First) i s h
short_link_writes (Unblock First) i s h = change_written (Unblock First) i s h
short_link_writes (Inhibit First) i s h = change_written (Inhibit First) i s h
short_link_writes (Uninhibit First) i s h = change_written (Uninhibit First) i s h
short_link_writes change i s h = link_writes change i s h

-- ---- new sets

some_left : (n m : ℕ) → n ≡ m → 0 < m → (n == 0) ≡ false
some_left n m same some = grind (arith, nat_tests)

set_at : (slcs : List ℕ) (i p q : ℕ) (list : Option (List ℕ)) (id a b : Option ℕ) (none : Bool) → none ≡ false → list ≡ Some slcs → id ≡ Some i → a ≡ Some p → b ≡ Some q
    → cond none None (option_and_then (λ ss. set_from ss id a b) list) ≡ Some (on.AddSet i p q slcs)
set_at slcs i p q list id a b none h0 h1 h2 h3 h4 = rw (h0, h1, h2, h3, h4) refl

set_writes : (i p q : ℕ) (slcs : List ℕ) → IsEvent (on.AddSet i p q slcs) → event_of (event_words (on.AddSet i p q slcs)) ≡ Some (on.AddSet i p q slcs)
set_writes i p q slcs h =
    set_at slcs i p q (all_of slc_of (map decimal slcs)) (id_of (decimal i)) (code_of (code_text p)) (code_of (code_text q)) (length (map decimal slcs) == 0)
    (some_left (length (map decimal slcs)) (length slcs) (length-map slcs decimal) h.3) (all_written slc_of decimal IsSlc slc_written slcs h.4) (id_written i h.0) (code_written p h.1) (code_written q h.2)

-- ---- events

pub event_writes : (event : Event) → IsEvent event → event_of (event_words event) ≡ Some event
event_writes (on.Link i s change) h = link_writes change i s h
event_writes (on.AddPoint c kind) h = two_written (code_of (code_text c)) (kind_of (kind_text kind)) (λ c k. on.AddPoint c k) c kind (code_written c h) (kind_written kind)
event_writes (on.RemovePoint c) h = one_written (code_of (code_text c)) (λ c. on.RemovePoint c) c (code_written c h)
event_writes (on.Pair p q) h = two_written (code_of (code_text p)) (code_of (code_text q)) (λ p q. on.Pair p q) p q (code_written p h.0) (code_written q h.1)
event_writes (on.Unpair c) h = one_written (code_of (code_text c)) (λ c. on.Unpair c) c (code_written c h)
event_writes (on.AddSet i p q slcs) h = set_writes i p q slcs h
event_writes (on.RemoveSet i) h = one_written (id_of (decimal i)) (λ i. on.RemoveSet i) i (id_written i h)
event_writes (on.AddLink i s) h = two_written (id_of (decimal i)) (slc_of (decimal s)) (λ i s. on.AddLink i s) i s (id_written i h.0) (slc_written s h.1)
event_writes (on.RemoveLink i s) h = two_written (id_of (decimal i)) (slc_of (decimal s)) (λ i s. on.RemoveLink i s) i s (id_written i h.0) (slc_written s h.1)
event_writes (on.SetPlan plan) h =
    two_written (code_of (code_text plan.dest)) (all_of row_of (map row_text plan.rows)) (λ c rs. on.SetPlan (record { dest = c; rows = rs })) plan.dest plan.rows
    (code_written plan.dest h.0) (all_written row_of row_text IsRow row_writes plan.rows h.1)
event_writes (on.DropPlan c) h = one_written (code_of (code_text c)) (λ c. on.DropPlan c) c (code_written c h)
event_writes (on.SetTfr true) h = refl
event_writes (on.SetTfr false) h = refl

short_writes : (event : Event) → IsEvent event → event_of (short_words event) ≡ Some event
short_writes (on.Link i s change) h = short_link_writes change i s h
short_writes event h = event_writes event h

pub event_law : (event : Event) (words : List (List ℕ)) → (event_of words ≡ Some event) ↔ (IsEvent event × IsWritten event words)
event_law event words = (event_reads words event, λ h. elim h.1 [ inl w ↦ ap event_of w ∙ event_writes event h.0 | inr w ↦ ap event_of w ∙ short_writes event h.0 ])
