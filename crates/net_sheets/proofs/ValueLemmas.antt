-- Values that are read one after the other.
use Rattle.std.proofs.Common.{◌≡◌, ℕ, ◌+◌, ◌<◌, List, [], ◌∷◌, ◌++◌, length, map, drop, get_or, Ok, Err, refl, ap, sym, ◌∙◌, append_assoc, add-one, drop-cons}
use Rattle.csv.specs.Records.{Row, fields_of}
use Rattle.net_sheets.specs.declared.faults.Flaw.{Flaw}
use Rattle.net_sheets.specs.declared.faults.Flaw.TheVariants.{Column, FifthClass}
use Rattle.net_sheets.specs.declared.faults.Reason.{Reason}
use Rattle.net_sheets.specs.Faults.{IsFieldFault, reason_of}
use Rattle.net_sheets.specs.Tables.{Fields}
use Rattle.net_sheets.specs.Values.{Read, with_first, all_read}

-- what is read, put after what was read
abbrev pub after : {A : Type 0} → List A → Read (List A) → Read (List A)
after ys (Err flaw) = Err flaw
after ys (Ok xs) = Ok (ys ++ xs)

pub after_nothing : {A : Type 0} (r : Read (List A)) → after [] r ≡ r
after_nothing (Err flaw) = refl
after_nothing (Ok xs) = refl

after_first : {A : Type 0} (ys : List A) (y : A) (rest : Read (List A)) → after (ys ++ y ∷ []) rest ≡ after ys (with_first (Ok y) rest)
after_first ys y (Err flaw) = refl
after_first ys y (Ok xs) = ap Ok (append_assoc ys (y ∷ []) xs)

-- one more value
pub value_more : {A : Type 0} (of : Fields → Read A) (table : List Row) (i : ℕ) (record_ : Row) (ys more : List A) (y : A) (total : Read (List A)) → i < length table → record_ ≡ get_or table i record_ → Ok y ≡ of (fields_of record_) → more ≡ ys ++ y ∷ []
    → after ys (all_read of (map fields_of (drop i table))) ≡ total → after more (all_read of (map fields_of (drop (i + 1) table))) ≡ total
value_more of table i r ys more y total here is one e before =
    let rest = all_read of (map fields_of (drop (i + 1) table)) in
    let first : drop i table ≡ r ∷ drop (i + 1) table = drop-cons table i r here ∙ ap (λ n. get_or table i r ∷ drop n table) (sym (add-one i)) ∙ ap (λ x. x ∷ drop (i + 1) table) (sym is) in
    ap (λ xs. after xs rest) e ∙ after_first ys y rest ∙ ap (λ o. after ys (with_first o rest)) one ∙ ap (λ rs. after ys (all_read of (map fields_of rs))) (sym first) ∙ before

-- a record that has no value
pub value_none : {A : Type 0} (of : Fields → Read A) (table : List Row) (i : ℕ) (record_ : Row) (ys : List A) (flaw : Flaw) (total : Read (List A)) → i < length table → record_ ≡ get_or table i record_ → Err flaw ≡ of (fields_of record_)
    → after ys (all_read of (map fields_of (drop i table))) ≡ total → total ≡ Err flaw
value_none of table i r ys flaw total here is one before =
    let rest = all_read of (map fields_of (drop (i + 1) table)) in
    let first : drop i table ≡ r ∷ drop (i + 1) table = drop-cons table i r here ∙ ap (λ n. get_or table i r ∷ drop n table) (sym (add-one i)) ∙ ap (λ x. x ∷ drop (i + 1) table) (sym is) in
    sym before ∙ ap (λ rs. after ys (all_read of (map fields_of rs))) first ∙ ap (λ o. after ys (with_first o rest)) (sym one)

flaw_told : {A : Type 0} (answer : Read (List A)) (flaw : Flaw) → answer ≡ Err flaw → IsFieldFault answer (reason_of flaw)
flaw_told answer (Column n) e = e
flaw_told answer FifthClass e = e

-- what is told of it
pub fault_told : {A : Type 0} (of : Fields → Read A) (table : List Row) (i : ℕ) (record_ : Row) (ys : List A) (flaw : Flaw) (total : Read (List A)) (reason : Reason) → i < length table → record_ ≡ get_or table i record_ → Err flaw ≡ of (fields_of record_)
    → after ys (all_read of (map fields_of (drop i table))) ≡ total → reason ≡ reason_of flaw → IsFieldFault total reason
fault_told of table i r ys flaw total reason here is one before e = rw e (flaw_told total flaw (value_none of table i r ys flaw total here is one before))
