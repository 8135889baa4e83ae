use Rattle.std.proofs.Common.{◌≡◌, ℕ, List, [], Bor, get_or, map, length, below_more, arith, rules, sym, ◌∙◌}
use Rattle.std.proofs.lemmas.List.{get_or-map, length-map}
use Rattle.csv.specs.Records.{fields_of}
use Rattle.net_sheets.proofs.RecordLemmas.{same_fields}
use Rattle.net_sheets.proofs.records.is_header.Goals as goal

pub loop-i-preserved : goal.loop-i-preserved
loop-i-preserved c =
    let none : Bor (List ℕ) = record { ref_ptr = (0, 0); now = [] } in
    let same : c.field.result.now ≡ (get_or c.args.header.now c.loop-i.i none).now = search rules in
    below_more _ _ c.loop-i.invariant (sym c.field.ensures ∙ same ∙ sym (get_or-map (λ (name : Bor (List ℕ)). name.now) c.args.header.now c.loop-i.i none [] c.loop-i-test.true))

pub returns : goal.returns
returns c = λ t.
    let many : length (map (λ (name : Bor (List ℕ)). name.now) c.args.header.now) ≡ length c.args.header.now = length-map c.args.header.now (λ (name : Bor (List ℕ)). name.now) in
    same_fields (fields_of c.args.record.now) (map (λ (name : Bor (List ℕ)). name.now) c.args.header.now) (sym c.len.ensures ∙ c.if-len-header.false ∙ sym many)
    (λ k l. c.loop-i.invariant k (omega arith))
