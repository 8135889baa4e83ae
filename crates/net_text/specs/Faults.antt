-- A value, or the first fault of a network text.
use Rattle.std.specs.Prelude.{Result, Ok, Err}
use Rattle.net_text.specs.declared.faults.LoadFault.{LoadFault}

-- a value or a fault
abbrev pub Answer : Type 0 → Type 0
Answer T = Result T LoadFault

-- the first fault ends it
abbrev pub chain : {A B : Type 0} → Answer A → (A → Answer B) → Answer B
chain (Ok x) f = f x
chain (Err e) f = Err e
