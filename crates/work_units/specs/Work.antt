-- A piece of work: the table of one destination of a numbered network, from what that table reads (own).
use Rattle.std.specs.Prelude.{◌≡◌, ℕ, Option, Some, None, Result, Err, MatchResult}
use Rattle.excerpts.specs.Excerpt.{ExcerptValue}
use Rattle.excerpts.specs.declared.faults.ExcerptFault.{ExcerptFault}
use Rattle.excerpts.specs.declared.faults.ExcerptFault.TheVariants.{NoPlan, OutOfMemory}

-- the number of the version that it is for, and the excerpt of its destination
pub record Work : Type 0 where
  pub version : ℕ
  pub excerpt : ExcerptValue

-- the answer to a request for a job: none without a plan; out of memory comes last
abbrev pub IsJob : ℕ → Option ExcerptValue → Result Work ExcerptFault → Type 0
IsJob version None result = result ≡ Err NoPlan
IsJob version (Some x) result = MatchResult result (λ job. job ≡ record { version = version; excerpt = x }) (λ fault. fault ≡ OutOfMemory)
