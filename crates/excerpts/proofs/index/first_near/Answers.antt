use Rattle.std.proofs.Common.{ltb, ltb-true, ltb-false, arith, rules}
use Rattle.std.proofs.lemmas.List.Sorted.{IsPartitionPoint-from_clause, IsPartitionedBy-ltb}
use Rattle.excerpts.specs.declared.index.Joint.{Joint}
use Rattle.excerpts.proofs.NextLemmas.{never_fall}
use Rattle.excerpts.proofs.index.first_near.Goals as goal

pub returns : goal.returns
returns c =
    let parted = IsPartitionedBy-ltb (λ (j : Joint). j.pair) c.args.joints.now c.args.pair (never_fall c.args.joints.now c.requires) in
    let point = IsPartitionPoint-from_clause (λ (j : Joint). ltb j.pair c.args.pair) c.args.joints.now c.partition_point.result c.partition_point.ensures.partitioned parted (λ a r f called. search rules) in
    record {
      within = c.partition_point.ensures.bound;
      parts = (λ k d low lt. ltb-true _ _ (point.0 k d (omega arith) lt), λ k d low high. ltb-false _ _ (point.1 k d low high));
    }
