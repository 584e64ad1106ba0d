use Rattle.std.proofs.Common.{length, ◌≤◌, int_lt, arith, rules}
use Rattle.std.specs.List.{between}
use Rattle.std.proofs.lemmas.Int.{ints, to_z-of_z}
use Rattle.std.proofs.lemmas.List.Sorted.{IsPartitionPoint-from_clause}
use Rattle.planner.proofs.FirstLevels.{parted, first_parted}
use Rattle.planner.proofs.sweep.first_from.Goals as goal

pub returns : goal.returns
returns c =
    let table = c.args.table.now in
    let low = c.args.low in
    let high = c.args.high in
    let inside : high ≤ length table = omega arith in
    let rising = parted table c.args.bound low high (omega arith) inside c.requires.rising in
    let part = between low high table in
    let point = IsPartitionPoint-from_clause (λ z. int_lt z c.args.bound) part c.partition_point.result c.partition_point.ensures.partitioned rising (λ a r f q. search (rules, ints, to_z-of_z)) in
    first_parted table c.args.bound low high (omega arith) inside c.partition_point.result c.partition_point.ensures.bound point
