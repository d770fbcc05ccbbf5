use Rattle.std.proofs.Common.{◌≡◌, ◌++◌, [], map, cond, replicate}
use Rattle.ownership_kinds_origins.specs.Renamings.{renamed, renames}
use Rattle.numbered_form.specs.ValueTables.FirstValue.{value_of}
use Rattle.ownership_kinds_origins.proofs.renamed.add_results.Given as goal

abbrev pub invariant-loop : goal.invariant-loop
invariant-loop l = l.defs ≡ l.initial.defs ++ replicate l.counter (renamed (cond (renames l.inst.op) (map value_of l.inst.operands) []))
