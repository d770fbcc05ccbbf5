use Rattle.std.proofs.Common.{[]}
use Rattle.std.specs.Prelude.{option_map, unwrap_or}
use Rattle.type_check_rows.specs.inner.Views.{made_told}
use Rattle.ownership_kinds_origins.proofs.ResultByResult.{made_more}
use Rattle.ownership_kinds_origins.proofs.results.add_made.Goals as goal

pub loop-k-preserved : goal.loop-k-preserved
loop-k-preserved c =
    made_more c.args.table.now c.args.inst.now (unwrap_or (option_map made_told c.args.made) []) c.loop-k.k c.result_kind_of-kind.result c.is_trivial_result-trivial.result
    c.in_ok-result_definition.field-0
    c.args.defs.now c.loop-k.defs c.push.new.self
    c.result_kind_of-kind.ensures c.is_trivial_result-trivial.ensures c.in_ok-result_definition.ensures c.loop-k.invariant c.in_ok-push.ensures.ok
