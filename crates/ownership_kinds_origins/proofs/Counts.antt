-- There is a definition and a renaming for each value.
use Rattle.std.proofs.Common.{length}
use Rattle.std.proofs.lemmas.List.{length-map, length-replicate}
use Rattle.std.proofs.lemmas.List.FromFn.{length-map-range_with_len}
use Rattle.numbered_form.proofs.ValueTables.Rows.{rows_count}
use Rattle.ownership_kinds_origins.specs.inner.Laws.{AreOfValues}
use Rattle.ownership_kinds_origins.specs.Origins.{arg_definition, arg_definitions, is_zero, result_definition, result_definitions}
use Rattle.ownership_kinds_origins.specs.Renamings.{arg_renaming, arg_renamings, result_renamings}
use Rattle.ownership_kinds_origins.specs.Switched.{switch_to}

pub are_of_values : AreOfValues
are_of_values d f = (
  rows_count (arg_definitions d f) (result_definitions d)
      (λ n xs. length-map xs (arg_definition d (is_zero n) (switch_to f n))) (λ i. length-map-range_with_len (result_definition d i) 0 (length i.results)) 0 f.blocks,
  rows_count (arg_renamings f) result_renamings (λ n xs. length-map xs (arg_renaming (switch_to f n))) (λ i. length-replicate (length i.results) _) 0 f.blocks,
)
