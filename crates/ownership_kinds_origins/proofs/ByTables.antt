-- What is told of each value by a table of switches is what is told of it by the switches themselves.
use Rattle.std.proofs.Common.{◌≡◌, ℕ, ◌+◌, ◌<◌, List, [], ◌++◌, map, length, get_or, take, refl, sym, ap, ◌∙◌, arith, Option}
use Rattle.std.specs.List.{flat_map}
use Rattle.sil_ast.specs.declared.function.Block.{Block}
use Rattle.sil_ast.specs.declared.function.Function.{Function}
use Rattle.numbered_form.specs.Insts.{insts_of}
use Rattle.sil_types.specs.sil_types_declarations.TypeDefinitions.Declarations.{Declarations}
use Rattle.numbered_form.proofs.ValueTables.Rows.{rows_next, same_args}
use Rattle.numbered_form.specs.ValueTables.ValueRows.{rows_from, value_rows}
use Rattle.ownership_kinds_chains.specs.declared.ownership_chains.definition.Definition.{Definition}
use Rattle.ownership_kinds_origins.specs.Origins.{arg_definition, arg_definitions, definitions_of, is_zero, result_definitions}
use Rattle.ownership_kinds_origins.specs.Renamings.{arg_renaming, arg_renamings, renamings_of, result_renamings}
use Rattle.ownership_kinds_origins.specs.inner.Tables.{AreSwitches, switch_at}
use Rattle.ownership_kinds_origins.specs.declared.switched.Switched.{Switched}

module _ (f : Function) (table : List (Option Switched)) (noted : AreSwitches f table) where
  pub definitions_by : (d : Declarations) → value_rows (λ n. map (arg_definition d (is_zero n) (switch_at table n))) (result_definitions d) f ≡ definitions_of d f
  definitions_by d =
      same_args (λ n. map (arg_definition d (is_zero n) (switch_at table n))) (arg_definitions d f) (result_definitions d) 0 f.blocks
      (λ k xs le lt. ap (λ s. map (arg_definition d (is_zero k) s) xs) (noted.each k (omega arith)))

  pub renamings_by : value_rows (λ n. map (arg_renaming (switch_at table n))) result_renamings f ≡ renamings_of f
  renamings_by =
      same_args (λ n. map (arg_renaming (switch_at table n))) (arg_renamings f) result_renamings 0 f.blocks
      (λ k xs le lt. ap (λ s. map (arg_renaming s) xs) (noted.each k (omega arith)))

  -- the renamings of one block more
  pub renamings_next : (slice : List Block) (k : ℕ) (b : Block) (s : Option Switched) → slice ≡ f.blocks → k < length slice → b ≡ get_or slice k b → s ≡ switch_at table k →
      rows_from (arg_renamings f) result_renamings 0 (take (k + 1) f.blocks)
      ≡ rows_from (arg_renamings f) result_renamings 0 (take k f.blocks) ++ (map (arg_renaming s) b.args ++ flat_map result_renamings (insts_of b))
  renamings_next slice k b s all lt is told =
      let len : length slice ≡ length f.blocks = ap length all in
      let old : List Definition = rows_from (arg_renamings f) result_renamings 0 (take k f.blocks) in
      sym (rows_next (arg_renamings f) result_renamings f.blocks slice k b [] old (old ++ (map (arg_renaming s) b.args ++ flat_map result_renamings (insts_of b))) all lt is refl
      (ap (λ x. old ++ (map (arg_renaming x) b.args ++ flat_map result_renamings (insts_of b))) (told ∙ noted.each k (omega arith))))
