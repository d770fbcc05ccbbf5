-- No walk that is taken defines the value.
use Rattle.std.proofs.Common.{◌≡◌, refl, List, [], ◌∷◌, Some, true, Option, ap, ◌∙◌}
use Rattle.std.specs.Prelude.{codes, pos, slice_get, map}
use Rattle.std.specs.List.{flat_map, range_with_len}
use Rattle.std.specs.Fmt.{digits}
use Rattle.holder_model.specs.Calling.{value_count}
use Rattle.holder_model.specs.Faults as holder
use Rattle.holder_model.specs.LoweredRun.LowOutcomes.{low_outcome_with}
use Rattle.holder_model.specs.ModuleFacts.{ModuleFacts, facts_of, function_facts}
use Rattle.holder_model.specs.ModuleShapes.{value_shape, ClassShape, ModuleShapes, class_shape, function_shapes, shapes_of}
use Rattle.holder_model.specs.Outcomes.{outcome_with}
use Rattle.holder_model.specs.declared.lowered_run.low_fault.LowFault.TheVariants as fault
use Rattle.holder_model_values.specs.RunValues.Shapes as shape
use Rattle.holder_model_values.specs.RunValues.Shapes.{Shape}
use Rattle.instruction_table.specs.Forms.{result_kind_of}
use Rattle.instruction_table.specs.declared.op.Op.TheVariants as op
use Rattle.module_runner_examples.proofs.Computed.{both, lowered_with, shapes_told, facts_told, fault_by_holders, fault_of_lowered}
use Rattle.module_runner_examples.proofs.Opened.{opened}
use Rattle.module_runner_examples.proofs.Told.{seen_int, seen_tuple, at_int, at_tuple, weighed_int, weighed_tuple, definition_by}
use Rattle.module_runner_examples.specs.Parts.{v, fn, typed, inst, edge, plain, shapes_with, facts_with}
use Rattle.module_runner_examples.specs.inner.Reported.{HasFault}
use Rattle.module_runner_examples.specs.inner.UsedBeforeItsDefinition.{UsedBeforeItsDefinition, fn_main, sig_main, used_before_its_definition}
use Rattle.ownership_kinds_chains.specs.OwnershipChains.Facts.{value_of}
use Rattle.ownership_kinds_chains.specs.declared.ownership_chains.definition.Definition.{Definition}
use Rattle.ownership_kinds_chains.specs.declared.ownership_chains.facts.Facts.{Facts}
use Rattle.ownership_kinds_origins.specs.Facts.{facts_by}
use Rattle.ownership_kinds_origins.specs.Origins.{definitions_of, result_definition_by}
use Rattle.ownership_lowering_model.specs.LoweredModules.{lowered, lowered_function}
use Rattle.sil_ast.specs.declared.function.Block.{Block}
use Rattle.sil_ast.specs.declared.function.Form.TheVariants as form
use Rattle.sil_ast.specs.declared.function.Function.{Function}
use Rattle.sil_ast.specs.declared.function.Linkage.TheVariants as linkage
use Rattle.sil_ast.specs.declared.inst.Inst.{Inst}
use Rattle.sil_ast.specs.declared.module.Module.{Module}
use Rattle.sil_ast.specs.declared.type_name.TypeName.TheVariants as type
use Rattle.sil_ast.specs.declared.type_name.TypeName.{TypeName}
use Rattle.sil_types.specs.Typing.RowTypes.{made_types}
use Rattle.sil_types.specs.Typing.Values.{value_types}
use Rattle.sil_types_declarations.specs.TypeDefinitions.Declarations.{ancestors_of, declarations_of}
use Rattle.sil_types_declarations.specs.TypeDefinitions.Measures.{is_trivial, is_trivial_measure}

abbrev classes : List ClassShape
classes = []

classes_told : flat_map (class_shape (declarations_of used_before_its_definition)) used_before_its_definition.decls ≡ classes
unfolding digits ancestors_of
classes_told = refl

abbrev inst_main_1_0 : Inst
inst_main_1_0 = record (inst op.IntegerLiteral (v 0 ∷ []) []) { ty = Some (type.Int 64); number = Some (pos 5) }

made_main_1_0 : made_types (declarations_of used_before_its_definition) inst_main_1_0 ≡ ((type.Int 64) ∷ [])
unfolding digits ancestors_of
made_main_1_0 = simp (opened) refl

abbrev inst_main_2_1 : Inst
inst_main_2_1 = inst op.Tuple (v 1 ∷ []) []

made_main_2_1 : made_types (declarations_of used_before_its_definition) inst_main_2_1 ≡ ((type.Tuple []) ∷ [])
unfolding digits ancestors_of
made_main_2_1 = refl

abbrev types_main : List (Option TypeName)
types_main = Some (type.Int 64) ∷ Some (type.Tuple []) ∷ []

types_main_told : value_types (declarations_of used_before_its_definition) fn_main ≡ types_main
unfolding digits ancestors_of
types_main_told = (both (ap (λ ts. slice_get ts 0) made_main_1_0) (both (ap (λ ts. slice_get ts 0) made_main_2_1) refl))

abbrev shapes_main : List Shape
shapes_main = ((shape.Integer 64) ∷ (shape.Tuple shape.NoMember) ∷ [])

shapes_main_told : function_shapes (declarations_of used_before_its_definition) fn_main ≡ shapes_main
unfolding digits ancestors_of
shapes_main_told = ap (map (value_shape (declarations_of used_before_its_definition))) types_main_told ∙ (both (at_int (declarations_of used_before_its_definition) 64 ∙ (seen_int
    (declarations_of used_before_its_definition) 0 64)) (both (at_tuple (declarations_of used_before_its_definition) [] ∙ (seen_tuple (declarations_of used_before_its_definition) 0 [] []
    refl)) refl))

trivial_0 : is_trivial (declarations_of used_before_its_definition) (type.Int 64) ≡ true
unfolding digits ancestors_of
trivial_0 = ap is_trivial_measure (weighed_int (declarations_of used_before_its_definition) 0 64)

trivial_1 : is_trivial (declarations_of used_before_its_definition) (type.Tuple []) ≡ true
unfolding digits ancestors_of
trivial_1 = ap is_trivial_measure (weighed_tuple (declarations_of used_before_its_definition) 0 [] [] refl)

abbrev definitions_main : List Definition
definitions_main = result_definition_by (result_kind_of inst_main_1_0.op) inst_main_1_0 true ∷ result_definition_by (result_kind_of inst_main_2_1.op) inst_main_2_1 true ∷ []

definitions_main_told : definitions_of (declarations_of used_before_its_definition) fn_main ≡ definitions_main
unfolding digits ancestors_of
definitions_main_told = (both (definition_by (declarations_of used_before_its_definition) inst_main_1_0 0 ((type.Int 64) ∷ []) true made_main_1_0 trivial_0) (both (definition_by
    (declarations_of used_before_its_definition) inst_main_2_1 0 ((type.Tuple []) ∷ []) true made_main_2_1 trivial_1) refl))

abbrev shapes : ModuleShapes
shapes = shapes_with classes (shapes_main ∷ [])

told : shapes_of used_before_its_definition ≡ shapes
unfolding digits ancestors_of
told = shapes_told used_before_its_definition classes_told (both shapes_main_told refl)

abbrev facts_main : List (Option Facts)
facts_main = (plain [] ∷ plain [] ∷ [])

facts_main_told : function_facts (declarations_of used_before_its_definition) fn_main ≡ facts_main
unfolding digits ancestors_of
facts_main_told = ap (λ defs. map (λ v. facts_by defs (value_of v)) (range_with_len 0 (value_count fn_main))) definitions_main_told

abbrev facts : ModuleFacts
facts = facts_with shapes (facts_main ∷ [])

all_told : facts_of used_before_its_definition ≡ facts
unfolding digits ancestors_of
all_told = facts_told used_before_its_definition told (both facts_main_told refl)

abbrev low_bb_main_0 : Block
low_bb_main_0 = record {
  args = [];
  insts = [];
  terminator = record (inst op.Br [] []) { edges = edge 2 [] ∷ [] };
}

abbrev low_bb_main_1 : Block
low_bb_main_1 = record {
  args = [];
  insts = record (inst op.IntegerLiteral (v 0 ∷ []) []) { ty = Some (type.Int 64); number = Some (pos 5) } ∷ [];
  terminator = record (inst op.Br [] []) { edges = edge 2 [] ∷ [] };
}

abbrev low_bb_main_2 : Block
low_bb_main_2 = record {
  args = [];
  insts =
      inst op.DebugValue [] (typed 0 (type.Int 64) ∷ [])
      ∷ inst op.Tuple (v 1 ∷ []) []
      ∷ [];
  terminator = inst op.Return [] (typed 1 (type.Tuple []) ∷ []);
}

abbrev low_fn_main : Function
low_fn_main = record {
  name = codes "main";
  form = form.Lowered;
  linkage = linkage.Plain;
  attributes = [];
  signature = sig_main;
  blocks = low_bb_main_0 ∷ low_bb_main_1 ∷ low_bb_main_2 ∷ [];
}

abbrev low : Module
low = record used_before_its_definition { functions = low_fn_main ∷ [] }

low_main_is : lowered_function (declarations_of used_before_its_definition) fn_main ≡ low_fn_main
unfolding digits ancestors_of
low_main_is = refl

lowers : lowered used_before_its_definition ≡ low
unfolding digits ancestors_of
lowers = lowered_with used_before_its_definition (both low_main_is refl)

abbrev inst_low_main_1_0 : Inst
inst_low_main_1_0 = record (inst op.IntegerLiteral (v 0 ∷ []) []) { ty = Some (type.Int 64); number = Some (pos 5) }

made_low_main_1_0 : made_types (declarations_of used_before_its_definition) inst_low_main_1_0 ≡ ((type.Int 64) ∷ [])
unfolding digits ancestors_of
made_low_main_1_0 = simp (opened) refl

abbrev inst_low_main_2_1 : Inst
inst_low_main_2_1 = inst op.Tuple (v 1 ∷ []) []

made_low_main_2_1 : made_types (declarations_of used_before_its_definition) inst_low_main_2_1 ≡ ((type.Tuple []) ∷ [])
unfolding digits ancestors_of
made_low_main_2_1 = refl

abbrev low_types_main : List (Option TypeName)
low_types_main = Some (type.Int 64) ∷ Some (type.Tuple []) ∷ []

low_types_main_told : value_types (declarations_of used_before_its_definition) low_fn_main ≡ low_types_main
unfolding digits ancestors_of
low_types_main_told = (both (ap (λ ts. slice_get ts 0) made_low_main_1_0) (both (ap (λ ts. slice_get ts 0) made_low_main_2_1) refl))

abbrev low_shapes_main : List Shape
low_shapes_main = ((shape.Integer 64) ∷ (shape.Tuple shape.NoMember) ∷ [])

low_shapes_main_told : function_shapes (declarations_of used_before_its_definition) low_fn_main ≡ low_shapes_main
unfolding digits ancestors_of
low_shapes_main_told = ap (map (value_shape (declarations_of used_before_its_definition))) low_types_main_told ∙ (both (at_int (declarations_of used_before_its_definition) 64 ∙ (seen_int
    (declarations_of used_before_its_definition) 0 64)) (both (at_tuple (declarations_of used_before_its_definition) [] ∙ (seen_tuple (declarations_of used_before_its_definition) 0 [] []
    refl)) refl))

abbrev low_shapes : ModuleShapes
low_shapes = shapes_with classes (low_shapes_main ∷ [])

low_told : shapes_of low ≡ low_shapes
unfolding digits ancestors_of
low_told = shapes_told low classes_told (both low_shapes_main_told refl)

runs : HasFault (outcome_with used_before_its_definition facts (fn 0) 100000 300) holder.NoEntry
unfolding digits ancestors_of
runs = refl

lowered_runs : HasFault (low_outcome_with low low_shapes (fn 0) 100000 300) (fault.Missing (record { 0 = 0 }))
unfolding digits ancestors_of
lowered_runs = refl

pub used_before_its_definition_proved : UsedBeforeItsDefinition
unfolding digits ancestors_of
used_before_its_definition_proved = (
  fault_by_holders used_before_its_definition (fn 0) 100000 300 holder.NoEntry all_told runs,
  fault_of_lowered used_before_its_definition (fn 0) 100000 300 (fault.Missing (record { 0 = 0 })) lowers low_told lowered_runs,
)
