-- A deinitialiser consumes its object, which is lent to it. The lowered release finds the number 0.
use Rattle.std.proofs.Common.{◌≡◌, refl, List, [], ◌∷◌, Some, true, false, Option, ap, ◌∙◌}
use Rattle.std.specs.Prelude.{codes, slice_get, map}
use Rattle.std.specs.List.{flat_map, range_with_len}
use Rattle.std.specs.Fmt.{digits}
use Rattle.holder_model.specs.Calling.{value_count}
use Rattle.holder_model.specs.Faults as holder
use Rattle.holder_model.specs.LoweredRun.LowOutcomes.{low_outcome_with}
use Rattle.holder_model.specs.ModuleFacts.{ModuleFacts, facts_of, function_facts}
use Rattle.holder_model.specs.ModuleShapes.{value_shape, ClassShape, ModuleShapes, class_shape, function_shapes, shapes_of}
use Rattle.holder_model.specs.Outcomes.{outcome_with}
use Rattle.holder_model.specs.declared.lowered_run.low_fault.LowFault.TheVariants as fault
use Rattle.holder_model_values.specs.RunValues.Shapes as shape
use Rattle.holder_model_values.specs.RunValues.Shapes.{Shape}
use Rattle.instruction_table.specs.Forms.{result_kind_of}
use Rattle.instruction_table.specs.declared.op.Op.TheVariants as op
use Rattle.module_runner_examples.proofs.Computed.{both, lowered_with, shapes_told, facts_told, fault_by_holders, fault_of_lowered}
use Rattle.module_runner_examples.proofs.Opened.{opened}
use Rattle.module_runner_examples.proofs.Told.{seen, seen_named, seen_tuple, at_named, at_tuple, weighed, weighed_named, weighed_tuple, definition_by}
use Rattle.module_runner_examples.specs.Parts.{v, fn, typed, inst, arg, owned, lent, plain, class_with, shapes_with, facts_with}
use Rattle.module_runner_examples.specs.inner.LentSelfConsumed.{LentSelfConsumed, fn_C_deinit, fn_main, lent_self_consumed, sig_C_deinit, sig_main, ty_C}
use Rattle.module_runner_examples.specs.inner.Reported.{HasFault}
use Rattle.ownership_kinds_chains.specs.OwnershipChains.Facts.{value_of}
use Rattle.ownership_kinds_chains.specs.declared.ownership_chains.definition.Definition.{Definition}
use Rattle.ownership_kinds_chains.specs.declared.ownership_chains.facts.Facts.{Facts}
use Rattle.ownership_kinds_origins.specs.Facts.{facts_by}
use Rattle.ownership_kinds_origins.specs.Origins.{definitions_of, arg_definition_by, result_definition_by}
use Rattle.ownership_kinds_origins.specs.Switched.{switch_to}
use Rattle.ownership_lowering_model.specs.LoweredModules.{lowered, lowered_function}
use Rattle.sil_ast.specs.declared.function.ArgKind.TheVariants as kind
use Rattle.sil_ast.specs.declared.function.Block.{Block}
use Rattle.sil_ast.specs.declared.function.Form.TheVariants as form
use Rattle.sil_ast.specs.declared.function.Function.{Function}
use Rattle.sil_ast.specs.declared.function.Linkage.TheVariants as linkage
use Rattle.sil_ast.specs.declared.inst.Inst.{Inst}
use Rattle.sil_ast.specs.declared.module.Module.{Module}
use Rattle.sil_ast.specs.declared.type_name.TypeName.TheVariants as type
use Rattle.sil_ast.specs.declared.type_name.TypeName.{TypeName}
use Rattle.sil_types.specs.Typing.RowTypes.{made_types}
use Rattle.sil_types.specs.Typing.Values.{value_types}
use Rattle.sil_types_declarations.specs.TypeDefinitions.Declarations.{ancestors_of, declarations_of}
use Rattle.sil_types_declarations.specs.TypeDefinitions.Measures.{of_reference, is_trivial, is_trivial_measure}
use Rattle.sil_types_declarations.specs.declared.type_definitions.measure.Measure.{Measure}

abbrev shape_C : Shape
shape_C = shape.Reference (codes "C")

abbrev measure_C : Measure
measure_C = of_reference

abbrev classes : List ClassShape
classes = class_with (codes "C") [] ∷ []

classes_told : flat_map (class_shape (declarations_of lent_self_consumed)) lent_self_consumed.decls ≡ classes
unfolding digits ancestors_of
classes_told = (both (ap (class_with (codes "C")) refl) refl)

abbrev inst_C_deinit_0_1 : Inst
inst_C_deinit_0_1 = inst op.Tuple (v 1 ∷ []) []

made_C_deinit_0_1 : made_types (declarations_of lent_self_consumed) inst_C_deinit_0_1 ≡ ((type.Tuple []) ∷ [])
unfolding digits ancestors_of
made_C_deinit_0_1 = refl

abbrev types_C_deinit : List (Option TypeName)
types_C_deinit = Some ty_C ∷ Some (type.Tuple []) ∷ []

types_C_deinit_told : value_types (declarations_of lent_self_consumed) fn_C_deinit ≡ types_C_deinit
unfolding digits ancestors_of
types_C_deinit_told = (both refl (both (ap (λ ts. slice_get ts 0) made_C_deinit_0_1) refl))

abbrev shapes_C_deinit : List Shape
shapes_C_deinit = (shape_C ∷ (shape.Tuple shape.NoMember) ∷ [])

seen_C_1 : seen (declarations_of lent_self_consumed) 1 ty_C ≡ shape_C
unfolding digits ancestors_of
seen_C_1 = seen_named (declarations_of lent_self_consumed) 1 (codes "C")

shapes_C_deinit_told : function_shapes (declarations_of lent_self_consumed) fn_C_deinit ≡ shapes_C_deinit
unfolding digits ancestors_of
shapes_C_deinit_told = ap (map (value_shape (declarations_of lent_self_consumed))) types_C_deinit_told ∙ (both (at_named (declarations_of lent_self_consumed) (codes "C") ∙ seen_C_1) (both
    (at_tuple (declarations_of lent_self_consumed) [] ∙ (seen_tuple (declarations_of lent_self_consumed) 1 [] [] refl)) refl))

weighed_C_1 : weighed (declarations_of lent_self_consumed) 1 ty_C ≡ measure_C
unfolding digits ancestors_of
weighed_C_1 = weighed_named (declarations_of lent_self_consumed) 1 (codes "C")

trivial_0 : is_trivial (declarations_of lent_self_consumed) ty_C ≡ false
unfolding digits ancestors_of
trivial_0 = ap is_trivial_measure weighed_C_1

trivial_1 : is_trivial (declarations_of lent_self_consumed) (type.Tuple []) ≡ true
unfolding digits ancestors_of
trivial_1 = ap is_trivial_measure (weighed_tuple (declarations_of lent_self_consumed) 1 [] [] refl)

abbrev definitions_C_deinit : List Definition
definitions_C_deinit = arg_definition_by true (switch_to fn_C_deinit 0) kind.Guaranteed false ∷ result_definition_by (result_kind_of inst_C_deinit_0_1.op) inst_C_deinit_0_1 true ∷ []

definitions_C_deinit_told : definitions_of (declarations_of lent_self_consumed) fn_C_deinit ≡ definitions_C_deinit
unfolding digits ancestors_of
definitions_C_deinit_told = (both (ap (arg_definition_by true (switch_to fn_C_deinit 0) kind.Guaranteed) trivial_0) (both (definition_by (declarations_of lent_self_consumed)
    inst_C_deinit_0_1 0 ((type.Tuple []) ∷ []) true made_C_deinit_0_1 trivial_1) refl))

abbrev inst_main_0_0 : Inst
inst_main_0_0 = record (inst op.AllocRef (v 0 ∷ []) []) { ty = Some ty_C }

made_main_0_0 : made_types (declarations_of lent_self_consumed) inst_main_0_0 ≡ (ty_C ∷ [])
unfolding digits ancestors_of
made_main_0_0 = simp (opened) refl

abbrev inst_main_0_2 : Inst
inst_main_0_2 = inst op.Tuple (v 1 ∷ []) []

made_main_0_2 : made_types (declarations_of lent_self_consumed) inst_main_0_2 ≡ ((type.Tuple []) ∷ [])
unfolding digits ancestors_of
made_main_0_2 = refl

abbrev types_main : List (Option TypeName)
types_main = Some ty_C ∷ Some (type.Tuple []) ∷ []

types_main_told : value_types (declarations_of lent_self_consumed) fn_main ≡ types_main
unfolding digits ancestors_of
types_main_told = (both (ap (λ ts. slice_get ts 0) made_main_0_0) (both (ap (λ ts. slice_get ts 0) made_main_0_2) refl))

abbrev shapes_main : List Shape
shapes_main = (shape_C ∷ (shape.Tuple shape.NoMember) ∷ [])

shapes_main_told : function_shapes (declarations_of lent_self_consumed) fn_main ≡ shapes_main
unfolding digits ancestors_of
shapes_main_told = ap (map (value_shape (declarations_of lent_self_consumed))) types_main_told ∙ (both (at_named (declarations_of lent_self_consumed) (codes "C") ∙ seen_C_1) (both (at_tuple
    (declarations_of lent_self_consumed) [] ∙ (seen_tuple (declarations_of lent_self_consumed) 1 [] [] refl)) refl))

abbrev definitions_main : List Definition
definitions_main = result_definition_by (result_kind_of inst_main_0_0.op) inst_main_0_0 false ∷ result_definition_by (result_kind_of inst_main_0_2.op) inst_main_0_2 true ∷ []

definitions_main_told : definitions_of (declarations_of lent_self_consumed) fn_main ≡ definitions_main
unfolding digits ancestors_of
definitions_main_told = (both (definition_by (declarations_of lent_self_consumed) inst_main_0_0 0 (ty_C ∷ []) false made_main_0_0 trivial_0) (both (definition_by (declarations_of
    lent_self_consumed) inst_main_0_2 0 ((type.Tuple []) ∷ []) true made_main_0_2 trivial_1) refl))

abbrev shapes : ModuleShapes
shapes = shapes_with classes (shapes_C_deinit ∷ shapes_main ∷ [])

told : shapes_of lent_self_consumed ≡ shapes
unfolding digits ancestors_of
told = shapes_told lent_self_consumed classes_told (both shapes_C_deinit_told (both shapes_main_told refl))

abbrev facts_C_deinit : List (Option Facts)
facts_C_deinit = (lent (v 0 ∷ []) ∷ plain [] ∷ [])

facts_C_deinit_told : function_facts (declarations_of lent_self_consumed) fn_C_deinit ≡ facts_C_deinit
unfolding digits ancestors_of
facts_C_deinit_told = ap (λ defs. map (λ v. facts_by defs (value_of v)) (range_with_len 0 (value_count fn_C_deinit))) definitions_C_deinit_told

abbrev facts_main : List (Option Facts)
facts_main = (owned 0 ∷ plain [] ∷ [])

facts_main_told : function_facts (declarations_of lent_self_consumed) fn_main ≡ facts_main
unfolding digits ancestors_of
facts_main_told = ap (λ defs. map (λ v. facts_by defs (value_of v)) (range_with_len 0 (value_count fn_main))) definitions_main_told

abbrev facts : ModuleFacts
facts = facts_with shapes (facts_C_deinit ∷ facts_main ∷ [])

all_told : facts_of lent_self_consumed ≡ facts
unfolding digits ancestors_of
all_told = facts_told lent_self_consumed told (both facts_C_deinit_told (both facts_main_told refl))

abbrev low_bb_C_deinit_0 : Block
low_bb_C_deinit_0 = record {
  args = arg 0 kind.Plain ty_C ∷ [];
  insts =
      inst op.StrongRelease [] (typed 0 ty_C ∷ [])
      ∷ inst op.Tuple (v 1 ∷ []) []
      ∷ [];
  terminator = inst op.Return [] (typed 1 (type.Tuple []) ∷ []);
}

abbrev low_fn_C_deinit : Function
low_fn_C_deinit = record {
  name = codes "C_deinit";
  form = form.Lowered;
  linkage = linkage.Plain;
  attributes = [];
  signature = sig_C_deinit;
  blocks = low_bb_C_deinit_0 ∷ [];
}

abbrev low_bb_main_0 : Block
low_bb_main_0 = record {
  args = [];
  insts =
      record (inst op.AllocRef (v 0 ∷ []) []) { ty = Some ty_C }
      ∷ inst op.StrongRelease [] (typed 0 ty_C ∷ [])
      ∷ inst op.Tuple (v 1 ∷ []) []
      ∷ [];
  terminator = inst op.Return [] (typed 1 (type.Tuple []) ∷ []);
}

abbrev low_fn_main : Function
low_fn_main = record {
  name = codes "main";
  form = form.Lowered;
  linkage = linkage.Plain;
  attributes = [];
  signature = sig_main;
  blocks = low_bb_main_0 ∷ [];
}

abbrev low : Module
low = record lent_self_consumed { functions = low_fn_C_deinit ∷ low_fn_main ∷ [] }

low_C_deinit_is : lowered_function (declarations_of lent_self_consumed) fn_C_deinit ≡ low_fn_C_deinit
unfolding digits ancestors_of
low_C_deinit_is = simp (opened) refl

low_main_is : lowered_function (declarations_of lent_self_consumed) fn_main ≡ low_fn_main
unfolding digits ancestors_of
low_main_is = simp (opened) refl

lowers : lowered lent_self_consumed ≡ low
unfolding digits ancestors_of
lowers = lowered_with lent_self_consumed (both low_C_deinit_is (both low_main_is refl))

abbrev inst_low_C_deinit_0_1 : Inst
inst_low_C_deinit_0_1 = inst op.Tuple (v 1 ∷ []) []

made_low_C_deinit_0_1 : made_types (declarations_of lent_self_consumed) inst_low_C_deinit_0_1 ≡ ((type.Tuple []) ∷ [])
unfolding digits ancestors_of
made_low_C_deinit_0_1 = refl

abbrev low_types_C_deinit : List (Option TypeName)
low_types_C_deinit = Some ty_C ∷ Some (type.Tuple []) ∷ []

low_types_C_deinit_told : value_types (declarations_of lent_self_consumed) low_fn_C_deinit ≡ low_types_C_deinit
unfolding digits ancestors_of
low_types_C_deinit_told = (both refl (both (ap (λ ts. slice_get ts 0) made_low_C_deinit_0_1) refl))

abbrev low_shapes_C_deinit : List Shape
low_shapes_C_deinit = (shape_C ∷ (shape.Tuple shape.NoMember) ∷ [])

low_shapes_C_deinit_told : function_shapes (declarations_of lent_self_consumed) low_fn_C_deinit ≡ low_shapes_C_deinit
unfolding digits ancestors_of
low_shapes_C_deinit_told = ap (map (value_shape (declarations_of lent_self_consumed))) low_types_C_deinit_told ∙ (both (at_named (declarations_of lent_self_consumed) (codes "C") ∙ seen_C_1)
    (both (at_tuple (declarations_of lent_self_consumed) [] ∙ (seen_tuple (declarations_of lent_self_consumed) 1 [] [] refl)) refl))

abbrev inst_low_main_0_0 : Inst
inst_low_main_0_0 = record (inst op.AllocRef (v 0 ∷ []) []) { ty = Some ty_C }

made_low_main_0_0 : made_types (declarations_of lent_self_consumed) inst_low_main_0_0 ≡ (ty_C ∷ [])
unfolding digits ancestors_of
made_low_main_0_0 = simp (opened) refl

abbrev inst_low_main_0_2 : Inst
inst_low_main_0_2 = inst op.Tuple (v 1 ∷ []) []

made_low_main_0_2 : made_types (declarations_of lent_self_consumed) inst_low_main_0_2 ≡ ((type.Tuple []) ∷ [])
unfolding digits ancestors_of
made_low_main_0_2 = refl

abbrev low_types_main : List (Option TypeName)
low_types_main = Some ty_C ∷ Some (type.Tuple []) ∷ []

low_types_main_told : value_types (declarations_of lent_self_consumed) low_fn_main ≡ low_types_main
unfolding digits ancestors_of
low_types_main_told = (both (ap (λ ts. slice_get ts 0) made_low_main_0_0) (both (ap (λ ts. slice_get ts 0) made_low_main_0_2) refl))

abbrev low_shapes_main : List Shape
low_shapes_main = (shape_C ∷ (shape.Tuple shape.NoMember) ∷ [])

low_shapes_main_told : function_shapes (declarations_of lent_self_consumed) low_fn_main ≡ low_shapes_main
unfolding digits ancestors_of
low_shapes_main_told = ap (map (value_shape (declarations_of lent_self_consumed))) low_types_main_told ∙ (both (at_named (declarations_of lent_self_consumed) (codes "C") ∙ seen_C_1) (both
    (at_tuple (declarations_of lent_self_consumed) [] ∙ (seen_tuple (declarations_of lent_self_consumed) 1 [] [] refl)) refl))

abbrev low_shapes : ModuleShapes
low_shapes = shapes_with classes (low_shapes_C_deinit ∷ low_shapes_main ∷ [])

low_told : shapes_of low ≡ low_shapes
unfolding digits ancestors_of
low_told = shapes_told low classes_told (both low_shapes_C_deinit_told (both low_shapes_main_told refl))

runs : HasFault (outcome_with lent_self_consumed facts (fn 1) 100000 300) holder.ConsumesLent
unfolding digits ancestors_of
runs = refl

lowered_runs : HasFault (low_outcome_with low low_shapes (fn 1) 100000 300) (fault.Underflow (record { 0 = 0 }) 0)
unfolding digits ancestors_of
lowered_runs = refl

pub lent_self_consumed_proved : LentSelfConsumed
unfolding digits ancestors_of
lent_self_consumed_proved = (
  fault_by_holders lent_self_consumed (fn 1) 100000 300 holder.ConsumesLent all_told runs,
  fault_of_lowered lent_self_consumed (fn 1) 100000 300 (fault.Underflow (record { 0 = 0 }) 0) lowers low_told lowered_runs,
)
