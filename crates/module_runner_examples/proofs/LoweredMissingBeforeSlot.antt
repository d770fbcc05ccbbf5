-- Lowered text: a name without a value is stored to a slot that is gone.
use Rattle.std.proofs.Common.{◌≡◌, refl, List, [], ◌∷◌, Some, Option, ap, ◌∙◌}
use Rattle.std.specs.Prelude.{pos, slice_get, map}
use Rattle.std.specs.List.{flat_map}
use Rattle.std.specs.Fmt.{digits}
use Rattle.holder_model.specs.LoweredRun.LowOutcomes.{low_outcome_with}
use Rattle.holder_model.specs.ModuleShapes.{value_shape, ClassShape, ModuleShapes, class_shape, function_shapes, shapes_of}
use Rattle.holder_model.specs.declared.lowered_run.low_fault.LowFault.TheVariants as fault
use Rattle.holder_model_values.specs.RunValues.Shapes as shape
use Rattle.holder_model_values.specs.RunValues.Shapes.{Shape}
use Rattle.instruction_table.specs.declared.op.Op.TheVariants as op
use Rattle.module_runner_examples.proofs.Computed.{both, shapes_told, fault_of_lowered_text}
use Rattle.module_runner_examples.proofs.Opened.{opened}
use Rattle.module_runner_examples.proofs.Told.{seen_int, seen_tuple, at_int, at_tuple, at_address}
use Rattle.module_runner_examples.specs.Parts.{v, fn, inst, shapes_with}
use Rattle.module_runner_examples.specs.inner.LoweredMissingBeforeSlot.{LoweredMissingBeforeSlot, fn_main, lowered_missing_before_slot}
use Rattle.module_runner_examples.specs.inner.Reported.{HasFault}
use Rattle.sil_ast.specs.declared.inst.Inst.{Inst}
use Rattle.sil_ast.specs.declared.type_name.TypeName.TheVariants as type
use Rattle.sil_ast.specs.declared.type_name.TypeName.{TypeName}
use Rattle.sil_types.specs.Typing.RowTypes.{made_types}
use Rattle.sil_types.specs.Typing.Values.{value_types}
use Rattle.sil_types_declarations.specs.TypeDefinitions.Declarations.{ancestors_of, declarations_of}

abbrev classes : List ClassShape
classes = []

classes_told : flat_map (class_shape (declarations_of lowered_missing_before_slot)) lowered_missing_before_slot.decls ≡ classes
unfolding digits ancestors_of
classes_told = refl

abbrev inst_main_0_0 : Inst
inst_main_0_0 = record (inst op.AllocStack (v 0 ∷ []) []) { ty = Some (type.Int 8) }

made_main_0_0 : made_types (declarations_of lowered_missing_before_slot) inst_main_0_0 ≡ ((type.Address (type.Int 8)) ∷ [])
unfolding digits ancestors_of
made_main_0_0 = refl

abbrev inst_main_1_0 : Inst
inst_main_1_0 = record (inst op.IntegerLiteral (v 1 ∷ []) []) { ty = Some (type.Int 8); number = Some (pos 1) }

made_main_1_0 : made_types (declarations_of lowered_missing_before_slot) inst_main_1_0 ≡ ((type.Int 8) ∷ [])
unfolding digits ancestors_of
made_main_1_0 = simp (opened) refl

abbrev inst_main_2_1 : Inst
inst_main_2_1 = inst op.Tuple (v 2 ∷ []) []

made_main_2_1 : made_types (declarations_of lowered_missing_before_slot) inst_main_2_1 ≡ ((type.Tuple []) ∷ [])
unfolding digits ancestors_of
made_main_2_1 = refl

abbrev types_main : List (Option TypeName)
types_main = Some (type.Address (type.Int 8)) ∷ Some (type.Int 8) ∷ Some (type.Tuple []) ∷ []

types_main_told : value_types (declarations_of lowered_missing_before_slot) fn_main ≡ types_main
unfolding digits ancestors_of
types_main_told = (both (ap (λ ts. slice_get ts 0) made_main_0_0) (both (ap (λ ts. slice_get ts 0) made_main_1_0) (both (ap (λ ts. slice_get ts 0) made_main_2_1) refl)))

abbrev shapes_main : List Shape
shapes_main = ((shape.Integer 8) ∷ (shape.Integer 8) ∷ (shape.Tuple shape.NoMember) ∷ [])

shapes_main_told : function_shapes (declarations_of lowered_missing_before_slot) fn_main ≡ shapes_main
unfolding digits ancestors_of
shapes_main_told = ap (map (value_shape (declarations_of lowered_missing_before_slot))) types_main_told ∙ (both (at_address (declarations_of lowered_missing_before_slot) (type.Int 8) ∙
    (seen_int (declarations_of lowered_missing_before_slot) 0 8)) (both (at_int (declarations_of lowered_missing_before_slot) 8 ∙ (seen_int (declarations_of lowered_missing_before_slot) 0
    8)) (both (at_tuple (declarations_of lowered_missing_before_slot) [] ∙ (seen_tuple (declarations_of lowered_missing_before_slot) 0 [] [] refl)) refl)))

abbrev shapes : ModuleShapes
shapes = shapes_with classes (shapes_main ∷ [])

told : shapes_of lowered_missing_before_slot ≡ shapes
unfolding digits ancestors_of
told = shapes_told lowered_missing_before_slot classes_told (both shapes_main_told refl)

lowered_runs : HasFault (low_outcome_with lowered_missing_before_slot shapes (fn 0) 100000 300) (fault.Missing (record { 0 = 1 }))
unfolding digits ancestors_of
lowered_runs = refl

pub lowered_missing_before_slot_proved : LoweredMissingBeforeSlot
unfolding digits ancestors_of
lowered_missing_before_slot_proved = fault_of_lowered_text lowered_missing_before_slot (fn 0) 100000 300 (fault.Missing (record { 0 = 1 })) told lowered_runs
