-- Lowered text: the branch past the bound hands over a name without a value, and the fault comes first.
use Rattle.std.proofs.Common.{◌≡◌, refl, List, [], ◌∷◌, Some, Option, ap, ◌∙◌}
use Rattle.std.specs.Prelude.{pos, slice_get, map}
use Rattle.std.specs.List.{flat_map}
use Rattle.std.specs.Fmt.{digits}
use Rattle.holder_model.specs.LoweredRun.LowOutcomes.{low_outcome_with}
use Rattle.holder_model.specs.ModuleShapes.{value_shape, ClassShape, ModuleShapes, class_shape, function_shapes, shapes_of}
use Rattle.holder_model.specs.declared.lowered_run.low_fault.LowFault.TheVariants as fault
use Rattle.holder_model_values.specs.RunValues.Shapes as shape
use Rattle.holder_model_values.specs.RunValues.Shapes.{Shape}
use Rattle.instruction_table.specs.declared.op.Op.TheVariants as op
use Rattle.module_runner_examples.proofs.Computed.{both, shapes_told, fault_of_lowered_text}
use Rattle.module_runner_examples.proofs.Opened.{opened}
use Rattle.module_runner_examples.proofs.Told.{seen_int, seen_tuple, at_int, at_tuple}
use Rattle.module_runner_examples.specs.Parts.{v, fn, inst, shapes_with}
use Rattle.module_runner_examples.specs.inner.LoweredFaultBeforeTheBound.{LoweredFaultBeforeTheBound, fn_main, lowered_fault_before_the_bound}
use Rattle.module_runner_examples.specs.inner.Reported.{HasFault}
use Rattle.sil_ast.specs.declared.inst.Inst.{Inst}
use Rattle.sil_ast.specs.declared.type_name.TypeName.TheVariants as type
use Rattle.sil_ast.specs.declared.type_name.TypeName.{TypeName}
use Rattle.sil_types.specs.Typing.RowTypes.{made_types}
use Rattle.sil_types.specs.Typing.Values.{value_types}
use Rattle.sil_types_declarations.specs.TypeDefinitions.Declarations.{ancestors_of, declarations_of}

abbrev classes : List ClassShape
classes = []

classes_told : flat_map (class_shape (declarations_of lowered_fault_before_the_bound)) lowered_fault_before_the_bound.decls ≡ classes
unfolding digits ancestors_of
classes_told = refl

abbrev inst_main_1_0 : Inst
inst_main_1_0 = record (inst op.IntegerLiteral (v 0 ∷ []) []) { ty = Some (type.Int 8); number = Some (pos 1) }

made_main_1_0 : made_types (declarations_of lowered_fault_before_the_bound) inst_main_1_0 ≡ ((type.Int 8) ∷ [])
unfolding digits ancestors_of
made_main_1_0 = simp (opened) refl

abbrev inst_main_2_0 : Inst
inst_main_2_0 = inst op.Tuple (v 2 ∷ []) []

made_main_2_0 : made_types (declarations_of lowered_fault_before_the_bound) inst_main_2_0 ≡ ((type.Tuple []) ∷ [])
unfolding digits ancestors_of
made_main_2_0 = refl

abbrev types_main : List (Option TypeName)
types_main = Some (type.Int 8) ∷ Some (type.Int 8) ∷ Some (type.Tuple []) ∷ []

types_main_told : value_types (declarations_of lowered_fault_before_the_bound) fn_main ≡ types_main
unfolding digits ancestors_of
types_main_told = (both (ap (λ ts. slice_get ts 0) made_main_1_0) (both refl (both (ap (λ ts. slice_get ts 0) made_main_2_0) refl)))

abbrev shapes_main : List Shape
shapes_main = ((shape.Integer 8) ∷ (shape.Integer 8) ∷ (shape.Tuple shape.NoMember) ∷ [])

shapes_main_told : function_shapes (declarations_of lowered_fault_before_the_bound) fn_main ≡ shapes_main
unfolding digits ancestors_of
shapes_main_told = ap (map (value_shape (declarations_of lowered_fault_before_the_bound))) types_main_told ∙ (both (at_int (declarations_of lowered_fault_before_the_bound) 8 ∙ (seen_int
    (declarations_of lowered_fault_before_the_bound) 0 8)) (both (at_int (declarations_of lowered_fault_before_the_bound) 8 ∙ (seen_int (declarations_of lowered_fault_before_the_bound) 0 8))
    (both (at_tuple (declarations_of lowered_fault_before_the_bound) [] ∙ (seen_tuple (declarations_of lowered_fault_before_the_bound) 0 [] [] refl)) refl)))

abbrev shapes : ModuleShapes
shapes = shapes_with classes (shapes_main ∷ [])

told : shapes_of lowered_fault_before_the_bound ≡ shapes
unfolding digits ancestors_of
told = shapes_told lowered_fault_before_the_bound classes_told (both shapes_main_told refl)

lowered_runs : HasFault (low_outcome_with lowered_fault_before_the_bound shapes (fn 0) 1 300) (fault.Missing (record { 0 = 0 }))
unfolding digits ancestors_of
lowered_runs = refl

pub lowered_fault_before_the_bound_proved : LoweredFaultBeforeTheBound
unfolding digits ancestors_of
lowered_fault_before_the_bound_proved = fault_of_lowered_text lowered_fault_before_the_bound (fn 0) 1 300 (fault.Missing (record { 0 = 0 })) told lowered_runs
