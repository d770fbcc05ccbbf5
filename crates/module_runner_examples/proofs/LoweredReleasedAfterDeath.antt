-- Lowered text: the second release finds the object dead.
use Rattle.std.proofs.Common.{◌≡◌, refl, List, [], ◌∷◌, Some, Option, ap, ◌∙◌}
use Rattle.std.specs.Prelude.{codes, slice_get, map}
use Rattle.std.specs.List.{flat_map}
use Rattle.std.specs.Fmt.{digits}
use Rattle.holder_model.specs.LoweredRun.LowOutcomes.{low_outcome_with}
use Rattle.holder_model.specs.ModuleShapes.{value_shape, ClassShape, ModuleShapes, class_shape, function_shapes, shapes_of}
use Rattle.holder_model.specs.declared.lowered_run.low_fault.LowFault.TheVariants as fault
use Rattle.holder_model_values.specs.RunValues.Shapes as shape
use Rattle.holder_model_values.specs.RunValues.Shapes.{Shape}
use Rattle.instruction_table.specs.declared.op.Op.TheVariants as op
use Rattle.module_runner_examples.proofs.Computed.{both, shapes_told, fault_of_lowered_text}
use Rattle.module_runner_examples.proofs.Opened.{opened}
use Rattle.module_runner_examples.proofs.Told.{seen, seen_named, seen_tuple, at_named, at_tuple}
use Rattle.module_runner_examples.specs.Parts.{v, fn, inst, class_with, shapes_with}
use Rattle.module_runner_examples.specs.inner.LoweredReleasedAfterDeath.{LoweredReleasedAfterDeath, fn_main, lowered_released_after_death, ty_C}
use Rattle.module_runner_examples.specs.inner.Reported.{HasFault}
use Rattle.sil_ast.specs.declared.inst.Inst.{Inst}
use Rattle.sil_ast.specs.declared.type_name.TypeName.TheVariants as type
use Rattle.sil_ast.specs.declared.type_name.TypeName.{TypeName}
use Rattle.sil_types.specs.Typing.RowTypes.{made_types}
use Rattle.sil_types.specs.Typing.Values.{value_types}
use Rattle.sil_types_declarations.specs.TypeDefinitions.Declarations.{ancestors_of, declarations_of}
use Rattle.sil_types_declarations.specs.TypeDefinitions.Measures.{of_reference}
use Rattle.sil_types_declarations.specs.declared.type_definitions.measure.Measure.{Measure}

abbrev shape_C : Shape
shape_C = shape.Reference (codes "C")

abbrev measure_C : Measure
measure_C = of_reference

abbrev classes : List ClassShape
classes = class_with (codes "C") [] ∷ []

classes_told : flat_map (class_shape (declarations_of lowered_released_after_death)) lowered_released_after_death.decls ≡ classes
unfolding digits ancestors_of
classes_told = (both (ap (class_with (codes "C")) refl) refl)

abbrev inst_main_0_0 : Inst
inst_main_0_0 = record (inst op.AllocRef (v 0 ∷ []) []) { ty = Some ty_C }

made_main_0_0 : made_types (declarations_of lowered_released_after_death) inst_main_0_0 ≡ (ty_C ∷ [])
unfolding digits ancestors_of
made_main_0_0 = simp (opened) refl

abbrev inst_main_0_3 : Inst
inst_main_0_3 = inst op.Tuple (v 1 ∷ []) []

made_main_0_3 : made_types (declarations_of lowered_released_after_death) inst_main_0_3 ≡ ((type.Tuple []) ∷ [])
unfolding digits ancestors_of
made_main_0_3 = refl

abbrev types_main : List (Option TypeName)
types_main = Some ty_C ∷ Some (type.Tuple []) ∷ []

types_main_told : value_types (declarations_of lowered_released_after_death) fn_main ≡ types_main
unfolding digits ancestors_of
types_main_told = (both (ap (λ ts. slice_get ts 0) made_main_0_0) (both (ap (λ ts. slice_get ts 0) made_main_0_3) refl))

abbrev shapes_main : List Shape
shapes_main = (shape_C ∷ (shape.Tuple shape.NoMember) ∷ [])

seen_C_1 : seen (declarations_of lowered_released_after_death) 1 ty_C ≡ shape_C
unfolding digits ancestors_of
seen_C_1 = seen_named (declarations_of lowered_released_after_death) 1 (codes "C")

shapes_main_told : function_shapes (declarations_of lowered_released_after_death) fn_main ≡ shapes_main
unfolding digits ancestors_of
shapes_main_told = ap (map (value_shape (declarations_of lowered_released_after_death))) types_main_told ∙ (both (at_named (declarations_of lowered_released_after_death) (codes "C") ∙
    seen_C_1) (both (at_tuple (declarations_of lowered_released_after_death) [] ∙ (seen_tuple (declarations_of lowered_released_after_death) 1 [] [] refl)) refl))

abbrev shapes : ModuleShapes
shapes = shapes_with classes (shapes_main ∷ [])

told : shapes_of lowered_released_after_death ≡ shapes
unfolding digits ancestors_of
told = shapes_told lowered_released_after_death classes_told (both shapes_main_told refl)

lowered_runs : HasFault (low_outcome_with lowered_released_after_death shapes (fn 0) 100000 300) (fault.Dead (record { 0 = 0 }))
unfolding digits ancestors_of
lowered_runs = refl

pub lowered_released_after_death_proved : LoweredReleasedAfterDeath
unfolding digits ancestors_of
lowered_released_after_death_proved = fault_of_lowered_text lowered_released_after_death (fn 0) 100000 300 (fault.Dead (record { 0 = 0 })) told lowered_runs
