-- Lowered text: an object dies before its field is written, and the field drops nothing.
use Rattle.std.proofs.Common.{◌≡◌, refl, List, [], ◌∷◌, Some, Option, ap, ◌∙◌}
use Rattle.std.specs.Prelude.{codes, slice_get, map}
use Rattle.std.specs.List.{flat_map}
use Rattle.std.specs.Fmt.{digits}
use Rattle.holder_model.specs.LoweredRun.LowOutcomes.{low_outcome_with}
use Rattle.holder_model.specs.ModuleShapes.{value_shape, ClassShape, ModuleShapes, class_shape, function_shapes, shapes_of}
use Rattle.holder_model_values.specs.RunValues.Shapes as shape
use Rattle.holder_model_values.specs.RunValues.Shapes.{Shape}
use Rattle.instruction_table.specs.declared.op.Op.TheVariants as op
use Rattle.module_runner_examples.proofs.Computed.{both, shapes_told, of_lowered_text}
use Rattle.module_runner_examples.proofs.Opened.{opened}
use Rattle.module_runner_examples.proofs.Told.{seen, seen_named, seen_tuple, at_named, at_tuple}
use Rattle.module_runner_examples.specs.Parts.{v, fn, inst, class_with, shapes_with}
use Rattle.module_runner_examples.specs.inner.LoweredUnwrittenFieldIsSkipped.{LoweredUnwrittenFieldIsSkipped, fn_main, lowered_unwritten_field_is_skipped}
use Rattle.module_runner_examples.specs.inner.LoweredUnwrittenFieldIsSkipped.{lowered_unwritten_field_is_skipped_answer, ty_B, ty_C}
use Rattle.module_runner_examples.specs.inner.Reported.{HasReport, returned_shape}
use Rattle.sil_ast.specs.declared.inst.Inst.{Inst}
use Rattle.sil_ast.specs.declared.type_name.TypeName.TheVariants as type
use Rattle.sil_ast.specs.declared.type_name.TypeName.{TypeName}
use Rattle.sil_types.specs.Typing.RowTypes.{made_types}
use Rattle.sil_types.specs.Typing.Values.{value_types}
use Rattle.sil_types_declarations.specs.TypeDefinitions.Declarations.{ancestors_of, declarations_of}
use Rattle.sil_types_declarations.specs.TypeDefinitions.Measures.{of_reference}
use Rattle.sil_types_declarations.specs.declared.type_definitions.measure.Measure.{Measure}

abbrev shape_B : Shape
shape_B = shape.Reference (codes "B")

abbrev measure_B : Measure
measure_B = of_reference

abbrev shape_C : Shape
shape_C = shape.Reference (codes "C")

abbrev measure_C : Measure
measure_C = of_reference

abbrev classes : List ClassShape
classes = class_with (codes "B") (shape_C ∷ []) ∷ class_with (codes "C") [] ∷ []

seen_C_2 : seen (declarations_of lowered_unwritten_field_is_skipped) 2 ty_C ≡ shape_C
unfolding digits ancestors_of
seen_C_2 = seen_named (declarations_of lowered_unwritten_field_is_skipped) 2 (codes "C")

classes_told : flat_map (class_shape (declarations_of lowered_unwritten_field_is_skipped)) lowered_unwritten_field_is_skipped.decls ≡ classes
unfolding digits ancestors_of
classes_told = (both (ap (class_with (codes "B")) (both seen_C_2 refl)) (both (ap (class_with (codes "C")) refl) refl))

abbrev inst_main_0_0 : Inst
inst_main_0_0 = record (inst op.AllocRef (v 0 ∷ []) []) { ty = Some ty_B }

made_main_0_0 : made_types (declarations_of lowered_unwritten_field_is_skipped) inst_main_0_0 ≡ (ty_B ∷ [])
unfolding digits ancestors_of
made_main_0_0 = simp (opened) refl

abbrev inst_main_0_2 : Inst
inst_main_0_2 = inst op.Tuple (v 1 ∷ []) []

made_main_0_2 : made_types (declarations_of lowered_unwritten_field_is_skipped) inst_main_0_2 ≡ ((type.Tuple []) ∷ [])
unfolding digits ancestors_of
made_main_0_2 = refl

abbrev types_main : List (Option TypeName)
types_main = Some ty_B ∷ Some (type.Tuple []) ∷ []

types_main_told : value_types (declarations_of lowered_unwritten_field_is_skipped) fn_main ≡ types_main
unfolding digits ancestors_of
types_main_told = (both (ap (λ ts. slice_get ts 0) made_main_0_0) (both (ap (λ ts. slice_get ts 0) made_main_0_2) refl))

abbrev shapes_main : List Shape
shapes_main = (shape_B ∷ (shape.Tuple shape.NoMember) ∷ [])

seen_B_2 : seen (declarations_of lowered_unwritten_field_is_skipped) 2 ty_B ≡ shape_B
unfolding digits ancestors_of
seen_B_2 = seen_named (declarations_of lowered_unwritten_field_is_skipped) 2 (codes "B")

shapes_main_told : function_shapes (declarations_of lowered_unwritten_field_is_skipped) fn_main ≡ shapes_main
unfolding digits ancestors_of
shapes_main_told = ap (map (value_shape (declarations_of lowered_unwritten_field_is_skipped))) types_main_told ∙ (both (at_named (declarations_of lowered_unwritten_field_is_skipped) (codes
    "B") ∙ seen_B_2) (both (at_tuple (declarations_of lowered_unwritten_field_is_skipped) [] ∙ (seen_tuple (declarations_of lowered_unwritten_field_is_skipped) 2 [] [] refl)) refl))

abbrev shapes : ModuleShapes
shapes = shapes_with classes (shapes_main ∷ [])

told : shapes_of lowered_unwritten_field_is_skipped ≡ shapes
unfolding digits ancestors_of
told = shapes_told lowered_unwritten_field_is_skipped classes_told (both shapes_main_told refl)

abbrev given_shape : Shape
given_shape = (shape.Tuple shape.NoMember)

given_told : returned_shape lowered_unwritten_field_is_skipped (fn 0) ≡ given_shape
unfolding digits ancestors_of
given_told = (seen_tuple (declarations_of lowered_unwritten_field_is_skipped) 2 [] [] refl)

lowered_runs : HasReport lowered_unwritten_field_is_skipped given_shape (low_outcome_with lowered_unwritten_field_is_skipped shapes (fn 0) 100000 300)
    lowered_unwritten_field_is_skipped_answer
unfolding digits ancestors_of
lowered_runs = refl

pub lowered_unwritten_field_is_skipped_proved : LoweredUnwrittenFieldIsSkipped
unfolding digits ancestors_of
lowered_unwritten_field_is_skipped_proved = of_lowered_text lowered_unwritten_field_is_skipped (fn 0) 100000 300 lowered_unwritten_field_is_skipped_answer given_told told lowered_runs
