-- Lowered text: the stored number is 2, where one holder is left.
use Rattle.std.proofs.Common.{◌≡◌, refl, List, [], ◌∷◌, Some, Option, ap, ◌∙◌}
use Rattle.std.specs.Prelude.{codes, slice_get, map}
use Rattle.std.specs.List.{flat_map}
use Rattle.std.specs.Fmt.{digits}
use Rattle.holder_model.specs.LoweredRun.LowOutcomes.{low_outcome_with}
use Rattle.holder_model.specs.ModuleShapes.{value_shape, ClassShape, ModuleShapes, class_shape, function_shapes, shapes_of}
use Rattle.holder_model_values.specs.RunValues.Shapes as shape
use Rattle.holder_model_values.specs.RunValues.Shapes.{Shape}
use Rattle.instruction_table.specs.declared.op.Op.TheVariants as op
use Rattle.module_runner_examples.proofs.Computed.{both, shapes_told, of_lowered_text}
use Rattle.module_runner_examples.proofs.Opened.{opened}
use Rattle.module_runner_examples.proofs.Told.{seen, seen_named, at_named}
use Rattle.module_runner_examples.specs.Parts.{v, fn, inst, class_with, shapes_with}
use Rattle.module_runner_examples.specs.inner.LoweredRetainedWithoutARelease.{LoweredRetainedWithoutARelease, fn_main, lowered_retained_without_a_release}
use Rattle.module_runner_examples.specs.inner.LoweredRetainedWithoutARelease.{lowered_retained_without_a_release_answer, ty_C}
use Rattle.module_runner_examples.specs.inner.Reported.{HasReport, returned_shape}
use Rattle.sil_ast.specs.declared.inst.Inst.{Inst}
use Rattle.sil_ast.specs.declared.type_name.TypeName.{TypeName}
use Rattle.sil_types.specs.Typing.RowTypes.{made_types}
use Rattle.sil_types.specs.Typing.Values.{value_types}
use Rattle.sil_types_declarations.specs.TypeDefinitions.Declarations.{ancestors_of, declarations_of}
use Rattle.sil_types_declarations.specs.TypeDefinitions.Measures.{of_reference}
use Rattle.sil_types_declarations.specs.declared.type_definitions.measure.Measure.{Measure}

abbrev shape_C : Shape
shape_C = shape.Reference (codes "C")

abbrev measure_C : Measure
measure_C = of_reference

abbrev classes : List ClassShape
classes = class_with (codes "C") [] ∷ []

classes_told : flat_map (class_shape (declarations_of lowered_retained_without_a_release)) lowered_retained_without_a_release.decls ≡ classes
unfolding digits ancestors_of
classes_told = (both (ap (class_with (codes "C")) refl) refl)

abbrev inst_main_0_0 : Inst
inst_main_0_0 = record (inst op.AllocRef (v 0 ∷ []) []) { ty = Some ty_C }

made_main_0_0 : made_types (declarations_of lowered_retained_without_a_release) inst_main_0_0 ≡ (ty_C ∷ [])
unfolding digits ancestors_of
made_main_0_0 = simp (opened) refl

abbrev types_main : List (Option TypeName)
types_main = Some ty_C ∷ []

types_main_told : value_types (declarations_of lowered_retained_without_a_release) fn_main ≡ types_main
unfolding digits ancestors_of
types_main_told = (both (ap (λ ts. slice_get ts 0) made_main_0_0) refl)

abbrev shapes_main : List Shape
shapes_main = (shape_C ∷ [])

seen_C_1 : seen (declarations_of lowered_retained_without_a_release) 1 ty_C ≡ shape_C
unfolding digits ancestors_of
seen_C_1 = seen_named (declarations_of lowered_retained_without_a_release) 1 (codes "C")

shapes_main_told : function_shapes (declarations_of lowered_retained_without_a_release) fn_main ≡ shapes_main
unfolding digits ancestors_of
shapes_main_told = ap (map (value_shape (declarations_of lowered_retained_without_a_release))) types_main_told ∙ (both (at_named (declarations_of lowered_retained_without_a_release) (codes
    "C") ∙ seen_C_1) refl)

abbrev shapes : ModuleShapes
shapes = shapes_with classes (shapes_main ∷ [])

told : shapes_of lowered_retained_without_a_release ≡ shapes
unfolding digits ancestors_of
told = shapes_told lowered_retained_without_a_release classes_told (both shapes_main_told refl)

abbrev given_shape : Shape
given_shape = shape_C

given_told : returned_shape lowered_retained_without_a_release (fn 0) ≡ given_shape
unfolding digits ancestors_of
given_told = seen_C_1

lowered_runs : HasReport lowered_retained_without_a_release given_shape (low_outcome_with lowered_retained_without_a_release shapes (fn 0) 100000 300)
    lowered_retained_without_a_release_answer
unfolding digits ancestors_of
lowered_runs = refl

pub lowered_retained_without_a_release_proved : LoweredRetainedWithoutARelease
unfolding digits ancestors_of
lowered_retained_without_a_release_proved = of_lowered_text lowered_retained_without_a_release (fn 0) 100000 300 lowered_retained_without_a_release_answer given_told told lowered_runs
