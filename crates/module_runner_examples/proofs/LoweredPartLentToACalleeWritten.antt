-- Lowered text: a part of an empty slot is a part in the callee too.
use Rattle.std.proofs.Common.{◌≡◌, refl, List, [], ◌∷◌, Some, None, true, Option, ap, ◌∙◌}
use Rattle.std.specs.Prelude.{codes, pos, slice_get, map}
use Rattle.std.specs.List.{flat_map}
use Rattle.std.specs.Fmt.{digits}
use Rattle.holder_model.specs.LoweredRun.LowOutcomes.{low_outcome_with}
use Rattle.holder_model.specs.ModuleShapes.{value_shape, ClassShape, ModuleShapes, class_shape, function_shapes, shapes_of}
use Rattle.holder_model.specs.declared.lowered_run.low_fault.LowFault.TheVariants as fault
use Rattle.holder_model_values.specs.RunValues.Shapes as shape
use Rattle.holder_model_values.specs.RunValues.Shapes.{Shape}
use Rattle.instruction_table.specs.declared.op.Op.TheVariants as op
use Rattle.module_runner_examples.proofs.Computed.{both, shapes_told, fault_of_lowered_text}
use Rattle.module_runner_examples.proofs.Opened.{opened}
use Rattle.module_runner_examples.proofs.Told.{seen, seen_int, seen_named, seen_tuple, at_int, at_tuple, at_address, struct_seen}
use Rattle.module_runner_examples.specs.Parts.{v, fn, typed, bare, member, inst, shapes_with}
use Rattle.module_runner_examples.specs.inner.LoweredPartLentToACalleeWritten.{LoweredPartLentToACalleeWritten, fn_f, fn_main}
use Rattle.module_runner_examples.specs.inner.LoweredPartLentToACalleeWritten.{lowered_part_lent_to_a_callee_written, sig_f, ty_S}
use Rattle.module_runner_examples.specs.inner.Reported.{HasFault}
use Rattle.sil_ast.specs.declared.inst.Inst.{Inst}
use Rattle.sil_ast.specs.declared.type_name.TypeName.TheVariants as type
use Rattle.sil_ast.specs.declared.type_name.TypeName.{TypeName}
use Rattle.sil_types.specs.Typing.RowTypes.{made_types}
use Rattle.sil_types.specs.Typing.Values.{value_types}
use Rattle.sil_types_declarations.specs.TypeDefinitions.Declarations.{ancestors_of, declarations_of}
use Rattle.sil_types_declarations.specs.TypeDefinitions.Measures.{measured, of_members}
use Rattle.sil_types_declarations.specs.declared.type_definitions.measure.Measure.{Measure}

abbrev shape_S : Shape
shape_S = shape.Struct (codes "S") (shape.Member (shape.Integer 8) shape.NoMember)

abbrev measure_S : Measure
measure_S = of_members ((measured true 1 1) ∷ [])

abbrev classes : List ClassShape
classes = []

classes_told : flat_map (class_shape (declarations_of lowered_part_lent_to_a_callee_written)) lowered_part_lent_to_a_callee_written.decls ≡ classes
unfolding digits ancestors_of
classes_told = refl

abbrev inst_f_0_0 : Inst
inst_f_0_0 = record (inst op.IntegerLiteral (v 1 ∷ []) []) { ty = Some (type.Int 8); number = Some (pos 1) }

made_f_0_0 : made_types (declarations_of lowered_part_lent_to_a_callee_written) inst_f_0_0 ≡ ((type.Int 8) ∷ [])
unfolding digits ancestors_of
made_f_0_0 = simp (opened) refl

abbrev inst_f_0_2 : Inst
inst_f_0_2 = inst op.Tuple (v 2 ∷ []) []

made_f_0_2 : made_types (declarations_of lowered_part_lent_to_a_callee_written) inst_f_0_2 ≡ ((type.Tuple []) ∷ [])
unfolding digits ancestors_of
made_f_0_2 = refl

abbrev types_f : List (Option TypeName)
types_f = Some (type.Address (type.Int 8)) ∷ Some (type.Int 8) ∷ Some (type.Tuple []) ∷ []

types_f_told : value_types (declarations_of lowered_part_lent_to_a_callee_written) fn_f ≡ types_f
unfolding digits ancestors_of
types_f_told = (both refl (both (ap (λ ts. slice_get ts 0) made_f_0_0) (both (ap (λ ts. slice_get ts 0) made_f_0_2) refl)))

abbrev shapes_f : List Shape
shapes_f = ((shape.Integer 8) ∷ (shape.Integer 8) ∷ (shape.Tuple shape.NoMember) ∷ [])

shapes_f_told : function_shapes (declarations_of lowered_part_lent_to_a_callee_written) fn_f ≡ shapes_f
unfolding digits ancestors_of
shapes_f_told = ap (map (value_shape (declarations_of lowered_part_lent_to_a_callee_written))) types_f_told ∙ (both (at_address (declarations_of lowered_part_lent_to_a_callee_written)
    (type.Int 8) ∙ (seen_int (declarations_of lowered_part_lent_to_a_callee_written) 1 8)) (both (at_int (declarations_of lowered_part_lent_to_a_callee_written) 8 ∙ (seen_int
    (declarations_of lowered_part_lent_to_a_callee_written) 1 8)) (both (at_tuple (declarations_of lowered_part_lent_to_a_callee_written) [] ∙ (seen_tuple (declarations_of
    lowered_part_lent_to_a_callee_written) 1 [] [] refl)) refl)))

abbrev inst_main_0_0 : Inst
inst_main_0_0 = record (inst op.AllocStack (v 0 ∷ []) []) { ty = Some ty_S }

made_main_0_0 : made_types (declarations_of lowered_part_lent_to_a_callee_written) inst_main_0_0 ≡ ((type.Address ty_S) ∷ [])
unfolding digits ancestors_of
made_main_0_0 = refl

abbrev inst_main_0_1 : Inst
inst_main_0_1 = record (inst op.StructElementAddr (v 1 ∷ []) (typed 0 (type.Address ty_S) ∷ [])) { member = Some (member (codes "S") (codes "x")) }

made_main_0_1 : made_types (declarations_of lowered_part_lent_to_a_callee_written) inst_main_0_1 ≡ ((type.Address (type.Int 8)) ∷ [])
unfolding digits ancestors_of
made_main_0_1 = simp (opened) refl

abbrev inst_main_0_2 : Inst
inst_main_0_2 = record (inst op.FunctionRef (v 2 ∷ []) []) { function = Some (fn 0); signature = Some sig_f }

made_main_0_2 : made_types (declarations_of lowered_part_lent_to_a_callee_written) inst_main_0_2 ≡ []
unfolding digits ancestors_of
made_main_0_2 = refl

abbrev inst_main_0_3 : Inst
inst_main_0_3 = record (inst op.Apply (v 3 ∷ []) (bare 2 ∷ bare 1 ∷ [])) { signature = Some sig_f }

made_main_0_3 : made_types (declarations_of lowered_part_lent_to_a_callee_written) inst_main_0_3 ≡ ((type.Tuple []) ∷ [])
unfolding digits ancestors_of
made_main_0_3 = refl

abbrev types_main : List (Option TypeName)
types_main = Some (type.Address ty_S) ∷ Some (type.Address (type.Int 8)) ∷ None ∷ Some (type.Tuple []) ∷ []

types_main_told : value_types (declarations_of lowered_part_lent_to_a_callee_written) fn_main ≡ types_main
unfolding digits ancestors_of
types_main_told = (both (ap (λ ts. slice_get ts 0) made_main_0_0) (both (ap (λ ts. slice_get ts 0) made_main_0_1) (both (ap (λ ts. slice_get ts 0) made_main_0_2) (both (ap (λ ts. slice_get
    ts 0) made_main_0_3) refl))))

abbrev shapes_main : List Shape
shapes_main = (shape_S ∷ (shape.Integer 8) ∷ shape.Unknown ∷ (shape.Tuple shape.NoMember) ∷ [])

seen_S_1 : seen (declarations_of lowered_part_lent_to_a_callee_written) 1 ty_S ≡ shape_S
unfolding digits ancestors_of
seen_S_1 = seen_named (declarations_of lowered_part_lent_to_a_callee_written) 1 (codes "S") ∙ struct_seen (codes "S") (seen (declarations_of lowered_part_lent_to_a_callee_written) 0
    (type.Int 8) ∷ []) ((shape.Integer 8) ∷ []) (both (seen_int (declarations_of lowered_part_lent_to_a_callee_written) 0 8) refl)

shapes_main_told : function_shapes (declarations_of lowered_part_lent_to_a_callee_written) fn_main ≡ shapes_main
unfolding digits ancestors_of
shapes_main_told = ap (map (value_shape (declarations_of lowered_part_lent_to_a_callee_written))) types_main_told ∙ (both (at_address (declarations_of lowered_part_lent_to_a_callee_written)
    ty_S ∙ seen_S_1) (both (at_address (declarations_of lowered_part_lent_to_a_callee_written) (type.Int 8) ∙ (seen_int (declarations_of lowered_part_lent_to_a_callee_written) 1 8)) (both
    refl (both (at_tuple (declarations_of lowered_part_lent_to_a_callee_written) [] ∙ (seen_tuple (declarations_of lowered_part_lent_to_a_callee_written) 1 [] [] refl)) refl))))

abbrev shapes : ModuleShapes
shapes = shapes_with classes (shapes_f ∷ shapes_main ∷ [])

told : shapes_of lowered_part_lent_to_a_callee_written ≡ shapes
unfolding digits ancestors_of
told = shapes_told lowered_part_lent_to_a_callee_written classes_told (both shapes_f_told (both shapes_main_told refl))

lowered_runs : HasFault (low_outcome_with lowered_part_lent_to_a_callee_written shapes (fn 1) 100000 300) fault.Empty
unfolding digits ancestors_of
lowered_runs = refl

pub lowered_part_lent_to_a_callee_written_proved : LoweredPartLentToACalleeWritten
unfolding digits ancestors_of
lowered_part_lent_to_a_callee_written_proved = fault_of_lowered_text lowered_part_lent_to_a_callee_written (fn 1) 100000 300 fault.Empty told lowered_runs
