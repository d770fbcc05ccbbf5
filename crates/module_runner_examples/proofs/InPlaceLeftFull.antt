-- A callee doesn't take the object out of an @in place, so no one drops it.
use Rattle.std.proofs.Common.{◌≡◌, refl, List, [], ◌∷◌, Some, None, true, false, Option, ap, ◌∙◌}
use Rattle.std.specs.Prelude.{codes, slice_get, map}
use Rattle.std.specs.List.{flat_map, range_with_len}
use Rattle.std.specs.Fmt.{digits}
use Rattle.holder_model.specs.Calling.{value_count}
use Rattle.holder_model.specs.Faults as holder
use Rattle.holder_model.specs.LoweredRun.LowOutcomes.{low_outcome_with}
use Rattle.holder_model.specs.ModuleFacts.{ModuleFacts, facts_of, function_facts}
use Rattle.holder_model.specs.ModuleShapes.{value_shape, ClassShape, ModuleShapes, class_shape, function_shapes, shapes_of}
use Rattle.holder_model.specs.Outcomes.{outcome_with}
use Rattle.holder_model_values.specs.RunValues.Shapes as shape
use Rattle.holder_model_values.specs.RunValues.Shapes.{Shape}
use Rattle.instruction_table.specs.Forms.{result_kind_of}
use Rattle.instruction_table.specs.declared.op.Op.TheVariants as op
use Rattle.module_runner_examples.proofs.Computed.{both, lowered_with, shapes_told, facts_told, of_lowered, fault_by_holders}
use Rattle.module_runner_examples.proofs.Opened.{opened}
use Rattle.module_runner_examples.proofs.Told.{seen, seen_named, seen_tuple, at_named, at_tuple, at_address, weighed, weighed_named, weighed_tuple}
use Rattle.module_runner_examples.proofs.Told.{weighed_address, definition_by}
use Rattle.module_runner_examples.specs.Parts.{v, fn, typed, bare, inst, arg, owned, plain, class_with, shapes_with, facts_with}
use Rattle.module_runner_examples.specs.inner.InPlaceLeftFull.{InPlaceLeftFull, fn_f, fn_main, in_place_left_full, in_place_left_full_answer, sig_f}
use Rattle.module_runner_examples.specs.inner.InPlaceLeftFull.{sig_main, ty_C}
use Rattle.module_runner_examples.specs.inner.Reported.{HasReport, HasFault, returned_shape}
use Rattle.ownership_kinds_chains.specs.OwnershipChains.Facts.{value_of}
use Rattle.ownership_kinds_chains.specs.declared.ownership_chains.definition.Definition.{Definition}
use Rattle.ownership_kinds_chains.specs.declared.ownership_chains.facts.Facts.{Facts}
use Rattle.ownership_kinds_origins.specs.Facts.{facts_by}
use Rattle.ownership_kinds_origins.specs.Origins.{definitions_of, arg_definition_by, result_definition_by}
use Rattle.ownership_kinds_origins.specs.Switched.{switch_to}
use Rattle.ownership_lowering_model.specs.LoweredModules.{lowered, lowered_function}
use Rattle.sil_ast.specs.declared.function.ArgKind.TheVariants as kind
use Rattle.sil_ast.specs.declared.function.Block.{Block}
use Rattle.sil_ast.specs.declared.function.Form.TheVariants as form
use Rattle.sil_ast.specs.declared.function.Function.{Function}
use Rattle.sil_ast.specs.declared.function.Linkage.TheVariants as linkage
use Rattle.sil_ast.specs.declared.inst.Inst.{Inst}
use Rattle.sil_ast.specs.declared.module.Module.{Module}
use Rattle.sil_ast.specs.declared.type_name.TypeName.TheVariants as type
use Rattle.sil_ast.specs.declared.type_name.TypeName.{TypeName}
use Rattle.sil_types.specs.Typing.RowTypes.{made_types}
use Rattle.sil_types.specs.Typing.Values.{value_types}
use Rattle.sil_types_declarations.specs.TypeDefinitions.Declarations.{ancestors_of, declarations_of}
use Rattle.sil_types_declarations.specs.TypeDefinitions.Measures.{of_reference, is_trivial, is_trivial_measure}
use Rattle.sil_types_declarations.specs.declared.type_definitions.measure.Measure.{Measure}

abbrev shape_C : Shape
shape_C = shape.Reference (codes "C")

abbrev measure_C : Measure
measure_C = of_reference

abbrev classes : List ClassShape
classes = class_with (codes "C") [] ∷ []

classes_told : flat_map (class_shape (declarations_of in_place_left_full)) in_place_left_full.decls ≡ classes
unfolding digits ancestors_of
classes_told = (both (ap (class_with (codes "C")) refl) refl)

abbrev inst_f_0_0 : Inst
inst_f_0_0 = inst op.Tuple (v 1 ∷ []) []

made_f_0_0 : made_types (declarations_of in_place_left_full) inst_f_0_0 ≡ ((type.Tuple []) ∷ [])
unfolding digits ancestors_of
made_f_0_0 = refl

abbrev types_f : List (Option TypeName)
types_f = Some (type.Address ty_C) ∷ Some (type.Tuple []) ∷ []

types_f_told : value_types (declarations_of in_place_left_full) fn_f ≡ types_f
unfolding digits ancestors_of
types_f_told = (both refl (both (ap (λ ts. slice_get ts 0) made_f_0_0) refl))

abbrev shapes_f : List Shape
shapes_f = (shape_C ∷ (shape.Tuple shape.NoMember) ∷ [])

seen_C_1 : seen (declarations_of in_place_left_full) 1 ty_C ≡ shape_C
unfolding digits ancestors_of
seen_C_1 = seen_named (declarations_of in_place_left_full) 1 (codes "C")

shapes_f_told : function_shapes (declarations_of in_place_left_full) fn_f ≡ shapes_f
unfolding digits ancestors_of
shapes_f_told = ap (map (value_shape (declarations_of in_place_left_full))) types_f_told ∙ (both (at_address (declarations_of in_place_left_full) ty_C ∙ seen_C_1) (both (at_tuple
    (declarations_of in_place_left_full) [] ∙ (seen_tuple (declarations_of in_place_left_full) 1 [] [] refl)) refl))

weighed_C_1 : weighed (declarations_of in_place_left_full) 1 ty_C ≡ measure_C
unfolding digits ancestors_of
weighed_C_1 = weighed_named (declarations_of in_place_left_full) 1 (codes "C")

trivial_0 : is_trivial (declarations_of in_place_left_full) (type.Address ty_C) ≡ false
unfolding digits ancestors_of
trivial_0 = ap is_trivial_measure (weighed_address (declarations_of in_place_left_full) 1 ty_C measure_C weighed_C_1)

trivial_1 : is_trivial (declarations_of in_place_left_full) (type.Tuple []) ≡ true
unfolding digits ancestors_of
trivial_1 = ap is_trivial_measure (weighed_tuple (declarations_of in_place_left_full) 1 [] [] refl)

abbrev definitions_f : List Definition
definitions_f = arg_definition_by true (switch_to fn_f 0) kind.Plain false ∷ result_definition_by (result_kind_of inst_f_0_0.op) inst_f_0_0 true ∷ []

definitions_f_told : definitions_of (declarations_of in_place_left_full) fn_f ≡ definitions_f
unfolding digits ancestors_of
definitions_f_told = (both (ap (arg_definition_by true (switch_to fn_f 0) kind.Plain) trivial_0) (both (definition_by (declarations_of in_place_left_full) inst_f_0_0 0 ((type.Tuple []) ∷ [])
    true made_f_0_0 trivial_1) refl))

abbrev inst_main_0_0 : Inst
inst_main_0_0 = record (inst op.AllocRef (v 0 ∷ []) []) { ty = Some ty_C }

made_main_0_0 : made_types (declarations_of in_place_left_full) inst_main_0_0 ≡ (ty_C ∷ [])
unfolding digits ancestors_of
made_main_0_0 = simp (opened) refl

abbrev inst_main_0_1 : Inst
inst_main_0_1 = record (inst op.AllocStack (v 1 ∷ []) []) { ty = Some ty_C }

made_main_0_1 : made_types (declarations_of in_place_left_full) inst_main_0_1 ≡ ((type.Address ty_C) ∷ [])
unfolding digits ancestors_of
made_main_0_1 = refl

abbrev inst_main_0_3 : Inst
inst_main_0_3 = record (inst op.FunctionRef (v 2 ∷ []) []) { function = Some (fn 0); signature = Some sig_f }

made_main_0_3 : made_types (declarations_of in_place_left_full) inst_main_0_3 ≡ []
unfolding digits ancestors_of
made_main_0_3 = refl

abbrev inst_main_0_4 : Inst
inst_main_0_4 = record (inst op.Apply (v 3 ∷ []) (bare 2 ∷ bare 1 ∷ [])) { signature = Some sig_f }

made_main_0_4 : made_types (declarations_of in_place_left_full) inst_main_0_4 ≡ ((type.Tuple []) ∷ [])
unfolding digits ancestors_of
made_main_0_4 = refl

abbrev types_main : List (Option TypeName)
types_main = Some ty_C ∷ Some (type.Address ty_C) ∷ None ∷ Some (type.Tuple []) ∷ []

types_main_told : value_types (declarations_of in_place_left_full) fn_main ≡ types_main
unfolding digits ancestors_of
types_main_told = (both (ap (λ ts. slice_get ts 0) made_main_0_0) (both (ap (λ ts. slice_get ts 0) made_main_0_1) (both (ap (λ ts. slice_get ts 0) made_main_0_3) (both (ap (λ ts. slice_get
    ts 0) made_main_0_4) refl))))

abbrev shapes_main : List Shape
shapes_main = (shape_C ∷ shape_C ∷ shape.Unknown ∷ (shape.Tuple shape.NoMember) ∷ [])

shapes_main_told : function_shapes (declarations_of in_place_left_full) fn_main ≡ shapes_main
unfolding digits ancestors_of
shapes_main_told = ap (map (value_shape (declarations_of in_place_left_full))) types_main_told ∙ (both (at_named (declarations_of in_place_left_full) (codes "C") ∙ seen_C_1) (both
    (at_address (declarations_of in_place_left_full) ty_C ∙ seen_C_1) (both refl (both (at_tuple (declarations_of in_place_left_full) [] ∙ (seen_tuple (declarations_of in_place_left_full) 1
    [] [] refl)) refl))))

trivial_2 : is_trivial (declarations_of in_place_left_full) ty_C ≡ false
unfolding digits ancestors_of
trivial_2 = ap is_trivial_measure weighed_C_1

abbrev definitions_main : List Definition
definitions_main = result_definition_by (result_kind_of inst_main_0_0.op) inst_main_0_0 false ∷ result_definition_by (result_kind_of inst_main_0_1.op) inst_main_0_1 false ∷
    result_definition_by (result_kind_of inst_main_0_3.op) inst_main_0_3 true ∷ result_definition_by (result_kind_of inst_main_0_4.op) inst_main_0_4 true ∷ []

definitions_main_told : definitions_of (declarations_of in_place_left_full) fn_main ≡ definitions_main
unfolding digits ancestors_of
definitions_main_told = (both (definition_by (declarations_of in_place_left_full) inst_main_0_0 0 (ty_C ∷ []) false made_main_0_0 trivial_2) (both (definition_by (declarations_of
    in_place_left_full) inst_main_0_1 0 ((type.Address ty_C) ∷ []) false made_main_0_1 trivial_0) (both (definition_by (declarations_of in_place_left_full) inst_main_0_3 0 [] true
    made_main_0_3 refl) (both (definition_by (declarations_of in_place_left_full) inst_main_0_4 0 ((type.Tuple []) ∷ []) true made_main_0_4 trivial_1) refl))))

abbrev shapes : ModuleShapes
shapes = shapes_with classes (shapes_f ∷ shapes_main ∷ [])

told : shapes_of in_place_left_full ≡ shapes
unfolding digits ancestors_of
told = shapes_told in_place_left_full classes_told (both shapes_f_told (both shapes_main_told refl))

abbrev facts_f : List (Option Facts)
facts_f = (plain [] ∷ plain [] ∷ [])

facts_f_told : function_facts (declarations_of in_place_left_full) fn_f ≡ facts_f
unfolding digits ancestors_of
facts_f_told = ap (λ defs. map (λ v. facts_by defs (value_of v)) (range_with_len 0 (value_count fn_f))) definitions_f_told

abbrev facts_main : List (Option Facts)
facts_main = (owned 0 ∷ plain [] ∷ plain [] ∷ plain [] ∷ [])

facts_main_told : function_facts (declarations_of in_place_left_full) fn_main ≡ facts_main
unfolding digits ancestors_of
facts_main_told = ap (λ defs. map (λ v. facts_by defs (value_of v)) (range_with_len 0 (value_count fn_main))) definitions_main_told

abbrev facts : ModuleFacts
facts = facts_with shapes (facts_f ∷ facts_main ∷ [])

all_told : facts_of in_place_left_full ≡ facts
unfolding digits ancestors_of
all_told = facts_told in_place_left_full told (both facts_f_told (both facts_main_told refl))

abbrev low_bb_f_0 : Block
low_bb_f_0 = record {
  args = arg 0 kind.Plain (type.Address ty_C) ∷ [];
  insts = inst op.Tuple (v 1 ∷ []) [] ∷ [];
  terminator = inst op.Return [] (typed 1 (type.Tuple []) ∷ []);
}

abbrev low_fn_f : Function
low_fn_f = record {
  name = codes "f";
  form = form.Lowered;
  linkage = linkage.Plain;
  attributes = [];
  signature = sig_f;
  blocks = low_bb_f_0 ∷ [];
}

abbrev low_bb_main_0 : Block
low_bb_main_0 = record {
  args = [];
  insts =
      record (inst op.AllocRef (v 0 ∷ []) []) { ty = Some ty_C }
      ∷ record (inst op.AllocStack (v 1 ∷ []) []) { ty = Some ty_C }
      ∷ inst op.Store [] (bare 0 ∷ typed 1 (type.Address ty_C) ∷ [])
      ∷ record (inst op.FunctionRef (v 2 ∷ []) []) { function = Some (fn 0); signature = Some sig_f }
      ∷ record (inst op.Apply (v 3 ∷ []) (bare 2 ∷ bare 1 ∷ [])) { signature = Some sig_f }
      ∷ inst op.DeallocStack [] (typed 1 (type.Address ty_C) ∷ [])
      ∷ [];
  terminator = inst op.Return [] (typed 3 (type.Tuple []) ∷ []);
}

abbrev low_fn_main : Function
low_fn_main = record {
  name = codes "main";
  form = form.Lowered;
  linkage = linkage.Plain;
  attributes = [];
  signature = sig_main;
  blocks = low_bb_main_0 ∷ [];
}

abbrev low : Module
low = record in_place_left_full { functions = low_fn_f ∷ low_fn_main ∷ [] }

low_f_is : lowered_function (declarations_of in_place_left_full) fn_f ≡ low_fn_f
unfolding digits ancestors_of
low_f_is = refl

low_main_is : lowered_function (declarations_of in_place_left_full) fn_main ≡ low_fn_main
unfolding digits ancestors_of
low_main_is = refl

lowers : lowered in_place_left_full ≡ low
unfolding digits ancestors_of
lowers = lowered_with in_place_left_full (both low_f_is (both low_main_is refl))

abbrev inst_low_f_0_0 : Inst
inst_low_f_0_0 = inst op.Tuple (v 1 ∷ []) []

made_low_f_0_0 : made_types (declarations_of in_place_left_full) inst_low_f_0_0 ≡ ((type.Tuple []) ∷ [])
unfolding digits ancestors_of
made_low_f_0_0 = refl

abbrev low_types_f : List (Option TypeName)
low_types_f = Some (type.Address ty_C) ∷ Some (type.Tuple []) ∷ []

low_types_f_told : value_types (declarations_of in_place_left_full) low_fn_f ≡ low_types_f
unfolding digits ancestors_of
low_types_f_told = (both refl (both (ap (λ ts. slice_get ts 0) made_low_f_0_0) refl))

abbrev low_shapes_f : List Shape
low_shapes_f = (shape_C ∷ (shape.Tuple shape.NoMember) ∷ [])

low_shapes_f_told : function_shapes (declarations_of in_place_left_full) low_fn_f ≡ low_shapes_f
unfolding digits ancestors_of
low_shapes_f_told = ap (map (value_shape (declarations_of in_place_left_full))) low_types_f_told ∙ (both (at_address (declarations_of in_place_left_full) ty_C ∙ seen_C_1) (both (at_tuple
    (declarations_of in_place_left_full) [] ∙ (seen_tuple (declarations_of in_place_left_full) 1 [] [] refl)) refl))

abbrev inst_low_main_0_0 : Inst
inst_low_main_0_0 = record (inst op.AllocRef (v 0 ∷ []) []) { ty = Some ty_C }

made_low_main_0_0 : made_types (declarations_of in_place_left_full) inst_low_main_0_0 ≡ (ty_C ∷ [])
unfolding digits ancestors_of
made_low_main_0_0 = simp (opened) refl

abbrev inst_low_main_0_1 : Inst
inst_low_main_0_1 = record (inst op.AllocStack (v 1 ∷ []) []) { ty = Some ty_C }

made_low_main_0_1 : made_types (declarations_of in_place_left_full) inst_low_main_0_1 ≡ ((type.Address ty_C) ∷ [])
unfolding digits ancestors_of
made_low_main_0_1 = refl

abbrev inst_low_main_0_3 : Inst
inst_low_main_0_3 = record (inst op.FunctionRef (v 2 ∷ []) []) { function = Some (fn 0); signature = Some sig_f }

made_low_main_0_3 : made_types (declarations_of in_place_left_full) inst_low_main_0_3 ≡ []
unfolding digits ancestors_of
made_low_main_0_3 = refl

abbrev inst_low_main_0_4 : Inst
inst_low_main_0_4 = record (inst op.Apply (v 3 ∷ []) (bare 2 ∷ bare 1 ∷ [])) { signature = Some sig_f }

made_low_main_0_4 : made_types (declarations_of in_place_left_full) inst_low_main_0_4 ≡ ((type.Tuple []) ∷ [])
unfolding digits ancestors_of
made_low_main_0_4 = refl

abbrev low_types_main : List (Option TypeName)
low_types_main = Some ty_C ∷ Some (type.Address ty_C) ∷ None ∷ Some (type.Tuple []) ∷ []

low_types_main_told : value_types (declarations_of in_place_left_full) low_fn_main ≡ low_types_main
unfolding digits ancestors_of
low_types_main_told = (both (ap (λ ts. slice_get ts 0) made_low_main_0_0) (both (ap (λ ts. slice_get ts 0) made_low_main_0_1) (both (ap (λ ts. slice_get ts 0) made_low_main_0_3) (both (ap (λ
    ts. slice_get ts 0) made_low_main_0_4) refl))))

abbrev low_shapes_main : List Shape
low_shapes_main = (shape_C ∷ shape_C ∷ shape.Unknown ∷ (shape.Tuple shape.NoMember) ∷ [])

low_shapes_main_told : function_shapes (declarations_of in_place_left_full) low_fn_main ≡ low_shapes_main
unfolding digits ancestors_of
low_shapes_main_told = ap (map (value_shape (declarations_of in_place_left_full))) low_types_main_told ∙ (both (at_named (declarations_of in_place_left_full) (codes "C") ∙ seen_C_1) (both
    (at_address (declarations_of in_place_left_full) ty_C ∙ seen_C_1) (both refl (both (at_tuple (declarations_of in_place_left_full) [] ∙ (seen_tuple (declarations_of in_place_left_full) 1
    [] [] refl)) refl))))

abbrev low_shapes : ModuleShapes
low_shapes = shapes_with classes (low_shapes_f ∷ low_shapes_main ∷ [])

low_told : shapes_of low ≡ low_shapes
unfolding digits ancestors_of
low_told = shapes_told low classes_told (both low_shapes_f_told (both low_shapes_main_told refl))

abbrev given_shape : Shape
given_shape = (shape.Tuple shape.NoMember)

given_told : returned_shape in_place_left_full (fn 1) ≡ given_shape
unfolding digits ancestors_of
given_told = (seen_tuple (declarations_of in_place_left_full) 1 [] [] refl)

runs : HasFault (outcome_with in_place_left_full facts (fn 1) 100000 300) holder.LeavesPlace
unfolding digits ancestors_of
runs = refl

lowered_runs : HasReport in_place_left_full given_shape (low_outcome_with low low_shapes (fn 1) 100000 300) in_place_left_full_answer
unfolding digits ancestors_of
lowered_runs = refl

pub in_place_left_full_proved : InPlaceLeftFull
unfolding digits ancestors_of
in_place_left_full_proved = (
  fault_by_holders in_place_left_full (fn 1) 100000 300 holder.LeavesPlace all_told runs,
  of_lowered in_place_left_full (fn 1) 100000 300 in_place_left_full_answer given_told lowers low_told lowered_runs,
)
