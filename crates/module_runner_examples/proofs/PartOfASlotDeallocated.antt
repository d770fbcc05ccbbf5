-- A part is no whole slot.
use Rattle.std.proofs.Common.{◌≡◌, refl, List, [], ◌∷◌, Some, true, Option, ap, ◌∙◌}
use Rattle.std.specs.Prelude.{codes, slice_get, map}
use Rattle.std.specs.List.{flat_map, range_with_len}
use Rattle.std.specs.Fmt.{digits}
use Rattle.holder_model.specs.Calling.{value_count}
use Rattle.holder_model.specs.Faults as holder
use Rattle.holder_model.specs.LoweredRun.LowOutcomes.{low_outcome_with}
use Rattle.holder_model.specs.ModuleFacts.{ModuleFacts, facts_of, function_facts}
use Rattle.holder_model.specs.ModuleShapes.{value_shape, ClassShape, ModuleShapes, class_shape, function_shapes, shapes_of}
use Rattle.holder_model.specs.Outcomes.{outcome_with}
use Rattle.holder_model.specs.declared.lowered_run.low_fault.LowFault.TheVariants as fault
use Rattle.holder_model_values.specs.RunValues.Shapes as shape
use Rattle.holder_model_values.specs.RunValues.Shapes.{Shape}
use Rattle.instruction_table.specs.Forms.{result_kind_of}
use Rattle.instruction_table.specs.declared.op.Op.TheVariants as op
use Rattle.module_runner_examples.proofs.Computed.{both, lowered_with, shapes_told, facts_told, fault_by_holders, fault_of_lowered}
use Rattle.module_runner_examples.proofs.Opened.{opened}
use Rattle.module_runner_examples.proofs.Told.{seen, seen_int, seen_named, seen_tuple, at_tuple, at_address, weighed, weighed_int, weighed_named}
use Rattle.module_runner_examples.proofs.Told.{weighed_tuple, weighed_address, definition_by, struct_seen, members_weighed}
use Rattle.module_runner_examples.specs.Parts.{v, fn, typed, member, inst, plain, shapes_with, facts_with}
use Rattle.module_runner_examples.specs.inner.PartOfASlotDeallocated.{PartOfASlotDeallocated, fn_main, part_of_a_slot_deallocated, sig_main, ty_S}
use Rattle.module_runner_examples.specs.inner.Reported.{HasFault}
use Rattle.ownership_kinds_chains.specs.OwnershipChains.Facts.{value_of}
use Rattle.ownership_kinds_chains.specs.declared.ownership_chains.definition.Definition.{Definition}
use Rattle.ownership_kinds_chains.specs.declared.ownership_chains.facts.Facts.{Facts}
use Rattle.ownership_kinds_origins.specs.Facts.{facts_by}
use Rattle.ownership_kinds_origins.specs.Origins.{definitions_of, result_definition_by}
use Rattle.ownership_lowering_model.specs.LoweredModules.{lowered, lowered_function}
use Rattle.sil_ast.specs.declared.function.Block.{Block}
use Rattle.sil_ast.specs.declared.function.Form.TheVariants as form
use Rattle.sil_ast.specs.declared.function.Function.{Function}
use Rattle.sil_ast.specs.declared.function.Linkage.TheVariants as linkage
use Rattle.sil_ast.specs.declared.inst.Inst.{Inst}
use Rattle.sil_ast.specs.declared.module.Module.{Module}
use Rattle.sil_ast.specs.declared.type_name.TypeName.TheVariants as type
use Rattle.sil_ast.specs.declared.type_name.TypeName.{TypeName}
use Rattle.sil_types.specs.Typing.RowTypes.{made_types}
use Rattle.sil_types.specs.Typing.Values.{value_types}
use Rattle.sil_types_declarations.specs.TypeDefinitions.Declarations.{ancestors_of, declarations_of}
use Rattle.sil_types_declarations.specs.TypeDefinitions.Measures.{measured, of_members, is_trivial, is_trivial_measure}
use Rattle.sil_types_declarations.specs.declared.type_definitions.measure.Measure.{Measure}

abbrev shape_S : Shape
shape_S = shape.Struct (codes "S") (shape.Member (shape.Integer 8) shape.NoMember)

abbrev measure_S : Measure
measure_S = of_members ((measured true 1 1) ∷ [])

abbrev classes : List ClassShape
classes = []

classes_told : flat_map (class_shape (declarations_of part_of_a_slot_deallocated)) part_of_a_slot_deallocated.decls ≡ classes
unfolding digits ancestors_of
classes_told = refl

abbrev inst_main_0_0 : Inst
inst_main_0_0 = record (inst op.AllocStack (v 0 ∷ []) []) { ty = Some ty_S }

made_main_0_0 : made_types (declarations_of part_of_a_slot_deallocated) inst_main_0_0 ≡ ((type.Address ty_S) ∷ [])
unfolding digits ancestors_of
made_main_0_0 = refl

abbrev inst_main_0_1 : Inst
inst_main_0_1 = record (inst op.StructElementAddr (v 1 ∷ []) (typed 0 (type.Address ty_S) ∷ [])) { member = Some (member (codes "S") (codes "x")) }

made_main_0_1 : made_types (declarations_of part_of_a_slot_deallocated) inst_main_0_1 ≡ ((type.Address (type.Int 8)) ∷ [])
unfolding digits ancestors_of
made_main_0_1 = simp (opened) refl

abbrev inst_main_0_3 : Inst
inst_main_0_3 = inst op.Tuple (v 2 ∷ []) []

made_main_0_3 : made_types (declarations_of part_of_a_slot_deallocated) inst_main_0_3 ≡ ((type.Tuple []) ∷ [])
unfolding digits ancestors_of
made_main_0_3 = refl

abbrev types_main : List (Option TypeName)
types_main = Some (type.Address ty_S) ∷ Some (type.Address (type.Int 8)) ∷ Some (type.Tuple []) ∷ []

types_main_told : value_types (declarations_of part_of_a_slot_deallocated) fn_main ≡ types_main
unfolding digits ancestors_of
types_main_told = (both (ap (λ ts. slice_get ts 0) made_main_0_0) (both (ap (λ ts. slice_get ts 0) made_main_0_1) (both (ap (λ ts. slice_get ts 0) made_main_0_3) refl)))

abbrev shapes_main : List Shape
shapes_main = (shape_S ∷ (shape.Integer 8) ∷ (shape.Tuple shape.NoMember) ∷ [])

seen_S_1 : seen (declarations_of part_of_a_slot_deallocated) 1 ty_S ≡ shape_S
unfolding digits ancestors_of
seen_S_1 = seen_named (declarations_of part_of_a_slot_deallocated) 1 (codes "S") ∙ struct_seen (codes "S") (seen (declarations_of part_of_a_slot_deallocated) 0 (type.Int 8) ∷ [])
    ((shape.Integer 8) ∷ []) (both (seen_int (declarations_of part_of_a_slot_deallocated) 0 8) refl)

shapes_main_told : function_shapes (declarations_of part_of_a_slot_deallocated) fn_main ≡ shapes_main
unfolding digits ancestors_of
shapes_main_told = ap (map (value_shape (declarations_of part_of_a_slot_deallocated))) types_main_told ∙ (both (at_address (declarations_of part_of_a_slot_deallocated) ty_S ∙ seen_S_1) (both
    (at_address (declarations_of part_of_a_slot_deallocated) (type.Int 8) ∙ (seen_int (declarations_of part_of_a_slot_deallocated) 1 8)) (both (at_tuple (declarations_of
    part_of_a_slot_deallocated) [] ∙ (seen_tuple (declarations_of part_of_a_slot_deallocated) 1 [] [] refl)) refl)))

weighed_S_1 : weighed (declarations_of part_of_a_slot_deallocated) 1 ty_S ≡ measure_S
unfolding digits ancestors_of
weighed_S_1 = weighed_named (declarations_of part_of_a_slot_deallocated) 1 (codes "S") ∙ members_weighed (weighed (declarations_of part_of_a_slot_deallocated) 0 (type.Int 8) ∷ []) ((measured
    true 1 1) ∷ []) (both (weighed_int (declarations_of part_of_a_slot_deallocated) 0 8) refl)

trivial_0 : is_trivial (declarations_of part_of_a_slot_deallocated) (type.Address ty_S) ≡ true
unfolding digits ancestors_of
trivial_0 = ap is_trivial_measure (weighed_address (declarations_of part_of_a_slot_deallocated) 1 ty_S measure_S weighed_S_1)

trivial_1 : is_trivial (declarations_of part_of_a_slot_deallocated) (type.Address (type.Int 8)) ≡ true
unfolding digits ancestors_of
trivial_1 = ap is_trivial_measure (weighed_address (declarations_of part_of_a_slot_deallocated) 1 (type.Int 8) (measured true 1 1) (weighed_int (declarations_of part_of_a_slot_deallocated) 1
    8))

trivial_2 : is_trivial (declarations_of part_of_a_slot_deallocated) (type.Tuple []) ≡ true
unfolding digits ancestors_of
trivial_2 = ap is_trivial_measure (weighed_tuple (declarations_of part_of_a_slot_deallocated) 1 [] [] refl)

abbrev definitions_main : List Definition
definitions_main = result_definition_by (result_kind_of inst_main_0_0.op) inst_main_0_0 true ∷ result_definition_by (result_kind_of inst_main_0_1.op) inst_main_0_1 true ∷
    result_definition_by (result_kind_of inst_main_0_3.op) inst_main_0_3 true ∷ []

definitions_main_told : definitions_of (declarations_of part_of_a_slot_deallocated) fn_main ≡ definitions_main
unfolding digits ancestors_of
definitions_main_told = (both (definition_by (declarations_of part_of_a_slot_deallocated) inst_main_0_0 0 ((type.Address ty_S) ∷ []) true made_main_0_0 trivial_0) (both (definition_by
    (declarations_of part_of_a_slot_deallocated) inst_main_0_1 0 ((type.Address (type.Int 8)) ∷ []) true made_main_0_1 trivial_1) (both (definition_by (declarations_of
    part_of_a_slot_deallocated) inst_main_0_3 0 ((type.Tuple []) ∷ []) true made_main_0_3 trivial_2) refl)))

abbrev shapes : ModuleShapes
shapes = shapes_with classes (shapes_main ∷ [])

told : shapes_of part_of_a_slot_deallocated ≡ shapes
unfolding digits ancestors_of
told = shapes_told part_of_a_slot_deallocated classes_told (both shapes_main_told refl)

abbrev facts_main : List (Option Facts)
facts_main = (plain [] ∷ plain [] ∷ plain [] ∷ [])

facts_main_told : function_facts (declarations_of part_of_a_slot_deallocated) fn_main ≡ facts_main
unfolding digits ancestors_of
facts_main_told = ap (λ defs. map (λ v. facts_by defs (value_of v)) (range_with_len 0 (value_count fn_main))) definitions_main_told

abbrev facts : ModuleFacts
facts = facts_with shapes (facts_main ∷ [])

all_told : facts_of part_of_a_slot_deallocated ≡ facts
unfolding digits ancestors_of
all_told = facts_told part_of_a_slot_deallocated told (both facts_main_told refl)

abbrev low_bb_main_0 : Block
low_bb_main_0 = record {
  args = [];
  insts =
      record (inst op.AllocStack (v 0 ∷ []) []) { ty = Some ty_S }
      ∷ record (inst op.StructElementAddr (v 1 ∷ []) (typed 0 (type.Address ty_S) ∷ [])) { member = Some (member (codes "S") (codes "x")) }
      ∷ inst op.DeallocStack [] (typed 1 (type.Address (type.Int 8)) ∷ [])
      ∷ inst op.Tuple (v 2 ∷ []) []
      ∷ [];
  terminator = inst op.Return [] (typed 2 (type.Tuple []) ∷ []);
}

abbrev low_fn_main : Function
low_fn_main = record {
  name = codes "main";
  form = form.Lowered;
  linkage = linkage.Plain;
  attributes = [];
  signature = sig_main;
  blocks = low_bb_main_0 ∷ [];
}

abbrev low : Module
low = record part_of_a_slot_deallocated { functions = low_fn_main ∷ [] }

low_main_is : lowered_function (declarations_of part_of_a_slot_deallocated) fn_main ≡ low_fn_main
unfolding digits ancestors_of
low_main_is = refl

lowers : lowered part_of_a_slot_deallocated ≡ low
unfolding digits ancestors_of
lowers = lowered_with part_of_a_slot_deallocated (both low_main_is refl)

abbrev inst_low_main_0_0 : Inst
inst_low_main_0_0 = record (inst op.AllocStack (v 0 ∷ []) []) { ty = Some ty_S }

made_low_main_0_0 : made_types (declarations_of part_of_a_slot_deallocated) inst_low_main_0_0 ≡ ((type.Address ty_S) ∷ [])
unfolding digits ancestors_of
made_low_main_0_0 = refl

abbrev inst_low_main_0_1 : Inst
inst_low_main_0_1 = record (inst op.StructElementAddr (v 1 ∷ []) (typed 0 (type.Address ty_S) ∷ [])) { member = Some (member (codes "S") (codes "x")) }

made_low_main_0_1 : made_types (declarations_of part_of_a_slot_deallocated) inst_low_main_0_1 ≡ ((type.Address (type.Int 8)) ∷ [])
unfolding digits ancestors_of
made_low_main_0_1 = simp (opened) refl

abbrev inst_low_main_0_3 : Inst
inst_low_main_0_3 = inst op.Tuple (v 2 ∷ []) []

made_low_main_0_3 : made_types (declarations_of part_of_a_slot_deallocated) inst_low_main_0_3 ≡ ((type.Tuple []) ∷ [])
unfolding digits ancestors_of
made_low_main_0_3 = refl

abbrev low_types_main : List (Option TypeName)
low_types_main = Some (type.Address ty_S) ∷ Some (type.Address (type.Int 8)) ∷ Some (type.Tuple []) ∷ []

low_types_main_told : value_types (declarations_of part_of_a_slot_deallocated) low_fn_main ≡ low_types_main
unfolding digits ancestors_of
low_types_main_told = (both (ap (λ ts. slice_get ts 0) made_low_main_0_0) (both (ap (λ ts. slice_get ts 0) made_low_main_0_1) (both (ap (λ ts. slice_get ts 0) made_low_main_0_3) refl)))

abbrev low_shapes_main : List Shape
low_shapes_main = (shape_S ∷ (shape.Integer 8) ∷ (shape.Tuple shape.NoMember) ∷ [])

low_shapes_main_told : function_shapes (declarations_of part_of_a_slot_deallocated) low_fn_main ≡ low_shapes_main
unfolding digits ancestors_of
low_shapes_main_told = ap (map (value_shape (declarations_of part_of_a_slot_deallocated))) low_types_main_told ∙ (both (at_address (declarations_of part_of_a_slot_deallocated) ty_S ∙
    seen_S_1) (both (at_address (declarations_of part_of_a_slot_deallocated) (type.Int 8) ∙ (seen_int (declarations_of part_of_a_slot_deallocated) 1 8)) (both (at_tuple (declarations_of
    part_of_a_slot_deallocated) [] ∙ (seen_tuple (declarations_of part_of_a_slot_deallocated) 1 [] [] refl)) refl)))

abbrev low_shapes : ModuleShapes
low_shapes = shapes_with classes (low_shapes_main ∷ [])

low_told : shapes_of low ≡ low_shapes
unfolding digits ancestors_of
low_told = shapes_told low classes_told (both low_shapes_main_told refl)

runs : HasFault (outcome_with part_of_a_slot_deallocated facts (fn 0) 100000 300) holder.NotLastSlot
unfolding digits ancestors_of
runs = refl

lowered_runs : HasFault (low_outcome_with low low_shapes (fn 0) 100000 300) fault.Slot
unfolding digits ancestors_of
lowered_runs = refl

pub part_of_a_slot_deallocated_proved : PartOfASlotDeallocated
unfolding digits ancestors_of
part_of_a_slot_deallocated_proved = (
  fault_by_holders part_of_a_slot_deallocated (fn 0) 100000 300 holder.NotLastSlot all_told runs,
  fault_of_lowered part_of_a_slot_deallocated (fn 0) 100000 300 fault.Slot lowers low_told lowered_runs,
)
