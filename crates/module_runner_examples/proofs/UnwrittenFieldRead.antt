-- A field is read before its first write.
use Rattle.std.proofs.Common.{◌≡◌, refl, List, [], ◌∷◌, Some, true, false, Option, ap, ◌∙◌}
use Rattle.std.specs.Prelude.{codes, slice_get, map}
use Rattle.std.specs.List.{flat_map, range_with_len}
use Rattle.std.specs.Fmt.{digits}
use Rattle.holder_model.specs.Calling.{value_count}
use Rattle.holder_model.specs.Faults as holder
use Rattle.holder_model.specs.LoweredRun.LowOutcomes.{low_outcome_with}
use Rattle.holder_model.specs.ModuleFacts.{ModuleFacts, facts_of, function_facts}
use Rattle.holder_model.specs.ModuleShapes.{value_shape, ClassShape, ModuleShapes, class_shape, function_shapes, shapes_of}
use Rattle.holder_model.specs.Outcomes.{outcome_with}
use Rattle.holder_model.specs.declared.lowered_run.low_fault.LowFault.TheVariants as fault
use Rattle.holder_model_values.specs.RunValues.Shapes as shape
use Rattle.holder_model_values.specs.RunValues.Shapes.{Shape}
use Rattle.instruction_table.specs.Forms.{result_kind_of}
use Rattle.instruction_table.specs.declared.op.Op.TheVariants as op
use Rattle.module_runner_examples.proofs.Computed.{both, lowered_with, shapes_told, facts_told, fault_by_holders, fault_of_lowered}
use Rattle.module_runner_examples.proofs.Opened.{opened}
use Rattle.module_runner_examples.proofs.Told.{seen, seen_int, seen_named, at_int, at_named, at_address, weighed, weighed_int, weighed_named}
use Rattle.module_runner_examples.proofs.Told.{weighed_address, definition_by}
use Rattle.module_runner_examples.specs.Parts.{v, fn, typed, member, inst, owned, lent, plain, class_with, shapes_with, facts_with}
use Rattle.module_runner_examples.specs.inner.Reported.{HasFault}
use Rattle.module_runner_examples.specs.inner.UnwrittenFieldRead.{UnwrittenFieldRead, fn_main, sig_main, ty_P, unwritten_field_read}
use Rattle.ownership_kinds_chains.specs.OwnershipChains.Facts.{value_of}
use Rattle.ownership_kinds_chains.specs.declared.ownership_chains.definition.Definition.{Definition}
use Rattle.ownership_kinds_chains.specs.declared.ownership_chains.facts.Facts.{Facts}
use Rattle.ownership_kinds_origins.specs.Facts.{facts_by}
use Rattle.ownership_kinds_origins.specs.Origins.{definitions_of, result_definition_by}
use Rattle.ownership_lowering_model.specs.LoweredModules.{lowered, lowered_function}
use Rattle.sil_ast.specs.declared.function.Block.{Block}
use Rattle.sil_ast.specs.declared.function.Form.TheVariants as form
use Rattle.sil_ast.specs.declared.function.Function.{Function}
use Rattle.sil_ast.specs.declared.function.Linkage.TheVariants as linkage
use Rattle.sil_ast.specs.declared.inst.Inst.{Inst}
use Rattle.sil_ast.specs.declared.inst.Qualifier.TheVariants as qualifier
use Rattle.sil_ast.specs.declared.module.Module.{Module}
use Rattle.sil_ast.specs.declared.type_name.TypeName.TheVariants as type
use Rattle.sil_ast.specs.declared.type_name.TypeName.{TypeName}
use Rattle.sil_types.specs.Typing.RowTypes.{made_types}
use Rattle.sil_types.specs.Typing.Values.{value_types}
use Rattle.sil_types_declarations.specs.TypeDefinitions.Declarations.{ancestors_of, declarations_of}
use Rattle.sil_types_declarations.specs.TypeDefinitions.Measures.{measured, of_reference, is_trivial, is_trivial_measure}
use Rattle.sil_types_declarations.specs.declared.type_definitions.measure.Measure.{Measure}

abbrev shape_P : Shape
shape_P = shape.Reference (codes "P")

abbrev measure_P : Measure
measure_P = of_reference

abbrev classes : List ClassShape
classes = class_with (codes "P") ((shape.Integer 8) ∷ []) ∷ []

classes_told : flat_map (class_shape (declarations_of unwritten_field_read)) unwritten_field_read.decls ≡ classes
unfolding digits ancestors_of
classes_told = (both (ap (class_with (codes "P")) (both (seen_int (declarations_of unwritten_field_read) 1 8) refl)) refl)

abbrev inst_main_0_0 : Inst
inst_main_0_0 = record (inst op.AllocRef (v 0 ∷ []) []) { ty = Some ty_P }

made_main_0_0 : made_types (declarations_of unwritten_field_read) inst_main_0_0 ≡ (ty_P ∷ [])
unfolding digits ancestors_of
made_main_0_0 = simp (opened) refl

abbrev inst_main_0_1 : Inst
inst_main_0_1 = inst op.BeginBorrow (v 1 ∷ []) (typed 0 ty_P ∷ [])

weighed_P_1 : weighed (declarations_of unwritten_field_read) 1 ty_P ≡ measure_P
unfolding digits ancestors_of
weighed_P_1 = weighed_named (declarations_of unwritten_field_read) 1 (codes "P")

trivial_0 : is_trivial (declarations_of unwritten_field_read) ty_P ≡ false
unfolding digits ancestors_of
trivial_0 = ap is_trivial_measure weighed_P_1

made_main_0_1 : made_types (declarations_of unwritten_field_read) inst_main_0_1 ≡ (ty_P ∷ [])
unfolding digits ancestors_of
made_main_0_1 = simp (opened, trivial_0) refl

abbrev inst_main_0_2 : Inst
inst_main_0_2 = record (inst op.RefElementAddr (v 2 ∷ []) (typed 1 ty_P ∷ [])) { member = Some (member (codes "P") (codes "x")) }

made_main_0_2 : made_types (declarations_of unwritten_field_read) inst_main_0_2 ≡ ((type.Address (type.Int 8)) ∷ [])
unfolding digits ancestors_of
made_main_0_2 = simp (opened) refl

abbrev inst_main_0_3 : Inst
inst_main_0_3 = record (inst op.Load (v 3 ∷ []) (typed 2 (type.Address (type.Int 8)) ∷ [])) { qualifier = qualifier.Trivial }

made_main_0_3 : made_types (declarations_of unwritten_field_read) inst_main_0_3 ≡ ((type.Int 8) ∷ [])
unfolding digits ancestors_of
made_main_0_3 = simp (opened) refl

abbrev types_main : List (Option TypeName)
types_main = Some ty_P ∷ Some ty_P ∷ Some (type.Address (type.Int 8)) ∷ Some (type.Int 8) ∷ []

types_main_told : value_types (declarations_of unwritten_field_read) fn_main ≡ types_main
unfolding digits ancestors_of
types_main_told = (both (ap (λ ts. slice_get ts 0) made_main_0_0) (both (ap (λ ts. slice_get ts 0) made_main_0_1) (both (ap (λ ts. slice_get ts 0) made_main_0_2) (both (ap (λ ts. slice_get
    ts 0) made_main_0_3) refl))))

abbrev shapes_main : List Shape
shapes_main = (shape_P ∷ shape_P ∷ (shape.Integer 8) ∷ (shape.Integer 8) ∷ [])

seen_P_1 : seen (declarations_of unwritten_field_read) 1 ty_P ≡ shape_P
unfolding digits ancestors_of
seen_P_1 = seen_named (declarations_of unwritten_field_read) 1 (codes "P")

shapes_main_told : function_shapes (declarations_of unwritten_field_read) fn_main ≡ shapes_main
unfolding digits ancestors_of
shapes_main_told = ap (map (value_shape (declarations_of unwritten_field_read))) types_main_told ∙ (both (at_named (declarations_of unwritten_field_read) (codes "P") ∙ seen_P_1) (both
    (at_named (declarations_of unwritten_field_read) (codes "P") ∙ seen_P_1) (both (at_address (declarations_of unwritten_field_read) (type.Int 8) ∙ (seen_int (declarations_of
    unwritten_field_read) 1 8)) (both (at_int (declarations_of unwritten_field_read) 8 ∙ (seen_int (declarations_of unwritten_field_read) 1 8)) refl))))

trivial_1 : is_trivial (declarations_of unwritten_field_read) (type.Address (type.Int 8)) ≡ true
unfolding digits ancestors_of
trivial_1 = ap is_trivial_measure (weighed_address (declarations_of unwritten_field_read) 1 (type.Int 8) (measured true 1 1) (weighed_int (declarations_of unwritten_field_read) 1 8))

trivial_2 : is_trivial (declarations_of unwritten_field_read) (type.Int 8) ≡ true
unfolding digits ancestors_of
trivial_2 = ap is_trivial_measure (weighed_int (declarations_of unwritten_field_read) 1 8)

abbrev definitions_main : List Definition
definitions_main = result_definition_by (result_kind_of inst_main_0_0.op) inst_main_0_0 false ∷ result_definition_by (result_kind_of inst_main_0_1.op) inst_main_0_1 false ∷
    result_definition_by (result_kind_of inst_main_0_2.op) inst_main_0_2 true ∷ result_definition_by (result_kind_of inst_main_0_3.op) inst_main_0_3 true ∷ []

definitions_main_told : definitions_of (declarations_of unwritten_field_read) fn_main ≡ definitions_main
unfolding digits ancestors_of
definitions_main_told = (both (definition_by (declarations_of unwritten_field_read) inst_main_0_0 0 (ty_P ∷ []) false made_main_0_0 trivial_0) (both (definition_by (declarations_of
    unwritten_field_read) inst_main_0_1 0 (ty_P ∷ []) false made_main_0_1 trivial_0) (both (definition_by (declarations_of unwritten_field_read) inst_main_0_2 0 ((type.Address (type.Int 8))
    ∷ []) true made_main_0_2 trivial_1) (both (definition_by (declarations_of unwritten_field_read) inst_main_0_3 0 ((type.Int 8) ∷ []) true made_main_0_3 trivial_2) refl))))

abbrev shapes : ModuleShapes
shapes = shapes_with classes (shapes_main ∷ [])

told : shapes_of unwritten_field_read ≡ shapes
unfolding digits ancestors_of
told = shapes_told unwritten_field_read classes_told (both shapes_main_told refl)

abbrev facts_main : List (Option Facts)
facts_main = (owned 0 ∷ lent (v 1 ∷ []) ∷ plain (v 1 ∷ []) ∷ plain [] ∷ [])

facts_main_told : function_facts (declarations_of unwritten_field_read) fn_main ≡ facts_main
unfolding digits ancestors_of
facts_main_told = ap (λ defs. map (λ v. facts_by defs (value_of v)) (range_with_len 0 (value_count fn_main))) definitions_main_told

abbrev facts : ModuleFacts
facts = facts_with shapes (facts_main ∷ [])

all_told : facts_of unwritten_field_read ≡ facts
unfolding digits ancestors_of
all_told = facts_told unwritten_field_read told (both facts_main_told refl)

abbrev low_bb_main_0 : Block
low_bb_main_0 = record {
  args = [];
  insts =
      record (inst op.AllocRef (v 0 ∷ []) []) { ty = Some ty_P }
      ∷ record (inst op.RefElementAddr (v 1 ∷ []) (typed 0 ty_P ∷ [])) { member = Some (member (codes "P") (codes "x")) }
      ∷ inst op.Load (v 2 ∷ []) (typed 1 (type.Address (type.Int 8)) ∷ [])
      ∷ inst op.StrongRelease [] (typed 0 ty_P ∷ [])
      ∷ [];
  terminator = inst op.Return [] (typed 2 (type.Int 8) ∷ []);
}

abbrev low_fn_main : Function
low_fn_main = record {
  name = codes "main";
  form = form.Lowered;
  linkage = linkage.Plain;
  attributes = [];
  signature = sig_main;
  blocks = low_bb_main_0 ∷ [];
}

abbrev low : Module
low = record unwritten_field_read { functions = low_fn_main ∷ [] }

low_main_is : lowered_function (declarations_of unwritten_field_read) fn_main ≡ low_fn_main
unfolding digits ancestors_of
low_main_is = simp (opened) refl

lowers : lowered unwritten_field_read ≡ low
unfolding digits ancestors_of
lowers = lowered_with unwritten_field_read (both low_main_is refl)

abbrev inst_low_main_0_0 : Inst
inst_low_main_0_0 = record (inst op.AllocRef (v 0 ∷ []) []) { ty = Some ty_P }

made_low_main_0_0 : made_types (declarations_of unwritten_field_read) inst_low_main_0_0 ≡ (ty_P ∷ [])
unfolding digits ancestors_of
made_low_main_0_0 = simp (opened) refl

abbrev inst_low_main_0_1 : Inst
inst_low_main_0_1 = record (inst op.RefElementAddr (v 1 ∷ []) (typed 0 ty_P ∷ [])) { member = Some (member (codes "P") (codes "x")) }

made_low_main_0_1 : made_types (declarations_of unwritten_field_read) inst_low_main_0_1 ≡ ((type.Address (type.Int 8)) ∷ [])
unfolding digits ancestors_of
made_low_main_0_1 = simp (opened) refl

abbrev inst_low_main_0_2 : Inst
inst_low_main_0_2 = inst op.Load (v 2 ∷ []) (typed 1 (type.Address (type.Int 8)) ∷ [])

made_low_main_0_2 : made_types (declarations_of unwritten_field_read) inst_low_main_0_2 ≡ ((type.Int 8) ∷ [])
unfolding digits ancestors_of
made_low_main_0_2 = simp (opened) refl

abbrev low_types_main : List (Option TypeName)
low_types_main = Some ty_P ∷ Some (type.Address (type.Int 8)) ∷ Some (type.Int 8) ∷ []

low_types_main_told : value_types (declarations_of unwritten_field_read) low_fn_main ≡ low_types_main
unfolding digits ancestors_of
low_types_main_told = (both (ap (λ ts. slice_get ts 0) made_low_main_0_0) (both (ap (λ ts. slice_get ts 0) made_low_main_0_1) (both (ap (λ ts. slice_get ts 0) made_low_main_0_2) refl)))

abbrev low_shapes_main : List Shape
low_shapes_main = (shape_P ∷ (shape.Integer 8) ∷ (shape.Integer 8) ∷ [])

low_shapes_main_told : function_shapes (declarations_of unwritten_field_read) low_fn_main ≡ low_shapes_main
unfolding digits ancestors_of
low_shapes_main_told = ap (map (value_shape (declarations_of unwritten_field_read))) low_types_main_told ∙ (both (at_named (declarations_of unwritten_field_read) (codes "P") ∙ seen_P_1)
    (both (at_address (declarations_of unwritten_field_read) (type.Int 8) ∙ (seen_int (declarations_of unwritten_field_read) 1 8)) (both (at_int (declarations_of unwritten_field_read) 8 ∙
    (seen_int (declarations_of unwritten_field_read) 1 8)) refl)))

abbrev low_shapes : ModuleShapes
low_shapes = shapes_with classes (low_shapes_main ∷ [])

low_told : shapes_of low ≡ low_shapes
unfolding digits ancestors_of
low_told = shapes_told low classes_told (both low_shapes_main_told refl)

runs : HasFault (outcome_with unwritten_field_read facts (fn 0) 100000 300) holder.EmptyPlace
unfolding digits ancestors_of
runs = refl

lowered_runs : HasFault (low_outcome_with low low_shapes (fn 0) 100000 300) fault.Empty
unfolding digits ancestors_of
lowered_runs = refl

pub unwritten_field_read_proved : UnwrittenFieldRead
unfolding digits ancestors_of
unwritten_field_read_proved = (
  fault_by_holders unwritten_field_read (fn 0) 100000 300 holder.EmptyPlace all_told runs,
  fault_of_lowered unwritten_field_read (fn 0) 100000 300 fault.Empty lowers low_told lowered_runs,
)
