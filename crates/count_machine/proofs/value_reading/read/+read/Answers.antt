use Rattle.std.proofs.Common.{◌≡◌, ◌+◌, ◌-◌, [], Some, drop, map, length, refl, sym, ap, ◌∙◌, subst, arith}
use Rattle.std.proofs.lemmas.Option.{slice_get_past, slice_get_read}
use Rattle.holder_model_values.specs.RunValues.Shapes.{Enum, cases_of, shape_of}
use Rattle.holder_model_values.specs.declared.run_values.leaf.Leaf.TheVariants as leaf
use Rattle.sil_types_declarations.specs.TypeDefinitions.Contained.{field_type}
use Rattle.count_machine.specs.ValueReading.inner.Reading.{IsValueOf}
use Rattle.count_machine.specs.ValueReading.inner.Payloads.{case_layer_of}
use Rattle.count_machine.proofs.ValueReading.Below.{case_below, enum_below, full_below, struct_below, tuple_below}
use Rattle.count_machine.proofs.ValueReading.Cases.{first_is, no_case}
use Rattle.count_machine.proofs.ValueReading.Loops.{all_read, field_left, first_of, next_read, none_left}
use Rattle.count_machine.proofs.ValueReading.Shaped.{class_is, integer_is, unknown_is, unowned_is}
use Rattle.count_machine.proofs.value_reading.read.+read.Goals as goal

pub read_type-returns-in-Int : goal.read_type-returns-in-Int
read_type-returns-in-Int t c = λ r.
    let d = c.args.table.now in
    let shape = ap (shape_of d) c.in-Int.is ∙ integer_is d r.runnable c.in-Int.field-0 in
    subst (λ s. IsValueOf s c.args.leaves.now c.integer_at.result) (sym shape) (c.integer_at.ensures c.in-Int.field-0)

pub read_type-returns-in-Tuple : goal.read_type-returns-in-Tuple
read_type-returns-in-Tuple t c =
    let lower : c.args.levels ≡ (c.args.levels - 1) + 1 = omega (arith, c.if-levels-eq0.false) in
    tuple_below c.args.table.now c.args.leaves.now c.read_elements.result c.args.levels (c.args.levels - 1) c.args.ty.now c.in-Tuple.elements c.as_slice.result.now
    lower c.in-Tuple.is (c.as_slice.ensures ∙ c.get-in-Tuple.ensures) c.read_elements.ensures

pub read_type-returns-in-Unowned : goal.read_type-returns-in-Unowned
read_type-returns-in-Unowned t c = λ r.
    let d = c.args.table.now in
    let shape = ap (shape_of d) c.in-Unowned.is ∙ unowned_is d r.runnable c.in-Unowned.field-0 in
    subst (λ s. IsValueOf s c.args.leaves.now c.object_at.result) (sym shape) (c.object_at.ensures.unowned (shape_of d c.in-Unowned.field-0))

pub read_named-returns-in-Some-Struct : goal.read_named-returns-in-Some-Struct
read_named-returns-in-Some-Struct t c =
    struct_below c.args.table.now c.args.leaves.now c.read_fields.result c.args.levels c.args.name.now c.in-Some-Struct.field-0-0 c.in-Some-Struct.field-0.now
    c.in-Some-Struct.fields c.as_slice.result.now c.in-Some-Struct.ensures c.in-Some-Struct.field-0-is c.as_slice.ensures c.read_fields.ensures

pub read_named-returns-in-Some-Enum : goal.read_named-returns-in-Some-Enum
read_named-returns-in-Some-Enum t c =
    enum_below c.args.table.now c.args.leaves.now c.read_case.result c.args.levels c.args.name.now c.in-Some-Enum.field-0-0 c.in-Some-Enum.field-0.now
    c.in-Some-Enum.cases c.as_slice-in-Some-Enum.result.now c.in-Some-Enum.ensures c.in-Some-Enum.field-0-is c.as_slice-in-Some-Enum.ensures c.read_case.ensures

pub read_named-returns-in-Some-Class : goal.read_named-returns-in-Some-Class
read_named-returns-in-Some-Class t c = λ r.
    let d = c.args.table.now in
    let k = c.in-Some-Class in
    let shape = class_is d r.runnable c.args.name.now k.field-0-0 k.field-0-1 k.field-0-2 (sym k.ensures ∙ ap Some k.field-0-is) in
    subst (λ s. IsValueOf s c.args.leaves.now c.object_at.result) (sym shape) (c.object_at.ensures.reference c.args.name.now)

pub read_named-returns-in-None : goal.read_named-returns-in-None
read_named-returns-in-None t c = λ r.
    let d = c.args.table.now in
    subst (λ s. IsValueOf s c.args.leaves.now c.no_value.result) (sym (unknown_is d r.runnable c.args.name.now (sym c.in-None.ensures))) (λ x e. cc)

pub read_fields-loop-field-preserved : goal.read_fields-loop-field-preserved
read_fields-loop-field-preserved t c =
    let fields = c.args.fields.now in
    let i = c.loop-field.field-index in
    next_read c.args.table.now c.args.levels (map field_type fields) c.args.leaves.now c.field-item.result.ty (map field_type (drop i fields)) (map field_type (drop (i + 1) fields))
    c.loop-field.members c.push.new.self c.loop-field.rest.now c.first_leaves.result.now c.leaves_behind-rest.result.now c.leaf_count-count.result c.in_ok-member.member
    (field_left fields i c.field-item.result c.loop-field-test.true c.field-item.is) c.loop-field.invariant c.leaf_count-count.ensures c.first_leaves.ensures
    c.in_ok-member.ensures c.in_ok-push.ensures.ok c.leaves_behind-rest.ensures

pub read_fields-returns : goal.read_fields-returns
read_fields-returns t c =
    let fields = c.args.fields.now in
    let i = c.loop-field.field-index in
    all_read c.args.table.now c.args.levels (map field_type fields) c.args.leaves.now (map field_type (drop i fields)) c.loop-field.members c.in_ok-new.field-0
    c.loop-field.rest.now (ap (map field_type) (none_left fields i c.loop-field-test.false)) c.loop-field.invariant c.in_ok-new.ensures

pub read_elements-loop-element-preserved : goal.read_elements-loop-element-preserved
read_elements-loop-element-preserved t c =
    let elements = c.args.elements.now in
    let i = c.loop-element.element-index in
    next_read c.args.table.now c.args.levels elements c.args.leaves.now c.element-item.result (drop i elements) (drop (i + 1) elements)
    c.loop-element.members c.push.new.self c.loop-element.rest.now c.first_leaves.result.now c.leaves_behind-rest.result.now c.leaf_count-count.result c.in_ok-member.member
    (first_of elements i c.element-item.result c.loop-element-test.true c.element-item.is) c.loop-element.invariant c.leaf_count-count.ensures c.first_leaves.ensures
    c.in_ok-member.ensures c.in_ok-push.ensures.ok c.leaves_behind-rest.ensures

pub read_elements-returns : goal.read_elements-returns
read_elements-returns t c =
    let elements = c.args.elements.now in
    let i = c.loop-element.element-index in
    all_read c.args.table.now c.args.levels elements c.args.leaves.now (drop i elements) c.loop-element.members c.in_ok-new.field-0
    c.loop-element.rest.now (none_left elements i c.loop-element-test.false) c.loop-element.invariant c.in_ok-new.ensures

pub read_case-returns-in-Some : goal.read_case-returns-in-Some
read_case-returns-in-Some t c =
    let cases = c.args.cases.now in
    let k = c.in-Some-Tag.case_index in
    let x = c.in-Some.case.now in
    let found = c.in-Some.ensures.lookup in
    case_below c.args.table.now c.args.leaves.now c.read_chosen.result c.args.levels cases k x c.in-Some-Tag.field-0.now c.leaves_behind-behind.result.now
    (slice_get_read cases (length cases) k x refl found.3.0 found.1) c.in-Some-Tag.ensures.value c.in-Some-Tag.field-0-is c.leaves_behind-behind.ensures c.read_chosen.ensures

pub read_case-returns-in-None : goal.read_case-returns-in-None
read_case-returns-in-None t c = λ each.
    let cases = c.args.cases.now in
    let k = c.in-Some-Tag.case_index in
    let leaves = first_is c.args.leaves.now (leaf.Tag k) (sym c.in-Some-Tag.ensures.value ∙ ap Some c.in-Some-Tag.field-0-is) in
    let none = slice_get_past cases k c.in-None.ensures.lookup.3 in
    subst (λ ls. IsValueOf (Enum [] (cases_of (map (case_layer_of c.args.table.now) cases))) ls c.no_value-in-None.result) (sym leaves)
    (no_case c.args.table.now [] cases k (drop 1 c.args.leaves.now) c.no_value-in-None.result none)

pub read_full-returns : goal.read_full-returns
read_full-returns t c =
    full_below c.args.table.now c.args.levels c.args.case_index c.args.ty.now c.args.leaves.now c.first_leaves.result.now c.leaf_count-count.result
    c.in_ok-payload.payload c.in_ok-new.field-0 c.leaf_count-count.ensures c.first_leaves.ensures c.in_ok-payload.ensures c.in_ok-new.ensures
