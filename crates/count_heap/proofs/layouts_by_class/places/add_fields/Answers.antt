use Rattle.std.proofs.Common.{◌≡◌, ◌+◌, ◌++◌, ◌∷◌, [], map, take, sym, ap, ◌∙◌, subst, arith}
use Rattle.std.proofs.lemmas.List.{take_more}
use Rattle.sil_ast.specs.declared.decl.Field.{Field}
use Rattle.count_heap.specs.LayoutsByClass.ClassFields.{IsFieldInLimits, field_leaves}
use Rattle.count_heap.specs.LayoutsByClass.Layouts.{places_from, size_of}
use Rattle.count_heap.proofs.LayoutsByClass.Lists.{both_places, both_sizes}
use Rattle.count_heap.proofs.LayoutsByClass.FieldLimits.{each_index, size_until}
use Rattle.count_heap.proofs.layouts_by_class.places.add_fields.Goals as goal

pub count_of_field-requires : goal.count_of_field-requires
count_of_field-requires c =
    each_index (IsFieldInLimits c.args.table.now) c.args.fields.now c.loop-field.field-index c.field-item.result c.requires.limits c.loop-field-test.true c.field-item.is

pub add_field-requires : goal.add_field-requires
add_field-requires c =
    let fits = size_until c.args.table.now c.args.fields.now c.loop-field.field-index c.field-item.result c.loop-field-test.true c.field-item.is in
    omega (arith, fits, c.loop-field.invariant.1, c.count_of_field.ensures, c.requires.room)

pub loop-field-preserved : goal.loop-field-preserved
loop-field-preserved c =
    let d = c.args.table.now in
    let fields = c.args.fields.now in
    let i = c.loop-field.field-index in
    let field : Field = c.field-item.result in
    let more : take (i + 1) fields ≡ take i fields ++ field ∷ [] =
    take_more fields i field c.loop-field-test.true ∙ ap (λ f. take i fields ++ f ∷ []) (sym c.field-item.is) in
    let count : c.count_of_field.result ≡ field_leaves d field = c.count_of_field.ensures in
    let places : c.add_field.new.places.places.items ≡ c.loop-field.places.places.items ++ places_from c.loop-field.places.size (map (field_leaves d) (field ∷ [])) =
    c.in_ok-add_field.ensures.places ∙ ap (λ n. c.loop-field.places.places.items ++ record { from = c.loop-field.places.size; count = n } ∷ []) count in
    let size : c.add_field.new.places.size ≡ c.loop-field.places.size + size_of (map (field_leaves d) (field ∷ [])) = omega (arith, c.in_ok-add_field.ensures.size) in
    subst (λ fs. (c.add_field.new.places.places.items ≡ c.args.places.now.places.items ++ places_from c.args.places.now.size (map (field_leaves d) fs))
    × (c.add_field.new.places.size ≡ c.args.places.now.size + size_of (map (field_leaves d) fs))) (sym more) (
      both_places d c.args.places.now.size c.args.places.now.places.items (take i fields) (field ∷ []) c.loop-field.places.places.items c.add_field.new.places.places.items
          c.loop-field.places.size c.add_field.new.places.size c.loop-field.invariant.0 c.loop-field.invariant.1 places size,
      both_sizes d c.args.places.now.size c.args.places.now.places.items (take i fields) (field ∷ []) c.loop-field.places.places.items c.add_field.new.places.places.items
          c.loop-field.places.size c.add_field.new.places.size c.loop-field.invariant.0 c.loop-field.invariant.1 places size,
    )
