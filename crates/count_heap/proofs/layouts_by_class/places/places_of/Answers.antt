use Rattle.std.proofs.Common.{◌≡◌, ◌+◌, ◌++◌, [], List, map, sym, ap, ◌∙◌, subst, arith}
use Rattle.std.specs.Option.{option_copied}
use Rattle.sil_rules.specs.declared.limits.TheConstants.{DEPTH}
use Rattle.sil_types.specs.sil_types_declarations.TypeDefinitions.Declarations.{chain, superclass_of}
use Rattle.sil_types.specs.sil_types_declarations.TypeDefinitions.Lookups.{chain_fields, own_fields}
use Rattle.sil_types.specs.numbered_form.Lists.{Each}
use Rattle.count_heap.specs.LayoutsByClass.ClassFields.{IsFieldInLimits, field_leaves}
use Rattle.count_heap.specs.LayoutsByClass.Layouts.{places_from, size_of}
use Rattle.count_heap.specs.declared.layouts_by_class.field_place.FieldPlace.{FieldPlace}
use Rattle.count_heap.proofs.LayoutsByClass.Lists.{both_places, both_sizes, fields_are}
use Rattle.count_heap.proofs.LayoutsByClass.FieldLimits.{chain_small, own_small}
use Rattle.count_heap.proofs.layouts_by_class.places.places_of.Goals as goal

pub add_chain-requires-clause-room : goal.add_chain-requires-clause-room
add_chain-requires-clause-room c = omega (arith, chain_small c.args.table.now c.requires DEPTH (option_copied c.superclass.result))

pub add_fields-requires-clause-limits : goal.add_fields-requires-clause-limits
add_fields-requires-clause-limits c =
    subst (Each (IsFieldInLimits c.args.table.now)) (sym c.own_fields.ensures) (c.requires.leaves c.args.class.now)

pub add_fields-requires-clause-room : goal.add_fields-requires-clause-room
add_fields-requires-clause-room c =
    let d = c.args.table.now in
    let own = ap (λ fs. size_of (map (field_leaves d) fs)) c.own_fields.ensures in
    omega (arith, chain_small d c.requires DEPTH (option_copied c.superclass.result), own, own_small d c.requires c.args.class.now, c.in_ok-add_chain.ensures.size)

pub returns-clause-places : goal.returns-clause-places
returns-clause-places c =
    let d = c.args.table.now in
    let now : c.add_chain.new.places.places.items ≡ [] ++ places_from 0 (map (field_leaves d) (chain_fields d (chain d DEPTH (superclass_of d c.args.class.now)))) =
    c.in_ok-add_chain.ensures.places ∙ ap (λ (ps : List FieldPlace). ps ++ places_from 0 (map (field_leaves d) (chain_fields d (chain d DEPTH
    (option_copied c.superclass.result))))) c.new.ensures.items
    ∙ ap (λ o. [] ++ places_from 0 (map (field_leaves d) (chain_fields d (chain d DEPTH o)))) c.superclass.ensures in
    let size : c.add_chain.new.places.size ≡ 0 + size_of (map (field_leaves d) (chain_fields d (chain d DEPTH (superclass_of d c.args.class.now)))) =
    c.in_ok-add_chain.ensures.size ∙ ap (λ o. 0 + size_of (map (field_leaves d) (chain_fields d (chain d DEPTH o)))) c.superclass.ensures in
    let then : c.add_fields.new.places.places.items ≡ c.add_chain.new.places.places.items ++ places_from c.add_chain.new.places.size (map (field_leaves d) (own_fields d c.args.class.now)) =
    c.in_ok-add_fields.ensures.places ∙ ap (λ fs. c.add_chain.new.places.places.items ++ places_from c.add_chain.new.places.size (map (field_leaves d) fs)) c.own_fields.ensures in
    let then_size : c.add_fields.new.places.size ≡ c.add_chain.new.places.size + size_of (map (field_leaves d) (own_fields d c.args.class.now)) =
    c.in_ok-add_fields.ensures.size ∙ ap (λ fs. c.add_chain.new.places.size + size_of (map (field_leaves d) fs)) c.own_fields.ensures in
    both_places d 0 [] (chain_fields d (chain d DEPTH (superclass_of d c.args.class.now))) (own_fields d c.args.class.now)
    c.add_chain.new.places.places.items c.add_fields.new.places.places.items c.add_chain.new.places.size c.add_fields.new.places.size now size then then_size
    ∙ ap (λ fs. places_from 0 (map (field_leaves d) fs)) (sym (fields_are d c.args.class.now))

pub returns-clause-size : goal.returns-clause-size
returns-clause-size c =
    let d = c.args.table.now in
    let now : c.add_chain.new.places.places.items ≡ [] ++ places_from 0 (map (field_leaves d) (chain_fields d (chain d DEPTH (superclass_of d c.args.class.now)))) =
    c.in_ok-add_chain.ensures.places ∙ ap (λ (ps : List FieldPlace). ps ++ places_from 0 (map (field_leaves d) (chain_fields d (chain d DEPTH
    (option_copied c.superclass.result))))) c.new.ensures.items
    ∙ ap (λ o. [] ++ places_from 0 (map (field_leaves d) (chain_fields d (chain d DEPTH o)))) c.superclass.ensures in
    let size : c.add_chain.new.places.size ≡ 0 + size_of (map (field_leaves d) (chain_fields d (chain d DEPTH (superclass_of d c.args.class.now)))) =
    c.in_ok-add_chain.ensures.size ∙ ap (λ o. 0 + size_of (map (field_leaves d) (chain_fields d (chain d DEPTH o)))) c.superclass.ensures in
    let then : c.add_fields.new.places.places.items ≡ c.add_chain.new.places.places.items ++ places_from c.add_chain.new.places.size (map (field_leaves d) (own_fields d c.args.class.now)) =
    c.in_ok-add_fields.ensures.places ∙ ap (λ fs. c.add_chain.new.places.places.items ++ places_from c.add_chain.new.places.size (map (field_leaves d) fs)) c.own_fields.ensures in
    let then_size : c.add_fields.new.places.size ≡ c.add_chain.new.places.size + size_of (map (field_leaves d) (own_fields d c.args.class.now)) =
    c.in_ok-add_fields.ensures.size ∙ ap (λ fs. c.add_chain.new.places.size + size_of (map (field_leaves d) fs)) c.own_fields.ensures in
    let all = both_sizes d 0 [] (chain_fields d (chain d DEPTH (superclass_of d c.args.class.now))) (own_fields d c.args.class.now)
    c.add_chain.new.places.places.items c.add_fields.new.places.places.items c.add_chain.new.places.size c.add_fields.new.places.size now size then then_size in
    omega (arith, all, ap (λ fs. size_of (map (field_leaves d) fs)) (sym (fields_are d c.args.class.now)))
