use Rattle.std.proofs.Common.{◌≡◌, ◌+◌, ◌-◌, ◌≤◌, ◌++◌, map, sym, ap, ◌∙◌, subst, arith}
use Rattle.std.specs.Option.{option_copied}
use Rattle.sil_types.specs.sil_types_declarations.TypeDefinitions.Declarations.{chain, superclass_of}
use Rattle.sil_types.specs.sil_types_declarations.TypeDefinitions.Lookups.{chain_fields, own_fields}
use Rattle.sil_types.specs.numbered_form.Lists.{Each}
use Rattle.count_heap.specs.LayoutsByClass.ClassFields.{IsFieldInLimits, field_leaves}
use Rattle.count_heap.specs.LayoutsByClass.Layouts.{places_from, size_of}
use Rattle.count_heap.proofs.LayoutsByClass.Lists.{both_places, both_sizes, fields_on}
use Rattle.count_heap.proofs.LayoutsByClass.FieldLimits.{size_both}
use Rattle.count_heap.proofs.layouts_by_class.places.+add_chain.Goals as goal

pub add_chain-requires : goal.add_chain-requires
add_chain-requires t c =
    let d = c.args.table.now in
    let some : 1 ≤ c.args.most = omega arith in
    let all = sym (fields_on d c.args.most c.in-Some.class.now some) ∙ ap (λ o. chain_fields d (chain d c.args.most (option_copied o))) (sym c.in-Some.is) in
    let both = size_both d (chain_fields d (chain d (c.args.most - 1) (superclass_of d c.in-Some.class.now))) (own_fields d c.in-Some.class.now) in
    let above = ap (λ o. size_of (map (field_leaves d) (chain_fields d (chain d (c.args.most - 1) o)))) c.superclass.ensures in
    (omega arith, (c.requires.limits, omega (arith, both, ap (λ fs. size_of (map (field_leaves d) fs)) all, above, c.requires.room)))

pub add_fields-requires-clause-limits : goal.add_fields-requires-clause-limits
add_fields-requires-clause-limits t c =
    subst (Each (IsFieldInLimits c.args.table.now)) (sym c.own_fields.ensures) (c.requires.limits.leaves c.in-Some.class.now)

pub add_fields-requires-clause-room : goal.add_fields-requires-clause-room
add_fields-requires-clause-room t c =
    let d = c.args.table.now in
    let some : 1 ≤ c.args.most = omega arith in
    let all = sym (fields_on d c.args.most c.in-Some.class.now some) ∙ ap (λ o. chain_fields d (chain d c.args.most (option_copied o))) (sym c.in-Some.is) in
    let both = size_both d (chain_fields d (chain d (c.args.most - 1) (superclass_of d c.in-Some.class.now))) (own_fields d c.in-Some.class.now) in
    let above = ap (λ o. size_of (map (field_leaves d) (chain_fields d (chain d (c.args.most - 1) o)))) c.superclass.ensures in
    let own = ap (λ fs. size_of (map (field_leaves d) fs)) c.own_fields.ensures in
    omega (arith, both, ap (λ fs. size_of (map (field_leaves d) fs)) all, above, own, c.in_ok-add_chain.ensures.size, c.requires.room)

pub returns-clause-places : goal.returns-clause-places
returns-clause-places t c =
    let d = c.args.table.now in
    let some : 1 ≤ c.args.most = omega arith in
    let now : c.add_chain.new.places.places.items ≡ c.args.places.now.places.items ++ places_from c.args.places.now.size (map (field_leaves d) (chain_fields d (chain d (c.args.most - 1)
    (superclass_of d c.in-Some.class.now)))) =
    c.in_ok-add_chain.ensures.places
    ∙ ap (λ o. c.args.places.now.places.items ++ places_from c.args.places.now.size (map (field_leaves d) (chain_fields d (chain d (c.args.most - 1) o)))) c.superclass.ensures in
    let size : c.add_chain.new.places.size ≡ c.args.places.now.size + size_of (map (field_leaves d) (chain_fields d (chain d (c.args.most - 1) (superclass_of d c.in-Some.class.now)))) =
    c.in_ok-add_chain.ensures.size ∙ ap (λ o. c.args.places.now.size + size_of (map (field_leaves d) (chain_fields d (chain d (c.args.most - 1) o)))) c.superclass.ensures in
    let then : c.add_fields.new.places.places.items ≡ c.add_chain.new.places.places.items ++ places_from c.add_chain.new.places.size (map (field_leaves d) (own_fields d c.in-Some.class.now)) =
    c.in_ok-add_fields.ensures.places ∙ ap (λ fs. c.add_chain.new.places.places.items ++ places_from c.add_chain.new.places.size (map (field_leaves d) fs)) c.own_fields.ensures in
    let then_size : c.add_fields.new.places.size ≡ c.add_chain.new.places.size + size_of (map (field_leaves d) (own_fields d c.in-Some.class.now)) =
    c.in_ok-add_fields.ensures.size ∙ ap (λ fs. c.add_chain.new.places.size + size_of (map (field_leaves d) fs)) c.own_fields.ensures in
    let all = sym (fields_on d c.args.most c.in-Some.class.now some) ∙ ap (λ o. chain_fields d (chain d c.args.most (option_copied o))) (sym c.in-Some.is) in
    both_places d c.args.places.now.size c.args.places.now.places.items (chain_fields d (chain d (c.args.most - 1) (superclass_of d c.in-Some.class.now))) (own_fields d c.in-Some.class.now)
    c.add_chain.new.places.places.items c.add_fields.new.places.places.items c.add_chain.new.places.size c.add_fields.new.places.size now size then then_size
    ∙ ap (λ fs. c.args.places.now.places.items ++ places_from c.args.places.now.size (map (field_leaves d) fs)) all

pub returns-clause-size : goal.returns-clause-size
returns-clause-size t c =
    let d = c.args.table.now in
    let some : 1 ≤ c.args.most = omega arith in
    let now : c.add_chain.new.places.places.items ≡ c.args.places.now.places.items ++ places_from c.args.places.now.size (map (field_leaves d) (chain_fields d (chain d (c.args.most - 1)
    (superclass_of d c.in-Some.class.now)))) =
    c.in_ok-add_chain.ensures.places
    ∙ ap (λ o. c.args.places.now.places.items ++ places_from c.args.places.now.size (map (field_leaves d) (chain_fields d (chain d (c.args.most - 1) o)))) c.superclass.ensures in
    let size : c.add_chain.new.places.size ≡ c.args.places.now.size + size_of (map (field_leaves d) (chain_fields d (chain d (c.args.most - 1) (superclass_of d c.in-Some.class.now)))) =
    c.in_ok-add_chain.ensures.size ∙ ap (λ o. c.args.places.now.size + size_of (map (field_leaves d) (chain_fields d (chain d (c.args.most - 1) o)))) c.superclass.ensures in
    let then : c.add_fields.new.places.places.items ≡ c.add_chain.new.places.places.items ++ places_from c.add_chain.new.places.size (map (field_leaves d) (own_fields d c.in-Some.class.now)) =
    c.in_ok-add_fields.ensures.places ∙ ap (λ fs. c.add_chain.new.places.places.items ++ places_from c.add_chain.new.places.size (map (field_leaves d) fs)) c.own_fields.ensures in
    let then_size : c.add_fields.new.places.size ≡ c.add_chain.new.places.size + size_of (map (field_leaves d) (own_fields d c.in-Some.class.now)) =
    c.in_ok-add_fields.ensures.size ∙ ap (λ fs. c.add_chain.new.places.size + size_of (map (field_leaves d) fs)) c.own_fields.ensures in
    let all = sym (fields_on d c.args.most c.in-Some.class.now some) ∙ ap (λ o. chain_fields d (chain d c.args.most (option_copied o))) (sym c.in-Some.is) in
    both_sizes d c.args.places.now.size c.args.places.now.places.items (chain_fields d (chain d (c.args.most - 1) (superclass_of d c.in-Some.class.now))) (own_fields d c.in-Some.class.now)
    c.add_chain.new.places.places.items c.add_fields.new.places.places.items c.add_chain.new.places.size c.add_fields.new.places.size now size then then_size
    ∙ ap (λ fs. c.args.places.now.size + size_of (map (field_leaves d) fs)) all
