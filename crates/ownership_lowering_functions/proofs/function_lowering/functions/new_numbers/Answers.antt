use Rattle.std.proofs.Common.{◌≡◌, ◌<◌, ◌^◌, ◌∙◌, ap, arith, length, refl, subst, sym}
use Rattle.std.proofs.lemmas.Result.{IfOk-weaker}
use Rattle.numbered_form.specs.Numbering.{values_of}
use Rattle.ownership_kinds_origins.specs.Renamings.{renamings_of}
use Rattle.ownership_lowering_model.specs.LoweredBlocks.{lowered_blocks}
use Rattle.ownership_lowering_model.specs.Names.{stands_for}
use Rattle.ownership_lowering_model.specs.Numbers.{place_among}
use Rattle.ownership_lowering_functions.specs.ValueRenumbering.inner.NewNumbers.{place_in}
use Rattle.ownership_lowering_functions.proofs.FunctionLowering.FewValues.{few_defined, room_for_spares}
use Rattle.ownership_lowering_functions.proofs.FunctionLowering.Numbering.{own_become}
use Rattle.ownership_lowering_functions.proofs.function_lowering.functions.new_numbers.Goals as goal

pub overflow_cast-spare : goal.overflow_cast-spare
overflow_cast-spare c = omega (arith, room_for_spares c.args.table.now c.args.f.now c.args.renamings.now c.args.f.now.blocks c.requires.lowerable.limits c.requires.renamings refl)

pub defined_values-requires : goal.defined_values-requires
defined_values-requires c =
    room_for_spares c.args.table.now c.args.f.now c.args.renamings.now c.as_slice.result.now c.requires.lowerable.limits c.requires.renamings c.as_slice.ensures

pub numbers_by_place-requires : goal.numbers_by_place-requires
numbers_by_place-requires c =
    let d = c.args.table.now in
    let f = c.args.f.now in
    subst (λ vs. length vs < 2 ^ 32)
    (sym (c.as_slice-2.ensures ∙ c.in_ok-defined.ensures ∙ ap values_of (own_become d f c.args.renamings.now c.as_slice.result.now c.as_slice.ensures c.requires.renamings)))
    (few_defined d (renamings_of f) f (length (values_of f.blocks)) c.requires.lowerable.limits)

pub returns : goal.returns
returns c =
    let d = c.args.table.now in
    let f = c.args.f.now in
    let places = c.in_ok-places.places in
    let defined : c.as_slice-2.result.now ≡ values_of (lowered_blocks d f) =
    c.as_slice-2.ensures ∙ c.in_ok-defined.ensures ∙ ap values_of (own_become d f c.args.renamings.now c.as_slice.result.now c.as_slice.ensures c.requires.renamings) in
    IfOk-weaker c.numbers_of_names.result _ _ (λ numbers named v.
    named v
    ∙ ap (λ rs. place_in places (stands_for rs v)) c.requires.renamings
    ∙ c.in_ok-places.ensures (stands_for (renamings_of f) v)
    ∙ ap (λ vs. place_among vs (stands_for (renamings_of f) v)) defined)
    c.numbers_of_names.ensures
