-- What a function is given by its address has no weak or unowned storage in it: its type is that of an object.
use Rattle.std.proofs.Common.{◌≡◌, ℕ, Option, Some, None, refl, sym, ap, ◌∙◌, subst, map, true, false}
use Rattle.std.specs.Prelude.{option_map, slice_get}
use Rattle.std.specs.List.{flat_map}
use Rattle.std.proofs.lemmas.Option.{none-some, same_Some, slice_get-map}
use Rattle.argument_conventions.specs.Arguments.{Told, arguments_of, handed_type}
use Rattle.argument_conventions.specs.Rows.{address_row}
use Rattle.argument_conventions.specs.declared.convention.ArgumentConvention.{ArgumentConvention}
use Rattle.argument_conventions.specs.declared.convention.ArgumentConvention.TheVariants as convention
use Rattle.argument_conventions.specs.declared.row.AddressRow.{AddressRow}
use Rattle.numbered_form.specs.Insts.{insts_of}
use Rattle.holder_model_values.specs.RunValues.Shapes.{Shape, shape_of}
use Rattle.sil_ast.specs.Blocks.{args_in, args_of}
use Rattle.sil_ast.specs.declared.function.Block.{Block}
use Rattle.sil_ast.specs.declared.function.BlockArg.{BlockArg}
use Rattle.sil_ast.specs.declared.function.Form.TheVariants.{Ossa}
use Rattle.sil_ast.specs.declared.function.Function.{Function}
use Rattle.sil_ast.specs.declared.module.Module.{Module}
use Rattle.sil_ast.specs.declared.place.ValueId.{ValueId}
use Rattle.sil_ast.specs.declared.type_name.TypeName.{TypeName}
use Rattle.sil_types_declarations.specs.TypeDefinitions.Declarations.{Declarations, declarations_of}
use Rattle.sil_types_declarations.specs.TypeDefinitions.Mentions.{in_arg, in_block, in_inst, in_signature}
use Rattle.sil_types_declarations.specs.TypeDefinitions.Rules.{has_storage, is_misplaced, is_misplaced_value}
use Rattle.sil_types.specs.Typing.Shapes.{is_object, target}
use Rattle.sil_types.specs.Typing.SignatureRules.{fits_by, is_argument_for}
use Rattle.sil_types.specs.Typing.Values.{function_at, value_functions}
use Rattle.sil_verifier_runs.specs.sil_verifier_values.inner.Handed.{IsToldOf}
use Rattle.sil_verifier_runs.specs.sil_verifier_values.inner.Known.{IsAcceptedBody, type_in}
use Rattle.ownership_lowering_laws.specs.holder_model_typing.RunTypingLaws.inner.WellTyped.{IsWellTyped}
use Rattle.sil_verifier_runs.specs.holder_model.RunTyping.Forms.{OfPlace, form_by, form_of, form_with, has_no_storage}
use Rattle.sil_verifier_runs.proofs.sil_verifier_values.Accepted.{typed, well_typed}
use Rattle.sil_verifier_runs.proofs.sil_verifier_values.Parameters.{entry_pairs, pair_at, told_fits, told_of}
use Rattle.sil_verifier_runs.proofs.sil_verifier_values.TableRows.{argument_rows}
use Rattle.ownership_lowering_laws.proofs.holder_model_typing.RunTypingLaws.NoStorage.{no_storage_shape}
use Rattle.ownership_lowering_laws.proofs.holder_model_typing.RunTypingLaws.Rows.Finding.{fails_at, none_in_any, none_in_both}
use Rattle.ownership_lowering_laws.proofs.holder_model_typing.RunTypingLaws.Rows.Layers.{target-Address}
use Rattle.ownership_lowering_laws.proofs.holder_model_typing.RunTypingLaws.Rows.Mentioned.{function_named}
use Rattle.ownership_lowering_laws.proofs.holder_model_typing.RunTypingLaws.Rows.Storage.{behind_address, object_in_storage}
use Rattle.memory_rules_accesses.specs.Sources.{source_at, sources_of}
use Rattle.sil_verifier_runs.specs.sil_verifier_trails.PlacedValues.inner.Arguments.{IsTold}
use Rattle.sil_verifier_runs.proofs.sil_verifier_trails.AcceptedPlaces.Made.{argument_there}
use Rattle.sil_verifier_runs.proofs.sil_verifier_trails.PlacedValues.ArgumentsTold.{arguments_told}
use Rattle.ownership_lowering_runs.specs.StoredRuns.inner.Frames.{IsGivenPlace}
use Rattle.ownership_lowering_runs.proofs.SameRuns.GivenParts.{IsArgumentSource, given_source}

-- what is handed over by its address is an object by its type
address_type : (d : Declarations) (c : ArgumentConvention) (row : AddressRow) (t : TypeName) → address_row c ≡ Some row → fits_by d c t ≡ true
    → (target (handed_type c t) ≡ Some t) × (is_object t ≡ true)
address_type d convention.Plain row t e fits = absurd (none-some row e)
address_type d convention.Owned row t e fits = absurd (none-some row e)
address_type d convention.Guaranteed row t e fits = absurd (none-some row e)
address_type d (convention.Address c) row t e fits = (target-Address t, fits)

module _ (m : Module) (n : ℕ) (f : Function) (a : IsAcceptedBody m n f) where
  abbrev d : Declarations
  d = declarations_of m

  r : IsWellTyped m
  r = well_typed m a.verified

  -- in the type of an argument storage stands only directly behind an address
  argument_placed : (k : ℕ) (x : BlockArg) → slice_get (args_of f 0) k ≡ Some x → is_misplaced_value d x.ty ≡ false
  argument_placed k x at = by (slice_get f.blocks 0) refl at
    where
      by : (o : Option Block) → slice_get f.blocks 0 ≡ o → slice_get (args_in o) k ≡ Some x → is_misplaced_value d x.ty ≡ false
      by None is e = absurd (none-some x e)
      by (Some b) is e =
          let all = none_in_both (is_misplaced d) (in_signature f.signature) (flat_map in_block f.blocks) (function_named m r.declared n f a.body.there).storage in
          let one = none_in_any (is_misplaced d) in_block f.blocks 0 b all.1 is in
          let args = none_in_both (is_misplaced d) (map in_arg b.args) (flat_map in_inst (insts_of b)) one in
          fails_at (is_misplaced d) (map in_arg b.args) k (in_arg x) args.0 (slice_get-map in_arg b.args k ∙ ap (option_map in_arg) e)

  module _ (v : ValueId) (given : IsGivenPlace (declarations_of m) f v) where
    src : IsArgumentSource (source_at (sources_of (declarations_of m) f) v)
    src = given_source m n f a v given

    told : IsTold d f v src.row src.trivial
    told = arguments_told m n f a v src.row src.trivial src.is

    argument : (x : BlockArg) × (slice_get (args_of f 0) told.number ≡ Some x) × (x.value ≡ v)
    argument = argument_there (args_of f 0) told.number v told.is

    pair : (t : Told) × (slice_get (arguments_of f.signature) told.number ≡ Some t) × (is_argument_for Ossa argument.0 t ≡ true)
    pair = pair_at (is_argument_for Ossa) (args_of f 0) (arguments_of f.signature) told.number argument.0 (entry_pairs m n f a) argument.1

    of : IsToldOf d f pair.0 argument.0
    of = told_of m n f a told.number pair.0 argument.0 pair.1 argument.1 pair.2

    same : told.told ≡ pair.0
    same = same_Some told.told pair.0 (sym told.told_is ∙ pair.1)

    object : (target argument.0.ty ≡ Some pair.0.ty) × (is_object pair.0.ty ≡ true)
    object =
        let by = address_type d pair.0.convention src.row pair.0.ty (ap (λ (t : Told). address_row t.convention) (sym same) ∙ told.row_is)
        (told_fits m f (typed m n f a) told.number pair.0 pair.1) in
        (ap target of.typed ∙ by.0, by.1)

    no_storage : has_storage pair.0.ty ≡ false
    no_storage =
        object_in_storage d pair.0.ty object.1
        (behind_address d argument.0.ty pair.0.ty object.0 (argument_placed told.number argument.0 argument.1))

    form_is : form_of d f v ≡ OfPlace (shape_of d pair.0.ty)
    form_is =
        ap (λ o. form_by d o (function_at (value_functions f) v.0))
        (ap (type_in d f) (sym argument.2) ∙ (argument_rows m n f a 0 told.number argument.0 argument.1).typed)
        ∙ ap (form_with d argument.0.ty) object.0

    pub bare_argument : (s : Shape) → form_of (declarations_of m) f v ≡ OfPlace s → has_no_storage s ≡ true
    bare_argument s is =
        let two : OfPlace (shape_of d pair.0.ty) ≡ OfPlace s = sym form_is ∙ is in
        let shape : shape_of d pair.0.ty ≡ s = cc in
        subst (λ u. has_no_storage u ≡ true) shape (no_storage_shape m r pair.0.ty no_storage)
