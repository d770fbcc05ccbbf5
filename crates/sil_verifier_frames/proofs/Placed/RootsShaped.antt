-- In a typed frame the place of a root is of a trivial type just where the root is told to be.
use Rattle.std.proofs.Common.{◌≡◌, ℕ, zero, suc, List, [], ◌∷◌, map, refl, sym, ap, ◌∙◌, subst, Bool, true, false, Option, Some, None}
use Rattle.std.specs.Prelude.{option_map, slice_get, unwrap_or}
use Rattle.std.proofs.lemmas.Bool.{true≢false}
use Rattle.std.proofs.lemmas.Option.{none-some, same_Some}
use Rattle.holder_model_laws.specs.memory_rules_accesses.Operations.{access_kind_of}
use Rattle.holder_model_laws.specs.memory_rules_accesses.Sources.{is_slot_source, is_trivial_at, is_trivial_source, result_source, slot_source, source_at, source_by, sources_of}
use Rattle.holder_model_laws.specs.memory_rules_accesses.declared.source.Source.{Source}
use Rattle.holder_model_laws.specs.memory_rules_accesses.declared.source.Source.TheVariants as source
use Rattle.sil_verifier_trails.proofs.AcceptedPlaces.Made.{argument_there}
use Rattle.sil_verifier_trails.proofs.AcceptedPlaces.OperationsRight.{stands_somewhere}
use Rattle.sil_verifier_trails.proofs.AcceptedPlaces.ItemStacks.{opens_no_slot}
use Rattle.sil_verifier_trails.proofs.sil_verifier_values.Accepted.{well_typed}
use Rattle.sil_verifier_trails.proofs.sil_verifier_values.Counted.{stands}
use Rattle.sil_verifier_trails.proofs.sil_verifier_values.Made.{made_somewhere}
use Rattle.sil_verifier_trails.proofs.sil_verifier_values.TableRows.{argument_rows, result_rows}
use Rattle.sil_verifier_trails.proofs.holder_model_typing.RunTypingLaws.Rows.Finding.{each_at, if_some}
use Rattle.sil_verifier_trails.proofs.holder_model_typing.RunTypingLaws.Rows.Layers.{target-Address}
use Rattle.sil_verifier_trails.proofs.holder_model_typing.RunTypingLaws.Rows.Points.{has_types}
use Rattle.sil_verifier_trails.proofs.holder_model_typing.RunTypingLaws.Sizes.{no_addresses, plain_type}
use Rattle.holder_model_laws.specs.sil_types.Typing.RowTypes.{address_of, given_by, made_types}
use Rattle.holder_model_laws.specs.sil_types.Typing.Shapes.{is_trivial_object, target, target_in}
use Rattle.holder_model_laws.specs.sil_types.Typing.Values.{function_at, value_functions}
use Rattle.sil_verifier_trails.specs.sil_verifier_values.inner.Known.{IsAcceptedBody, type_in}
use Rattle.sil_verifier_trails.specs.sil_verifier_values.inner.Making.{IsMadeAt}
use Rattle.holder_model_laws.specs.holder_model.RunTyping.Forms.{OfPlace, form_by, form_with}
use Rattle.argument_conventions.specs.declared.row.AddressRow.{AddressRow}
use Rattle.instruction_table.specs.declared.op.Op.{Op}
use Rattle.instruction_table.specs.declared.op.Op.TheVariants as op
use Rattle.sil_cfg_items.specs.Items.{arg_value}
use Rattle.numbered_form.specs.inner.Types.{HasArgType, HasBlockTypes, HasFunctionTypes, IsPlainType, is_placed_at, is_placed_type, is_plain_type}
use Rattle.sil_verifier_trails.proofs.PlacedValues.ArgumentsTold.{arguments_told, is_value}
use Rattle.sil_verifier_trails.proofs.PlacedValues.RootsTold.{roots_trivial}
use Rattle.sil_verifier_trails.proofs.PlacedValues.Sourcing.{argument_no_slot, result_no_slot}
use Rattle.sil_verifier_trails.specs.PlacedValues.inner.Arguments.{IsStackRoot}
use Rattle.numbered_form.specs.PointChecks.Points.{IsAt}
use Rattle.holder_model_values.specs.RunValues.Shapes.{Shape, shape_of}
use Rattle.holder_model_values.specs.RunValues.Trivial.{is_trivial}
use Rattle.sil_ast.specs.Blocks.{args_in, args_of}
use Rattle.sil_ast.specs.declared.function.Block.{Block}
use Rattle.sil_ast.specs.declared.function.BlockArg.{BlockArg}
use Rattle.sil_ast.specs.declared.function.Function.{Function}
use Rattle.sil_ast.specs.declared.module.Module.{Module}
use Rattle.sil_ast.specs.declared.place.FuncId.{FuncId}
use Rattle.sil_ast.specs.declared.place.ValueId.{ValueId}
use Rattle.sil_ast.specs.declared.type_name.TypeName.{TypeName, TypeName-F, out-TypeName}
use Rattle.sil_cfg.specs.declared.item.Item.{Item}
use Rattle.sil_cfg.specs.declared.item.Item.TheVariants as item
use Rattle.sil_cfg.specs.inner.Splice.{Stop}
use Rattle.sil_types_declarations.specs.TypeDefinitions.Declarations.{Declarations, declarations_of}
use Rattle.sil_verifier_frames.specs.inner.Placed.Premises.{AreRootsShaped}
use Rattle.sil_verifier_frames.specs.inner.Placed.Roots.{IsThere, argument, slot}
use Rattle.sil_verifier_frames.proofs.Placed.PlainAddresses.{named_shape, typed_place}
use Rattle.sil_verifier_frames.proofs.Placed.PlainShapes.{object_shape}

-- what stands behind the one `*` is written without
placed_target : (ty t : TypeName) → is_placed_type ty ≡ true → target ty ≡ Some t → is_plain_type t ≡ true
placed_target ty t placed points = at (out-TypeName ty) placed points
  where
    at : (layer : TypeName-F TypeName) → is_placed_at ty layer ≡ true → target_in layer ≡ Some t → is_plain_type t ≡ true
    at (TypeName-F.Int w) h e = absurd (none-some t e)
    at (TypeName-F.Named name) h e = absurd (none-some t e)
    at (TypeName-F.Optional inner) h e = absurd (none-some t e)
    at (TypeName-F.Tuple parts) h e = absurd (none-some t e)
    at (TypeName-F.Weak inner) h e = absurd (none-some t e)
    at (TypeName-F.Unowned inner) h e = absurd (none-some t e)
    at (TypeName-F.Address inner) h e = subst (λ u. is_plain_type u ≡ true) (same_Some inner t e) h

alloc_row : (o : Op) → opens_no_slot (access_kind_of o) ≡ false → o ≡ op.AllocStack
alloc_row op.AllocStack e = refl
alloc_row _ e = absurd (true≢false e)

made_slot : (d : Declarations) (o : Option TypeName) (trivial : Bool) → slot_source d o ≡ source.Slot trivial → (t : TypeName) × (o ≡ Some t)
made_slot d None trivial e = absurd (cc)
made_slot d (Some t) trivial e = (t, refl)

only_address : (t ty : TypeName) (k : ℕ) → slice_get (address_of t ∷ []) k ≡ Some ty → target ty ≡ Some t
only_address t ty zero e = ap target (sym (same_Some (address_of t) ty e)) ∙ target-Address t
only_address t ty (suc k) e = absurd (none-some ty e)

-- the place of what has the form of one is of the shape of the type behind the `*`
place_shape : (d : Declarations) (ty t : TypeName) (s : Shape) (g : Option FuncId) → target ty ≡ Some t → form_by d (Some ty) g ≡ OfPlace s → s ≡ shape_of d t
place_shape d ty t s g points is = by (target ty) points is
  where
    by : (o : Option TypeName) → o ≡ Some t → form_with d ty o ≡ OfPlace s → s ≡ shape_of d t
    by None e h = absurd (none-some t e)
    by (Some u) e h = let same : shape_of d u ≡ s = cc in sym same ∙ ap (shape_of d) (same_Some u t e)

module _ (m : Module) (n : ℕ) (f : Function) (a : IsAcceptedBody m n f) where
  abbrev d : Declarations
  d = declarations_of m

  abbrev sources : List Source
  sources = sources_of d f

  written : HasFunctionTypes f
  written = each_at HasFunctionTypes m.functions n f a.verified.numbered.types.functions a.body.there

  -- an argument of the entry is written with one `*` at most
  argument_placed : (k : ℕ) (x : BlockArg) → slice_get (args_of f 0) k ≡ Some x → is_placed_type x.ty ≡ true
  argument_placed k x at = by (slice_get f.blocks 0) refl at
    where
      by : (o : Option Block) → slice_get f.blocks 0 ≡ o → slice_get (args_in o) k ≡ Some x → is_placed_type x.ty ≡ true
      by None is e = absurd (none-some x e)
      by (Some b) is e = (each_at HasArgType b.args k x (each_at HasBlockTypes f.blocks 0 b written.blocks is).args e).written

  of_argument : (v : ValueId) (row : AddressRow) (trivial : Bool) → source_at sources v ≡ source.Argument row trivial → (ty t : TypeName) → type_in d f v ≡ Some ty
      → target ty ≡ Some t → is_plain_type t ≡ true
  of_argument v row trivial is ty t has_type points =
      let told = arguments_told m n f a v row trivial is in
      let x = argument_there (args_of f 0) told.number v told.is in
      let typed : type_in d f v ≡ Some x.0.ty = ap (type_in d f) (sym x.2) ∙ (argument_rows m n f a 0 told.number x.0 x.1).typed in
      placed_target x.0.ty t (argument_placed told.number x.0 x.1) (ap target (sym (same_Some ty x.0.ty (sym has_type ∙ typed))) ∙ points)

  of_slot : (v : ValueId) (trivial : Bool) → source_at sources v ≡ source.Slot trivial → (s : Stop) → IsMadeAt f v s → (ty t : TypeName) → type_in d f v ≡ Some ty
      → target ty ≡ Some t → is_plain_type t ≡ true
  of_slot v trivial is _ (IsMadeAt.result p i at c) ty t has_type points = by (opens_no_slot (access_kind_of i.op)) refl
    where
      here : (b k : ℕ) × IsAt f b k i
      here = stands_somewhere f (item.Inst p) i at

      place : (k : ℕ) × (slice_get i.results k ≡ Some v)
      place = stands i.results v c

      from : source_at sources v ≡ result_source d i
      from = (result_rows m n f a here.0 here.1 place.0 i v here.2 place.1).source

      by : (b : Bool) → opens_no_slot (access_kind_of i.op) ≡ b → is_plain_type t ≡ true
      by true e = absurd (true≢false (sym (ap is_slot_source (sym from ∙ is)) ∙ result_no_slot (access_kind_of i.op) d i e))
      by false e =
          let o : i.op ≡ op.AllocStack = alloc_row i.op e in
          let slot_is = made_slot d i.ty trivial (sym (ap (λ y. source_by (access_kind_of y) d i) o) ∙ sym from ∙ is) in
          let made : made_types d i ≡ address_of slot_is.0 ∷ [] =
          ap (λ y. unwrap_or (given_by y d i) []) o ∙ ap (λ y. unwrap_or (option_map (λ t. t ∷ []) (option_map address_of y)) []) slot_is.1 in
          let own : target ty ≡ Some slot_is.0 =
          only_address slot_is.0 ty place.0 (ap (λ ts. slice_get ts place.0) (sym made) ∙ sym (result_rows m n f a here.0 here.1 place.0 i v here.2 place.1).typed ∙ has_type) in
          let plain = (if_some IsPlainType i.ty slot_is.0 slot_is.1 (has_types m (well_typed m a.verified) n f a.body.there p i at).ty).written in
          subst (λ u. is_plain_type u ≡ true) (same_Some slot_is.0 t (sym own ∙ points)) plain
  of_slot v trivial is _ (IsMadeAt.parameter c) ty t has_type points =
      let s = stands (map arg_value (args_of f 0)) v c in
      let x = argument_there (args_of f 0) s.0 v s.1 in
      absurd (true≢false (sym (ap is_slot_source (sym (ap (source_at sources) (sym x.2) ∙ (argument_rows m n f a 0 s.0 x.0 x.1).source) ∙ is)) ∙ argument_no_slot d f 0 s.0))
  of_slot v trivial is _ (IsMadeAt.argument b within c) ty t has_type points =
      let s = stands (map arg_value (args_of f b)) v c in
      let x = argument_there (args_of f b) s.0 v s.1 in
      absurd (true≢false (sym (ap is_slot_source (sym (ap (source_at sources) (sym x.2) ∙ (argument_rows m n f a b s.0 x.0 x.1).source) ∙ is)) ∙ argument_no_slot d f b s.0))

  -- of a root the type behind the `*` is written without one
  root_plain : (trail : List Item) (v : ValueId) → IsThere d f trail v → (ty t : TypeName) → type_in d f v ≡ Some ty → target ty ≡ Some t → is_plain_type t ≡ true
  root_plain trail v (slot trivial is there) ty t has_type points =
      let at = made_somewhere m n f a v (is_value m n f a v (λ e. let two : source.Other ≡ source.Slot trivial = sym e ∙ is in cc)) in
      of_slot v trivial is at.0 at.1 ty t has_type points
  root_plain trail v (argument row trivial is) ty t has_type points = of_argument v row trivial is ty t has_type points

  pub root_trivial : (trail : List Item) (v : ValueId) → IsThere d f trail v → (ty t : TypeName) → type_in d f v ≡ Some ty → target ty ≡ Some t
      → is_trivial_at sources v ≡ is_trivial_object d t
  root_trivial trail v (slot trivial is there) ty t has_type points =
      ap is_trivial_source is ∙ roots_trivial m n f a v trivial (subst (IsStackRoot trivial) (sym is) IsStackRoot.slot) ty t has_type points
  root_trivial trail v (argument row trivial is) ty t has_type points =
      ap is_trivial_source is ∙ roots_trivial m n f a v trivial (subst (IsStackRoot trivial) (sym is) (IsStackRoot.argument row)) ty t has_type points

pub roots_shaped : AreRootsShaped
roots_shaped m n f w entries a typed trail v there p names =
    let address = named_shape m w n f a entries typed v p names in
    let ty = typed_place m f v p.shape address in
    let shape : p.shape ≡ shape_of (declarations_of m) ty.1 =
    place_shape (declarations_of m) ty.0 ty.1 p.shape (function_at (value_functions f) v.0) ty.3
    (ap (λ o. form_by (declarations_of m) o (function_at (value_functions f) v.0)) (sym ty.2) ∙ address) in
    ap is_trivial shape
    ∙ object_shape (declarations_of m) (no_addresses m (well_typed m a.verified)) ty.1 (plain_type ty.1 (root_plain m n f a trail v there ty.0 ty.1 ty.2 ty.3))
    ∙ sym (root_trivial m n f a trail v there ty.0 ty.1 ty.2 ty.3)
