-- The rows of weak and unowned storage, which names an object.
use Rattle.std.proofs.Common.{◌≡◌, [], ◌∷◌, ◌⊎◌, inl, inr, refl, ap, ap₂, ◌∙◌, subst, true, false, Some}
use Rattle.std.specs.Prelude.{option_and_then, take}
use Rattle.std.specs.Option.{option_to_list}
use Rattle.instruction_table.specs.declared.op.Op.TheVariants as op
use Rattle.numbered_form.specs.inner.Parts.{is_plain_or_init, is_plain_or_take}
use Rattle.sil_ast.specs.declared.decl.Storage.{Storage}
use Rattle.sil_ast.specs.declared.decl.Storage.TheVariants as storage
use Rattle.sil_ast.specs.declared.function.Form.TheVariants.{Lowered}
use Rattle.sil_ast.specs.declared.function.Function.{Function}
use Rattle.sil_ast.specs.declared.inst.Inst.{Inst}
use Rattle.sil_ast.specs.declared.inst.Qualifier.{Qualifier}
use Rattle.sil_ast.specs.declared.inst.Qualifier.TheVariants as word
use Rattle.sil_ast.specs.declared.module.Module.{Module}
use Rattle.sil_ast.specs.declared.type_name.TypeName.{TypeName, TypeName-F, out-TypeName}
use Rattle.sil_ast.specs.declared.type_name.TypeName.TheVariants as type
use Rattle.holder_model.specs.Effects.{effect_of}
use Rattle.holder_model.specs.memory_rules_accesses.Operations.{access_kind_of, load_operation, operation_by, store_operation}
use Rattle.holder_model.specs.sil_types_declarations.TypeDefinitions.Declarations.{declarations_of}
use Rattle.holder_model.specs.sil_types_declarations.TypeDefinitions.Rules.{is_misplaced_value}
use Rattle.holder_model.specs.sil_types.Typing.FormRules.{is_at_storage}
use Rattle.holder_model.specs.sil_types.Typing.OperandTypes.{has_type}
use Rattle.holder_model.specs.sil_types.Typing.RowTypes.{gives, written}
use Rattle.holder_model.specs.sil_types.Typing.Same.{all_pairs}
use Rattle.holder_model.specs.sil_types.Typing.Shapes.{in_unowned, in_weak, is_storage, is_storage_layer, target, unowned_at, weak_at}
use Rattle.holder_model.specs.sil_types.Typing.Values.{value_types}
use Rattle.holder_model.specs.holder_model_values.RunValues.Shapes.{Stored, shape_of}
use Rattle.holder_model.specs.RunTyping.Forms.{OfPlace, OfValue}
use Rattle.holder_model.specs.RunTyping.RowForms.{IsLoadOf, IsStoreOf, again, destroys_name, first, loads_name, reads, stores_name, takes}
use Rattle.holder_model.specs.RunTyping.StorageForms.{IsNamed}
use Rattle.holder_model_typing.specs.RunTypingLaws.inner.WellTyped.{IsWellTyped}
use Rattle.holder_model_typing.proofs.RunTypingLaws.ShapeFacts.{class_type_shape, unowned_shape, weak_shape}
use Rattle.holder_model_typing.proofs.RunTypingLaws.Rows.Counting.{placed_at}
use Rattle.holder_model_typing.proofs.RunTypingLaws.Rows.Finding.{found_behind, passed}
use Rattle.holder_model_typing.proofs.RunTypingLaws.Rows.Forms.{place_form, typed_form, value_form}
use Rattle.holder_model_typing.proofs.RunTypingLaws.Rows.Known.{Known, in_lowered}
use Rattle.holder_model_typing.proofs.RunTypingLaws.Rows.Layers.{is_unowned, is_weak, target-Named, target-Optional, unowned_type, weak_type}
use Rattle.holder_model_typing.proofs.RunTypingLaws.Rows.Shares.{Row, given_one, gives_form, of_parts, one_operand, row_of, taken_from, two_operands}
use Rattle.holder_model_typing.proofs.RunTypingLaws.Rows.Storage.{behind_address, in_unowned_storage, in_weak_storage, optional_type, unowned_is_named, weak_is_named}

is_load : (q : Qualifier) → is_plain_or_take q ≡ true → IsLoadOf (load_operation q)
is_load word.Plain e = reads
is_load word.Copy e = absurd (cc)
is_load word.Take e = takes
is_load word.Trivial e = absurd (cc)
is_load word.Init e = absurd (cc)
is_load word.Assign e = absurd (cc)

is_store : (q : Qualifier) → is_plain_or_init q ≡ true → IsStoreOf (store_operation q)
is_store word.Plain e = again
is_store word.Copy e = absurd (cc)
is_store word.Take e = absurd (cc)
is_store word.Trivial e = absurd (cc)
is_store word.Init e = first
is_store word.Assign e = absurd (cc)

storage_type : (t : TypeName) → is_storage t ≡ true → ((inner : TypeName) × (t ≡ type.Weak inner)) ⊎ ((inner : TypeName) × (t ≡ type.Unowned inner))
storage_type t e = at (out-TypeName t) refl e
  where
    at : (layer : TypeName-F TypeName) → out-TypeName t ≡ layer → is_storage_layer layer ≡ true → ((inner : TypeName) × (t ≡ type.Weak inner)) ⊎ ((inner : TypeName) × (t ≡ type.Unowned inner))
    at (TypeName-F.Int w) o e = absurd (cc)
    at (TypeName-F.Named name) o e = absurd (cc)
    at (TypeName-F.Optional x) o e = absurd (cc)
    at (TypeName-F.Tuple parts) o e = absurd (cc)
    at (TypeName-F.Weak x) o e = inl (x, is_weak t x o)
    at (TypeName-F.Unowned x) o e = inr (x, is_unowned t x o)
    at (TypeName-F.Address x) o e = absurd (cc)

module _ (m : Module) (r : IsWellTyped m) where
  -- storage of this kind at an address, which names a value of the inner type
  record IsStorageOf (w : Storage) (t inner : TypeName) : Type 0 where
    place : typed_form (declarations_of m) t ≡ OfPlace (Stored w (shape_of (declarations_of m) inner))
    value : typed_form (declarations_of m) inner ≡ OfValue (shape_of (declarations_of m) inner)
    named : IsNamed w (shape_of (declarations_of m) inner)

  weak_there : (t inner : TypeName) → target t ≡ Some (type.Weak inner) → is_misplaced_value (declarations_of m) t ≡ false → IsStorageOf storage.Weak t inner
  weak_there t inner e placed =
      let optional = in_weak_storage (declarations_of m) inner (behind_address (declarations_of m) t (type.Weak inner) e placed) in
      let it = optional_type (declarations_of m) inner optional in
      record {
        place = place_form (declarations_of m) t (type.Weak inner) e ∙ ap OfPlace (weak_shape m inner);
        value = value_form (declarations_of m) inner (ap target it.1 ∙ target-Optional it.0);
        named = weak_is_named m r inner optional;
      }

  unowned_there : (t inner : TypeName) → target t ≡ Some (type.Unowned inner) → is_misplaced_value (declarations_of m) t ≡ false → IsStorageOf storage.Unowned t inner
  unowned_there t inner e placed =
      let is_class = in_unowned_storage (declarations_of m) inner (behind_address (declarations_of m) t (type.Unowned inner) e placed) in
      let class = class_type_shape m r inner is_class in
      record {
        place = place_form (declarations_of m) t (type.Unowned inner) e ∙ ap OfPlace (unowned_shape m inner);
        value = value_form (declarations_of m) inner (ap target class.1 ∙ target-Named class.0);
        named = unowned_is_named m r inner is_class;
      }

  weak_place : (t inner : TypeName) → weak_at t ≡ Some inner → is_misplaced_value (declarations_of m) t ≡ false → IsStorageOf storage.Weak t inner
  weak_place t inner e =
      let it = found_behind in_weak (target t) inner e in
      weak_there t inner (it.1 ∙ ap Some (weak_type it.0 inner it.2))

  unowned_place : (t inner : TypeName) → unowned_at t ≡ Some inner → is_misplaced_value (declarations_of m) t ≡ false → IsStorageOf storage.Unowned t inner
  unowned_place t inner e =
      let it = found_behind in_unowned (target t) inner e in
      unowned_there t inner (it.1 ∙ ap Some (unowned_type it.0 inner it.2))

  module _ (f : Function) (i : Inst) where
    pub load_weak : Known m f i op.LoadWeak → Row m f i
    load_weak k =
        let it = given_one (option_and_then weak_at (written 0 i)) k.keeps in
        let at = found_behind weak_at (written 0 i) it.0 it.1 in
        let held = weak_place at.0 it.0 at.2 (placed_at m f i op.LoadWeak k 0 at.0 at.1) in
        row_of m f i _ _
        (one_operand m f i op.LoadWeak k (of_parts _ k.operands) at.0 at.1 ∙ ap (λ x. x ∷ []) held.place)
        (gives_form m f i op.LoadWeak k refl it.0 (ap gives it.1) ∙ ap (λ x. x ∷ []) held.value)
        (loads_name storage.Weak _ (load_operation i.qualifier) (ap effect_of k.op) held.named (ap (λ o. operation_by (access_kind_of o) i.qualifier) k.op) (is_load i.qualifier k.word))

    pub load_unowned : Known m f i op.LoadUnowned → Row m f i
    load_unowned k =
        let it = given_one (option_and_then unowned_at (written 0 i)) k.keeps in
        let at = found_behind unowned_at (written 0 i) it.0 it.1 in
        let held = unowned_place at.0 it.0 at.2 (placed_at m f i op.LoadUnowned k 0 at.0 at.1) in
        row_of m f i _ _
        (one_operand m f i op.LoadUnowned k (of_parts _ k.operands) at.0 at.1 ∙ ap (λ x. x ∷ []) held.place)
        (gives_form m f i op.LoadUnowned k refl it.0 (ap gives it.1) ∙ ap (λ x. x ∷ []) held.value)
        (loads_name storage.Unowned _ (load_operation i.qualifier) (ap effect_of k.op) held.named (ap (λ o. operation_by (access_kind_of o) i.qualifier) k.op) (is_load i.qualifier k.word))

    pub store_weak : Known m f i op.StoreWeak → Row m f i
    store_weak k =
        let it = taken_from (option_and_then weak_at (written 1 i)) k.keeps in
        let at = found_behind weak_at (written 1 i) it.0 it.1 in
        let held = weak_place at.0 it.0 at.2 (placed_at m f i op.StoreWeak k 1 at.0 at.1) in
        let asked = subst (λ t. all_pairs (has_type (value_types (declarations_of m) f)) (take 1 i.operands) (option_to_list t) ≡ true) it.1 k.asked in
        row_of m f i _ []
        (two_operands m f i op.StoreWeak k (of_parts _ k.operands) it.0 at.0 at.1 asked ∙ ap₂ (λ x y. x ∷ y ∷ []) held.value held.place)
        (k.no_result refl)
        (stores_name storage.Weak _ (store_operation i.qualifier) (ap effect_of k.op) held.named (ap (λ o. operation_by (access_kind_of o) i.qualifier) k.op) (is_store i.qualifier k.word))

    pub store_unowned : Known m f i op.StoreUnowned → Row m f i
    store_unowned k =
        let it = taken_from (option_and_then unowned_at (written 1 i)) k.keeps in
        let at = found_behind unowned_at (written 1 i) it.0 it.1 in
        let held = unowned_place at.0 it.0 at.2 (placed_at m f i op.StoreUnowned k 1 at.0 at.1) in
        let asked = subst (λ t. all_pairs (has_type (value_types (declarations_of m) f)) (take 1 i.operands) (option_to_list t) ≡ true) it.1 k.asked in
        row_of m f i _ []
        (two_operands m f i op.StoreUnowned k (of_parts _ k.operands) it.0 at.0 at.1 asked ∙ ap₂ (λ x y. x ∷ y ∷ []) held.value held.place)
        (k.no_result refl)
        (stores_name storage.Unowned _ (store_operation i.qualifier) (ap effect_of k.op) held.named (ap (λ o. operation_by (access_kind_of o) i.qualifier) k.op) (is_store i.qualifier k.word))

    destroys_at : (w : Storage) (t inner : TypeName) → Known m f i op.DestroyAddr → written 0 i ≡ Some t → IsStorageOf w t inner → Row m f i
    destroys_at w t inner k is held =
        row_of m f i (OfPlace (Stored w (shape_of (declarations_of m) inner)) ∷ []) []
        (one_operand m f i op.DestroyAddr k (of_parts _ k.operands) t is ∙ ap (λ x. x ∷ []) held.place)
        (k.no_result refl)
        (destroys_name w _ (ap effect_of k.op) held.named (ap (λ o. operation_by (access_kind_of o) i.qualifier) k.op))

    -- the address is that of storage
    pub destroy_storage : Known m f i op.DestroyAddr → is_at_storage i ≡ true → Row m f i
    destroy_storage k stored =
        let it = passed is_storage (option_and_then target (written 0 i)) stored in
        let at = found_behind target (written 0 i) it.0 it.1 in
        let placed = placed_at m f i op.DestroyAddr k 0 at.0 at.1 in
        by at.0 it.0 at.1 at.2 placed (storage_type it.0 it.2)
      where
        by : (t u : TypeName) → written 0 i ≡ Some t → target t ≡ Some u → is_misplaced_value (declarations_of m) t ≡ false
            → ((inner : TypeName) × (u ≡ type.Weak inner)) ⊎ ((inner : TypeName) × (u ≡ type.Unowned inner)) → Row m f i
        by t u is to placed (inl w) = destroys_at storage.Weak t w.0 k is (weak_there t w.0 (to ∙ ap Some w.1) placed)
        by t u is to placed (inr w) = destroys_at storage.Unowned t w.0 k is (unowned_there t w.0 (to ∙ ap Some w.1) placed)

    -- as it always is in lowered code
    pub destroy_addr : f.form ≡ Lowered → Known m f i op.DestroyAddr → Row m f i
    destroy_addr lowered k = destroy_storage k (in_lowered m f i op.DestroyAddr k lowered)
