-- What the written types of operands say of the places at which an instruction stores or destroys.
use Rattle.std.proofs.Common.{◌≡◌, ◌⊎◌, inl, inr, ℕ, List, [], ◌∷◌, refl, sym, ap, ap₂, ◌∙◌, subst, Bool, true, false, not, Some, None}
use Rattle.std.specs.Prelude.{◌&&◌, ◌||◌, is_some, option_and_then, take}
use Rattle.std.specs.Option.{option_to_list}
use Rattle.std.proofs.lemmas.Bool.{and_parts, false≢true, not-false}
use Rattle.std.proofs.lemmas.Option.{none-some}
use Rattle.instruction_table.specs.Forms.{type_words_of}
use Rattle.instruction_table.specs.declared.op.Op.{Op}
use Rattle.instruction_table.specs.declared.op.Op.TheVariants as op
use Rattle.sil_cfg_items.specs.Parts.{inst_at}
use Rattle.sil_ast.specs.declared.decl.Storage.{Storage}
use Rattle.sil_ast.specs.declared.decl.Storage.TheVariants as storage
use Rattle.sil_ast.specs.declared.function.Function.{Function}
use Rattle.sil_ast.specs.declared.inst.Inst.{Inst}
use Rattle.sil_ast.specs.declared.inst.Qualifier.{Qualifier}
use Rattle.sil_ast.specs.declared.inst.Qualifier.TheVariants as word
use Rattle.sil_ast.specs.declared.module.Module.{Module}
use Rattle.sil_ast.specs.declared.place.PointId.{PointId}
use Rattle.sil_ast.specs.declared.type_name.TypeName.{TypeName, TypeName-F, out-TypeName}
use Rattle.sil_ast.specs.declared.type_name.TypeName.TheVariants as type
use Rattle.sil_rules.specs.declared.rule.Rule.TheVariants as rule
use Rattle.sil_types_declarations.specs.TypeDefinitions.Declarations.{Declarations, declarations_of}
use Rattle.sil_types_declarations.specs.TypeDefinitions.Measures as measures
use Rattle.holder_model_values.specs.RunValues.Places.{Place}
use Rattle.holder_model_values.specs.RunValues.Shapes.{Shape, Stored, shape_of, storage_in}
use Rattle.holder_model_values.specs.RunValues.Trivial.{is_trivial}
use Rattle.holder_model_values.specs.RunValues.Values.{Value}
use Rattle.sil_verifier_runs.specs.sil_verifier_values.inner.Known.{IsAcceptedBody}
use Rattle.sil_verifier_runs.specs.holder_model.RunTyping.Forms.{Form, OfPlace, OfValue, has_no_storage}
use Rattle.sil_types.specs.Typing.FormRules.{has_word_by, has_wrong_qualifier, is_owned_form, is_write_word}
use Rattle.sil_types.specs.Typing.OperandTypes.{has_type}
use Rattle.sil_types.specs.Typing.RowTypes.{passes, written}
use Rattle.sil_types.specs.Typing.Same.{all_pairs}
use Rattle.sil_types.specs.Typing.Shapes.{in_unowned, in_weak, is_nontrivial, is_object, is_storage}
use Rattle.sil_types.specs.Typing.Shapes.{is_storage_layer, object_at, target, unowned_at, weak_at, where_it}
use Rattle.sil_types.specs.Typing.Typed.{BreaksAtPoint, at_point, point}
use Rattle.sil_types.specs.Typing.Values.{value_types}
use Rattle.sil_verifier_runs.proofs.sil_verifier_values.Accepted.{in_ownership_form, well_typed}
use Rattle.ownership_lowering_laws.proofs.holder_model_typing.RunTypingLaws.Rows.Counting.{placed_at}
use Rattle.ownership_lowering_laws.proofs.holder_model_typing.RunTypingLaws.Rows.Finding.{found_behind, never_passes, where_found}
use Rattle.ownership_lowering_laws.proofs.holder_model_typing.RunTypingLaws.Rows.Forms.{place_form, typed_form}
use Rattle.ownership_lowering_laws.proofs.holder_model_typing.RunTypingLaws.Rows.Known.{Known, known}
use Rattle.ownership_lowering_laws.proofs.holder_model_typing.RunTypingLaws.Rows.Layers.{is_unowned, is_weak, unowned_type, weak_type}
use Rattle.ownership_lowering_laws.proofs.holder_model_typing.RunTypingLaws.Rows.Memory.{object_place}
use Rattle.ownership_lowering_laws.proofs.holder_model_typing.RunTypingLaws.Rows.Points.{is_at}
use Rattle.ownership_lowering_laws.proofs.holder_model_typing.RunTypingLaws.Rows.Shares.{of_parts, one_operand, taken_from, two_operands}
use Rattle.ownership_lowering_laws.proofs.holder_model_typing.RunTypingLaws.ShapeFacts.{unowned_shape, weak_shape}
use Rattle.ownership_lowering_laws.specs.holder_model_typing.RunTypingLaws.inner.WellTyped.{IsWellTyped}
use Rattle.sil_verifier_runs.specs.holder_model.Data.{AddressOf, Datum, ValueOf}
use Rattle.sil_verifier_runs.specs.holder_model.Effects.{effect_of}
use Rattle.sil_verifier_runs.specs.holder_model.Standing.{stands_at}
use Rattle.sil_verifier_runs.specs.holder_model.declared.row_effect.RowEffect.TheVariants as row
use Rattle.sil_types.specs.Typing.FormRules.{is_at_storage}
use Rattle.ownership_lowering_laws.specs.holder_model_typing.TypedMemory.inner.Worlds.{World}
use Rattle.sil_verifier_runs.proofs.sil_verifier_frames.Typed.Data.{DataAre}
use Rattle.sil_verifier_runs.proofs.sil_verifier_frames.Typed.TrivialShapes.{trivial_shape}
use Rattle.ownership_lowering_runs.specs.StoredRuns.inner.WrittenPlaces.{ArePlacesWritten}
use Rattle.ownership_lowering_runs.proofs.StoredRuns.PlacesFound.{one_place_of}
use Rattle.ownership_lowering_runs.proofs.StoredRuns.Typed.TypedInsts.{given_typed, operand_forms}
use Rattle.ownership_lowering_runs.proofs.StoredRuns.Typed.TypedPlaces.{bare_whole}

-- ---- which rows store and destroy

data StoresSo (o : Op) : Type 0 where
  plain : o ≡ op.Store → StoresSo o
  weak : o ≡ op.StoreWeak → StoresSo o
  unowned : o ≡ op.StoreUnowned → StoresSo o

stores_by : (o : Op) → effect_of o ≡ row.StoresValue → StoresSo o
stores_by op.Store e = StoresSo.plain refl
stores_by op.StoreWeak e = StoresSo.weak refl
stores_by op.StoreUnowned e = StoresSo.unowned refl
stores_by _ e = absurd (cc)

destroys_by : (o : Op) → effect_of o ≡ row.DestroysPlace → o ≡ op.DestroyAddr
destroys_by op.DestroyAddr e = refl
destroys_by _ e = absurd (cc)

-- ---- written types

module _ (m : Module) (n : ℕ) (f : Function) (a : IsAcceptedBody m n f) (p : PointId) (i : Inst) (here : inst_at f p ≡ Some i) where
  abbrev d : Declarations
  d = declarations_of m

  r : IsWellTyped m
  r = well_typed m a.verified

  known_by : (o : Op) → i.op ≡ o → Known m f i o
  known_by o is = subst (Known m f i) is (known m r n f a.body.there p i here)

  word_kept : has_wrong_qualifier d f i ≡ false
  word_kept =
      never_passes _ (λ e. r.typed (at_point n p.block.0 p.index) rule.Qualifier
      (point n f p.block.0 p.index i rule.Qualifier a.body.there (is_at f p i here) (BreaksAtPoint.qualifier e)))

  word_by : (o : Op) → i.op ≡ o → has_word_by (type_words_of o) d i ≡ true
  word_by o is =
      subst (λ y. has_word_by (type_words_of y) d i ≡ true) is
      (not-false (has_word_by (type_words_of i.op) d i)
      (subst (λ y. (is_owned_form y && not (has_word_by (type_words_of i.op) d i)) ≡ false) (in_ownership_form m n f a) word_kept))

  -- an object is stored at its place
  record StoredSo : Type 0 where
    ty : TypeName
    forms : operand_forms m f i ≡ OfValue (shape_of d ty) ∷ OfPlace (shape_of d ty) ∷ []
    bare : has_no_storage (shape_of d ty) ≡ true
    word : is_write_word d i.qualifier ty ≡ true

  stored_so : i.op ≡ op.Store → StoredSo
  stored_so is =
      let k = known_by op.Store is in
      let it = taken_from (option_and_then object_at (written 1 i)) k.keeps in
      let at = found_behind object_at (written 1 i) it.0 it.1 in
      let found = where_found is_object (target at.0) it.0 at.2 in
      let whole = object_place m r at.0 it.0 at.2 (placed_at m f i op.Store k 1 at.0 at.1) in
      let asked = subst (λ t. all_pairs (has_type (value_types d f)) (take 1 i.operands) (option_to_list t) ≡ true) it.1 k.asked in
      record {
        ty = it.0;
        forms = two_operands m f i op.Store k (of_parts _ k.operands) it.0 at.0 at.1 asked ∙ ap₂ (λ x y. x ∷ y ∷ []) whole.value whole.place;
        bare = whole.holds_none;
        word = subst (λ t. passes (is_write_word d i.qualifier) t ≡ true) (ap (option_and_then target) at.1 ∙ found.0) (word_by op.Store is);
      }

  -- storage is written
  record NameStoredSo : Type 0 where
    how : Storage
    inner : Shape
    value : Form
    forms : operand_forms m f i ≡ value ∷ OfPlace (Stored how inner) ∷ []

  weak_stored : i.op ≡ op.StoreWeak → NameStoredSo
  weak_stored is =
      let k = known_by op.StoreWeak is in
      let it = taken_from (option_and_then weak_at (written 1 i)) k.keeps in
      let at = found_behind weak_at (written 1 i) it.0 it.1 in
      let behind = found_behind in_weak (target at.0) it.0 at.2 in
      let asked = subst (λ t. all_pairs (has_type (value_types d f)) (take 1 i.operands) (option_to_list t) ≡ true) it.1 k.asked in
      record {
        how = storage.Weak;
        inner = shape_of d it.0;
        value = typed_form d it.0;
        forms = two_operands m f i op.StoreWeak k (of_parts _ k.operands) it.0 at.0 at.1 asked
            ∙ ap (λ y. typed_form d it.0 ∷ y ∷ []) (place_form d at.0 (type.Weak it.0) (behind.1 ∙ ap Some (weak_type behind.0 it.0 behind.2)) ∙ ap OfPlace (weak_shape m it.0));
      }

  unowned_stored : i.op ≡ op.StoreUnowned → NameStoredSo
  unowned_stored is =
      let k = known_by op.StoreUnowned is in
      let it = taken_from (option_and_then unowned_at (written 1 i)) k.keeps in
      let at = found_behind unowned_at (written 1 i) it.0 it.1 in
      let behind = found_behind in_unowned (target at.0) it.0 at.2 in
      let asked = subst (λ t. all_pairs (has_type (value_types d f)) (take 1 i.operands) (option_to_list t) ≡ true) it.1 k.asked in
      record {
        how = storage.Unowned;
        inner = shape_of d it.0;
        value = typed_form d it.0;
        forms = two_operands m f i op.StoreUnowned k (of_parts _ k.operands) it.0 at.0 at.1 asked
            ∙ ap (λ y. typed_form d it.0 ∷ y ∷ []) (place_form d at.0 (type.Unowned it.0) (behind.1 ∙ ap Some (unowned_type behind.0 it.0 behind.2)) ∙ ap OfPlace (unowned_shape m it.0));
      }

  -- the shape of storage
  storage_shape : (t : TypeName) → is_storage t ≡ true → is_some (storage_in (shape_of d t)) ≡ true
  storage_shape t e = by (out-TypeName t) refl e
    where
      by : (layer : TypeName-F TypeName) → out-TypeName t ≡ layer → is_storage_layer layer ≡ true → is_some (storage_in (shape_of d t)) ≡ true
      by (TypeName-F.Int w) o h = absurd (false≢true h)
      by (TypeName-F.Named name) o h = absurd (false≢true h)
      by (TypeName-F.Optional x) o h = absurd (false≢true h)
      by (TypeName-F.Tuple parts) o h = absurd (false≢true h)
      by (TypeName-F.Weak x) o h = ap (λ s. is_some (storage_in s)) (ap (shape_of d) (is_weak t x o) ∙ weak_shape m x)
      by (TypeName-F.Unowned x) o h = ap (λ s. is_some (storage_in s)) (ap (shape_of d) (is_unowned t x o) ∙ unowned_shape m x)
      by (TypeName-F.Address x) o h = absurd (false≢true h)

  -- what is destroyed is an object or storage
  record DestroyedSo : Type 0 where
    ty : TypeName
    forms : operand_forms m f i ≡ OfPlace (shape_of d ty) ∷ []
    at : is_at_storage i ≡ is_some (storage_in (shape_of d ty))

  destroyed_so : i.op ≡ op.DestroyAddr → DestroyedSo
  destroyed_so is =
      let k = known_by op.DestroyAddr is in
      let test = λ (t : TypeName). is_nontrivial d t || is_storage t in
      let it = taken_from (where_it test (option_and_then target (written 0 i))) k.keeps in
      let found = where_found test (option_and_then target (written 0 i)) it.0 it.1 in
      let at = found_behind target (written 0 i) it.0 found.0 in
      record {
        ty = it.0;
        forms = one_operand m f i op.DestroyAddr k (of_parts _ k.operands) at.0 at.1 ∙ ap (λ y. y ∷ []) (place_form d at.0 it.0 at.2);
        at = ap (passes is_storage) found.0 ∙ by it.0 at.0 (is_nontrivial d it.0) (is_storage it.0) refl refl found.1 at.1 at.2 k;
      }
    where
      by : (u t : TypeName) (b c : Bool) → is_nontrivial d u ≡ b → is_storage u ≡ c → (b || c) ≡ true → written 0 i ≡ Some t → target t ≡ Some u → Known m f i op.DestroyAddr
          → c ≡ is_some (storage_in (shape_of d u))
      by u t b true is_it stored one at to k = sym (storage_shape u stored)
      by u t true false is_it stored one at to k =
          let object : is_object u ≡ true = (and_parts (is_object u) (not (measures.is_trivial d u)) is_it).0 in
          let whole = object_place m r t u (ap (where_it is_object) to ∙ passing object) (placed_at m f i op.DestroyAddr k 0 t at) in
          sym (ap is_some (bare_whole (shape_of d u) whole.holds_none))
        where
          passing : is_object u ≡ true → where_it is_object (Some u) ≡ Some u
          passing e = rw e
      by u t false false is_it stored one at to k = absurd (false≢true one)

  module _ (w : World) (xs : List Datum) (given : DataAre m w (operand_forms m f i) xs) where
    -- the place at which a value is stored is the one of the forms
    stored_shape : (t : Shape) (value : Form) → operand_forms m f i ≡ value ∷ OfPlace t ∷ [] → (v : Value) (y : Place) → xs ≡ ValueOf v ∷ AddressOf y ∷ [] → y.shape ≡ t
    stored_shape t value forms v y e = second _ xs given forms e
      where
        last : (gs : List Form) (zs : List Datum) → DataAre m w gs zs → gs ≡ OfPlace t ∷ [] → zs ≡ AddressOf y ∷ [] → y.shape ≡ t
        last gs zs all h k =
            let p = one_place_of m w gs zs all t h in
            let same : p.place ≡ y = cc in
            ap (λ (q : Place). q.shape) (sym same) ∙ p.shape

        second : (gs : List Form) (zs : List Datum) → DataAre m w gs zs → gs ≡ value ∷ OfPlace t ∷ [] → zs ≡ ValueOf v ∷ AddressOf y ∷ [] → y.shape ≡ t
        second _ _ DataAre.none h k = absurd (cc)
        second _ _ (DataAre.more form z gs zs is rest) h k = last gs zs rest (cc) (cc)

    data WordSo (q : Qualifier) (t : TypeName) : Type 0 where
      init : q ≡ word.Init → WordSo q t
      assign : q ≡ word.Assign → WordSo q t
      trivial : q ≡ word.Trivial → measures.is_trivial d t ≡ true → WordSo q t

    word_so : (q : Qualifier) (t : TypeName) → is_write_word d q t ≡ true → WordSo q t
    word_so word.Plain t e = absurd (false≢true e)
    word_so word.Copy t e = absurd (false≢true e)
    word_so word.Take t e = absurd (false≢true e)
    word_so word.Trivial t e = WordSo.trivial refl (and_parts (is_object t) (measures.is_trivial d t) e).1
    word_so word.Init t e = WordSo.init refl
    word_so word.Assign t e = WordSo.assign refl

    words_told : i.op ≡ op.Store
        → (i.qualifier ≡ word.Init) ⊎ (i.qualifier ≡ word.Assign)
        ⊎ ((i.qualifier ≡ word.Trivial) × ((v : Value) (y : Place) → xs ≡ ValueOf v ∷ AddressOf y ∷ [] → is_trivial y.shape ≡ true))
    words_told is = by (word_so i.qualifier (stored_so is).ty (stored_so is).word)
      where
        by : WordSo i.qualifier (stored_so is).ty
            → (i.qualifier ≡ word.Init) ⊎ (i.qualifier ≡ word.Assign)
            ⊎ ((i.qualifier ≡ word.Trivial) × ((v : Value) (y : Place) → xs ≡ ValueOf v ∷ AddressOf y ∷ [] → is_trivial y.shape ≡ true))
        by (WordSo.init q) = inl q
        by (WordSo.assign q) = inr (inl q)
        by (WordSo.trivial q t) =
            inr (inr (
              q,
              λ v y e. ap is_trivial (stored_shape (shape_of d (stored_so is).ty) _ (stored_so is).forms v y e)
                  ∙ trivial_shape d (stored_so is).ty t,
            ))

    store_bare : (v : Value) (y : Place) → xs ≡ ValueOf v ∷ AddressOf y ∷ [] → i.op ≡ op.Store → storage_in y.shape ≡ None
    store_bare v y e is =
        let so = stored_so is in
        ap storage_in (stored_shape (shape_of d so.ty) _ so.forms v y e) ∙ bare_whole (shape_of d so.ty) so.bare

    bare_store : (v : Value) (y : Place) → xs ≡ ValueOf v ∷ AddressOf y ∷ [] → effect_of i.op ≡ row.StoresValue → storage_in y.shape ≡ None → i.op ≡ op.Store
    bare_store v y e stores none = by (stores_by i.op stores)
      where
        named : NameStoredSo → ⊥
        named so = none-some so.how (sym none ∙ ap storage_in (stored_shape (Stored so.how so.inner) so.value so.forms v y e))

        by : StoresSo i.op → i.op ≡ op.Store
        by (StoresSo.plain is) = is
        by (StoresSo.weak is) = absurd (named (weak_stored is))
        by (StoresSo.unowned is) = absurd (named (unowned_stored is))

    at_storage : (y : Place) → xs ≡ AddressOf y ∷ [] → effect_of i.op ≡ row.DestroysPlace → is_at_storage i ≡ is_some (storage_in y.shape)
    at_storage y e destroys =
        let so = destroyed_so (destroys_by i.op destroys) in
        let p = one_place_of m w (operand_forms m f i) xs given (shape_of d so.ty) so.forms in
        let same : p.place ≡ y = cc in
        so.at ∙ ap (λ s. is_some (storage_in s)) (sym p.shape ∙ ap (λ (q : Place). q.shape) same)

pub are_places_written : ArePlacesWritten
are_places_written m s l w frame rest f i ops a frame_is x = record {
  words = words_told m frame.function.0 f a (stands_at f frame.trail) i x.here w ops.given given;
  store_bare = store_bare m frame.function.0 f a (stands_at f frame.trail) i x.here w ops.given given;
  bare_store = bare_store m frame.function.0 f a (stands_at f frame.trail) i x.here w ops.given given;
  at_storage = at_storage m frame.function.0 f a (stands_at f frame.trail) i x.here w ops.given given;
}
  where
    given : DataAre m w (operand_forms m f i) ops.given
    given = given_typed m s l w frame rest f i ops a frame_is x
