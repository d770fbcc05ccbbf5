-- Instructions of accepted functions have the words, and their operands the types, that their rows ask for.
use Rattle.std.proofs.Common.{◌≡◌, ◌⊎◌, inl, inr, List, [], ◌∷◌, refl, sym, ap, ◌∙◌, subst, true, false, ◌&&◌, Some}
use Rattle.std.specs.Prelude.{not, option_and_then, option_to_list, take}
use Rattle.std.proofs.lemmas.Bool.{and_parts, false≢true, not-false}
use Rattle.std.proofs.lemmas.Option.{same_Some}
use Rattle.instruction_table.specs.Forms.{result_kind_of, roles_of, type_words_of}
use Rattle.instruction_table.specs.declared.entries.Role.TheVariants as role
use Rattle.instruction_table.specs.declared.op.Op.{Op}
use Rattle.instruction_table.specs.declared.op.Op.TheVariants as op
use Rattle.numbered_form.specs.inner.Parts.{may_have}
use Rattle.sil_rules.specs.declared.rule.Rule.TheVariants as rule
use Rattle.sil_ast.specs.declared.decl.Storage.{Storage}
use Rattle.sil_ast.specs.declared.decl.Storage.TheVariants as storage
use Rattle.sil_ast.specs.declared.function.Function.{Function}
use Rattle.sil_ast.specs.declared.inst.Inst.{Inst}
use Rattle.sil_ast.specs.declared.inst.Qualifier.{Qualifier}
use Rattle.sil_ast.specs.declared.inst.Qualifier.TheVariants as word
use Rattle.sil_ast.specs.declared.module.Module.{Module}
use Rattle.sil_ast.specs.declared.place.FuncId.{FuncId}
use Rattle.sil_ast.specs.declared.place.PointId.{PointId}
use Rattle.sil_ast.specs.declared.type_name.TypeName.{TypeName}
use Rattle.sil_ast.specs.declared.type_name.TypeName.TheVariants as type
use Rattle.sil_types_declarations.specs.TypeDefinitions.Measures as measures
use Rattle.sil_types_declarations.specs.TypeDefinitions.Declarations.{Declarations, declarations_of}
use Rattle.holder_model_values.specs.RunValues.Memory.{Memory}
use Rattle.holder_model_values.specs.RunValues.Places.{Place}
use Rattle.holder_model_values.specs.RunValues.Shapes.{Shape, Stored, shape_of}
use Rattle.holder_model_values.specs.ValueParts.inner.Storages.{holds_no_storage}
use Rattle.sil_types.specs.Typing.FormRules.{has_word_by, has_wrong_qualifier, is_owned_form, is_read_word}
use Rattle.sil_types.specs.Typing.RowTypes.{written}
use Rattle.sil_types.specs.Typing.Shapes.{in_unowned, in_weak, is_object, target, unowned_at, weak_at}
use Rattle.sil_types.specs.Typing.OperandTypes.{has_type}
use Rattle.sil_types.specs.Typing.Same.{all_pairs}
use Rattle.sil_types.specs.Typing.Values.{value_types}
use Rattle.sil_types.specs.Typing.Typed.{BreaksAtPoint, at_point, point}
use Rattle.ownership_lowering_laws.specs.holder_model_typing.OwnedRunTyping.inner.OwnedRows as owned
use Rattle.ownership_lowering_laws.specs.holder_model_typing.OwnedRunTyping.inner.OwnedRows.{OwnedRowForms}
use Rattle.sil_verifier_runs.specs.holder_model.RunTyping.EndForms.{operand_forms}
use Rattle.sil_verifier_runs.specs.holder_model.RunTyping.Forms.{Form, OfPlace, OfValue, forms_of}
use Rattle.sil_verifier_runs.specs.holder_model.RunTyping.RowForms as lowered
use Rattle.sil_verifier_runs.specs.holder_model.RunTyping.RowForms.{RowForms, operation_done}
use Rattle.sil_verifier_runs.specs.holder_model.RunTyping.StorageForms.{IsNamed}
use Rattle.memory_rules_accesses.specs.declared.access.Operation.{Operation}
use Rattle.memory_rules_accesses.specs.declared.access.Operation.TheVariants as operation
use Rattle.memory_rules_accesses.specs.Operations.{access_kind_of, load_operation, operation_by}
use Rattle.sil_verifier_runs.proofs.sil_verifier_values.Accepted.{in_ownership_form, well_typed}
use Rattle.ownership_lowering_laws.proofs.holder_model_typing.RunTypingLaws.ShapeFacts.{unowned_shape, weak_shape}
use Rattle.ownership_lowering_laws.proofs.holder_model_typing.RunTypingLaws.Rows.Finding.{found_behind, never_passes, passed}
use Rattle.ownership_lowering_laws.proofs.holder_model_typing.RunTypingLaws.Rows.Layers.{unowned_type, weak_type}
use Rattle.ownership_lowering_laws.proofs.holder_model_typing.RunTypingLaws.Rows.Forms.{place_form, typed_form}
use Rattle.ownership_lowering_laws.proofs.holder_model_typing.RunTypingLaws.Rows.Known.{Known}
use Rattle.ownership_lowering_laws.proofs.holder_model_typing.RunTypingLaws.Rows.Memory.{loaded, stored}
use Rattle.ownership_lowering_laws.proofs.holder_model_typing.RunTypingLaws.Rows.Points.{is_at}
use Rattle.ownership_lowering_laws.proofs.holder_model_typing.RunTypingLaws.Rows.Shares.{of_parts, one_operand, taken_from, two_operands}
use Rattle.sil_verifier_runs.specs.holder_model.Data.{AddressOf, Datum}
use Rattle.sil_verifier_runs.specs.holder_model.Effects.{Change, effect_of}
use Rattle.sil_verifier_runs.specs.holder_model.Frames.{Entry, Operands}
use Rattle.sil_verifier_runs.specs.holder_model.MemoryEffects.{copies_with, takes}
use Rattle.sil_verifier_runs.specs.holder_model.declared.row_effect.RowEffect.{RowEffect}
use Rattle.sil_verifier_runs.specs.holder_model.declared.row_effect.RowEffect.TheVariants as row
use Rattle.ownership_lowering_laws.specs.holder_model_typing.TypedMemory.inner.Worlds.{World}
use Rattle.sil_verifier_runs.proofs.sil_verifier_frames.Typed.Data.{DataAre, read_place}
use Rattle.sil_verifier_runs.proofs.sil_verifier_frames.Typed.TrivialShapes.{trivial_shape}
use Rattle.ownership_lowering_runs.specs.OwnedCounts.inner.OwnedRows.{HasItsWords, IsDone, IsStorageOf, LoadsBy, StoresBy}
use Rattle.ownership_lowering_runs.proofs.OwnedCounts.OwnedInsts as inst

-- ---- what typing tells of rows at places

named_other : (how : Storage) (s : Shape) → IsNamed how s → how ≡ storage.Strong → ⊥
named_other _ _ (IsNamed.weak class name first second) e = cc
named_other _ _ (IsNamed.unowned class) e = cc

pub data StoredForms : List Form → Type 0 where
  strongly : (s : Shape) → holds_no_storage s ≡ true → StoredForms (OfValue s ∷ OfPlace s ∷ [])
  weakly : (how : Storage) (s : Shape) → IsNamed how s → StoredForms (OfValue s ∷ OfPlace (Stored how s) ∷ [])

pub record NamedForms (ins : List Form) : Type 0 where
  pub how : Storage
  pub s : Shape
  pub named : IsNamed how s
  pub are : ins ≡ OfPlace (Stored how s) ∷ []

abbrev Told : Inst → RowEffect → List Form → Type 0
Told i row.LoadsName ins = NamedForms ins
Told i row.StoresValue ins = StoredForms ins
Told i row.DestroysPlace ins = operation_done i ≡ Some operation.Take
Told i e ins = Unit {0}

module _ (m : Module) (i : Inst) where
  told : (ins : List Form) (e : RowEffect) → effect_of i.op ≡ e → Told i e ins → Told i (effect_of i.op) ins
  told ins e is h = subst (λ r. Told i r ins) (sym is) h

  lowered_told : (ins outs : List Form) → RowForms m i ins outs → Told i (effect_of i.op) ins
  lowered_told ins _ (lowered.looks form is) = told ins row.NoEffect is tt
  lowered_told ins _ (lowered.literal n w is number within) = told ins row.GivesLiteral is tt
  lowered_told ins _ (lowered.function g is function) = told ins row.GivesFunction is tt
  lowered_told ins _ (lowered.computes b is named) = told ins row.Computes is tt
  lowered_told ins _ (lowered.traps text is named) = told ins row.TrapsWhereSet is tt
  lowered_told ins _ (lowered.object class is declared) = told ins row.MakesObject is tt
  lowered_told ins _ (lowered.slot w s is shape) = told ins row.MakesSlot is tt
  lowered_told ins _ (lowered.removes s is) = told ins row.RemovesSlot is tt
  lowered_told ins _ (lowered.upcast class above is below) = told ins row.GivesOperand is tt
  lowered_told ins _ (lowered.retains s is bare) = told ins row.RetainsOperand is tt
  lowered_told ins _ (lowered.drops s is bare) = told ins row.DropsOperand is tt
  lowered_told ins _ (lowered.loads s is done bare) = told ins row.LoadsValue is tt
  lowered_told ins _ (lowered.stores s is done bare) = told ins row.StoresValue is (strongly s bare)
  lowered_told ins _ (lowered.loads_name w s o is named done load) = told ins row.LoadsName is (record { how = w; s = s; named = named; are = refl })
  lowered_told ins _ (lowered.stores_name w s o is named done store) = told ins row.StoresValue is (weakly w s named)
  lowered_told ins _ (lowered.destroys_name w s is named done) = told ins row.DestroysPlace is done
  lowered_told ins _ (lowered.groups s ss is group) = told ins row.Groups is tt
  lowered_told ins _ (lowered.chooses_plain s k c is cases_are number there none) = told ins row.ChoosesCase is tt
  lowered_told ins _ (lowered.chooses_full s payload k c is cases_are number there some) = told ins row.ChoosesCase is tt
  lowered_told ins _ (lowered.member s part k is number there) = told ins row.GivesMember is tt
  lowered_told ins _ (lowered.member_address s part k is number there) = told ins row.AddressesMember is tt
  lowered_told ins _ (lowered.field_address class named s k is member owner number there) = told ins row.AddressesField is tt
  lowered_told ins _ (lowered.calls g callee is there bodied) = told ins row.CallsFunction is tt
  lowered_told ins _ (lowered.calls_out g callee widths is there bodiless) = told ins row.CallsFunction is tt

  pub forms_told : (ins outs : List Form) → OwnedRowForms m i ins outs → Told i (effect_of i.op) ins
  forms_told ins _ (owned.also_lowered _ outs forms) = lowered_told ins outs forms
  forms_told ins _ (owned.gives s is bare) = told ins row.GivesOperand is tt
  forms_told ins _ (owned.copies s is bare) = told ins row.CopiesOperand is tt
  forms_told ins _ (owned.loads s o is done reading bare) = told ins row.LoadsValue is tt
  forms_told ins _ (owned.stores s o is done write bare) = told ins row.StoresValue is (strongly s bare)
  forms_told ins _ (owned.destroys s is done bare) = told ins row.DestroysPlace is done
  forms_told ins _ (owned.members s ss is group) = told ins row.GivesMembers is tt

-- ---- which instructions load and store

load_row : (o : Op) → effect_of o ≡ row.LoadsValue → (o ≡ op.Load) ⊎ (o ≡ op.LoadBorrow)
load_row op.Load e = inl refl
load_row op.LoadBorrow e = inr refl
load_row _ e = cc

place_of_form : (m : Module) (w : World) (forms : List Form) (xs : List Datum) (q : Place) (s : Shape) → DataAre m w forms xs → forms ≡ OfPlace s ∷ [] → xs ≡ AddressOf q ∷ [] → q.shape ≡ s
place_of_form m w _ _ q s DataAre.none e g = cc
place_of_form m w _ _ q s (DataAre.more form y forms ys is rest) e g =
    let first : form ≡ OfPlace s = cc in
    let at = read_place m w is s first in
    let same : at.0 ≡ q = let a = at.1 in cc in
    ap (λ (r : Place). r.shape) (sym same) ∙ at.2

module _ (m : Module) (g : FuncId) (f : Function) (w : World) (memory : Memory) (entries : List Entry) (p : PointId) (i : Inst) (ops : Operands) (c : Change)
    (done : IsDone m g f w memory entries p i ops c) where
  abbrev d : Declarations
  d = declarations_of m

  known_as : (o : Op) → i.op ≡ o → Known m f i o
  known_as o is = subst (Known m f i) is (inst.known_inst m g f w memory entries p i ops c done)

  told_here : Told i (effect_of i.op) (operand_forms d f i)
  told_here = forms_told m i _ _ (inst.inst m g f w memory entries p i ops c done).row

  told_as : (e : RowEffect) → effect_of i.op ≡ e → Told i e (operand_forms d f i)
  told_as e is = subst (λ r. Told i r (operand_forms d f i)) is told_here

  -- ---- the word of a load

  word_kept : has_wrong_qualifier d f i ≡ false
  word_kept = never_passes _ (λ e. (well_typed m done.accepted.verified).typed (at_point g.0 p.block.0 p.index) rule.Qualifier
      (point g.0 f p.block.0 p.index i rule.Qualifier done.accepted.body.there (is_at f p i done.here) (BreaksAtPoint.qualifier e)))

  word_by : (o : Op) → i.op ≡ o → has_word_by (type_words_of o) d i ≡ true
  word_by o is =
      subst (λ y. has_word_by (type_words_of y) d i ≡ true) is
      (not-false (has_word_by (type_words_of i.op) d i)
      (subst (λ y. (is_owned_form y && not (has_word_by (type_words_of i.op) d i)) ≡ false) (in_ownership_form m g.0 f done.accepted) word_kept))

  -- the type at a load's address
  record AtAddress : Type 0 where
    ty : TypeName
    word : is_read_word d i.qualifier ty ≡ true
    forms : operand_forms d f i ≡ OfPlace (shape_of d ty) ∷ []
    results : forms_of d f i.results ≡ OfValue (shape_of d ty) ∷ []
    bare : holds_no_storage (shape_of d ty) ≡ true

  at_address : i.op ≡ op.Load → AtAddress
  at_address is =
      let k = known_as op.Load is in
      let x = loaded m (well_typed m done.accepted.verified) f i k in
      let fits = passed (is_read_word d i.qualifier) (option_and_then target (written 0 i)) (word_by op.Load is) in
      let at = found_behind target (written 0 i) fits.0 fits.1 in
      let forms : operand_forms d f i ≡ OfPlace (shape_of d fits.0) ∷ [] =
      one_operand m f i op.Load k (of_parts _ k.operands) at.0 at.1 ∙ ap (λ y. y ∷ []) (place_form d at.0 fits.0 at.2) in
      let same : shape_of d x.ty ≡ shape_of d fits.0 = let e = sym x.taken ∙ forms in cc in
      record {
        ty = fits.0;
        word = fits.2;
        forms = forms;
        results = x.given ∙ ap (λ s. OfValue s ∷ []) same;
        bare = sym (ap holds_no_storage same) ∙ x.holds_none;
      }

  loads_by : (q : Place) → ops.given ≡ AddressOf q ∷ [] → i.op ≡ op.Load → (o : Operation) → operation_done i ≡ Some o → LoadsBy d f i o q.shape
  loads_by q given is o done_is = by i.qualifier refl x.word
    where
      x : AtAddress
      x = at_address is

      shape : q.shape ≡ shape_of d x.ty
      shape = place_of_form m w _ ops.given q (shape_of d x.ty) (inst.operands_typed m g f w memory entries p i ops c done) x.forms given

      operation_is : load_operation i.qualifier ≡ o
      operation_is = same_Some (load_operation i.qualifier) o (sym (ap (λ y. operation_by (access_kind_of y) i.qualifier) is) ∙ done_is)

      takes_so : (q : Qualifier) → i.qualifier ≡ q → takes o ≡ takes (load_operation q)
      takes_so q e = ap takes (sym operation_is) ∙ ap (λ y. takes (load_operation y)) e

      by : (q' : Qualifier) → i.qualifier ≡ q' → is_read_word d q' x.ty ≡ true → LoadsBy d f i o q.shape
      by word.Plain e h = cc
      by word.Copy e h = LoadsBy.copying (takes_so word.Copy e) (ap copies_with e) (ap result_kind_of is)
      by word.Take e h = LoadsBy.taking (takes_so word.Take e) (ap copies_with e) (ap result_kind_of is) (ap holds_no_storage shape ∙ x.bare)
      by word.Trivial e h =
          LoadsBy.reading (shape_of d x.ty) (takes_so word.Trivial e) (ap copies_with e) x.results
          (trivial_shape d x.ty (and_parts (is_object x.ty) (measures.is_trivial d x.ty) h).1)
      by word.Init e h = cc
      by word.Assign e h = cc

  borrows_by : (s : Shape) → i.op ≡ op.LoadBorrow → (o : Operation) → operation_done i ≡ Some o → LoadsBy d f i o s
  borrows_by s is o done_is =
      LoadsBy.lending (sym (ap takes (same_Some operation.Lend o (sym (ap (λ y. operation_by (access_kind_of y) i.qualifier) is) ∙ done_is))))
      (by i.qualifier (known_as op.LoadBorrow is).word) (ap result_kind_of is)
    where
      by : (q : Qualifier) → may_have op.LoadBorrow q ≡ true → copies_with q ≡ false
      by word.Plain h = refl
      by word.Copy h = cc
      by word.Take h = refl
      by word.Trivial h = refl
      by word.Init h = refl
      by word.Assign h = refl

  -- ---- stores

  -- a store of another instruction than `store` writes weak or unowned storage
  storage_second : (how : Storage) (ins : List Form) (u : Form) (inner : Shape) → (how ≡ storage.Strong → ⊥) → StoredForms ins → ins ≡ u ∷ OfPlace (Stored how inner) ∷ []
      → (kept : Storage) × (s : Shape) × IsNamed kept s × (ins ≡ OfValue s ∷ OfPlace (Stored kept s) ∷ [])
  storage_second how _ u inner other (strongly s bare) e =
      let same : s ≡ Stored how inner = cc in absurd (false≢true (sym (ap holds_no_storage same) ∙ bare))
  storage_second how _ u inner other (weakly kept s named) e = (kept, s, named, refl)

  stored_name : (how : Storage) (o : Op) → i.op ≡ o → roles_of o ≡ role.Used ∷ role.AddressRole ∷ [] → (how ≡ storage.Strong → ⊥) → (u : Form) (inner : Shape)
      → operand_forms d f i ≡ u ∷ OfPlace (Stored how inner) ∷ [] → effect_of i.op ≡ row.StoresValue → StoresBy d f i
  stored_name how o is roles other u inner forms effect =
      let it = storage_second how (operand_forms d f i) u inner other (told_as row.StoresValue effect) forms in
      StoresBy.weakly it.0 it.1 (ap roles_of is ∙ roles) it.3 it.2

  weak_forms : Known m f i op.StoreWeak → (u : Form) × (inner : Shape) × (operand_forms d f i ≡ u ∷ OfPlace (Stored storage.Weak inner) ∷ [])
  weak_forms k =
      let it = taken_from (option_and_then weak_at (written 1 i)) k.keeps in
      let at = found_behind weak_at (written 1 i) it.0 it.1 in
      let behind = found_behind in_weak (target at.0) it.0 at.2 in
      let to : target at.0 ≡ Some (type.Weak it.0) = behind.1 ∙ ap Some (weak_type behind.0 it.0 behind.2) in
      let asked = subst (λ t. all_pairs (has_type (value_types d f)) (take 1 i.operands) (option_to_list t) ≡ true) it.1 k.asked in (
        typed_form d it.0,
        shape_of d it.0,
        two_operands m f i op.StoreWeak k (of_parts _ k.operands) it.0 at.0 at.1 asked
            ∙ ap (λ y. typed_form d it.0 ∷ y ∷ []) (place_form d at.0 (type.Weak it.0) to ∙ ap OfPlace (weak_shape m it.0)),
      )

  unowned_forms : Known m f i op.StoreUnowned → (u : Form) × (inner : Shape) × (operand_forms d f i ≡ u ∷ OfPlace (Stored storage.Unowned inner) ∷ [])
  unowned_forms k =
      let it = taken_from (option_and_then unowned_at (written 1 i)) k.keeps in
      let at = found_behind unowned_at (written 1 i) it.0 it.1 in
      let behind = found_behind in_unowned (target at.0) it.0 at.2 in
      let to : target at.0 ≡ Some (type.Unowned it.0) = behind.1 ∙ ap Some (unowned_type behind.0 it.0 behind.2) in
      let asked = subst (λ t. all_pairs (has_type (value_types d f)) (take 1 i.operands) (option_to_list t) ≡ true) it.1 k.asked in (
        typed_form d it.0,
        shape_of d it.0,
        two_operands m f i op.StoreUnowned k (of_parts _ k.operands) it.0 at.0 at.1 asked
            ∙ ap (λ y. typed_form d it.0 ∷ y ∷ []) (place_form d at.0 (type.Unowned it.0) to ∙ ap OfPlace (unowned_shape m it.0)),
      )

  store_row : (o : Op) → effect_of o ≡ row.StoresValue → (o ≡ op.Store) ⊎ ((o ≡ op.StoreWeak) ⊎ (o ≡ op.StoreUnowned))
  store_row op.Store e = inl refl
  store_row op.StoreWeak e = inr (inl refl)
  store_row op.StoreUnowned e = inr (inr refl)
  store_row _ e = cc

  stores_by : effect_of i.op ≡ row.StoresValue → StoresBy d f i
  stores_by effect = at (store_row i.op effect)
    where
      at : (i.op ≡ op.Store) ⊎ ((i.op ≡ op.StoreWeak) ⊎ (i.op ≡ op.StoreUnowned)) → StoresBy d f i
      at (inl is) =
          let x = stored m (well_typed m done.accepted.verified) f i (known_as op.Store is) in
          StoresBy.strongly (shape_of d x.ty) (ap roles_of is) x.taken x.holds_none
      at (inr (inl is)) =
          let x = weak_forms (known_as op.StoreWeak is) in
          stored_name storage.Weak op.StoreWeak is refl (λ e. cc) x.0 x.1 x.2 effect
      at (inr (inr is)) =
          let x = unowned_forms (known_as op.StoreUnowned is) in
          stored_name storage.Unowned op.StoreUnowned is refl (λ e. cc) x.0 x.1 x.2 effect

  -- ---- all words

  names_by : effect_of i.op ≡ row.LoadsName → (q : Place) → ops.given ≡ AddressOf q ∷ [] → IsStorageOf q.shape
  names_by effect q given =
      let it = told_as row.LoadsName effect in
      record {
        how = it.how;
        inner = it.s;
        is = place_of_form m w _ ops.given q (Stored it.how it.s) (inst.operands_typed m g f w memory entries p i ops c done) it.are given;
        other = named_other it.how it.s it.named;
      }

  pub its_words : HasItsWords d f i ops.given
  its_words = record {
    loads = λ effect o q done_is given. at o q done_is given (load_row i.op effect);
    names = names_by;
    stores = stores_by;
    destroys = λ effect o done_is. ap takes (sym (same_Some operation.Take o (sym (told_as row.DestroysPlace effect) ∙ done_is)));
  }
    where
      at : (o : Operation) (q : Place) → operation_done i ≡ Some o → ops.given ≡ AddressOf q ∷ [] → (i.op ≡ op.Load) ⊎ (i.op ≡ op.LoadBorrow) → LoadsBy d f i o q.shape
      at o q done_is given (inl is) = loads_by q given is o done_is
      at o q done_is given (inr is) = borrows_by q.shape is o done_is
