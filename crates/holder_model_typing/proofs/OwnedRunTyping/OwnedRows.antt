-- The rows that stand in ownership form alone, or do there what they don't do in lowered form.
use Rattle.std.proofs.Common.{◌≡◌, ℕ, List, [], ◌∷◌, map, refl, sym, ap, ◌∙◌, subst, Bool, true, false, not, Some, None}
use Rattle.std.specs.Prelude.{◌||◌, pos, option_and_then, option_map, slice_get}
use Rattle.std.proofs.lemmas.Bool.{and_parts}
use Rattle.instruction_table.specs.declared.forms.Part.TheVariants as part
use Rattle.instruction_table.specs.declared.op.Op.{Op}
use Rattle.instruction_table.specs.declared.op.Op.TheVariants as op
use Rattle.numbered_form.specs.inner.Parts.{are_of_parts}
use Rattle.sil_ast.specs.declared.function.Function.{Function}
use Rattle.sil_ast.specs.declared.inst.Inst.{Inst}
use Rattle.sil_ast.specs.declared.inst.Qualifier.{Qualifier}
use Rattle.sil_ast.specs.declared.inst.Qualifier.TheVariants as word
use Rattle.sil_ast.specs.declared.module.Module.{Module}
use Rattle.sil_ast.specs.declared.type_name.TypeName.{TypeName}
use Rattle.sil_ast.specs.declared.type_name.TypeName.TheVariants as type
use Rattle.holder_model.specs.Effects.{effect_of}
use Rattle.holder_model.specs.memory_rules_accesses.Operations.{access_kind_of, load_operation, operation_by, store_operation}
use Rattle.holder_model.specs.sil_types_declarations.TypeDefinitions.Declarations.{declarations_of}
use Rattle.holder_model.specs.sil_types_declarations.TypeDefinitions.Measures.{is_trivial}
use Rattle.holder_model.specs.sil_types.Typing.RowTypes.{gives, given_by, passes, written}
use Rattle.holder_model.specs.sil_types.Typing.Shapes.{element_at, elements, field_type, fields_of_struct, is_nontrivial, is_object, is_storage, target, target_in, where_it}
use Rattle.holder_model.specs.holder_model_values.RunValues.Shapes.{Tuple, members_of, shape_of}
use Rattle.holder_model.specs.RunTyping.EndForms.{operand_forms}
use Rattle.holder_model.specs.RunTyping.Forms.{Form, OfPlace, OfValue, forms_of, has_no_storage}
use Rattle.holder_model.specs.RunTyping.RowForms as lowered
use Rattle.holder_model_typing.specs.RunTypingLaws.inner.WellTyped.{IsWellTyped}
use Rattle.holder_model_typing.proofs.RunTypingLaws.MemberFacts.{struct_group, struct_named}
use Rattle.holder_model_typing.proofs.RunTypingLaws.Rows.Addresses.{element_target, struct_forms}
use Rattle.holder_model_typing.proofs.RunTypingLaws.Rows.Counting.{object_counted, placed_at}
use Rattle.holder_model_typing.proofs.RunTypingLaws.Rows.Finding.{found_behind, some_of, where_found}
use Rattle.numbered_form.proofs.Lists.{mapped_from}
use Rattle.holder_model_typing.proofs.RunTypingLaws.Rows.Forms.{typed_form, value_form}
use Rattle.holder_model_typing.proofs.RunTypingLaws.Rows.Known.{Known}
use Rattle.holder_model_typing.proofs.RunTypingLaws.Rows.Layers.{target-Tuple, tuple_type}
use Rattle.holder_model_typing.proofs.RunTypingLaws.Rows.Members.{placed_so}
use Rattle.holder_model_typing.proofs.RunTypingLaws.Rows.Memory.{loaded, object_place, stored}
use Rattle.holder_model_typing.proofs.RunTypingLaws.Rows.NamesOfObjects.{destroy_storage}
use Rattle.holder_model_typing.proofs.RunTypingLaws.Rows.Shares.{Row, given_one, gives_form, of_parts, one_operand, taken_from}
use Rattle.holder_model_typing.proofs.RunTypingLaws.ShapeFacts.{tuple_shape}
use Rattle.holder_model_typing.proofs.RunTypingLaws.ValueForms.{value_forms}
use Rattle.holder_model_typing.specs.OwnedRunTyping.inner.OwnedRows as owned
use Rattle.holder_model_typing.specs.OwnedRunTyping.inner.OwnedRows.{IsReadOf, IsWriteOf, OwnedRowForms}

-- the instruction's operands and results are those that its row has to do with
abbrev pub OwnedRow : Module → Function → Inst → Type 0
OwnedRow m f i = OwnedRowForms m i (operand_forms (declarations_of m) f i) (forms_of (declarations_of m) f i.results)

pub owned_row_of : (m : Module) (f : Function) (i : Inst) (xs ys : List Form) → operand_forms (declarations_of m) f i ≡ xs → forms_of (declarations_of m) f i.results ≡ ys
    → OwnedRowForms m i xs ys → OwnedRow m f i
owned_row_of m f i xs ys e h row =
    subst (λ x. OwnedRowForms m i x (forms_of (declarations_of m) f i.results)) (sym e) (subst (λ y. OwnedRowForms m i xs y) (sym h) row)

-- one that stands in lowered form too
pub as_lowered : (m : Module) (f : Function) (i : Inst) → Row m f i → OwnedRow m f i
as_lowered m f i row = owned.also_lowered _ _ row

read_by : (q : Qualifier) → IsReadOf (load_operation q)
read_by word.Plain = owned.reads
read_by word.Copy = owned.reads
read_by word.Take = owned.takes
read_by word.Trivial = owned.reads
read_by word.Init = owned.reads
read_by word.Assign = owned.reads

written_by : (q : Qualifier) → IsWriteOf (store_operation q)
written_by word.Plain = owned.again
written_by word.Copy = owned.again
written_by word.Take = owned.again
written_by word.Trivial = owned.trivial
written_by word.Init = owned.first
written_by word.Assign = owned.again

module _ (m : Module) (r : IsWellTyped m) (f : Function) (i : Inst) where
  -- the value of an object's type that an instruction takes
  record IsTaken (ty : TypeName) : Type 0 where
    taken : operand_forms (declarations_of m) f i ≡ OfValue (shape_of (declarations_of m) ty) ∷ []
    value : typed_form (declarations_of m) ty ≡ OfValue (shape_of (declarations_of m) ty)
    holds_none : has_no_storage (shape_of (declarations_of m) ty) ≡ true

  taken_object : (o : Op) → Known m f i o → are_of_parts (part.Typed ∷ []) i.operands ≡ true → (t : TypeName) → written 0 i ≡ Some t → is_object t ≡ true → IsTaken t
  taken_object o k parts t is object =
      let counted = object_counted m r t object (placed_at m f i o k 0 t is) in
      record {
        taken = one_operand m f i o k parts t is ∙ ap (λ x. x ∷ []) counted.form;
        value = counted.form;
        holds_none = counted.holds_none;
      }

  object_of : (t : TypeName) → is_nontrivial (declarations_of m) t ≡ true → is_object t ≡ true
  object_of t e = (and_parts (is_object t) (not (is_trivial (declarations_of m) t)) e).0

  pub copy_value : Known m f i op.CopyValue → OwnedRow m f i
  copy_value k =
      let it = given_one (where_it (is_nontrivial (declarations_of m)) (written 0 i)) k.keeps in
      let found = where_found (is_nontrivial (declarations_of m)) (written 0 i) it.0 it.1 in
      let x = taken_object op.CopyValue k (of_parts _ k.operands) it.0 found.0 (object_of it.0 found.1) in
      owned_row_of m f i _ _ x.taken (gives_form m f i op.CopyValue k refl it.0 (ap gives it.1) ∙ ap (λ y. y ∷ []) x.value) (owned.copies _ (ap effect_of k.op) x.holds_none)

  pub move_value : Known m f i op.MoveValue → OwnedRow m f i
  move_value k =
      let it = given_one (where_it is_object (written 0 i)) k.keeps in
      let found = where_found is_object (written 0 i) it.0 it.1 in
      let x = taken_object op.MoveValue k (of_parts _ k.operands) it.0 found.0 found.1 in
      owned_row_of m f i _ _ x.taken (gives_form m f i op.MoveValue k refl it.0 (ap gives it.1) ∙ ap (λ y. y ∷ []) x.value)
      (owned.gives _ (ap effect_of k.op) x.holds_none)

  pub begin_borrow : Known m f i op.BeginBorrow → OwnedRow m f i
  begin_borrow k =
      let it = given_one (where_it (is_nontrivial (declarations_of m)) (written 0 i)) k.keeps in
      let found = where_found (is_nontrivial (declarations_of m)) (written 0 i) it.0 it.1 in
      let x = taken_object op.BeginBorrow k (of_parts _ k.operands) it.0 found.0 (object_of it.0 found.1) in
      owned_row_of m f i _ _ x.taken (gives_form m f i op.BeginBorrow k refl it.0 (ap gives it.1) ∙ ap (λ y. y ∷ []) x.value)
      (owned.gives _ (ap effect_of k.op) x.holds_none)

  pub destroy_value : Known m f i op.DestroyValue → OwnedRow m f i
  destroy_value k =
      let it = taken_from (where_it (is_nontrivial (declarations_of m)) (written 0 i)) k.keeps in
      let found = where_found (is_nontrivial (declarations_of m)) (written 0 i) it.0 it.1 in
      let x = taken_object op.DestroyValue k (of_parts _ k.operands) it.0 found.0 (object_of it.0 found.1) in
      owned_row_of m f i _ [] x.taken (k.no_result refl) (owned.also_lowered _ _ (lowered.drops _ (ap effect_of k.op) x.holds_none))

  pub end_borrow : Known m f i op.EndBorrow → OwnedRow m f i
  end_borrow k =
      let it = taken_from (where_it (is_nontrivial (declarations_of m)) (written 0 i)) k.keeps in
      let found = where_found (is_nontrivial (declarations_of m)) (written 0 i) it.0 it.1 in
      let x = taken_object op.EndBorrow k (of_parts _ k.operands) it.0 found.0 (object_of it.0 found.1) in
      owned_row_of m f i _ [] x.taken (k.no_result refl) (owned.also_lowered _ _ (lowered.looks _ (ap effect_of k.op)))

  pub load : Known m f i op.Load → OwnedRow m f i
  load k =
      let x = loaded m r f i k in
      owned_row_of m f i _ _ x.taken x.given
      (owned.loads _ (load_operation i.qualifier) (ap effect_of k.op) (ap (λ o. operation_by (access_kind_of o) i.qualifier) k.op) (read_by i.qualifier) x.holds_none)

  pub store : Known m f i op.Store → OwnedRow m f i
  store k =
      let x = stored m r f i k in
      owned_row_of m f i _ [] x.taken (k.no_result refl)
      (owned.stores _ (store_operation i.qualifier) (ap effect_of k.op) (ap (λ o. operation_by (access_kind_of o) i.qualifier) k.op) (written_by i.qualifier) x.holds_none)

  -- the object behind the address that an instruction takes
  record IsReached (ty : TypeName) : Type 0 where
    taken : operand_forms (declarations_of m) f i ≡ OfPlace (shape_of (declarations_of m) ty) ∷ []
    value : typed_form (declarations_of m) ty ≡ OfValue (shape_of (declarations_of m) ty)
    holds_none : has_no_storage (shape_of (declarations_of m) ty) ≡ true

  reached : (o : Op) → Known m f i o → are_of_parts (part.Typed ∷ []) i.operands ≡ true → (t inner : TypeName) → written 0 i ≡ Some t → target t ≡ Some inner
      → is_object inner ≡ true → IsReached inner
  reached o k parts t inner is to object =
      let whole = object_place m r t inner (ap (where_it is_object) to ∙ passes object) (placed_at m f i o k 0 t is) in
      record {
        taken = one_operand m f i o k parts t is ∙ ap (λ x. x ∷ []) whole.place;
        value = whole.value;
        holds_none = whole.holds_none;
      }
    where
      passes : is_object inner ≡ true → where_it is_object (Some inner) ≡ Some inner
      passes e = rw e

  pub load_borrow : Known m f i op.LoadBorrow → OwnedRow m f i
  load_borrow k =
      let it = given_one (where_it (is_nontrivial (declarations_of m)) (option_and_then target (written 0 i))) k.keeps in
      let found = where_found (is_nontrivial (declarations_of m)) (option_and_then target (written 0 i)) it.0 it.1 in
      let at = found_behind target (written 0 i) it.0 found.0 in
      let x = reached op.LoadBorrow k (of_parts _ k.operands) at.0 it.0 at.1 at.2 (object_of it.0 found.1) in
      owned_row_of m f i _ _ x.taken (gives_form m f i op.LoadBorrow k refl it.0 (ap gives it.1) ∙ ap (λ y. y ∷ []) x.value)
      (owned.loads _ _ (ap effect_of k.op) (ap (λ o. operation_by (access_kind_of o) i.qualifier) k.op) owned.lends x.holds_none)

  -- an object, or what storage names
  pub destroy_addr : Known m f i op.DestroyAddr → OwnedRow m f i
  destroy_addr k =
      let test = λ (t : TypeName). is_nontrivial (declarations_of m) t || is_storage t in
      let it = taken_from (where_it test (option_and_then target (written 0 i))) k.keeps in
      let found = where_found test (option_and_then target (written 0 i)) it.0 it.1 in
      let at = found_behind target (written 0 i) it.0 found.0 in
      by it.0 at.0 (is_nontrivial (declarations_of m) it.0) refl found.1 found.0 at.1 at.2
    where
      by : (u t : TypeName) (b : Bool) → is_nontrivial (declarations_of m) u ≡ b → (b || is_storage u) ≡ true
          → option_and_then target (written 0 i) ≡ Some u → written 0 i ≡ Some t → target t ≡ Some u → OwnedRow m f i
      by u t true is stored behind at to =
          let x = reached op.DestroyAddr k (of_parts _ k.operands) t u at to (object_of u is) in
          owned_row_of m f i _ [] x.taken (k.no_result refl) (owned.destroys _ (ap effect_of k.op) (ap (λ o. operation_by (access_kind_of o) i.qualifier) k.op) x.holds_none)
      by u t false is stored behind at to = as_lowered m f i (destroy_storage m r f i k (ap (passes is_storage) behind ∙ stored))

  pub destructure_struct : Known m f i op.DestructureStruct → OwnedRow m f i
  destructure_struct k =
      let made = some_of (given_by op.DestructureStruct (declarations_of m) i) k.keeps in
      let at = found_behind (λ t. option_map (map field_type) (fields_of_struct (declarations_of m) t)) (written 0 i) made.0 made.1 in
      let fields = mapped_from (map field_type) (fields_of_struct (declarations_of m) at.0) made.0 at.2 in
      owned_row_of m f i _ _
      (one_operand m f i op.DestructureStruct k (of_parts _ k.operands) at.0 at.1 ∙ ap (λ x. x ∷ []) (value_form (declarations_of m) at.0 (ap target_in (struct_named m at.0 fields.0 fields.1).2)))
      (k.all_results refl made.0 made.1 ∙ ap (map (typed_form (declarations_of m))) (sym fields.2) ∙ struct_forms m r at.0 fields.0 fields.1)
      (owned.members _ _ (ap effect_of k.op) (struct_group m r at.0 fields.0 fields.1))

  pub destructure_tuple : Known m f i op.DestructureTuple → OwnedRow m f i
  destructure_tuple k =
      let made = some_of (given_by op.DestructureTuple (declarations_of m) i) k.keeps in
      let at = found_behind elements (written 0 i) made.0 made.1 in
      let whole : at.0 ≡ type.Tuple made.0 = tuple_type at.0 made.0 at.2 in
      owned_row_of m f i (OfValue (Tuple (members_of (map (shape_of (declarations_of m)) made.0))) ∷ []) _
      (one_operand m f i op.DestructureTuple k (of_parts _ k.operands) at.0 at.1
      ∙ ap (λ t. typed_form (declarations_of m) t ∷ []) whole
      ∙ ap (λ x. x ∷ []) (value_form (declarations_of m) (type.Tuple made.0) (target-Tuple made.0) ∙ ap OfValue (tuple_shape m made.0)))
      (k.all_results refl made.0 made.1 ∙ value_forms (declarations_of m) made.0 (part_target at.0 made.0 at.1 at.2))
      (owned.members _ _ (ap effect_of k.op) (lowered.tuple _))
    where
      part_target : (t : TypeName) (ts : List TypeName) → written 0 i ≡ Some t → elements t ≡ Some ts → (j : ℕ) (u : TypeName) → slice_get ts j ≡ Some u → target u ≡ None
      part_target t ts is parts j u there =
          element_target (Some (pos j)) t u (placed_so m r f i op.DestructureTuple k 0 t is) (ap (option_and_then (λ us. element_at us (Some (pos j)))) parts ∙ there)
