-- The types that rows give can be measured.
use Rattle.std.proofs.Common.{◌≡◌, ℕ, ◌≤◌, List, [], ◌∷◌, ◌++◌, map, length, refl, sym, ap, ◌∙◌, subst, arith, Bool, true, false, Option, Some, None}
use Rattle.std.specs.Prelude.{◌==◌, ◌&&◌, IfSome, ℤ, pos, negsuc, if◌then◌else◌, not, option_and_then, option_map, slice_get}
use Rattle.std.specs.List.{flat_map, list_all, list_any}
use Rattle.std.specs.Option.{option_to_list}
use Rattle.std.proofs.lemmas.Bool.{and_parts, false≢true, or_parts}
use Rattle.instruction_table.specs.Forms.{makes_tuple}
use Rattle.instruction_table.specs.declared.op.Op.{Op}
use Rattle.instruction_table.specs.declared.op.Op.TheVariants as op
use Rattle.numbered_form.specs.Insts.{insts_of}
use Rattle.numbered_form.specs.Lists.{Each}
use Rattle.numbered_form.specs.PointChecks.Points.{IsAt}
use Rattle.sil_ast.specs.declared.decl.Field.{Field}
use Rattle.sil_ast.specs.declared.decl.Storage.{Storage}
use Rattle.sil_ast.specs.declared.decl.Storage.TheVariants as storage
use Rattle.sil_ast.specs.declared.function.Block.{Block}
use Rattle.sil_ast.specs.declared.function.Function.{Function}
use Rattle.sil_ast.specs.declared.inst.Inst.{Inst}
use Rattle.sil_ast.specs.declared.member.Member.{Member}
use Rattle.sil_ast.specs.declared.module.Module.{Module}
use Rattle.sil_ast.specs.declared.operands.Operand.{Operand}
use Rattle.sil_ast.specs.declared.type_name.TypeName.{TypeName}
use Rattle.sil_ast.specs.declared.type_name.TypeName.TheVariants as type
use Rattle.sil_rules.specs.declared.limits.TheConstants.{LEAVES}
use Rattle.sil_types.specs.Typing.Builtins.{Builtin, builtin_named, builtin_operands, builtin_result}
use Rattle.sil_types.specs.Typing.RowTypes.{address_of, address_of_field, all_fields, all_written, are_elements, given_by, gives, gives_builtin}
use Rattle.sil_types.specs.Typing.RowTypes.{is_base, is_made_by_case, is_struct_of, member_type, takes, type_of, written}
use Rattle.sil_types.specs.Typing.Same.{are_same_types, is_same_type}
use Rattle.sil_types.specs.Typing.Shapes.{class_field, element_at, element_of, elements, field_address, field_type, fields_of_struct, in_unowned, in_weak}
use Rattle.sil_types.specs.Typing.Shapes.{is_enum, is_integer, is_nontrivial, is_object}
use Rattle.sil_types.specs.Typing.Shapes.{object_at, stored_as, struct_field, target, unowned_at, weak_at, where_it}
use Rattle.sil_types_declarations.specs.TypeDefinitions.Declarations.{Declarations, declarations_of}
use Rattle.sil_types_declarations.specs.TypeDefinitions.Measures.{leaves_of}
use Rattle.sil_types_declarations.specs.TypeDefinitions.Mentions.{given_type, mention, operand_types, target_of, together}
use Rattle.sil_types_declarations.specs.TypeDefinitions.Rules.{is_class_type, is_misplaced_in_storage}
use Rattle.sil_types_declarations.specs.declared.type_definitions.standing.Standing.TheVariants.{Unwritten}
use Rattle.holder_model_typing.specs.holder_model.RunTyping.Runnable.{IsRunnable}
use Rattle.holder_model_typing.specs.holder_model.RunTyping.StorageForms.{IsNamed, unowned, weak}
use Rattle.holder_model_values.specs.RunValues.Shapes.{Shape, shape_of}
use Rattle.holder_model_values.specs.RunValues.inner.Laws.{has_no_address, has_no_address_over}
use Rattle.count_machine_model.specs.ReadyCode.Layout.{size_of}
use Rattle.holder_model_typing.proofs.RunTypingLaws.Declared.{each_from}
use Rattle.holder_model_typing.proofs.RunTypingLaws.Opened.{fold-Address, fold-Unowned, fold-Weak}
use Rattle.holder_model_typing.proofs.RunTypingLaws.Rows.Finding.{each_at, found_behind, where_found}
use Rattle.numbered_form.proofs.Lists.{mapped_from}
use Rattle.holder_model_typing.proofs.RunTypingLaws.Rows.Layers.{object_target, tuple_type, unowned_type, weak_type}
use Rattle.holder_model_typing.proofs.RunTypingLaws.Rows.Mentioned.{operand_placed}
use Rattle.holder_model_typing.proofs.RunTypingLaws.Rows.Storage.{behind_address, in_unowned_storage, in_weak_storage, unowned_is_named, weak_is_named}
use Rattle.holder_model_typing.proofs.RunTypingLaws.RunnableTyped.{well_typed}
use Rattle.holder_model_typing.proofs.RunTypingLaws.Sizes.{sizes}
use Rattle.count_machine_layouts.proofs.FrameLayouts.Fitting.{Fits, not_overfull, operand_fits, overfull, signature_fits, tuple_plain, tuple_within, type_fits}
use Rattle.count_machine_layouts.proofs.FrameLayouts.FieldsFit.{FieldFits, class_field_fits, elements_fit, fields_fit, struct_field_fits, unowned_fits, weak_fits}
use Rattle.count_machine_layouts.proofs.FrameLayouts.Targets.{is_address_of, of_address, of_other, target_of-Address, target_of-Tuple}

-- a type without an address points to nothing
plain_itself : (t : TypeName) → has_no_address t ≡ true → target_of t ≡ t
plain_itself t plain = at (target t) refl
  where
    at : (o : Option TypeName) → target t ≡ o → target_of t ≡ t
    at None e = of_other t e
    at (Some inner) e =
        absurd (false≢true (sym (fold-Address _ has_no_address_over inner) ∙ ap has_no_address (sym (is_address_of t inner e)) ∙ plain))

module _ (m : Module) where
  -- the type of a value, an address as what it points to
  abbrev pub ValueFits : TypeName → Type 0
  ValueFits t = Fits m (target_of t)

  itself_fits : (t : TypeName) → Fits m t → ValueFits t
  itself_fits t fits = subst (Fits m) (sym (plain_itself t fits.plain)) fits

  address_fits : (t : TypeName) → Fits m t → ValueFits (type.Address t)
  address_fits t fits = subst (Fits m) (sym (target_of-Address t)) fits

  fits_each : (ts : List TypeName) → Each (Fits m) ts → Each ValueFits ts
  fits_each [] h = tt
  fits_each (t ∷ ts) h = (itself_fits t h.0, fits_each ts h.1)

  fits_fields : (fields : List Field) → Each (FieldFits m) fields → Each ValueFits (map field_type fields)
  fits_fields [] h = tt
  fits_fields (f ∷ fields) h = (itself_fits f.ty h.0, fits_fields fields h.1)

  of_gives : (o : Option TypeName) (ts : List TypeName) → ((t : TypeName) → o ≡ Some t → ValueFits t) → gives o ≡ Some ts → Each ValueFits ts
  of_gives None ts h e = absurd (cc)
  of_gives (Some t) ts h e = let is : t ∷ [] ≡ ts = cc in subst (Each ValueFits) is (h t refl, tt)

  of_takes : (o : Option TypeName) (ts : List TypeName) → takes o ≡ Some ts → Each ValueFits ts
  of_takes None ts e = absurd (cc)
  of_takes (Some t) ts e = let is : [] ≡ ts = cc in subst (Each ValueFits) is tt

  of_none : (ts : List TypeName) → Some [] ≡ Some ts → Each ValueFits ts
  of_none ts e = let is : [] ≡ ts = cc in subst (Each ValueFits) is tt

  where_fits : (test : TypeName → Bool) (o : Option TypeName) → ((t : TypeName) → o ≡ Some t → ValueFits t)
      → (t : TypeName) → where_it test o ≡ Some t → ValueFits t
  where_fits test o h t e = h t (where_found test o t e).0

  of_member : (find : Member → TypeName → Option Field) (g : Field → TypeName) (i : Inst) (o : Option TypeName) (ts : List TypeName)
      → ((named : Member) (t : TypeName) (f : Field) → find named t ≡ Some f → ValueFits (g f)) → member_type find g i o ≡ Some ts → Each ValueFits ts
  of_member find g i o ts h e =
      of_gives (option_map g (option_and_then (λ named. option_and_then (find named) o) i.member)) ts
      (λ t is. let it = mapped_from g (option_and_then (λ named. option_and_then (find named) o) i.member) t is in
      let named = found_behind (λ named. option_and_then (find named) o) i.member it.0 it.1 in
      let own = found_behind (find named.0) o it.0 named.2 in
      subst ValueFits it.2 (h named.0 own.0 it.0 own.2))
      e

-- what storage gives is small
named_small : (w : Storage) (s : Shape) → IsNamed w s → size_of s ≤ LEAVES
named_small _ _ (weak class name none some) = omega arith
named_small _ _ (unowned class) = omega arith

together_itself : (ts : List TypeName) → not (length ts == 1) ≡ true → together ts ≡ type.Tuple ts
together_itself [] e = refl
together_itself (t ∷ []) e = absurd (cc)
together_itself (t ∷ u ∷ ts) e = refl

objects_themselves : (os : List Operand) → list_all is_object (all_written os) ≡ true → flat_map operand_types os ≡ all_written os
objects_themselves [] e = refl
objects_themselves (o ∷ os) e = at o.ty e (objects_themselves os)
  where
    at : (ty : Option TypeName) → list_all is_object (option_to_list ty ++ all_written os) ≡ true
        → (list_all is_object (all_written os) ≡ true → flat_map operand_types os ≡ all_written os)
        → map target_of (option_to_list ty) ++ flat_map operand_types os ≡ option_to_list ty ++ all_written os
    at None e rest = rest e
    at (Some t) e rest =
        let both = and_parts (is_object t) (list_all is_object (all_written os)) e in
        ap (λ x. x ∷ flat_map operand_types os) (of_other t (object_target t both.0)) ∙ ap (λ xs. t ∷ xs) (rest both.1)

module _ (m : Module) (r : IsRunnable m) (n : ℕ) (f : Function) (there : slice_get m.functions n ≡ Some f)
    (k : ℕ) (b : Block) (is_block : slice_get f.blocks k ≡ Some b)
    (j : ℕ) (i : Inst) (is_inst : slice_get (insts_of b) j ≡ Some i) where
  spot : IsAt f k j i
  spot = record { within = b; is_block = is_block; is_inst = is_inst }

  type_is : (t : TypeName) → i.ty ≡ Some t → ValueFits m t
  type_is t e = itself_fits m t (type_fits m r n f there k b is_block j i is_inst t e)

  written_fits : (q : ℕ) (t : TypeName) → written q i ≡ Some t → ValueFits m t
  written_fits q t e = let it = found_behind type_of (slice_get i.operands q) t e in operand_fits m r n f there k b is_block j i is_inst q it.0 t it.1 it.2

  target_fits : (q : ℕ) (t inner : TypeName) → written q i ≡ Some t → target t ≡ Some inner → Fits m inner
  target_fits q t inner e to = subst (Fits m) (of_address t inner to) (written_fits q t e)

  behind : (g : TypeName → Option TypeName) → ((t x : TypeName) → written 0 i ≡ Some t → g t ≡ Some x → ValueFits m x)
      → (x : TypeName) → option_and_then g (written 0 i) ≡ Some x → ValueFits m x
  behind g h x e = let it = found_behind g (written 0 i) x e in h it.0 x it.1 it.2

  placed_at : (q : ℕ) (t inner : TypeName) → written q i ≡ Some t → target t ≡ Some inner → is_misplaced_in_storage (declarations_of m) inner ≡ false
  placed_at q t inner e to =
      let it = found_behind type_of (slice_get i.operands q) t e in
      behind_address (declarations_of m) t inner to (operand_placed m r.declared n f there k j i spot q it.0 t it.1 it.2)

  by_size : (w : Storage) (x : TypeName) → has_no_address x ≡ true → IsNamed w (shape_of (declarations_of m) x) → ValueFits m x
  by_size w x plain named =
      let small = named_small w (shape_of (declarations_of m) x) named in
      let same = sizes m (well_typed m r) x plain in
      itself_fits m x (record { plain = plain; within = omega arith })

  in_weak_fits : (t x : TypeName) → written 0 i ≡ Some t → weak_at t ≡ Some x → ValueFits m x
  in_weak_fits t x e at =
      let it = found_behind in_weak (target t) x at in
      let is : it.0 ≡ type.Weak x = weak_type it.0 x it.2 in
      let fits : Fits m (type.Weak x) = subst (Fits m) is (target_fits 0 t it.0 e it.1) in
      let placed = subst (λ y. is_misplaced_in_storage (declarations_of m) y ≡ false) is (placed_at 0 t it.0 e it.1) in
      by_size storage.Weak x (sym (fold-Weak Bool has_no_address_over x) ∙ fits.plain) (weak_is_named m (well_typed m r) x (in_weak_storage (declarations_of m) x placed))

  in_unowned_fits : (t x : TypeName) → written 0 i ≡ Some t → unowned_at t ≡ Some x → ValueFits m x
  in_unowned_fits t x e at =
      let it = found_behind in_unowned (target t) x at in
      let is : it.0 ≡ type.Unowned x = unowned_type it.0 x it.2 in
      let fits : Fits m (type.Unowned x) = subst (Fits m) is (target_fits 0 t it.0 e it.1) in
      let placed = subst (λ y. is_misplaced_in_storage (declarations_of m) y ≡ false) is (placed_at 0 t it.0 e it.1) in
      by_size storage.Unowned x (sym (fold-Unowned Bool has_no_address_over x) ∙ fits.plain)
      (unowned_is_named m (well_typed m r) x (in_unowned_storage (declarations_of m) x placed))

  element_fits : (t x : TypeName) → Fits m t → element_of i.number t ≡ Some x → Fits m x
  element_fits t x fits e =
      let it = found_behind (λ ts. element_at ts i.number) (elements t) x e in
      let is : t ≡ type.Tuple it.0 = tuple_type t it.0 it.1 in
      at it.0 (elements_fit m it.0 (subst (Fits m) is fits)) i.number it.2
    where
      at : (ts : List TypeName) → Each (Fits m) ts → (number : Option ℤ) → element_at ts number ≡ Some x → Fits m x
      at ts h None e = absurd (cc)
      at ts h (Some (pos p)) e = each_at (Fits m) ts p x h e
      at ts h (Some (negsuc p)) e = absurd (cc)

  field_address_fits : (fl : Field) → FieldFits m fl → ValueFits m (field_address fl)
  field_address_fits fl fits = address_fits m (stored_as fl.storage fl.ty) (at fl.storage)
    where
      at : (s : Storage) → Fits m (stored_as s fl.ty)
      at storage.Strong = fits
      at storage.Weak = weak_fits m fl.ty fits.plain
      at storage.Unowned = unowned_fits m fl.ty fits.plain

  -- the tuple of the operands

  abbrev OperandFits : Operand → Type 0
  OperandFits o = IfSome o.ty (ValueFits m)

  operands_fit : Each OperandFits i.operands
  operands_fit = each_from OperandFits i.operands (λ q o is. at q o is o.ty refl)
    where
      at : (q : ℕ) (o : Operand) → slice_get i.operands q ≡ Some o → (ty : Option TypeName) → o.ty ≡ ty → IfSome ty (ValueFits m)
      at q o is None e = tt
      at q o is (Some t) e = operand_fits m r n f there k b is_block j i is_inst q o t is e

  written_plain : (os : List Operand) → Each OperandFits os → list_all is_object (all_written os) ≡ true → Each (λ t. has_no_address t ≡ true) (all_written os)
  written_plain [] h e = tt
  written_plain (o ∷ os) h e = at o.ty h.0 e (written_plain os h.1)
    where
      at : (ty : Option TypeName) → IfSome ty (ValueFits m) → list_all is_object (option_to_list ty ++ all_written os) ≡ true
          → (list_all is_object (all_written os) ≡ true → Each (λ t. has_no_address t ≡ true) (all_written os))
          → Each (λ t. has_no_address t ≡ true) (option_to_list ty ++ all_written os)
      at None fits e rest = rest e
      at (Some t) fits e rest =
          let both = and_parts (is_object t) (list_all is_object (all_written os)) e in
          (subst (λ x. has_no_address x ≡ true) (of_other t (object_target t both.0)) fits.plain, rest both.1)

  tuple_fits : i.op ≡ op.Tuple → are_elements (all_written i.operands) ≡ true → Fits m (type.Tuple (all_written i.operands))
  tuple_fits is elements =
      let ts = all_written i.operands in
      let both = and_parts (not (length ts == 1)) (list_all is_object ts) elements in
      let own = flat_map operand_types i.operands in
      let mentioned : list_any (overfull m) (mention Unwritten (together own) ∷ []) ≡ false =
      subst (λ o. list_any (overfull m) (if makes_tuple o then mention Unwritten (together own) ∷ [] else []) ≡ false) is
      (tuple_within m r n f there k b is_block j i is_inst) in
      let same : together own ≡ type.Tuple ts = ap together (objects_themselves i.operands both.1) ∙ together_itself ts both.0 in
      record {
        plain = tuple_plain ts (written_plain i.operands operands_fit both.1);
        within = subst (λ t. leaves_of (declarations_of m) t ≤ LEAVES) same
            (not_overfull m Unwritten (together own) (or_parts (overfull m (mention Unwritten (together own))) false mentioned).0);
      }

  -- a tuple that is written at an operand
  tuple_written : (t x : TypeName) → written 0 i ≡ Some t → element_of i.number t ≡ Some x → Fits m t
  tuple_written t x w e =
      let it = found_behind (λ ts. element_at ts i.number) (elements t) x e in
      let is : t ≡ type.Tuple it.0 = tuple_type t it.0 it.1 in
      let itself : target_of t ≡ t = ap target_of is ∙ target_of-Tuple it.0 ∙ sym is in
      subst (Fits m) itself (written_fits 0 t w)

  abbrev d : Declarations
  d = declarations_of m

  abbrev Given : List TypeName → Type 0
  Given ts = Each (ValueFits m) ts

  where_written : (test : TypeName → Bool) (t : TypeName) → where_it test (written 0 i) ≡ Some t → ValueFits m t
  where_written test = where_fits m test (written 0 i) (written_fits 0)

  where_typed : (test : TypeName → Bool) (t : TypeName) → where_it test i.ty ≡ Some t → ValueFits m t
  where_typed test = where_fits m test i.ty type_is

  builtin_given : (ts : List TypeName) (x : Builtin) (b : Bool)
      → (if b then gives (where_it (is_same_type (builtin_result x)) i.ty) else None) ≡ Some ts → Given ts
  builtin_given ts x true e = of_gives m (where_it (is_same_type (builtin_result x)) i.ty) ts (where_typed (is_same_type (builtin_result x))) e
  builtin_given ts x false e = absurd (cc)

  tuple_given : (ts : List TypeName) → i.op ≡ op.Tuple → (b : Bool) → are_elements (all_written i.operands) ≡ b
      → (if b then Some (type.Tuple (all_written i.operands) ∷ []) else None) ≡ Some ts → Given ts
  tuple_given ts is true elements e =
      let same : type.Tuple (all_written i.operands) ∷ [] ≡ ts = cc in
      subst Given same (itself_fits m (type.Tuple (all_written i.operands)) (tuple_fits is elements), tt)
  tuple_given ts is false elements e = absurd (cc)

  pub row_fits : (o : Op) → i.op ≡ o → (ts : List TypeName) → given_by o (declarations_of m) i ≡ Some ts → Given ts
  row_fits op.IntegerLiteral is ts e = of_gives m (where_it is_integer i.ty) ts (where_typed is_integer) e
  row_fits op.FunctionRef is ts e = of_none m ts e
  row_fits op.Builtin is ts e =
      let it = found_behind (gives_builtin i i.ty) (option_and_then builtin_named i.text) ts e in
      builtin_given ts it.0 (are_same_types (all_written i.operands) (builtin_operands it.0)) it.2
  row_fits op.AllocRef is ts e = of_gives m (where_it (is_class_type d) i.ty) ts (where_typed (is_class_type d)) e
  row_fits op.AllocStack is ts e =
      of_gives m (option_map address_of i.ty) ts
      (λ t at. let it = mapped_from address_of i.ty t at in
      subst (ValueFits m) it.2 (address_fits m it.0 (type_fits m r n f there k b is_block j i is_inst it.0 it.1))) e
  row_fits op.CopyValue is ts e = of_gives m (where_it (is_nontrivial d) (written 0 i)) ts (where_written (is_nontrivial d)) e
  row_fits op.MoveValue is ts e = of_gives m (where_it is_object (written 0 i)) ts (where_written is_object) e
  row_fits op.BeginBorrow is ts e = of_gives m (where_it (is_nontrivial d) (written 0 i)) ts (where_written (is_nontrivial d)) e
  row_fits op.Load is ts e =
      of_gives m (option_and_then object_at (written 0 i)) ts
      (behind object_at (λ t x w at. itself_fits m x (target_fits 0 t x w (where_found is_object (target t) x at).0))) e
  row_fits op.LoadBorrow is ts e =
      of_gives m (where_it (is_nontrivial d) (option_and_then target (written 0 i))) ts
      (where_fits m (is_nontrivial d) (option_and_then target (written 0 i)) (behind target (λ t x w to. itself_fits m x (target_fits 0 t x w to)))) e
  row_fits op.LoadWeak is ts e = of_gives m (option_and_then weak_at (written 0 i)) ts (behind weak_at in_weak_fits) e
  row_fits op.LoadUnowned is ts e = of_gives m (option_and_then unowned_at (written 0 i)) ts (behind unowned_at in_unowned_fits) e
  row_fits op.Struct is ts e = of_gives m (where_it (is_struct_of d (all_written i.operands)) i.ty) ts (where_typed (is_struct_of d (all_written i.operands))) e
  row_fits op.Tuple is ts e = tuple_given ts is (are_elements (all_written i.operands)) refl e
  row_fits op.Enum is ts e = of_gives m (where_it (λ t. is_enum d t && is_made_by_case d i t) i.ty) ts
      (where_typed (λ t. is_enum d t && is_made_by_case d i t)) e
  row_fits op.StructExtract is ts e =
      of_member m (struct_field d) field_type i (written 0 i) ts (λ named t fl at. itself_fits m fl.ty (struct_field_fits m r named t fl at)) e
  row_fits op.TupleExtract is ts e =
      of_gives m (option_and_then (element_of i.number) (written 0 i)) ts
      (behind (element_of i.number) (λ t x w at. itself_fits m x (element_fits t x (tuple_written t x w at) at))) e
  row_fits op.DestructureStruct is ts e =
      let it = found_behind (all_fields d) (written 0 i) ts e in
      let fields = mapped_from (map field_type) (fields_of_struct d it.0) ts it.2 in
      subst Given fields.2 (fits_fields m fields.0 (fields_fit m r it.0 fields.0 fields.1))
  row_fits op.DestructureTuple is ts e =
      let it = found_behind elements (written 0 i) ts e in
      let own : it.0 ≡ type.Tuple ts = tuple_type it.0 ts it.2 in
      fits_each m ts (elements_fit m ts (subst (Fits m) (target_of-Tuple ts) (subst (ValueFits m) own (written_fits 0 it.0 it.1))))
  row_fits op.StructElementAddr is ts e =
      of_member m (struct_field d) address_of_field i (option_and_then target (written 0 i)) ts
      (λ named t fl at. address_fits m fl.ty (struct_field_fits m r named t fl at)) e
  row_fits op.TupleElementAddr is ts e =
      of_gives m (option_map address_of (option_and_then (element_of i.number) (option_and_then target (written 0 i)))) ts
      (λ t at. let it = mapped_from address_of (option_and_then (element_of i.number) (option_and_then target (written 0 i))) t at in
      let own = found_behind (element_of i.number) (option_and_then target (written 0 i)) it.0 it.1 in
      let to = found_behind target (written 0 i) own.0 own.1 in
      subst (ValueFits m) it.2 (address_fits m it.0 (element_fits own.0 it.0 (target_fits 0 to.0 own.0 to.1 to.2) own.2))) e
  row_fits op.RefElementAddr is ts e = of_member m (class_field d) field_address i (written 0 i) ts
      (λ named t fl at. field_address_fits fl (class_field_fits m r named t fl at)) e
  row_fits op.Apply is ts e =
      of_gives m (option_map given_type i.signature) ts
      (λ t at. let it = mapped_from given_type i.signature t at in
      subst (ValueFits m) it.2 (itself_fits m (given_type it.0) (signature_fits m r n f there k b is_block j i is_inst it.0 it.1))) e
  row_fits op.DebugValue is ts e = of_none m ts e
  row_fits op.Br is ts e = of_none m ts e
  row_fits op.CondBr is ts e = of_none m ts e
  row_fits op.Return is ts e = of_none m ts e
  row_fits op.Unreachable is ts e = of_none m ts e
  row_fits op.Upcast is ts e = of_gives m (where_it (is_base d (written 0 i)) i.ty) ts (where_typed (is_base d (written 0 i))) e
  row_fits op.CondFail is ts e = of_takes m _ ts e
  row_fits op.DeallocStack is ts e = of_takes m _ ts e
  row_fits op.DestroyValue is ts e = of_takes m _ ts e
  row_fits op.EndBorrow is ts e = of_takes m _ ts e
  row_fits op.Store is ts e = of_takes m _ ts e
  row_fits op.DestroyAddr is ts e = of_takes m _ ts e
  row_fits op.StoreWeak is ts e = of_takes m _ ts e
  row_fits op.StoreUnowned is ts e = of_takes m _ ts e
  row_fits op.StrongRetain is ts e = of_takes m _ ts e
  row_fits op.StrongRelease is ts e = of_takes m _ ts e
  row_fits op.RetainValue is ts e = of_takes m _ ts e
  row_fits op.ReleaseValue is ts e = of_takes m _ ts e
  row_fits op.SwitchEnum is ts e = of_takes m _ ts e
