-- What the row of an instruction has, by the forms of its operands and results, and by what else typing tells of it.
use Rattle.std.proofs.Common.{◌≡◌, ℕ, ◌≤◌, List, [], ◌∷◌, length, map, refl, sym, ap, ◌∙◌, subst, arith, Option, Some, None}
use Rattle.std.specs.Prelude.{option_and_then}
use Rattle.instruction_table.specs.Forms.{detail_of}
use Rattle.instruction_table.specs.declared.entries.Detail.TheVariants as detail
use Rattle.instruction_table.specs.declared.op.Op.{Op}
use Rattle.instruction_table.specs.declared.op.Op.TheVariants as op
use Rattle.holder_model.specs.Effects.{effect_of, part_number, part_number_by}
use Rattle.holder_model.specs.ModuleShapes.{case_place}
use Rattle.holder_model.specs.declared.row_effect.RowEffect.{RowEffect}
use Rattle.holder_model.specs.declared.row_effect.RowEffect.TheVariants as row
use Rattle.holder_model.specs.memory_rules_accesses.Operations.{access_kind_of, load_operation, operation_by, store_operation}
use Rattle.holder_model.specs.memory_rules_accesses.declared.columns.AccessKind.TheVariants as access
use Rattle.holder_model_values.specs.RunValues.Shapes.{Shape, Stored, shape_of}
use Rattle.sil_ast.specs.declared.function.Function.{Function}
use Rattle.sil_ast.specs.declared.inst.Inst.{Inst}
use Rattle.sil_ast.specs.declared.module.Module.{Module}
use Rattle.sil_ast.specs.declared.operands.Operand.{Operand}
use Rattle.sil_ast.specs.declared.place.ValueId.{ValueId}
use Rattle.sil_ast.specs.declared.type_name.TypeName.{TypeName}
use Rattle.sil_types.specs.Typing.Builtins.{Builtin, Sort, bits, builtin_named, combining, comparing, overflowing, sort_of}
use Rattle.sil_types.specs.Typing.Shapes.{target}
use Rattle.sil_types.specs.Typing.Values.{function_at, value_functions, value_types}
use Rattle.sil_types_declarations.specs.TypeDefinitions.Declarations.{Declarations, declarations_of}
use Rattle.sil_types_declarations.specs.TypeDefinitions.Lookups.{payload_of}
use Rattle.holder_model.specs.RunTyping.EndForms.{value_in}
use Rattle.holder_model.specs.RunTyping.Forms.{Form, OfPlace, OfValue, form_by, form_of, form_with, forms_of}
use Rattle.holder_model.specs.RunTyping.RowForms as typed
use Rattle.holder_model.specs.RunTyping.RowForms.{RowForms, operation_done, shapes_by}
use Rattle.holder_model.specs.RunTyping.Runnable.{IsRunnable}
use Rattle.numbered_form.proofs.Lists.{mapped_from}
use Rattle.count_machine_model.specs.ReadyCode.ReadyOps.{operands_of}
use Rattle.count_machine_layouts.specs.FrameLayouts.inner.Sized.{HasSize, HaveSizes}
use Rattle.count_machine_layouts.proofs.FrameLayouts.Targets.{of_address, of_other}
use Rattle.count_machine_ready.specs.inner.Rows.{HasRow, Parts}
use Rattle.count_machine_ready.proofs.EnumCases.{case_named, place_in}
use Rattle.count_machine_ready.proofs.OneByOne.{first_value, just_two, one_value, two_values}
use Rattle.count_machine_ready.proofs.TypedRows.{NewCase, NewObject, Told, WrittenOperand}

-- the rows that load names load, and those that store values store
loads_kind : (o : Op) → effect_of o ≡ row.LoadsName → access_kind_of o ≡ access.Loads
loads_kind op.LoadWeak e = refl
loads_kind op.LoadUnowned e = refl
loads_kind _ e = absurd (cc)

stores_kind : (o : Op) → effect_of o ≡ row.StoresValue → access_kind_of o ≡ access.Stores
stores_kind op.Store e = refl
stores_kind op.StoreWeak e = refl
stores_kind op.StoreUnowned e = refl
stores_kind _ e = absurd (cc)

module _ (m : Module) (runnable : IsRunnable m) (f : Function) (sizes : HaveSizes (declarations_of m) (value_types (declarations_of m) f)) (i : Inst) where
  abbrev d : Declarations
  d = declarations_of m

  abbrev Made : Type 0
  Made = HasRow m f i (effect_of i.op)

  pub made : (e : RowEffect) → effect_of i.op ≡ e → Parts m f i e → Made
  made e is parts = subst (HasRow m f i) (sym is) (record { does = is; has = parts })

  loaded : effect_of i.op ≡ row.LoadsName → operation_done i ≡ Some (load_operation i.qualifier)
  loaded e = ap (λ k. operation_by k i.qualifier) (loads_kind i.op e)

  stored : effect_of i.op ≡ row.StoresValue → operation_done i ≡ Some (store_operation i.qualifier)
  stored e = ap (λ k. operation_by k i.qualifier) (stores_kind i.op e)

  -- every builtin has two operands
  computed : (b : Builtin) (s : Sort) → effect_of i.op ≡ row.Computes → option_and_then builtin_named i.text ≡ Some b
      → forms_of d f (operands_of i) ≡ map OfValue (shapes_by s (bits b.width)) → (r : ValueId) → i.results ≡ r ∷ [] → Made
  computed b overflowing e named is r results =
      let w = two_values d f (operands_of i) _ _ _ is in
      made row.Computes e (record {
        builtin = b;
        left = w.left;
        right = w.right;
        more = w.more;
        result = r;
        named = named;
        operands = w.all;
        results = results;
      })
  computed b comparing e named is r results =
      let w = two_values d f (operands_of i) _ _ _ is in
      made row.Computes e (record {
        builtin = b;
        left = w.left;
        right = w.right;
        more = w.more;
        result = r;
        named = named;
        operands = w.all;
        results = results;
      })
  computed b combining e named is r results =
      let w = two_values d f (operands_of i) _ _ _ is in
      made row.Computes e (record {
        builtin = b;
        left = w.left;
        right = w.right;
        more = w.more;
        result = r;
        named = named;
        operands = w.all;
        results = results;
      })

  object : effect_of i.op ≡ row.MakesObject → NewObject m f i → Made
  object e new =
      let r = one_value d f i.results _ new.form in
      made row.MakesObject e (record { class = new.class; result = r.value; ty = new.ty; is = new.is; results = r.only; form = r.form })

  none_given : forms_of d f (operands_of i) ≡ [] → length i.operands ≤ 1
  none_given is = at i.operands is
    where
      at : (os : List Operand) → forms_of d f (map value_in os) ≡ [] → length os ≤ 1
      at [] e = omega arith
      at (o ∷ os) e = absurd (cc)

  one_given : {x : Form} → forms_of d f (operands_of i) ≡ x ∷ [] → length i.operands ≤ 1
  one_given {x} is = at i.operands is
    where
      at : (os : List Operand) → forms_of d f (map value_in os) ≡ x ∷ [] → length os ≤ 1
      at [] e = omega arith
      at (o ∷ []) e = omega arith
      at (o ∷ p ∷ os) e = absurd (cc)

  chosen : (s : Shape) (k : ℕ) → effect_of i.op ≡ row.ChoosesCase → length i.operands ≤ 1
      → forms_of d f i.results ≡ OfValue s ∷ [] → case_place s i.member ≡ Some k → NewCase m f i → Made
  chosen s k e few so place new =
      let r = one_value d f i.results _ new.form in
      let same : OfValue s ≡ OfValue (shape_of d new.ty) = (let both : OfValue s ∷ [] ≡ OfValue (shape_of d new.ty) ∷ [] = sym so ∙ new.form in cc) in
      let shape : s ≡ shape_of d new.ty = cc in
      let at : case_place (shape_of d new.ty) i.member ≡ Some k = subst (λ x. case_place x i.member ≡ Some k) shape place in
      let found = mapped_from place_in (payload_of d new.ty new.named.name) k
      (case_named m runnable new.ty new.kind new.named ∙ ap (case_place (shape_of d new.ty)) (sym new.member) ∙ at) in
      made row.ChoosesCase e (record {
        result = r.value;
        ty = new.ty;
        named = new.named;
        payload = found.0;
        few = few;
        results = r.only;
        of = new.of;
        form = r.form;
        member = new.member;
        found = found.1;
        place = at ∙ ap Some (sym found.2);
      })

  -- the form of the one operand, by its type
  operand_form : (w : WrittenOperand m f i) (x : Form) → forms_of d f (operands_of i) ≡ x ∷ []
      → (form_of d f w.operand ≡ x) × (form_with d w.ty (target w.ty) ≡ x)
  operand_form w x is =
      let own : form_of d f w.operand ∷ [] ≡ x ∷ [] = ap (forms_of d f) (sym w.only) ∙ is in
      let form : form_of d f w.operand ≡ x = cc in
      (form, sym (ap (λ t. form_by d t (function_at (value_functions f) w.operand.0)) w.typed) ∙ form)

  of_value : (t : TypeName) (s : Shape) (o : Option TypeName) → form_with d t o ≡ OfValue s → (o ≡ None) × (s ≡ shape_of d t)
  of_value t s None e = (refl, cc)
  of_value t s (Some inner) e = absurd (cc)

  of_place : (t : TypeName) (s : Shape) (o : Option TypeName) → form_with d t o ≡ OfPlace s → (inner : TypeName) × (o ≡ Some inner) × (s ≡ shape_of d inner)
  of_place t s None e = absurd (cc)
  of_place t s (Some inner) e = (inner, refl, cc)

  member : (s : Shape) (k : ℕ) → effect_of i.op ≡ row.GivesMember → part_number d i ≡ Some k → forms_of d f (operands_of i) ≡ OfValue s ∷ []
      → {part : Form} → forms_of d f i.results ≡ part ∷ [] → WrittenOperand m f i → Made
  member s k e number is so w =
      let r = one_value d f i.results _ so in
      let form = operand_form w (OfValue s) is in
      let shape = of_value w.ty s (target w.ty) form.1 in
      made row.GivesMember e (record {
        operand = w.operand;
        result = r.value;
        ty = w.ty;
        place = k;
        operands = w.only;
        results = r.only;
        of = w.of;
        form = form.0 ∙ ap OfValue shape.1;
        number = number;
        size = subst (HasSize d) (of_other w.ty shape.0) (sizes w.operand.0 w.ty w.typed);
      })

  member_address : (s : Shape) (k : ℕ) → effect_of i.op ≡ row.AddressesMember → part_number d i ≡ Some k → forms_of d f (operands_of i) ≡ OfPlace s ∷ []
      → {part : Form} → forms_of d f i.results ≡ part ∷ [] → WrittenOperand m f i → Made
  member_address s k e number is so w =
      let r = one_value d f i.results _ so in
      let form = operand_form w (OfPlace s) is in
      let shape = of_place w.ty s (target w.ty) form.1 in
      made row.AddressesMember e (record {
        address = w.operand;
        result = r.value;
        ty = w.ty;
        inner = shape.0;
        place = k;
        operands = w.only;
        results = r.only;
        of = w.of;
        to = shape.1;
        form = form.0 ∙ ap OfPlace shape.2;
        number = number;
        size = subst (HasSize d) (of_address w.ty shape.0 shape.1) (sizes w.operand.0 w.ty w.typed);
      })

  field_address : (k : ℕ) → effect_of i.op ≡ row.AddressesField → part_number d i ≡ Some k → {of to : Form}
      → forms_of d f (operands_of i) ≡ of ∷ [] → forms_of d f i.results ≡ to ∷ []
      → detail_of i.op ≡ detail.Field → Made
  field_address k e number is so named =
      let v = one_value d f (operands_of i) _ is in
      let r = one_value d f i.results _ so in
      made row.AddressesField e (record {
        operand = v.value;
        result = r.value;
        place = k;
        operands = v.only;
        results = r.only;
        number = number;
        member = sym (ap (λ x. part_number_by x d i) named) ∙ number;
      })

  pub parts : (xs ys : List Form) → RowForms m i xs ys → forms_of d f (operands_of i) ≡ xs → forms_of d f i.results ≡ ys → Told m f i (effect_of i.op) → Made
  parts xs ys (typed.looks form e) is so more = let v = one_value d f (operands_of i) form is in
      made row.NoEffect e (record { operand = v.value; operands = v.only })
  parts xs ys (typed.literal n w e number fits) is so more =
      let r = one_value d f i.results _ so in made row.GivesLiteral e (record { number = n; result = r.value; written = number; results = r.only })
  parts xs ys (typed.function g e named) is so more = let r = one_value d f i.results _ so in
      made row.GivesFunction e (record { result = r.value; results = r.only })
  parts xs ys (typed.computes b e named) is so more = let r = one_value d f i.results _ so in computed b (sort_of b.operation) e named is r.value r.only
  parts xs ys (typed.traps text e named) is so more = let v = one_value d f (operands_of i) _ is in
      made row.TrapsWhereSet e (record { operand = v.value; operands = v.only })
  parts xs ys (typed.object class e is_class) is so more = object e (subst (Told m f i) e more)
  parts xs ys (typed.slot w s e kept) is so more =
      let r = one_value d f i.results _ so in made row.MakesSlot e (record { result = r.value; shape = s; results = r.only; form = r.form })
  parts xs ys (typed.removes s e) is so more = let v = one_value d f (operands_of i) _ is in
      made row.RemovesSlot e (record { operand = v.value; operands = v.only })
  parts xs ys (typed.upcast class above e is_a) is so more =
      let v = one_value d f (operands_of i) _ is in
      let r = one_value d f i.results _ so in
      made row.GivesOperand e (record { operand = v.value; result = r.value; operands = v.only; results = r.only })
  parts xs ys (typed.retains s e none) is so more = let v = one_value d f (operands_of i) _ is in
      made row.RetainsOperand e (record { operand = v.value; operands = v.only })
  parts xs ys (typed.drops s e none) is so more = let v = one_value d f (operands_of i) _ is in
      made row.DropsOperand e (record { operand = v.value; operands = v.only })
  parts xs ys (typed.loads s e done none) is so more =
      let v = one_value d f (operands_of i) _ is in
      let r = one_value d f i.results _ so in
      made row.LoadsValue e (record { operand = v.value; result = r.value; operands = v.only; results = r.only })
  parts xs ys (typed.stores s e done none) is so more =
      let w = just_two d f (operands_of i) _ _ is in
      made row.StoresValue e (record { value = w.0.left; address = w.0.right; shape = s; operands = w.1; form = w.0.form; operation = stored e })
  parts xs ys (typed.loads_name w s o e named done loads) is so more =
      let v = one_value d f (operands_of i) _ is in
      let r = one_value d f i.results _ so in
      made row.LoadsName e (record {
        address = v.value;
        result = r.value;
        storage = w;
        shape = s;
        operands = v.only;
        results = r.only;
        form = v.form;
        operation = loaded e;
      })
  parts xs ys (typed.stores_name w s o e named done stores) is so more =
      let both = just_two d f (operands_of i) _ _ is in
      made row.StoresValue e (record {
        value = both.0.left;
        address = both.0.right;
        shape = Stored w s;
        operands = both.1;
        form = both.0.form;
        operation = stored e;
      })
  parts xs ys (typed.destroys_name w s e named done) is so more =
      let v = one_value d f (operands_of i) _ is in
      made row.DestroysPlace e (record { address = v.value; storage = w; shape = s; operands = v.only; form = v.form })
  parts xs ys (typed.groups s ss e group) is so more = let r = one_value d f i.results _ so in made row.Groups e (record { result = r.value; results = r.only })
  parts xs ys (typed.chooses_plain s k c e listed place there none) is so more = chosen s k e (none_given is) so place (subst (Told m f i) e more)
  parts xs ys (typed.chooses_full s payload k c e listed place there some) is so more = chosen s k e (one_given is) so place (subst (Told m f i) e more)
  parts xs ys (typed.member s part k e number there) is so more = member s k e number is so (subst (Told m f i) e more)
  parts xs ys (typed.member_address s part k e number there) is so more = member_address s k e number is so (subst (Told m f i) e more)
  parts xs ys (typed.field_address class named s k e member owner number there) is so more = field_address k e number is so (subst (Told m f i) e more)
  parts xs ys (typed.calls g callee e there body) is so more =
      let v = first_value d f (operands_of i) _ _ is in
      let r = one_value d f i.results _ so in
      made row.CallsFunction e (record {
        function = g;
        body = callee;
        call = record { callee = v.value; args = v.more; result = r.value; operands = v.all; results = r.only; form = v.form; there = there };
      })
  parts xs ys (typed.calls_out g callee widths e there none) is so more =
      let v = first_value d f (operands_of i) _ _ is in
      let r = one_value d f i.results _ so in
      made row.CallsFunction e (record {
        function = g;
        body = callee;
        call = record { callee = v.value; args = v.more; result = r.value; operands = v.all; results = r.only; form = v.form; there = there };
      })
