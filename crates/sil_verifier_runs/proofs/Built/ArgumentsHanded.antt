-- What a call takes behind its callee: an address is handed over by the convention of its argument.
use Rattle.std.proofs.Common.{◌≡◌, inl, inr, ℕ, List, [], ◌∷◌, append-nil, length, map, refl, sym, ap, ap₂, ◌∙◌, subst, Bool, true, false, not, Some}
use Rattle.std.specs.List.{AllZip}
use Rattle.std.proofs.lemmas.Bool.{and_parts, false≢true}
use Rattle.argument_conventions.specs.Arguments.{Told, arguments_of, conventions_of, handed_type}
use Rattle.argument_conventions.specs.Rows.{address_row, row_of}
use Rattle.argument_conventions.specs.declared.convention.ArgumentConvention.{ArgumentConvention}
use Rattle.argument_conventions.specs.declared.convention.ArgumentConvention.TheVariants as convention
use Rattle.argument_conventions.specs.declared.row.AddressRow.{AddressRow}
use Rattle.instruction_table.specs.Forms.{roles_of}
use Rattle.instruction_table.specs.declared.entries.Role.TheVariants as role
use Rattle.instruction_table.specs.declared.op.Op.{Op}
use Rattle.instruction_table.specs.declared.op.Op.TheVariants as op
use Rattle.sil_verifier_frames.specs.holder_model.Effects.{effect_of}
use Rattle.sil_verifier_frames.specs.holder_model.declared.row_effect.RowEffect.{RowEffect}
use Rattle.sil_verifier_frames.specs.holder_model.declared.row_effect.RowEffect.TheVariants as row
use Rattle.sil_verifier_frames.specs.sil_types.Typing.Shapes.{is_object}
use Rattle.sil_verifier_frames.specs.sil_types.Typing.SignatureRules.{fits_by}
use Rattle.sil_verifier_frames.specs.sil_types.Typing.Values.{function_at, value_functions}
use Rattle.sil_verifier_frames.proofs.sil_verifier_trails.AcceptedPlaces.OperationsRight.{stands_somewhere}
use Rattle.sil_verifier_frames.specs.sil_verifier_trails.AcceptedPlaces.inner.Located.{IsAddress}
use Rattle.sil_verifier_frames.specs.sil_verifier_values.inner.Handed.{IsHanded}
use Rattle.sil_verifier_frames.specs.sil_verifier_values.inner.Known.{IsAcceptedBody, type_in}
use Rattle.sil_verifier_frames.specs.holder_model.RunTyping.Forms.{OfPlace, OfValue, form_by, form_of, form_with}
use Rattle.sil_verifier_frames.proofs.sil_verifier_values.Accepted.{well_typed}
use Rattle.sil_verifier_frames.proofs.sil_verifier_values.Calls.{calls_handed}
use Rattle.sil_verifier_frames.proofs.sil_verifier_values.Parameters.{fits, told_fits}
use Rattle.sil_verifier_frames.proofs.holder_model_typing.RunTypingLaws.CallFacts.{called}
use Rattle.sil_verifier_frames.proofs.holder_model_typing.RunTypingLaws.FunctionFacts.{typed_function}
use Rattle.sil_verifier_frames.proofs.holder_model_typing.RunTypingLaws.Rows.Layers.{object_target}
use Rattle.sil_cfg_items.specs.Parts.{inst_at}
use Rattle.sil_cfg_items.specs.Roles.{by_convention, by_row, conventions_by, conventions_in, roles_for, taken_as, taken_by, taken_each}
use Rattle.sil_cfg_items.specs.declared.taken.Taken.{Taken}
use Rattle.numbered_form.specs.Lists.{Each}
use Rattle.numbered_form.proofs.PointChecks.Among.{Among}
use Rattle.holder_model_values.specs.RunValues.Shapes.{shape_of}
use Rattle.sil_ast.specs.declared.function.Function.{Function}
use Rattle.sil_ast.specs.declared.inst.Inst.{Inst}
use Rattle.sil_ast.specs.declared.module.Module.{Module}
use Rattle.sil_ast.specs.declared.operands.Operand.{Operand}
use Rattle.sil_ast.specs.declared.place.PointId.{PointId}
use Rattle.sil_ast.specs.declared.place.ValueId.{ValueId}
use Rattle.sil_ast.specs.declared.type_name.TypeName.{TypeName}
use Rattle.sil_cfg.specs.declared.item.Item.TheVariants as item
use Rattle.sil_types_declarations.specs.TypeDefinitions.Declarations.{Declarations, declarations_of}
use Rattle.sil_types_declarations.specs.TypeDefinitions.Measures.{is_trivial}
use Rattle.sil_verifier_frames.proofs.holder_model_laws.HolderLaws.Whole.Lists.{each_from}

abbrev calls_row : RowEffect → Bool
calls_row row.CallsFunction = true
calls_row _ = false

call_op : (o : Op) → calls_row (effect_of o) ≡ true → o ≡ op.Apply
call_op op.Apply e = refl
call_op _ e = absurd (false≢true e)

-- it is handed over
abbrev pub IsHandedOver : Taken → Type 0
IsHandedOver t = (row : AddressRow) × (t.handed ≡ Some row)

module _ (m : Module) (n : ℕ) (f : Function) (a : IsAcceptedBody m n f) where
  abbrev d : Declarations
  d = declarations_of m

  -- what has an object type has no address
  no_object : (v : ValueId) (t : TypeName) → type_in d f v ≡ Some t → is_object t ≡ true → IsAddress d f v → ⊥
  no_object v t ty object address =
      let value : form_of d f v ≡ OfValue (shape_of d t) =
      ap (λ o. form_by d o (function_at (value_functions f) v.0)) ty ∙ ap (form_with d t) (object_target t object) in
      let two : OfPlace address.shape ≡ OfValue (shape_of d t) = sym address.is ∙ value in
      cc

  -- by the convention of its argument
  by_told : (told : Told) (o : Operand) → IsHanded d f told o → fits d told ≡ true → IsAddress d f o.value → IsHandedOver (taken_as o (by_convention told.convention))
  by_told told o handed fit address = by told.convention refl
    where
      by : (c : ArgumentConvention) → told.convention ≡ c → (row : AddressRow) × (address_row told.convention ≡ Some row)
      by convention.Plain e =
          absurd (no_object o.value told.ty (handed.typed ∙ ap (λ c. Some (handed_type c told.ty)) e)
          (and_parts (is_object told.ty) (is_trivial d told.ty) (ap (λ c. fits_by d c told.ty) (sym e) ∙ fit)).0 address)
      by convention.Owned e =
          absurd (no_object o.value told.ty (handed.typed ∙ ap (λ c. Some (handed_type c told.ty)) e)
          (and_parts (is_object told.ty) (not (is_trivial d told.ty)) (ap (λ c. fits_by d c told.ty) (sym e) ∙ fit)).0 address)
      by convention.Guaranteed e =
          absurd (no_object o.value told.ty (handed.typed ∙ ap (λ c. Some (handed_type c told.ty)) e)
          (and_parts (is_object told.ty) (not (is_trivial d told.ty)) (ap (λ c. fits_by d c told.ty) (sym e) ∙ fit)).0 address)
      by (convention.Address c) e = (row_of c, ap address_row e)

  each_told : (tolds : List Told) (os : List Operand) → AllZip (IsHanded d f) tolds os → Each (λ told. fits d told ≡ true) tolds → (t : Taken)
      → Among t (taken_each os (map by_convention (map (λ (x : Told). x.convention) tolds))) → IsAddress d f t.value → IsHandedOver t
  each_told [] [] zip fit t among address = absurd among
  each_told [] (o ∷ os) zip fit t among address = absurd among
  each_told (told ∷ tolds) [] zip fit t among address = absurd among
  each_told (told ∷ tolds) (o ∷ os) zip fit t (inl same) address =
      subst IsHandedOver (sym same) (by_told told o zip.0 fit.0 (subst (λ (u : Taken). IsAddress d f u.value) same address))
  each_told (told ∷ tolds) (o ∷ os) zip fit t (inr more) address = each_told tolds os zip.1 fit.1 t more address

  module _ (p : PointId) (x : Inst) (is : inst_at f p ≡ Some x) (call : effect_of x.op ≡ row.CallsFunction) where
    op_is : x.op ≡ op.Apply
    op_is = call_op x.op (ap calls_row call)

    -- each address behind the callee is handed over
    pub handed_addresses : (first : Taken) (rest : List Taken) → taken_by x ≡ first ∷ rest → (t : Taken) → Among t rest → IsAddress d f t.value → IsHandedOver t
    handed_addresses first rest taken t among address =
        let at = stands_somewhere f (item.Inst p) x is in
        let c = called m (well_typed m a.verified) n f a.body.there at.0 at.1 x at.2 op_is in
        let signed : conventions_in x ≡ conventions_of c.body.signature = ap conventions_by c.told ∙ append-nil (conventions_of c.body.signature) in
        let all : taken_by x ≡ taken_as c.value (by_row role.Used) ∷ taken_each c.handed (map by_convention (conventions_of c.body.signature)) =
        ap₂ (λ z os. taken_each os (roles_for (roles_of z) (conventions_in x) (length os))) op_is c.operands
        ∙ ap (λ cs. taken_as c.value (by_row role.Used) ∷ taken_each c.handed (map by_convention cs)) signed in
        let both : taken_as c.value (by_row role.Used) ∷ taken_each c.handed (map by_convention (conventions_of c.body.signature)) ≡ first ∷ rest = sym all ∙ taken in
        let others : taken_each c.handed (map by_convention (conventions_of c.body.signature)) ≡ rest = cc in
        each_told (arguments_of c.body.signature) c.handed
        (calls_handed m n f a at.0 at.1 x c.value c.handed c.body.signature at.2 op_is c.operands c.told)
        (each_from (λ told. fits d told ≡ true) (arguments_of c.body.signature)
        (λ k told there. told_fits m c.body (typed_function m (well_typed m a.verified) c.named.0 c.body c.there) k told there))
        t (subst (Among t) (sym others) among) address
