-- Lowering keeps a module typed: rule by rule, at functions, at points and at vtables.
use Rattle.std.proofs.Common.{◌≡◌, ℕ, List, length, map, refl, sym, ap, ◌∙◌, subst, Bool, true, false, not, Option, Some}
use Rattle.std.specs.Prelude.{◌&&◌, ◌==◌, slice_get}
use Rattle.std.specs.List.{list_all, list_any}
use Rattle.std.specs.Option.{option_to_list}
use Rattle.std.proofs.lemmas.Bool.{and_right, not_from_true, or_from}
use Rattle.numbered_form.specs.Lists.{Each}
use Rattle.numbered_form.specs.inner.NumberedForm.{IsNumbered}
use Rattle.numbered_form.specs.Numbering.{IsEdgeInRange, values_of}
use Rattle.numbered_form.specs.PointChecks.Points.{IsAt}
use Rattle.instruction_table.specs.Forms.{forms_of, is_terminator}
use Rattle.instruction_table.specs.declared.op.Op.{Op}
use Rattle.instruction_table.specs.declared.op.Op.TheVariants as op
use Rattle.sil_ast.specs.Blocks.{args_of}
use Rattle.sil_ast.specs.declared.function.Block.{Block}
use Rattle.sil_ast.specs.declared.function.Form.{Form}
use Rattle.sil_ast.specs.declared.function.Form.TheVariants.{Ossa, Lowered, External}
use Rattle.sil_ast.specs.declared.function.Function.{Function}
use Rattle.sil_ast.specs.declared.inst.Inst.{Inst}
use Rattle.sil_ast.specs.declared.module.Module.{Module}
use Rattle.sil_ast.specs.declared.place.FuncId.{FuncId}
use Rattle.sil_ast.specs.declared.place.ValueId.{ValueId}
use Rattle.sil_ast.specs.declared.vtable.Vtable.{Vtable}
use Rattle.sil_ast.specs.declared.type_name.TypeName.{TypeName}
use Rattle.sil_rules.specs.declared.rule.Rule.{Rule}
use Rattle.sil_rules.specs.declared.rule.Rule.TheVariants as rule
use Rattle.holder_model_typing.specs.sil_types.Typing.EdgeRules.{goes_to_entry, has_wrong_edge_arguments, have_wrong_arguments_by, is_to_entry}
use Rattle.holder_model_typing.specs.sil_types.Typing.FormRules.{is_annotated, is_annotated_at, is_of_other_form, may_stand_lowered, mixes_forms}
use Rattle.holder_model_typing.specs.sil_types.Typing.OperandTypes.{has_operand_types}
use Rattle.holder_model_typing.specs.sil_types.Typing.SignatureRules.{callee as callee_of, calls_no_function, differs_by, differs_from_signature, is_no_output_call}
use Rattle.holder_model_typing.specs.sil_types.Typing.SignatureRules.{is_signature_of}
use Rattle.holder_model_typing.specs.sil_types.Typing.Typed.{BreaksAt, BreaksAtFunction, BreaksAtPoint, BreaksAtVtable, Site, Typed, at_vtable}
use Rattle.holder_model_typing.specs.sil_types.Typing.Typed.BreaksAt.{function, point, vtable}
use Rattle.holder_model_typing.specs.sil_types.Typing.Typed.BreaksAtFunction.{external, address_escapes, signature as function_signature, mixed_forms as function_mixed}
use Rattle.holder_model_typing.specs.sil_types.Typing.Typed.BreaksAtPoint.{operand_type, result_count, edge_arguments, callee, switch_cases, entry_has_predecessor}
use Rattle.holder_model_typing.specs.sil_types.Typing.Typed.BreaksAtPoint.{qualifier, signature as point_signature, mixed_forms as point_mixed}
use Rattle.holder_model_typing.specs.sil_types.Typing.Typed.BreaksAtVtable.{deinit_signature}
use Rattle.holder_model_typing.specs.sil_types.Typing.Values.{value_functions, value_types}
use Rattle.sil_types_declarations.specs.TypeDefinitions.Declarations.{Declarations, declarations_of}
use Rattle.ownership_lowering_model.specs.LoweredModules.{lowered, lowered_body, lowered_by, lowered_function}
use Rattle.ownership_lowering_model.specs.Numbers.{new_number, numbering_of, renumbered_edge, renumbered_inst}
use Rattle.ownership_lowering_laws.specs.LoweringLaws.inner.Lowerable.{HasNoRings}
use Rattle.ownership_lowering_laws.proofs.LoweringLaws.Lowerable.{functions_are_lowerable}
use Rattle.numbered_form.proofs.Lists.{each_weaker}
use Rattle.ownership_lowering_laws.specs.LoweredTypingLaws.inner.LoweredTyped.{LoweredIsTyped}
use Rattle.ownership_lowering_laws.proofs.LoweredTypingLaws.Args.{not_annotated}
use Rattle.ownership_lowering_laws.proofs.LoweredTypingLaws.Bodies.{LowHere, StandsAt, addresses_stay, signature_fits, stands_at}
use Rattle.ownership_lowering_laws.proofs.LoweredTypingLaws.Bodies.StandsAt.{inside as inside_at, end as end_at}
use Rattle.ownership_lowering_laws.proofs.LoweredTypingLaws.Ends.{arguments_kept, cases_kept}
use Rattle.ownership_lowering_laws.proofs.LoweredTypingLaws.Lists.{from_mapped}
use Rattle.ownership_lowering_laws.proofs.LoweredTypingLaws.Fields.{members_once}
use Rattle.ownership_lowering_laws.proofs.LoweredTypingLaws.Outside.{deinits_stay, forms_same, signatures_behind}
use Rattle.ownership_lowering_laws.proofs.LoweredTypingLaws.Points.{Rest}
use Rattle.ownership_lowering_laws.proofs.LoweredTypingLaws.Points.Rest.{same, made}
use Rattle.ownership_lowering_laws.proofs.LoweredTypingLaws.Renumbered.{AreSameAlong, form_alike, typed_alike}
use Rattle.ownership_lowering_laws.proofs.LoweredTypingLaws.Rules.{calls_kept, counts_same, entry_same, made_agrees, made_calls, made_inside, no_arguments, no_switch, signature_kept}
use Rattle.ownership_lowering_laws.proofs.LoweredTypingLaws.Sound.{SoundEnd, Source, keeps_at, keeps_function, sound_function}
use Rattle.ownership_lowering_laws.proofs.LoweredTypingLaws.Switches.{sound_block}
use Rattle.ownership_lowering_laws.proofs.LoweredTypingLaws.Tables.{function_kept, new_table, operands_kept}

never : (b : Bool) → b ≡ false → b ≡ true → ⊥
never b e h = cc

-- a terminator may stand in lowered code
ends_form : (o : Op) (i : Inst) → is_terminator o ≡ true → may_stand_lowered (forms_of o) i ≡ true
ends_form op.CopyValue i e = cc
ends_form op.DestroyValue i e = cc
ends_form op.MoveValue i e = cc
ends_form op.BeginBorrow i e = cc
ends_form op.EndBorrow i e = cc
ends_form op.Load i e = cc
ends_form op.Store i e = cc
ends_form op.LoadBorrow i e = cc
ends_form op.DestroyAddr i e = cc
ends_form op.DestructureStruct i e = cc
ends_form op.DestructureTuple i e = cc
ends_form _ i e = refl

module _ (m : Module) (f : Function) (source : Source m f) where
  abbrev d : Declarations
  d = declarations_of m

  abbrev num : ValueId → ValueId
  num = new_number (numbering_of d f)

  abbrev low : Function
  low = lowered_body d f

  abbrev table : List (Option TypeName)
  table = new_table m f source

  -- 207
  form_kept : (block index : ℕ) (j : Inst) → may_stand_lowered (forms_of j.op) j ≡ true → is_of_other_form low block index (renumbered_inst num j) ≡ false
  form_kept block index j e =
      or_from (not (may_stand_lowered (forms_of j.op) (renumbered_inst num j))) (is_annotated_at low block index)
      (ap not (form_alike num (forms_of j.op) j ∙ e))
      (and_right (true && (index == 0)) (list_any is_annotated (args_of low block)) (not_annotated d f block))

  -- an instruction that stands in the place of one
  module _ (j : Inst) (h : LowHere m f source j) where
    inside : is_terminator j.op ≡ false
    inside = at h.rest
      where
        at : Rest m f num table j → is_terminator j.op ≡ false
        at (same s e) = e
        at (made e) = made_inside j.op e

    calls : calls_no_function (value_functions low) (renumbered_inst num j) ≡ false
    unfolding calls_no_function
    calls = at h.rest
      where
        at : Rest m f num table j → calls_no_function (value_functions low) (renumbered_inst num j) ≡ false
        at (same s e) = calls_kept num m f (λ v g lt is. function_kept m f source v g lt is) j s
        at (made e) = made_calls j.op (value_functions low) (renumbered_inst num j) e

    agrees : differs_from_signature (lowered m) low (value_functions low) (renumbered_inst num j) ≡ false
    unfolding differs_from_signature
    agrees = at h.rest
      where
        at : Rest m f num table j → differs_from_signature (lowered m) low (value_functions low) (renumbered_inst num j) ≡ false
        at (same s e) = signature_kept num m f (λ v g lt is. function_kept m f source v g lt is) j s
        at (made e) = made_agrees j.op (lowered m) low (value_functions low) (renumbered_inst num j) e

    edges : has_wrong_edge_arguments low (renumbered_inst num j) ≡ false
    unfolding has_wrong_edge_arguments
    edges = ap (λ es. have_wrong_arguments_by j.op low (map (renumbered_edge num) es)) h.edges ∙ no_arguments j.op low

    entry : goes_to_entry (renumbered_inst num j) ≡ false
    unfolding goes_to_entry
    entry = ap (λ es. list_any is_to_entry (map (renumbered_edge num) es)) h.edges

    inside_kept : (block index : ℕ) (x : Rule) → BreaksAtPoint (lowered m) low block index (renumbered_inst num j) x → ⊥
    inside_kept block index _ (operand_type e) = never _ (not_from_true _ h.operands) e
    inside_kept block index _ (result_count e) = never _ (not_from_true _ (counts_same num d j ∙ h.results)) e
    inside_kept block index _ (edge_arguments e) = never _ edges e
    inside_kept block index _ (callee e) = never _ calls e
    inside_kept block index _ (point_signature e) = never _ agrees e
    inside_kept block index _ (point_mixed e) = never _ (form_kept block index j h.form) e
    inside_kept block index _ (switch_cases e) = never _ (no_switch j.op d low (renumbered_inst num j) inside) e
    inside_kept block index _ (entry_has_predecessor e) = never _ entry e
    inside_kept block index _ (qualifier e) = never _ refl e

  -- a terminator
  module _ (n : ℕ) (b : Block) (is_block : slice_get f.blocks n ≡ Some b) where
    abbrev i : Inst
    i = b.terminator

    end : SoundEnd m f i
    end = (sound_block m f source.sound n b is_block).end

    along : Each (AreSameAlong num (value_types d f) table) i.edges
    along =
        each_weaker (IsEdgeInRange (length (values_of f.blocks)) (length f.blocks)) (AreSameAlong num (value_types d f) table)
        (λ e r. operands_kept m f source e.args r.args) i.edges end.sound.range.edges

    operands : has_operand_types d table (renumbered_inst num i) ≡ true
    operands =
        typed_alike num (value_types d f) table d i (operands_kept m f source i.operands end.sound.range.operands) along ∙ end.sound.operands

    end_entry : goes_to_entry (renumbered_inst num i) ≡ false
    unfolding goes_to_entry
    end_entry = entry_same num i.edges ∙ end.sound.entry

    end_kept : (block index : ℕ) (x : Rule) → BreaksAtPoint (lowered m) low block index (renumbered_inst num i) x → ⊥
    end_kept block index _ (operand_type e) = never _ (not_from_true _ operands) e
    end_kept block index _ (result_count e) = never _ (not_from_true _ (counts_same num d i ∙ end.sound.results)) e
    end_kept block index _ (edge_arguments e) = never _ (arguments_kept m f source.sound n b is_block) e
    end_kept block index _ (callee e) = never _ (calls_kept num m f (λ v g lt is. function_kept m f source v g lt is) i end.sound) e
    end_kept block index _ (point_signature e) = never _ (signature_kept num m f (λ v g lt is. function_kept m f source v g lt is) i end.sound) e
    end_kept block index _ (point_mixed e) = never _ (form_kept block index i (ends_form i.op i end.ends)) e
    end_kept block index _ (switch_cases e) = never _ (cases_kept m f source.sound n b is_block) e
    end_kept block index _ (entry_has_predecessor e) = never _ end_entry e
    end_kept block index _ (qualifier e) = never _ refl e

  point_kept : (block index : ℕ) (j : Inst) (x : Rule) → StandsAt m f source block j → BreaksAtPoint (lowered m) low block index j x → ⊥
  point_kept block index j x (inside_at k h e) broken =
      inside_kept k h block index x (subst (λ z. BreaksAtPoint (lowered m) low block index z x) (sym e) broken)
  point_kept block index j x (end_at b is e) broken =
      end_kept block b is block index x (subst (λ z. BreaksAtPoint (lowered m) low block index z x) (sym e) broken)

  pub body_kept : (block index : ℕ) (j : Inst) (x : Rule) → IsAt low block index j → BreaksAtPoint (lowered m) low block index j x → ⊥
  body_kept block index j x at broken = point_kept block index j x (stands_at m f source block index j at) broken

  no_output : is_no_output_call low ≡ false
  unfolding is_no_output_call
  no_output = refl

  pub body_itself : mixes_forms (lowered m) low ≡ false → (x : Rule) → BreaksAtFunction (lowered m) low x → ⊥
  body_itself forms _ (external e) = never _ no_output e
  body_itself forms _ (function_signature e) = never _ (signature_fits m f source) e
  body_itself forms _ (function_mixed e) = never _ forms e
  body_itself forms _ (address_escapes e) = never _ (addresses_stay m f source) e

-- a function that stays breaks no rule that it kept
module _ (m : Module) (f : Function) where
  stays_agree : (functions : List (Option FuncId)) (o : Op) (i : Inst) → differs_by o (lowered m) f functions i ≡ differs_by o m f functions i
  stays_agree functions op.FunctionRef i = ap (λ t. not (list_all (is_signature_of t) (option_to_list i.signature))) (signatures_behind m i.function)
  stays_agree functions op.Apply i = ap (λ t. not (list_all (is_signature_of t) (option_to_list i.signature))) (signatures_behind m (callee_of functions i))
  stays_agree functions _ i = refl

  agrees_back : (functions : List (Option FuncId)) (i : Inst) → differs_from_signature (lowered m) f functions i ≡ differs_from_signature m f functions i
  unfolding differs_from_signature
  agrees_back functions i = stays_agree functions i.op i

  stays_at : (block index : ℕ) (i : Inst) (x : Rule) → BreaksAtPoint (lowered m) f block index i x → BreaksAtPoint m f block index i x
  stays_at block index i _ (operand_type e) = operand_type e
  stays_at block index i _ (result_count e) = result_count e
  stays_at block index i _ (edge_arguments e) = edge_arguments e
  stays_at block index i _ (callee e) = callee e
  stays_at block index i _ (point_signature e) = point_signature (sym (agrees_back (value_functions f) i) ∙ e)
  stays_at block index i _ (point_mixed e) = point_mixed e
  stays_at block index i _ (switch_cases e) = switch_cases e
  stays_at block index i _ (entry_has_predecessor e) = entry_has_predecessor e
  stays_at block index i _ (qualifier e) = qualifier e

  stays_itself : mixes_forms (lowered m) f ≡ false → (x : Rule) → BreaksAtFunction (lowered m) f x → BreaksAtFunction m f x
  stays_itself forms _ (external e) = external e
  stays_itself forms _ (function_signature e) = function_signature e
  stays_itself forms _ (function_mixed e) = absurd (never _ forms e)
  stays_itself forms _ (address_escapes e) = address_escapes e

module _ (m : Module) (numbered : IsNumbered m) (typed : Typed m) (rings : HasNoRings m) where
  module _ (n : ℕ) (f : Function) (there : slice_get m.functions n ≡ Some f) where
    source : f.form ≡ Ossa → Source m f
    source is = record {
      owned = is;
      sound = sound_function m numbered typed n f there;
      lowerable = functions_are_lowerable m n f numbered typed rings there;
      once = members_once m numbered;
    }

    itself : (o : Form) → f.form ≡ o → mixes_forms (lowered m) (lowered_by o (declarations_of m) f) ≡ false → (x : Rule)
        → BreaksAtFunction (lowered m) (lowered_by o (declarations_of m) f) x → ⊥
    itself Ossa is forms x broken = body_itself m f (source is) forms x broken
    itself Lowered is forms x broken = keeps_function m numbered typed n f there x (stays_itself m f forms x broken)
    itself External is forms x broken = keeps_function m numbered typed n f there x (stays_itself m f forms x broken)

    at_points : (o : Form) → f.form ≡ o → (block index : ℕ) (i : Inst) (x : Rule) → IsAt (lowered_by o (declarations_of m) f) block index i
        → BreaksAtPoint (lowered m) (lowered_by o (declarations_of m) f) block index i x → ⊥
    at_points Ossa is block index i x at broken = body_kept m f (source is) block index i x at broken
    at_points Lowered is block index i x at broken = keeps_at m numbered typed n f there block index i x at (stays_at m f block index i x broken)
    at_points External is block index i x at broken = keeps_at m numbered typed n f there block index i x at (stays_at m f block index i x broken)

  vtable_kept : (n : ℕ) (v : Vtable) (x : Rule) → slice_get m.vtables n ≡ Some v → BreaksAtVtable (lowered m) v x → ⊥
  vtable_kept n v _ there (deinit_signature e) =
      typed (at_vtable n) rule.DeinitSignature (vtable n v rule.DeinitSignature there (deinit_signature (sym (deinits_stay m v) ∙ e)))

  all_kept : (where_it_is : Site) (x : Rule) → BreaksAt (lowered m) where_it_is x → ⊥
  all_kept _ _ (function n g x there broken) =
      let f = from_mapped (lowered_function (declarations_of m)) m.functions n g there in
      itself n f.0 f.1 f.0.form refl (forms_same m f.0) x (subst (λ z. BreaksAtFunction (lowered m) z x) (sym f.2) broken)
  all_kept _ _ (point n g block index i x there at broken) =
      let f = from_mapped (lowered_function (declarations_of m)) m.functions n g there in
      at_points n f.0 f.1 f.0.form refl block index i x (subst (λ z. IsAt z block index i) (sym f.2) at)
      (subst (λ z. BreaksAtPoint (lowered m) z block index i x) (sym f.2) broken)
  all_kept _ _ (vtable n v x there broken) = vtable_kept n v x there broken

pub lowered_is_typed : LoweredIsTyped
lowered_is_typed m numbered typed rings = all_kept m numbered typed rings
