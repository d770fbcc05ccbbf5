-- The rules at instructions that speak of no block: they are kept with new numbers where they were kept with old ones.
use Rattle.std.proofs.Common.{◌≡◌, List, [], ◌∷◌, length, map, refl, sym, ap, ap₂, ◌∙◌, subst, true, false, not, Option, Some, None}
use Rattle.std.specs.Prelude.{◌<◌, ◌||◌, is_none, option_and_then, slice_get}
use Rattle.std.specs.List.{list_all, list_any}
use Rattle.std.specs.Option.{option_to_list}
use Rattle.std.proofs.lemmas.List.{length-map}
use Rattle.instruction_table.specs.Forms.{is_terminator, results_of}
use Rattle.instruction_table.specs.declared.op.Op.{Op}
use Rattle.instruction_table.specs.declared.op.Op.TheVariants as op
use Rattle.numbered_form.specs.Numbering.{IsValueBelow, values_of}
use Rattle.sil_ast.specs.declared.function.Function.{Function}
use Rattle.sil_ast.specs.declared.inst.Edge.{Edge}
use Rattle.sil_ast.specs.declared.inst.Inst.{Inst}
use Rattle.sil_ast.specs.declared.module.Module.{Module}
use Rattle.sil_ast.specs.declared.place.FuncId.{FuncId}
use Rattle.sil_ast.specs.declared.place.ValueId.{ValueId}
use Rattle.sil_types_declarations.specs.TypeDefinitions.Declarations.{Declarations, declarations_of}
use Rattle.sil_types_declarations.specs.TypeDefinitions.Mentions.{given_type}
use Rattle.holder_model_typing.specs.sil_types.Typing.EdgeRules.{have_wrong_arguments_by, is_to_entry}
use Rattle.holder_model_typing.specs.sil_types.Typing.ResultCounts.{is_count_by}
use Rattle.holder_model_typing.specs.sil_types.Typing.RowTypes.{passes, row_types}
use Rattle.holder_model_typing.specs.sil_types.Typing.Same.{is_same_type}
use Rattle.holder_model_typing.specs.sil_types.Typing.SignatureRules.{callee, callee_value, calls_no_function, calls_none_by, differs_by, differs_from_signature, has_signature_of}
use Rattle.holder_model_typing.specs.sil_types.Typing.SignatureRules.{is_signature_of}
use Rattle.holder_model_typing.specs.sil_types.Typing.SwitchRules.{has_wrong_cases_by}
use Rattle.holder_model_typing.specs.sil_types.Typing.Values.{function_at, value_functions}
use Rattle.ownership_lowering_model.specs.LoweredModules.{lowered, lowered_body}
use Rattle.ownership_lowering_model.specs.Numbers.{renumbered_edge, renumbered_inst, renumbered_operand}
use Rattle.holder_model_typing.proofs.RunTypingLaws.Found.{each_at}
use Rattle.holder_model_typing.proofs.RunTypingLaws.Rows.Finding.{found_behind}
use Rattle.ownership_lowering_laws.proofs.LoweredTypingLaws.Lists.{mapped_at}
use Rattle.ownership_lowering_laws.proofs.LoweredTypingLaws.Outside.{signatures_behind}
use Rattle.ownership_lowering_laws.proofs.LoweredTypingLaws.Points.{is_made}
use Rattle.ownership_lowering_laws.proofs.LoweredTypingLaws.Renumbered.{row_same, written_same}
use Rattle.ownership_lowering_laws.proofs.LoweredTypingLaws.Sound.{Sound}

-- ---- by the instruction alone

pub no_arguments : (o : Op) (f : Function) → have_wrong_arguments_by o f [] ≡ false
no_arguments op.Br f = refl
no_arguments op.CondBr f = refl
no_arguments _ f = refl

pub no_switch : (o : Op) (d : Declarations) (f : Function) (i : Inst) → is_terminator o ≡ false → has_wrong_cases_by o d f i ≡ false
no_switch op.SwitchEnum d f i e = cc
no_switch _ d f i e = refl

pub made_inside : (o : Op) → is_made o ≡ true → is_terminator o ≡ false
made_inside op.Br e = cc
made_inside op.CondBr e = cc
made_inside op.SwitchEnum e = cc
made_inside op.Return e = cc
made_inside op.Unreachable e = cc
made_inside _ e = refl

pub made_calls : (o : Op) (functions : List (Option FuncId)) (i : Inst) → is_made o ≡ true → calls_none_by o functions i ≡ false
made_calls op.Apply functions i e = cc
made_calls _ functions i e = refl

pub made_agrees : (o : Op) (m : Module) (f : Function) (functions : List (Option FuncId)) (i : Inst) → is_made o ≡ true → differs_by o m f functions i ≡ false
made_agrees op.FunctionRef m f functions i e = cc
made_agrees op.Apply m f functions i e = cc
made_agrees op.Return m f functions i e = cc
made_agrees _ m f functions i e = refl

-- ---- with new numbers

module _ (num : ValueId → ValueId) where
  -- 202
  pub counts_same : (d : Declarations) (j : Inst)
      → is_count_by (results_of j.op) (row_types d (renumbered_inst num j)) (length (map num j.results))
      ≡ is_count_by (results_of j.op) (row_types d j) (length j.results)
  counts_same d j = ap₂ (is_count_by (results_of j.op)) (row_same num d j) (length-map j.results num)

  -- 211
  pub entry_same : (es : List Edge) → list_any is_to_entry (map (renumbered_edge num) es) ≡ list_any is_to_entry es
  entry_same [] = refl
  entry_same (e ∷ es) = ap (λ b. is_to_entry e || b) (entry_same es)

  module _ (m : Module) (f : Function)
      (kept : (v : ValueId) (g : FuncId) → v.0 < length (values_of f.blocks) → function_at (value_functions f) v.0 ≡ Some g
      → function_at (value_functions (lowered_body (declarations_of m) f)) (num v).0 ≡ Some g) (i : Inst) (s : Sound m f i) where
    abbrev old : List (Option FuncId)
    old = value_functions f

    abbrev new : List (Option FuncId)
    new = value_functions (lowered_body (declarations_of m) f)

    callee_same : (g : FuncId) → callee old i ≡ Some g → callee new (renumbered_inst num i) ≡ Some g
    callee_same g e =
        let o = found_behind (callee_value old) (slice_get i.operands 0) g e in
        ap (option_and_then (callee_value new)) (mapped_at (renumbered_operand num) i.operands 0 o.0 o.1)
        ∙ kept o.0.value g (each_at (IsValueBelow (length (values_of f.blocks))) i.operands 0 o.0 s.range.operands o.1) o.2

    has_callee : i.op ≡ op.Apply → (g : FuncId) × (callee old i ≡ Some g)
    unfolding calls_no_function
    has_callee is = at (callee old i) (subst (λ o. calls_none_by o old i ≡ false) is s.callee)
      where
        at : (x : Option FuncId) → is_none x ≡ false → (g : FuncId) × (x ≡ Some g)
        at None e = cc
        at (Some g) e = (g, refl)

    -- 204
    calls_by : (o : Op) → i.op ≡ o → calls_none_by o new (renumbered_inst num i) ≡ false
    calls_by op.Apply is = let g = has_callee is in ap is_none (callee_same g.0 g.1)
    calls_by _ is = refl

    pub calls_kept : calls_no_function new (renumbered_inst num i) ≡ false
    unfolding calls_no_function
    calls_kept = calls_by i.op refl

    signature_same : (g : Option FuncId) → has_signature_of (lowered m) g (renumbered_inst num i) ≡ has_signature_of m g i
    signature_same g = ap (λ t. list_all (is_signature_of t) (option_to_list i.signature)) (signatures_behind m g)

    -- 206
    differs_as : (o : Op) → i.op ≡ o → differs_by o (lowered m) (lowered_body (declarations_of m) f) new (renumbered_inst num i) ≡ differs_by o m f old i
    differs_as op.FunctionRef is = ap not (signature_same i.function)
    differs_as op.Apply is =
        let g = has_callee is in
        ap (λ x. not (has_signature_of (lowered m) x (renumbered_inst num i))) (callee_same g.0 g.1 ∙ sym g.1) ∙ ap not (signature_same (callee old i))
    differs_as op.Return is = ap (λ w. not (passes (is_same_type (given_type f.signature)) w)) (written_same num 0 i)
    differs_as _ is = refl

    pub signature_kept : differs_from_signature (lowered m) (lowered_body (declarations_of m) f) new (renumbered_inst num i) ≡ false
    unfolding differs_from_signature
    signature_kept = differs_as i.op refl ∙ s.signature
