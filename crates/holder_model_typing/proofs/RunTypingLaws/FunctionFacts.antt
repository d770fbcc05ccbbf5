-- What holds of a function of a runnable module, and of its instructions: rules that aren't broken, and numbered form.
use Rattle.std.proofs.Common.{◌≡◌, ℕ, List, [], ◌∷◌, length, refl, ap, ◌∙◌, subst, true, false, Option, Some, None}
use Rattle.std.specs.Prelude.{slice_get}
use Rattle.instruction_table.specs.Forms.{results_of}
use Rattle.holder_model.specs.sil_cfg_items.Parts.{inst_at, inst_in, terminator_in, terminator_of}
use Rattle.numbered_form.specs.Insts.{EachInBlock, EachInFunction, insts_of}
use Rattle.numbered_form.specs.Lists.{Each}
use Rattle.numbered_form.specs.Numbering.{IsFunctionNumbered, IsInstInRange, values_of}
use Rattle.numbered_form.specs.inner.Functions.{IsFormed}
use Rattle.numbered_form.specs.inner.Parts.{BlockHasParts, FunctionHasParts, HasItsParts, IsInside, IsTerminator}
use Rattle.numbered_form.specs.PointChecks.Points.{IsAt}
use Rattle.sil_ast.specs.declared.function.Block.{Block}
use Rattle.sil_ast.specs.declared.function.Function.{Function}
use Rattle.sil_ast.specs.declared.inst.Inst.{Inst}
use Rattle.sil_ast.specs.declared.module.Module.{Module}
use Rattle.sil_ast.specs.declared.place.PointId.{PointId}
use Rattle.sil_rules.specs.declared.rule.Rule.{Rule}
use Rattle.sil_rules.specs.declared.rule.Rule.TheVariants as rule
use Rattle.holder_model.specs.sil_types.Typing.EdgeRules.{goes_to_entry, has_wrong_edge_arguments, lets_address_escape}
use Rattle.holder_model.specs.sil_types.Typing.OperandTypes.{has_operand_types}
use Rattle.holder_model.specs.sil_types.Typing.ResultCounts.{is_count_by}
use Rattle.holder_model.specs.sil_types.Typing.RowTypes.{row_types}
use Rattle.holder_model.specs.sil_types.Typing.SignatureRules.{calls_no_function, differs_from_signature, has_wrong_signature, is_no_output_call}
use Rattle.holder_model.specs.sil_types.Typing.SwitchRules.{has_wrong_cases}
use Rattle.holder_model.specs.sil_types.Typing.Typed.{BreaksAtFunction, BreaksAtPoint, at_function, at_point, function, point}
use Rattle.holder_model.specs.sil_types.Typing.Values.{value_functions, value_types}
use Rattle.holder_model.specs.sil_types_declarations.TypeDefinitions.Declarations.{declarations_of}
use Rattle.holder_model_typing.specs.RunTypingLaws.inner.WellTyped.{IsWellTyped}
use Rattle.holder_model_typing.proofs.RunTypingLaws.Declared.{each_append}
use Rattle.holder_model_typing.proofs.RunTypingLaws.Found.{each_at, not_false}
use Rattle.holder_model_typing.proofs.RunTypingLaws.Rows.Points.{in_front}
use Rattle.holder_model_typing.proofs.RunTypingLaws.Rows.Finding.{never_passes}
use Rattle.holder_model_typing.proofs.RunTypingLaws.ListFacts.{get_last}

-- of an instruction or a terminator of a function
pub record TypedInst (m : Module) (f : Function) (i : Inst) : Type 0 where
  pub parts : HasItsParts i
  pub range : IsInstInRange (length (values_of f.blocks)) (length f.blocks) (length m.functions) i
  -- 201
  pub operands : has_operand_types (declarations_of m) (value_types (declarations_of m) f) i ≡ true
  -- 202
  pub results : is_count_by (results_of i.op) (row_types (declarations_of m) i) (length i.results) ≡ true
  -- 203
  pub edges : has_wrong_edge_arguments f i ≡ false
  -- 204
  pub callee : calls_no_function (value_functions f) i ≡ false
  -- 206
  pub signature : differs_from_signature m f (value_functions f) i ≡ false
  -- 209
  pub cases : has_wrong_cases (declarations_of m) f i ≡ false
  -- 211
  pub entry : goes_to_entry i ≡ false

pub record TypedFunction (m : Module) (f : Function) : Type 0 where
  pub numbered : IsFunctionNumbered (length m.functions) f
  pub formed : IsFormed f
  -- 205
  pub external : is_no_output_call f ≡ false
  -- 206
  pub signature : has_wrong_signature (declarations_of m) f ≡ false
  -- 210
  pub escapes : lets_address_escape f ≡ false
  pub insts : (b k : ℕ) (i : Inst) → IsAt f b k i → TypedInst m f i
  pub inside : (p : PointId) (i : Inst) → inst_at f p ≡ Some i → IsInside i × IsAt f p.block.0 p.index i
  pub ends : (b : ℕ) (i : Inst) → terminator_of f b ≡ Some i → (k : ℕ) × IsTerminator i × IsAt f b k i

each_inst_at : (P : Inst → Type 0) (f : Function) (b k : ℕ) (i : Inst) → EachInFunction P f → IsAt f b k i → P i
each_inst_at P f b k i each at =
    let here = each_at (EachInBlock P) f.blocks b at.within each at.is_block in
    each_at P (insts_of at.within) k i (each_append P at.within.insts (at.within.terminator ∷ []) here.0 (here.1, tt)) at.is_inst

parts_in : (b : Block) → BlockHasParts b → EachInBlock HasItsParts b
parts_in b h = (inner b.insts h.insts, h.terminator.parts)
  where
    inner : (is : List Inst) → Each IsInside is → Each HasItsParts is
    inner [] h = tt
    inner (i ∷ is) h = (h.0.parts, inner is h.1)

parts_at : (f : Function) (b k : ℕ) (i : Inst) → FunctionHasParts f → IsAt f b k i → HasItsParts i
parts_at f b k i each at =
    let here = parts_in at.within (each_at BlockHasParts f.blocks b at.within each at.is_block) in
    each_at HasItsParts (insts_of at.within) k i (each_append HasItsParts at.within.insts (at.within.terminator ∷ []) here.0 (here.1, tt)) at.is_inst

inside_at : (f : Function) (p : PointId) (i : Inst) → FunctionHasParts f → inst_at f p ≡ Some i → IsInside i × IsAt f p.block.0 p.index i
inside_at f p i each e = at (slice_get f.blocks p.block.0) refl e
  where
    at : (o : Option Block) → slice_get f.blocks p.block.0 ≡ o → inst_in o p.index ≡ Some i → IsInside i × IsAt f p.block.0 p.index i
    at None is e = cc
    at (Some b) is e = (
      each_at IsInside b.insts p.index i (each_at BlockHasParts f.blocks p.block.0 b each is).insts e,
      record { within = b; is_block = is; is_inst = in_front b.insts (b.terminator ∷ []) p.index i e },
    )

end_at : (f : Function) (b : ℕ) (i : Inst) → FunctionHasParts f → terminator_of f b ≡ Some i → (k : ℕ) × IsTerminator i × IsAt f b k i
end_at f b i each e = at (slice_get f.blocks b) refl e
  where
    at : (o : Option Block) → slice_get f.blocks b ≡ o → terminator_in o ≡ Some i → (k : ℕ) × IsTerminator i × IsAt f b k i
    at None is e = cc
    at (Some c) is e =
        let same : c.terminator ≡ i = cc in (
          length c.insts,
          subst IsTerminator same (each_at BlockHasParts f.blocks b c each is).terminator,
          record { within = c; is_block = is; is_inst = get_last c.insts c.terminator ∙ ap (λ j. Some j) same },
        )

module _ (m : Module) (r : IsWellTyped m) (n : ℕ) (f : Function) (there : slice_get m.functions n ≡ Some f) where
  keeps : (x : Rule) → BreaksAtFunction m f x → ⊥
  keeps x broken = r.typed (at_function n) x (function n f x there broken)

  keeps_at : (b k : ℕ) (i : Inst) (x : Rule) → IsAt f b k i → BreaksAtPoint m f b k i x → ⊥
  keeps_at b k i x at broken = r.typed (at_point n b k) x (point n f b k i x there at broken)

  numbered : IsFunctionNumbered (length m.functions) f
  numbered = each_at (IsFunctionNumbered (length m.functions)) m.functions n f r.numbered.numbering.functions there

  parts : FunctionHasParts f
  parts = each_at FunctionHasParts m.functions n f r.numbered.parts there

  inst : (b k : ℕ) (i : Inst) → IsAt f b k i → TypedInst m f i
  inst b k i at = record {
    parts = parts_at f b k i parts at;
    range = each_inst_at (IsInstInRange (length (values_of f.blocks)) (length f.blocks) (length m.functions)) f b k i numbered.used at;
    operands = not_false _ (never_passes _ (λ e. keeps_at b k i rule.OperandType at (BreaksAtPoint.operand_type e)));
    results = not_false _ (never_passes _ (λ e. keeps_at b k i rule.ResultCount at (BreaksAtPoint.result_count e)));
    edges = never_passes _ (λ e. keeps_at b k i rule.EdgeArguments at (BreaksAtPoint.edge_arguments e));
    callee = never_passes _ (λ e. keeps_at b k i rule.Callee at (BreaksAtPoint.callee e));
    signature = never_passes _ (λ e. keeps_at b k i rule.Signature at (BreaksAtPoint.signature e));
    cases = never_passes _ (λ e. keeps_at b k i rule.SwitchCases at (BreaksAtPoint.switch_cases e));
    entry = never_passes _ (λ e. keeps_at b k i rule.EntryHasPredecessor at (BreaksAtPoint.entry_has_predecessor e));
  }

  pub typed_function : TypedFunction m f
  typed_function = record {
    numbered = numbered;
    formed = each_at IsFormed m.functions n f r.numbered.functions there;
    external = never_passes _ (λ e. keeps rule.External (BreaksAtFunction.external e));
    signature = never_passes _ (λ e. keeps rule.Signature (BreaksAtFunction.signature e));
    escapes = never_passes _ (λ e. keeps rule.AddressEscapes (BreaksAtFunction.address_escapes e));
    insts = inst;
    inside = λ p i e. inside_at f p i parts e;
    ends = λ b i e. end_at f b i parts e;
  }
