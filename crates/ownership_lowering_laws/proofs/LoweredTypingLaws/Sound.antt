-- What holds of a function of a typed module, and of its instructions: rules that aren't broken, and numbered form.
use Rattle.std.proofs.Common.{◌≡◌, ℕ, List, [], ◌∷◌, length, Bool, true, false, not, Option, Some}
use Rattle.std.specs.Prelude.{◌&&◌, slice_get}
use Rattle.std.specs.List.{list_all}
use Rattle.std.proofs.lemmas.Bool.{and_parts, not-false, or_parts}
use Rattle.instruction_table.specs.Forms.{is_terminator, results_of}
use Rattle.numbered_form.specs.Insts.{EachInBlock, insts_of}
use Rattle.numbered_form.specs.Lists.{Each}
use Rattle.numbered_form.specs.Names.{AreMembersOnce, Name}
use Rattle.numbered_form.specs.Numbering.{IsFunctionNumbered, IsInstInRange, values_of}
use Rattle.numbered_form.specs.inner.NumberedForm.{IsNumbered}
use Rattle.numbered_form.specs.inner.Parts.{BlockHasParts, FunctionHasParts, HasItsParts, IsInside}
use Rattle.numbered_form.specs.PointChecks.Points.{IsAt}
use Rattle.sil_ast.specs.declared.decl.Decl.{Decl}
use Rattle.sil_ast.specs.declared.function.Block.{Block}
use Rattle.sil_ast.specs.declared.function.Form.TheVariants.{Ossa}
use Rattle.sil_ast.specs.declared.function.Function.{Function}
use Rattle.sil_ast.specs.declared.inst.Inst.{Inst}
use Rattle.sil_ast.specs.declared.module.Module.{Module}
use Rattle.sil_ast.specs.declared.type_name.TypeName.{TypeName}
use Rattle.sil_rules.specs.declared.rule.Rule.{Rule}
use Rattle.sil_rules.specs.declared.rule.Rule.TheVariants as rule
use Rattle.holder_model_typing.specs.sil_types.Typing.EdgeRules.{goes_to_entry, has_wrong_edge_arguments, lets_address_escape}
use Rattle.holder_model_typing.specs.sil_types.Typing.FormRules.{has_wrong_qualifier, is_annotated_at, is_of_form}
use Rattle.holder_model_typing.specs.sil_types.Typing.OperandTypes.{are_as_asked, are_as_written, edge_is_as_written, has_operand_types}
use Rattle.holder_model_typing.specs.sil_types.Typing.ResultCounts.{is_count_by}
use Rattle.holder_model_typing.specs.sil_types.Typing.RowTypes.{keeps_row, row_types}
use Rattle.holder_model_typing.specs.sil_types.Typing.SignatureRules.{calls_no_function, differs_from_signature, has_wrong_signature}
use Rattle.holder_model_typing.specs.sil_types.Typing.SwitchRules.{has_wrong_cases}
use Rattle.holder_model_typing.specs.sil_types.Typing.Typed.{BreaksAtFunction, BreaksAtPoint, Typed, at_function, at_point, function, point}
use Rattle.holder_model_typing.specs.sil_types.Typing.Values.{value_functions, value_types}
use Rattle.sil_types_declarations.specs.TypeDefinitions.Declarations.{decl_of, declarations_of}
use Rattle.ownership_lowering_laws.specs.LoweringLaws.inner.Lowerable.{IsLowerable}
use Rattle.holder_model_typing.proofs.RunTypingLaws.Declared.{each_append, each_from}
use Rattle.holder_model_typing.proofs.RunTypingLaws.Found.{each_at}
use Rattle.holder_model_typing.proofs.RunTypingLaws.ListFacts.{get_last}
use Rattle.holder_model_typing.proofs.RunTypingLaws.Rows.Finding.{never_passes}
use Rattle.holder_model_typing.proofs.RunTypingLaws.Rows.Points.{in_front}

-- of an instruction or a terminator of a function
pub record Sound (m : Module) (f : Function) (i : Inst) : Type 0 where
  pub parts : HasItsParts i
  pub range : IsInstInRange (length (values_of f.blocks)) (length f.blocks) (length m.functions) i
  -- 201, whole and part by part
  pub operands : has_operand_types (declarations_of m) (value_types (declarations_of m) f) i ≡ true
  pub keeps : keeps_row (declarations_of m) i ≡ true
  pub written : are_as_written (value_types (declarations_of m) f) i.operands ≡ true
  pub edges_written : list_all (edge_is_as_written (value_types (declarations_of m) f)) i.edges ≡ true
  pub asked : are_as_asked (value_types (declarations_of m) f) i ≡ true
  -- 202
  pub results : is_count_by (results_of i.op) (row_types (declarations_of m) i) (length i.results) ≡ true
  -- 203
  pub edges : has_wrong_edge_arguments f i ≡ false
  -- 204
  pub callee : calls_no_function (value_functions f) i ≡ false
  -- 206
  pub signature : differs_from_signature m f (value_functions f) i ≡ false
  -- 207
  pub form : is_of_form f.form i ≡ true
  -- 209
  pub cases : has_wrong_cases (declarations_of m) f i ≡ false
  -- 211
  pub entry : goes_to_entry i ≡ false
  -- 212
  pub words : has_wrong_qualifier (declarations_of m) f i ≡ false

-- of an instruction that ends no block
pub record SoundInside (m : Module) (f : Function) (i : Inst) : Type 0 where
  pub sound : Sound m f i
  pub inside : is_terminator i.op ≡ false

pub record SoundEnd (m : Module) (f : Function) (i : Inst) : Type 0 where
  pub sound : Sound m f i
  pub ends : is_terminator i.op ≡ true
  pub no_results : i.results ≡ []

pub record SoundBlock (m : Module) (f : Function) (b : Block) : Type 0 where
  pub insts : Each (SoundInside m f) b.insts
  pub end : SoundEnd m f b.terminator

pub record SoundFunction (m : Module) (f : Function) : Type 0 where
  pub numbered : IsFunctionNumbered (length m.functions) f
  -- 206
  pub signature : has_wrong_signature (declarations_of m) f ≡ false
  -- 210
  pub escapes : lets_address_escape f ≡ false
  pub blocks : Each (SoundBlock m f) f.blocks

-- a function in ownership form, which is lowered
pub record Source (m : Module) (f : Function) : Type 0 where
  pub owned : f.form ≡ Ossa
  pub sound : SoundFunction m f
  pub lowerable : IsLowerable (length m.functions) (declarations_of m) f
  pub once : (name : Name) (x : Decl) → decl_of (declarations_of m) name ≡ Some x → AreMembersOnce x

parts_in : (b : Block) → BlockHasParts b → Each HasItsParts (insts_of b)
parts_in b h = each_append HasItsParts b.insts (b.terminator ∷ []) (inner b.insts h.insts) (h.terminator.parts, tt)
  where
    inner : (is : List Inst) → Each IsInside is → Each HasItsParts is
    inner [] h = tt
    inner (i ∷ is) h = (h.0.parts, inner is h.1)

module _ (m : Module) (numbered : IsNumbered m) (typed : Typed m) (n : ℕ) (f : Function) (there : slice_get m.functions n ≡ Some f) where
  pub keeps_function : (x : Rule) → BreaksAtFunction m f x → ⊥
  keeps_function x broken = typed (at_function n) x (function n f x there broken)

  pub keeps_at : (b k : ℕ) (i : Inst) (x : Rule) → IsAt f b k i → BreaksAtPoint m f b k i x → ⊥
  keeps_at b k i x at broken = typed (at_point n b k) x (point n f b k i x there at broken)

  function_numbered : IsFunctionNumbered (length m.functions) f
  function_numbered = each_at (IsFunctionNumbered (length m.functions)) m.functions n f numbered.numbering.functions there

  parts : FunctionHasParts f
  parts = each_at FunctionHasParts m.functions n f numbered.parts there

  abbrev InRange : Inst → Type 0
  InRange = IsInstInRange (length (values_of f.blocks)) (length f.blocks) (length m.functions)

  sound_at : (b k : ℕ) (i : Inst) → IsAt f b k i → Sound m f i
  sound_at b k i at =
      let range = each_at (EachInBlock InRange) f.blocks b at.within function_numbered.used at.is_block in
      let types : List (Option TypeName) = value_types (declarations_of m) f in
      let keeps : Bool = keeps_row (declarations_of m) i in
      let written : Bool = are_as_written types i.operands in
      let edges : Bool = list_all (edge_is_as_written types) i.edges in
      let typed_operands : has_operand_types (declarations_of m) types i ≡ true =
      not-false _ (never_passes _ (λ e. keeps_at b k i rule.OperandType at (BreaksAtPoint.operand_type e))) in
      let all = and_parts (keeps && written && edges) (are_as_asked types i) typed_operands in
      let three = and_parts (keeps && written) edges all.0 in
      let two = and_parts keeps written three.0 in
      record {
        parts = each_at HasItsParts (insts_of at.within) k i (parts_in at.within (each_at BlockHasParts f.blocks b at.within parts at.is_block)) at.is_inst;
        range = each_at InRange (insts_of at.within) k i (each_append InRange at.within.insts (at.within.terminator ∷ []) range.0 (range.1, tt)) at.is_inst;
        operands = typed_operands;
        keeps = two.0;
        written = two.1;
        edges_written = three.1;
        asked = all.1;
        results = not-false _ (never_passes _ (λ e. keeps_at b k i rule.ResultCount at (BreaksAtPoint.result_count e)));
        edges = never_passes _ (λ e. keeps_at b k i rule.EdgeArguments at (BreaksAtPoint.edge_arguments e));
        callee = never_passes _ (λ e. keeps_at b k i rule.Callee at (BreaksAtPoint.callee e));
        signature = never_passes _ (λ e. keeps_at b k i rule.Signature at (BreaksAtPoint.signature e));
        form =
            not-false _
            (or_parts (not (is_of_form f.form i)) (is_annotated_at f b k)
            (never_passes _ (λ e. keeps_at b k i rule.MixedForms at (BreaksAtPoint.mixed_forms e)))).0;
        cases = never_passes _ (λ e. keeps_at b k i rule.SwitchCases at (BreaksAtPoint.switch_cases e));
        entry = never_passes _ (λ e. keeps_at b k i rule.EntryHasPredecessor at (BreaksAtPoint.entry_has_predecessor e));
        words = never_passes _ (λ e. keeps_at b k i rule.Qualifier at (BreaksAtPoint.qualifier e));
      }

  sound_block : (k : ℕ) (b : Block) → slice_get f.blocks k ≡ Some b → SoundBlock m f b
  sound_block k b is =
      let parts = each_at BlockHasParts f.blocks k b parts is in
      record {
        insts = each_from (SoundInside m f) b.insts (λ j i at. record {
          sound = sound_at k j i (record { within = b; is_block = is; is_inst = in_front b.insts (b.terminator ∷ []) j i at });
          inside = (each_at IsInside b.insts j i parts.insts at).goes_on;
        });
        end = record {
          sound = sound_at k (length b.insts) b.terminator (record { within = b; is_block = is; is_inst = get_last b.insts b.terminator });
          ends = parts.terminator.ends;
          no_results = parts.terminator.no_results;
        };
      }

  pub sound_function : SoundFunction m f
  sound_function = record {
    numbered = function_numbered;
    signature = never_passes _ (λ e. keeps_function rule.Signature (BreaksAtFunction.signature e));
    escapes = never_passes _ (λ e. keeps_function rule.AddressEscapes (BreaksAtFunction.address_escapes e));
    blocks = each_from (SoundBlock m f) f.blocks sound_block;
  }
