-- Each function of a module that was read and typed, and in which no value is another name of itself, has what lowering asks.
use Rattle.std.proofs.Common.{◌≡◌, ℕ, [], ◌∷◌, length, true, Some}
use Rattle.std.specs.Prelude.{◌&&◌, slice_get}
use Rattle.std.specs.List.{list_all}
use Rattle.std.proofs.lemmas.Bool.{and_parts}
use Rattle.sil_ast.specs.declared.function.Block.{Block}
use Rattle.sil_ast.specs.declared.function.Function.{Function}
use Rattle.sil_ast.specs.declared.inst.Inst.{Inst}
use Rattle.sil_ast.specs.declared.module.Module.{Module}
use Rattle.sil_rules.specs.declared.rule.Rule.{Rule}
use Rattle.sil_rules.specs.declared.rule.Rule.TheVariants as rule
use Rattle.numbered_form.specs.Numbering.{IsFunctionNumbered}
use Rattle.numbered_form.specs.inner.NumberedForm.{IsNumbered}
use Rattle.numbered_form.specs.inner.Parts.{BlockHasParts, FunctionHasParts, IsInside}
use Rattle.holder_model_typing.proofs.ownership_kinds_origins.Ranges.{are_in_range}
use Rattle.numbered_form.specs.PointChecks.Points.{IsAt}
use Rattle.holder_model_typing.specs.sil_types.Typing.OperandTypes.{are_as_asked, are_as_written, edge_is_as_written, has_operand_types}
use Rattle.holder_model_typing.specs.sil_types.Typing.RowTypes.{keeps_row}
use Rattle.holder_model_typing.specs.sil_types.Typing.Typed.{BreaksAtPoint, Typed, at_point, operand_type, point, result_count}
use Rattle.holder_model_typing.specs.sil_types.Typing.Values.{value_types}
use Rattle.sil_types_declarations.specs.TypeDefinitions.Declarations.{Declarations, declarations_of}
use Rattle.ownership_lowering_laws.specs.LoweringLaws.inner.Lowerable.{HasNoRingIn, HasNoRings, IsLowerable, IsLowerableBlock, IsLowerableInst}
use Rattle.ownership_lowering_laws.specs.LoweringLaws.inner.Laws.{AreLowerable}
use Rattle.holder_model_typing.proofs.RunTypingLaws.Declared.{each_from}
use Rattle.holder_model_typing.proofs.RunTypingLaws.Rows.Finding.{each_at, never_fails}
use Rattle.holder_model_typing.proofs.RunTypingLaws.Rows.Points.{in_front}
use Rattle.numbered_form.proofs.Lists.{contained}

module _ (m : Module) (n : ℕ) (f : Function) (numbered : IsNumbered m) (typed : Typed m) (rings : HasNoRings m) (there : slice_get m.functions n ≡ Some f) where
  abbrev d : Declarations
  d = declarations_of m

  parts : FunctionHasParts f
  parts = each_at FunctionHasParts m.functions n f numbered.parts there

  module _ (block index : ℕ) (i : Inst) (here : IsAt f block index i) where
    breaks_none : (r : Rule) → BreaksAtPoint m f block index i r → ⊥
    breaks_none r b = typed (at_point n block index) r (point n f block index i r there here b)

    row_kept : keeps_row d i ≡ true
    row_kept =
        let types = value_types d f in
        let all : has_operand_types d types i ≡ true = never_fails _ (λ e. breaks_none rule.OperandType (operand_type e)) in
        let three = (and_parts (keeps_row d i && are_as_written types i.operands && list_all (edge_is_as_written types) i.edges)
        (are_as_asked types i) all).0 in
        let two = (and_parts (keeps_row d i && are_as_written types i.operands) (list_all (edge_is_as_written types) i.edges) three).0 in
        (and_parts (keeps_row d i) (are_as_written types i.operands) two).0

  module _ (k : ℕ) (b : Block) (is_block : slice_get f.blocks k ≡ Some b) where
    own : BlockHasParts b
    own = each_at BlockHasParts f.blocks k b parts is_block

    inst : (j : ℕ) (i : Inst) → slice_get b.insts j ≡ Some i → IsLowerableInst d i
    inst j i is_inst =
        let here : IsAt f k j i = record { within = b; is_block = is_block; is_inst = in_front b.insts (b.terminator ∷ []) j i is_inst } in
        record {
          inside = each_at IsInside b.insts j i own.insts is_inst;
          keeps = row_kept k j i here;
          results = never_fails _ (λ e. breaks_none k j i here rule.ResultCount (result_count e));
        }

    lowerable_block : IsLowerableBlock d b
    lowerable_block = record { insts = each_from (IsLowerableInst d) b.insts inst; terminator = own.terminator }

  pub lowerable : IsLowerable (length m.functions) d f
  lowerable = record {
    numbered = each_at (IsFunctionNumbered (length m.functions)) m.functions n f numbered.numbering.functions there;
    blocks = each_from (IsLowerableBlock d) f.blocks lowerable_block;
    ends = record {
      range = (are_in_range d m f numbered (contained m.functions n f there)).1;
      none = each_at HasNoRingIn m.functions n f rings there;
    };
  }

pub functions_are_lowerable : AreLowerable
functions_are_lowerable m n f numbered typed rings there = lowerable m n f numbered typed rings there
