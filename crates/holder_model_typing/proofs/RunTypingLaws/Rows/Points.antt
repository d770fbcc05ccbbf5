-- What is known of the instruction at a point: no rule of typing is broken there, and it has the parts of its row.
use Rattle.std.proofs.Common.{◌≡◌, ℕ, zero, suc, List, [], ◌∷◌, ◌++◌, refl, true, false, Option, Some, None}
use Rattle.std.specs.Prelude.{slice_get}
use Rattle.sil_ast.specs.declared.function.Block.{Block}
use Rattle.sil_ast.specs.declared.function.Function.{Function}
use Rattle.sil_ast.specs.declared.inst.Inst.{Inst}
use Rattle.sil_ast.specs.declared.module.Module.{Module}
use Rattle.sil_ast.specs.declared.place.PointId.{PointId}
use Rattle.sil_rules.specs.declared.rule.Rule.{Rule}
use Rattle.sil_rules.specs.declared.rule.Rule.TheVariants as rule
use Rattle.holder_model.specs.sil_cfg_items.Parts.{inst_at, inst_in}
use Rattle.numbered_form.specs.Insts.{EachInBlock, EachInFunction, EachInst}
use Rattle.numbered_form.specs.Numbering.{AreCountedFrom, IsFunctionNumbered, values_of}
use Rattle.numbered_form.specs.inner.Literals.{HasLiterals}
use Rattle.numbered_form.specs.inner.Parts.{BlockHasParts, FunctionHasParts, IsInside}
use Rattle.numbered_form.specs.inner.Types.{HasBlockTypes, HasFunctionTypes, HasInstTypes}
use Rattle.numbered_form.specs.PointChecks.Points.{IsAt}
use Rattle.holder_model.specs.sil_types_declarations.TypeDefinitions.Declarations.{declarations_of}
use Rattle.holder_model.specs.sil_types.Typing.FormRules.{is_of_other_form}
use Rattle.holder_model.specs.sil_types.Typing.OperandTypes.{has_operand_types}
use Rattle.holder_model.specs.sil_types.Typing.ResultCounts.{has_wrong_result_count}
use Rattle.holder_model.specs.sil_types.Typing.Typed.{BreaksAtPoint, at_point, mixed_forms, operand_type, point, result_count}
use Rattle.holder_model.specs.sil_types.Typing.Values.{value_types}
use Rattle.holder_model_typing.specs.RunTypingLaws.inner.WellTyped.{IsWellTyped}
use Rattle.holder_model_typing.proofs.RunTypingLaws.Rows.Finding.{each_at, never_fails, never_passes}

-- an element of the first list stands at its place in both
pub in_front : {A : Type 0} (xs ys : List A) (k : ℕ) (x : A) → slice_get xs k ≡ Some x → slice_get (xs ++ ys) k ≡ Some x
in_front [] ys k x e = absurd (cc)
in_front (y ∷ xs) ys zero x e = e
in_front (y ∷ xs) ys (suc k) x e = in_front xs ys k x e

-- the block in which an instruction stands
pub record Within (f : Function) (p : PointId) (i : Inst) : Type 0 where
  pub block : Block
  pub is_block : slice_get f.blocks p.block.0 ≡ Some block
  pub is_inst : slice_get block.insts p.index ≡ Some i

pub within : (f : Function) (p : PointId) (i : Inst) → inst_at f p ≡ Some i → Within f p i
within f p i e = at (slice_get f.blocks p.block.0) refl e
  where
    at : (b : Option Block) → slice_get f.blocks p.block.0 ≡ b → inst_in b p.index ≡ Some i → Within f p i
    at None is e = absurd (cc)
    at (Some b) is e = record { block = b; is_block = is; is_inst = e }

pub is_at : (f : Function) (p : PointId) (i : Inst) → inst_at f p ≡ Some i → IsAt f p.block.0 p.index i
is_at f p i e =
    let w = within f p i e in
    record { within = w.block; is_block = w.is_block; is_inst = in_front w.block.insts (w.block.terminator ∷ []) p.index i w.is_inst }

module _ (m : Module) (r : IsWellTyped m) (n : ℕ) (f : Function) (is_function : slice_get m.functions n ≡ Some f) where
  pub counted : AreCountedFrom 0 (values_of f.blocks)
  counted = (each_at (IsFunctionNumbered _) m.functions n f r.numbered.numbering.functions is_function).values

  -- be it an instruction or a terminator
  module _ (block index : ℕ) (i : Inst) (here : IsAt f block index i) where
    breaks_none : (x : Rule) → BreaksAtPoint m f block index i x → ⊥
    breaks_none x b = r.typed (at_point n block index) x (point n f block index i x is_function here b)

    pub operands_typed : has_operand_types (declarations_of m) (value_types (declarations_of m) f) i ≡ true
    operands_typed = never_fails _ (λ e. breaks_none rule.OperandType (operand_type e))

    pub results_counted : has_wrong_result_count (declarations_of m) i ≡ false
    results_counted = never_passes _ (λ e. breaks_none rule.ResultCount (result_count e))

    pub keeps_form : is_of_other_form f block index i ≡ false
    keeps_form = never_passes _ (λ e. breaks_none rule.MixedForms (mixed_forms e))

  module _ (p : PointId) (i : Inst) (here : inst_at f p ≡ Some i) where
    standing : Within f p i
    standing = within f p i here

    pub is_inside : IsInside i
    is_inside =
        each_at IsInside standing.block.insts p.index i
        (each_at BlockHasParts f.blocks p.block.0 standing.block (each_at FunctionHasParts m.functions n f r.numbered.parts is_function) standing.is_block).insts
        standing.is_inst

    each_inst : (P : Inst → Type 0) → EachInst P m → P i
    each_inst P h =
        each_at P standing.block.insts p.index i
        (each_at (EachInBlock P) f.blocks p.block.0 standing.block (each_at (EachInFunction P) m.functions n f h is_function) standing.is_block).0
        standing.is_inst

    pub has_literals : HasLiterals i
    has_literals = each_inst HasLiterals r.numbered.literals

    pub has_types : HasInstTypes i
    has_types =
        each_at HasInstTypes standing.block.insts p.index i
        (each_at HasBlockTypes f.blocks p.block.0 standing.block (each_at HasFunctionTypes m.functions n f r.numbered.types.functions is_function).blocks standing.is_block).insts.0
        standing.is_inst
