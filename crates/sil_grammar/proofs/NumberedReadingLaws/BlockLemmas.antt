-- What holds of good instructions and blocks holds where they are resolved.
use Rattle.std.proofs.Common.{◌≡◌, ℕ, ◌+◌, suc, List, [], ◌∷◌, length, true, false, not, ap, refl}
use Rattle.std.proofs.lemmas.Bool.{and_parts}
use Rattle.sil_ast.specs.declared.function.Block.{Block}
use Rattle.sil_ast.specs.declared.inst.Inst.{Inst}
use Rattle.instruction_table.specs.declared.op.Op.{Op}
use Rattle.sil_grammar_tree.specs.declared.written_tree.written_declarations.WrittenToken.{WrittenToken}
use Rattle.sil_grammar_tree.specs.declared.written_tree.written_functions.WrittenArg.{WrittenArg}
use Rattle.sil_grammar_tree.specs.declared.written_tree.written_functions.WrittenBlock.{WrittenBlock}
use Rattle.sil_grammar_tree.specs.declared.written_tree.written_instructions.WrittenInst.{WrittenInst}
use Rattle.sil_grammar_names.specs.NameResolution.Resolved.{Scope, counted, defined_by, defined_by_inst, defined_in, resolved_args, resolved_block, resolved_blocks, resolved_inst, resolved_insts}
use Rattle.numbered_form.specs.Lists.{Each}
use Rattle.numbered_form.specs.Insts.{EachInBlock}
use Rattle.numbered_form.specs.inner.Limits.{IsBlockInLimits, IsInstInLimits}
use Rattle.instruction_table.specs.Forms.{extra_value_of, has_one_result, is_terminator}
use Rattle.numbered_form.specs.inner.Parts.{BlockHasParts, IsInside}
use Rattle.numbered_form.specs.inner.Types.{HasArgType, HasBlockTypes, HasInstTypes}
use Rattle.sil_grammar.proofs.NumberedReadingLaws.ListsAndFaults.{not_true}
use Rattle.sil_grammar.proofs.NumberedReadingLaws.RowRules.{ends_alone, takes_none}
use Rattle.sil_grammar.proofs.NumberedReadingLaws.FaultlessParts.{IsGoodArg, IsGoodBlock, IsGoodEnd, IsGoodInside, IsGoodInst}

pub Each-insts : (s : Scope) (P : WrittenInst → Type 0) (Q : Inst → Type 0) → ((first : ℕ) (w : WrittenInst) → P w → Q (resolved_inst s first w))
    → (first : ℕ) (ws : List WrittenInst) → Each P ws → Each Q (resolved_insts s first ws)
Each-insts s P Q h first [] g = tt
Each-insts s P Q h first (w ∷ ws) g = (h first w g.0, Each-insts s P Q h (first + length (defined_by_inst w)) ws g.1)

pub Each-blocks : (s : Scope) (P : WrittenBlock → Type 0) (Q : Block → Type 0) → ((first : ℕ) (b : WrittenBlock) → P b → Q (resolved_block s first b))
    → (first : ℕ) (bs : List WrittenBlock) → Each P bs → Each Q (resolved_blocks s first bs)
Each-blocks s P Q h first [] g = tt
Each-blocks s P Q h first (b ∷ bs) g = (h first b g.0, Each-blocks s P Q h (first + length (defined_in b)) bs g.1)

arg_types : (first : ℕ) (args : List WrittenArg) → Each IsGoodArg args → Each HasArgType (resolved_args first args)
arg_types first [] g = tt
arg_types first (a ∷ args) g = (g.0, arg_types (first + 1) args g.1)

pub length-args : (first : ℕ) (args : List WrittenArg) → length (resolved_args first args) ≡ length args
length-args first [] = refl
length-args first (a ∷ args) = ap suc (length-args (first + 1) args)

pub length-blocks : (s : Scope) (first : ℕ) (bs : List WrittenBlock) → length (resolved_blocks s first bs) ≡ length bs
length-blocks s first [] = refl
length-blocks s first (b ∷ bs) = ap suc (length-blocks s (first + length (defined_in b)) bs)

pub in_block : (Q : Inst → Type 0) → ((i : Inst) → IsGoodInst i → Q i) → (s : Scope) (first : ℕ) (b : WrittenBlock) → IsGoodBlock b → EachInBlock Q (resolved_block s first b)
in_block Q h s first b g =
    (Each-insts s IsGoodInside Q (λ first w k. h (resolved_inst s first w) (k.good s first)) _ b.insts g.insts, h _ (g.terminator.good s _))

-- a terminator gives no result
ends_unnamed : (o : Op) → is_terminator o ≡ true → has_one_result o ≡ false
ends_unnamed o e = not_true (has_one_result o) (and_parts (not (has_one_result o)) (takes_none (extra_value_of o)) (ends_alone o e)).0

none_defined : (o : Op) (tokens : List WrittenToken) → has_one_result o ≡ false → tokens ≡ [] → defined_by o tokens ≡ []
none_defined o tokens e f = rw (f, e) refl

pub end_defines_none : (w : WrittenInst) → IsGoodEnd w → defined_by w.op w.results ≡ []
end_defines_none w g = none_defined w.op w.results (ends_unnamed w.op g.ends) g.no_results

pub block_parts : (s : Scope) (first : ℕ) (b : WrittenBlock) → IsGoodBlock b → BlockHasParts (resolved_block s first b)
block_parts s first b g = record {
  insts = Each-insts s IsGoodInside IsInside (λ first w k. record { goes_on = k.goes_on; parts = (k.good s first).parts }) _ b.insts g.insts;
  terminator = record { ends = g.terminator.ends; no_results = ap (counted _) (end_defines_none b.terminator g.terminator); parts = (g.terminator.good s _).parts };
}

pub block_types : (s : Scope) (first : ℕ) (b : WrittenBlock) → IsGoodBlock b → HasBlockTypes (resolved_block s first b)
block_types s first b g = record { args = arg_types first b.args g.args; insts = in_block HasInstTypes (λ i k. k.types) s first b g }

pub block_limits : (s : Scope) (first : ℕ) (b : WrittenBlock) → IsGoodBlock b → IsBlockInLimits (resolved_block s first b)
block_limits s first b g = record { args = rw length-args g.few; insts = in_block IsInstInLimits (λ i k. k.limits) s first b g }
