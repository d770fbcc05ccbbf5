-- The functions that do the work are in numbered form. What each test computes is the same for all.
use Rattle.std.proofs.Common.{ℕ, ◌+◌, List, [], ◌∷◌, length, Bool, true, ◌&&◌, IsTrue, ◌==◌, nat_le, refl, eqb-true, leb-true}
use Rattle.std.specs.List.{list_all}
use Rattle.std.proofs.lemmas.Bool.{and_parts}
use Rattle.instruction_table.specs.BuiltinNames.BuiltinNames.{is_builtin_name, names_operation, operation_spelling, width_spelling}
use Rattle.instruction_table.specs.Forms.{has_one_result}
use Rattle.numbered_form.specs.Insts.{EachInFunction, insts_in}
use Rattle.numbered_form.specs.Names.{IsInstSpelled}
use Rattle.numbered_form.specs.Numbering.{AreCountedFrom, IsFunctionNumbered, IsInstInRange, values_of}
use Rattle.numbered_form.specs.inner.Functions.{IsFormed}
use Rattle.numbered_form.specs.inner.Limits.{IsBlockInLimits, IsFunctionInLimits, IsInstInLimits, value_count}
use Rattle.numbered_form.specs.inner.Literals.{HasLiterals}
use Rattle.numbered_form.specs.inner.Parts.{BlockHasParts, FunctionHasParts}
use Rattle.numbered_form.specs.inner.Types.{HasArgType, HasBlockTypes, HasFunctionTypes, HasInstTypes}
use Rattle.sil_ast.specs.declared.function.Block.{Block}
use Rattle.sil_ast.specs.declared.function.BlockArg.{BlockArg}
use Rattle.sil_ast.specs.declared.place.ValueId.{ValueId}
use Rattle.sil_rules.specs.declared.limits.TheConstants.{ARGUMENTS, BLOCKS, INSTRUCTIONS, VALUES}
use Rattle.sil_command_generator.specs.WorkFunctions.{work, work_blocks}
use Rattle.sil_command_generator.proofs.InstTests.{block_has_parts, block_with_parts, has_limits, has_literals, has_types, in_range}
use Rattle.sil_command_generator.proofs.InstTests.{is_in_range, is_placed, is_spelled, limited, placed, spelled, with_literals, with_types}
use Rattle.sil_command_generator.proofs.Tests.{each_by, in_block_by, in_blocks_by, passes_in_block}
use Rattle.sil_command_generator.proofs.WrittenTypes.{opened}

abbrev counts_from : ℕ → List ValueId → Bool
counts_from n [] = true
counts_from n (v ∷ vs) = (v.0 == n) && counts_from (n + 1) vs

counted : (n : ℕ) (vs : List ValueId) → IsTrue (counts_from n vs) → AreCountedFrom n vs
counted n [] h = tt
counted n (v ∷ vs) h = let both = and_parts (v.0 == n) (counts_from (n + 1) vs) h in (eqb-true v.0 n both.0, counted (n + 1) vs both.1)

pub work_numbered : (functions k : ℕ) → IsFunctionNumbered functions (work k)
work_numbered functions k = record {
  values = counted 0 (values_of work_blocks) refl;
  used = in_blocks_by (IsInstInRange 17 4 functions) (in_range 17 4) (is_in_range 17 4 functions) work_blocks refl;
}

pub work_parts : (k : ℕ) → FunctionHasParts (work k)
unfolding has_one_result
work_parts k = each_by BlockHasParts block_with_parts block_has_parts work_blocks refl

literals_pass : IsTrue (list_all (passes_in_block with_literals) work_blocks)
unfolding is_builtin_name names_operation operation_spelling width_spelling
literals_pass = simp (opened) refl

pub work_literals : (k : ℕ) → EachInFunction HasLiterals (work k)
work_literals k = in_blocks_by HasLiterals with_literals has_literals work_blocks literals_pass

pub work_insts_spelled : (k : ℕ) → EachInFunction IsInstSpelled (work k)
work_insts_spelled k = in_blocks_by IsInstSpelled spelled is_spelled work_blocks refl

-- types

abbrev arg_placed : BlockArg → Bool
arg_placed a = placed a.ty

arg_types : (a : BlockArg) → IsTrue (arg_placed a) → HasArgType a
arg_types a h = is_placed a.ty h

abbrev pub block_with_types : Block → Bool
block_with_types b = list_all arg_placed b.args && passes_in_block with_types b

pub block_types : (b : Block) → IsTrue (block_with_types b) → HasBlockTypes b
block_types b h =
    let both = and_parts (list_all arg_placed b.args) (passes_in_block with_types b) h in
    record { args = each_by HasArgType arg_placed arg_types b.args both.0; insts = in_block_by HasInstTypes with_types has_types b both.1 }

types_pass : IsTrue (list_all block_with_types work_blocks)
types_pass = simp (opened) refl

pub work_types : (k : ℕ) → HasFunctionTypes (work k)
work_types k = record {
  signature = record { params = tt; results = tt };
  blocks = each_by HasBlockTypes block_with_types block_types work_blocks types_pass;
}

-- form and limits

pub work_formed : (k : ℕ) → IsFormed (work k)
work_formed k = record { attributes = tt; external = (λ e. absurd (cc), λ e. absurd (cc)) }

abbrev block_limited : Block → Bool
block_limited b = nat_le (length b.args) ARGUMENTS && passes_in_block limited b

block_limits : (b : Block) → IsTrue (block_limited b) → IsBlockInLimits b
block_limits b h =
    let both = and_parts (nat_le (length b.args) ARGUMENTS) (passes_in_block limited b) h in
    record { args = leb-true (length b.args) ARGUMENTS both.0; insts = in_block_by IsInstInLimits limited has_limits b both.1 }

pub work_limits : (k : ℕ) → IsFunctionInLimits (work k)
work_limits k = record {
  attributes = leb-true 0 ARGUMENTS refl;
  signature = record { params = leb-true 0 ARGUMENTS refl; results = leb-true 0 ARGUMENTS refl };
  blocks = leb-true (length work_blocks) BLOCKS refl;
  insts = leb-true (length (insts_in work_blocks)) INSTRUCTIONS refl;
  values = leb-true (value_count work_blocks) VALUES refl;
  each = each_by IsBlockInLimits block_limited block_limits work_blocks refl;
}
