-- A module in numbered form is printable, part by part.
use Rattle.std.proofs.Common.{ℕ, ◌≤◌, List, [], ◌∷◌, length, map, arith, flat_map}
use Rattle.sil_ast.specs.declared.decl.Decl.{Decl}
use Rattle.sil_ast.specs.declared.function.Block.{Block}
use Rattle.sil_ast.specs.declared.function.BlockArg.{BlockArg}
use Rattle.sil_ast.specs.declared.function.Function.{Function}
use Rattle.sil_ast.specs.declared.inst.Inst.{Inst}
use Rattle.sil_ast.specs.declared.module.Module.{Module}
use Rattle.sil_ast.specs.declared.vtable.Vtable.{Vtable}
use Rattle.numbered_form.specs.inner.Fields.{HasStrongFields}
use Rattle.numbered_form.specs.inner.Functions.{IsFormed}
use Rattle.numbered_form.specs.Insts.{EachInBlock, EachInFunction, insts_of}
use Rattle.numbered_form.specs.inner.Limits.{IsBlockInLimits, IsDeclInLimits, IsFunctionInLimits, IsInstInLimits}
use Rattle.numbered_form.specs.Lists.{Each}
use Rattle.numbered_form.specs.inner.Literals.{HasLiterals}
use Rattle.numbered_form.specs.Names.{IsDeclSpelled, IsFunctionSpelled, IsInstSpelled, IsVtableSpelled}
use Rattle.numbered_form.specs.inner.NumberedForm.{IsNumbered}
use Rattle.numbered_form.specs.Numbering.{IsFunctionNumbered, IsInstInRange, IsVtableInRange, defined_in, results_of, value_of, values_of}
use Rattle.numbered_form.specs.inner.Parts.{BlockHasParts, FunctionHasParts, HasItsParts, IsInside}
use Rattle.numbered_form.specs.inner.Types.{HasArgType, HasBlockTypes, HasDeclTypes, HasFunctionTypes, HasInstTypes}
use Rattle.sil_grammar.proofs.NumberedReadingLaws.UsedLemmas.{Each-split}
use Rattle.sil_printer_laws.proofs.BlockReading.{IsArgPrintable, IsBlockPrintable, IsInsidePrintable}
use Rattle.sil_printer_laws.proofs.DeclReading.{IsDeclPrintable}
use Rattle.sil_printer_laws.proofs.FunctionReading.{IsFunctionPrintable}
use Rattle.sil_printer_laws.proofs.WholeReading.{IsModulePrintable}
use Rattle.sil_printer_laws.proofs.Printable.{IsInstPrintable, IsSmallValue}
use Rattle.sil_printer_laws.proofs.Smallness.{Each-inside, counted_small, edges_small, operands_small}
use Rattle.sil_printer_laws.proofs.VtableReading.{IsVtablePrintable}

-- a function among those of its module, with so many values and blocks
pub record IsPlaced (functions : List Function) (values blocks : ℕ) : Type 0 where
  pub few_values : values ≤ 1024
  pub few_blocks : blocks ≤ 512
  pub names : Each IsFunctionSpelled functions

-- instructions

-- what the bullets say of an instruction, but for its parts
record IsInstFit (functions : List Function) (values blocks : ℕ) (i : Inst) : Type 0 where
  literals : HasLiterals i
  spelled : IsInstSpelled i
  types : HasInstTypes i
  limits : IsInstInLimits i
  range : IsInstInRange values blocks (length functions) i
  results : Each IsSmallValue i.results

inst_printable : (functions : List Function) (values blocks : ℕ) (i : Inst) → IsPlaced functions values blocks → HasItsParts i → IsInstFit functions values blocks i
    → IsInstPrintable functions i
inst_printable functions values blocks i placed parts fit = record {
  parts = parts;
  literals = fit.literals;
  spelled = fit.spelled;
  types = fit.types;
  limits = fit.limits;
  results = fit.results;
  operands = operands_small values i.operands placed.few_values fit.range.operands;
  edges = edges_small values blocks i.edges placed.few_values placed.few_blocks fit.range.edges;
  function = fit.range.function;
  names = placed.names;
}

insts_fit : (functions : List Function) (values blocks : ℕ) (insts : List Inst) → Each HasLiterals insts → Each IsInstSpelled insts → Each HasInstTypes insts → Each IsInstInLimits insts
    → Each (IsInstInRange values blocks (length functions)) insts → Each (λ i. Each IsSmallValue i.results) insts → Each (IsInstFit functions values blocks) insts
insts_fit functions values blocks [] literals spelled types limits range results = tt
insts_fit functions values blocks (i ∷ insts) literals spelled types limits range results = (
  record { literals = literals.0; spelled = spelled.0; types = types.0; limits = limits.0; range = range.0; results = results.0 },
  insts_fit functions values blocks insts literals.1 spelled.1 types.1 limits.1 range.1 results.1,
)

insts_printable : (functions : List Function) (values blocks : ℕ) (insts : List Inst) → IsPlaced functions values blocks → Each IsInside insts → Each (IsInstFit functions values blocks) insts
    → Each (IsInsidePrintable functions) insts
insts_printable functions values blocks [] placed parts fit = tt
insts_printable functions values blocks (i ∷ insts) placed parts fit = (
  record { printable = inst_printable functions values blocks i placed parts.0.parts fit.0; goes_on = parts.0.goes_on },
  insts_printable functions values blocks insts placed parts.1 fit.1,
)

-- blocks

args_printable : (args : List BlockArg) → Each IsSmallValue (map value_of args) → Each HasArgType args → Each IsArgPrintable args
args_printable [] small types = tt
args_printable (a ∷ args) small types = (record { value = small.0; ty = types.0 }, args_printable args small.1 types.1)

block_printable : (functions : List Function) (values blocks : ℕ) (b : Block) → IsPlaced functions values blocks → BlockHasParts b → EachInBlock HasLiterals b → EachInBlock IsInstSpelled b
    → HasBlockTypes b → IsBlockInLimits b → EachInBlock (IsInstInRange values blocks (length functions)) b → Each IsSmallValue (defined_in b) → IsBlockPrintable functions b
block_printable functions values blocks b placed parts literals spelled types limits range defined =
    let split = Each-split IsSmallValue (map value_of b.args) (flat_map results_of (insts_of b)) defined in
    let given = Each-split (λ i. Each IsSmallValue i.results) b.insts (b.terminator ∷ []) (Each-inside results_of IsSmallValue (insts_of b) split.1) in
    let fit = insts_fit functions values blocks b.insts literals.0 spelled.0 types.insts.0 limits.insts.0 range.0 given.0 in
    let end : IsInstFit functions values blocks b.terminator =
    record { literals = literals.1; spelled = spelled.1; types = types.insts.1; limits = limits.insts.1; range = range.1; results = given.1.0 } in
    record {
      args = args_printable b.args split.0 types.args;
      few = limits.args;
      insts = insts_printable functions values blocks b.insts placed parts.insts fit;
      terminator = record { printable = inst_printable functions values blocks b.terminator placed parts.terminator.parts end; ends = parts.terminator.ends; unnamed = parts.terminator.no_results };
    }

blocks_printable : (functions : List Function) (values blocks : ℕ) (bs : List Block) → IsPlaced functions values blocks
    → Each BlockHasParts bs → Each (EachInBlock HasLiterals) bs → Each (EachInBlock IsInstSpelled) bs
    → Each HasBlockTypes bs → Each IsBlockInLimits bs → Each (EachInBlock (IsInstInRange values blocks (length functions))) bs
    → Each (λ b. Each IsSmallValue (defined_in b)) bs → Each (IsBlockPrintable functions) bs
blocks_printable functions values blocks [] placed parts literals spelled types limits range defined = tt
blocks_printable functions values blocks (b ∷ bs) placed parts literals spelled types limits range defined = (
  block_printable functions values blocks b placed parts.0 literals.0 spelled.0 types.0 limits.0 range.0 defined.0,
  blocks_printable functions values blocks bs placed parts.1 literals.1 spelled.1 types.1 limits.1 range.1 defined.1,
)

-- functions

function_printable : (functions : List Function) (f : Function) → Each IsFunctionSpelled functions
    → IsFunctionSpelled f → IsFormed f → FunctionHasParts f → EachInFunction HasLiterals f → EachInFunction IsInstSpelled f
    → HasFunctionTypes f → IsFunctionInLimits f → IsFunctionNumbered (length functions) f → IsFunctionPrintable functions f
function_printable functions f names named formed parts literals spelled types limits numbered =
    let few : length (values_of f.blocks) ≤ 1024 = omega (arith, limits.values) in
    let defined : Each (λ b. Each IsSmallValue (defined_in b)) f.blocks = Each-inside defined_in IsSmallValue f.blocks (counted_small 0 (values_of f.blocks) numbered.values (omega (arith, few))) in
    record {
      spelled = named;
      attributes = formed.attributes;
      signature = types.signature;
      limits = limits;
      blocks = blocks_printable functions (length (values_of f.blocks)) (length f.blocks) f.blocks (record { few_values = few; few_blocks = limits.blocks; names = names })
          parts literals spelled types.blocks limits.each numbered.used defined;
    }

functions_printable : (all functions : List Function) → Each IsFunctionSpelled all → Each IsFunctionSpelled functions
    → Each IsFormed functions → Each FunctionHasParts functions → Each (EachInFunction HasLiterals) functions
    → Each (EachInFunction IsInstSpelled) functions → Each HasFunctionTypes functions → Each IsFunctionInLimits functions → Each (IsFunctionNumbered (length all)) functions
    → Each (IsFunctionPrintable all) functions
functions_printable all [] names named formed parts literals spelled types limits numbered = tt
functions_printable all (f ∷ functions) names named formed parts literals spelled types limits numbered = (
  function_printable all f names named.0 formed.0 parts.0 literals.0 spelled.0 types.0 limits.0 numbered.0,
  functions_printable all functions names named.1 formed.1 parts.1 literals.1 spelled.1 types.1 limits.1 numbered.1,
)

-- declarations and vtables

decls_printable : (decls : List Decl) → Each IsDeclSpelled decls → Each HasDeclTypes decls → Each HasStrongFields decls → Each IsDeclInLimits decls → Each IsDeclPrintable decls
decls_printable [] spelled types strong limits = tt
decls_printable (d ∷ decls) spelled types strong limits = (
  record { name = spelled.0.name; superclass = spelled.0.superclass; members = spelled.0.members; types = types.0; strong = strong.0; limits = limits.0 },
  decls_printable decls spelled.1 types.1 strong.1 limits.1,
)

vtables_printable : (functions : List Function) (vtables : List Vtable) → Each IsFunctionSpelled functions → Each IsVtableSpelled vtables → Each (IsVtableInRange (length functions)) vtables
    → Each (IsVtablePrintable functions) vtables
vtables_printable functions [] names spelled range = tt
vtables_printable functions (v ∷ vtables) names spelled range =
    (record { spelled = spelled.0; in_range = range.0; names = names }, vtables_printable functions vtables names spelled.1 range.1)

pub module_printable : (m : Module) → IsNumbered m → IsModulePrintable m
module_printable m numbered = record {
  decls = decls_printable m.decls numbered.names.declarations numbered.types.declarations numbered.fields numbered.limits.members;
  functions = functions_printable m.functions m.functions numbered.names.functions numbered.names.functions
      numbered.functions numbered.parts numbered.literals numbered.names.insts numbered.types.functions
      numbered.limits.each numbered.numbering.functions;
  vtables = vtables_printable m.functions m.vtables numbered.names.functions numbered.names.vtables numbered.numbering.vtables;
  few_decls = numbered.limits.declarations;
  few_functions = numbered.limits.functions;
}
