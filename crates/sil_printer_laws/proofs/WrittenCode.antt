-- The blocks of a printed function beside what was written of them, and the names of their values.
use Rattle.std.proofs.Common.{◌≡◌, ℕ, ◌+◌, List, [], ◌∷◌, ◌++◌, length, map, Some, true, ap, sym, subst, flat_map}
use Rattle.std.specs.List.{AllZip}
use Rattle.sil_ast.specs.declared.function.Block.{Block}
use Rattle.sil_ast.specs.declared.function.BlockArg.{BlockArg}
use Rattle.sil_ast.specs.declared.function.Function.{Function}
use Rattle.sil_ast.specs.declared.inst.Inst.{Inst}
use Rattle.instruction_table.specs.declared.op.Op.{Op}
use Rattle.sil_ast.specs.declared.place.ValueId.{ValueId}
use Rattle.sil_grammar_tree.specs.declared.written_tree.written_functions.WrittenArg.{WrittenArg}
use Rattle.sil_grammar_tree.specs.declared.written_tree.written_functions.WrittenBlock.{WrittenBlock}
use Rattle.sil_grammar_tree.specs.declared.written_tree.written_instructions.WrittenInst.{WrittenInst}
use Rattle.sil_grammar_names.specs.NameScopes.Names as written
use Rattle.sil_grammar_names.specs.NameResolution.Resolved.{defined_by_arg, defined_by_inst, defined_in}
use Rattle.numbered_form.specs.Lists.{Each}
use Rattle.numbered_form.specs.Insts.{EachInBlock, insts_in, insts_of}
use Rattle.numbered_form.specs.Numbering.{IsInstInRange}
use Rattle.numbered_form.specs.Numbering as numbering
use Rattle.numbered_form.specs.inner.Parts.{BlockHasParts, HasItsParts, IsInside, has_results}
use Rattle.sil_grammar.proofs.NumberedReadingLaws.NumberingLemmas.{with_end}
use Rattle.sil_printer_laws.proofs.ResultNames.{IsDefinedAs, results_defined}
use Rattle.sil_printer_laws.proofs.SideBySide.{zip_append, zip_flat, zip_left, zip_right}
use Rattle.sil_printer_laws.proofs.Written.{AreBlocksWritten, IsArgWritten, IsInstWritten, IsValueNamed}

-- how many values and blocks a function has, and the functions of its module
pub record Counts : Type 0 where
  pub values : ℕ
  pub blocks : ℕ
  pub functions : List Function

-- an instruction of such a function, and what is written of it
pub record IsInstRead (c : Counts) (i : Inst) (w : WrittenInst) : Type 0 where
  pub parts : HasItsParts i
  pub used : IsInstInRange c.values c.blocks (length c.functions) i
  pub is_written : IsInstWritten c.functions i w

pub record IsBlockRead (c : Counts) (b : Block) (w : WrittenBlock) : Type 0 where
  pub args : AllZip IsArgWritten b.args w.args
  pub insts : AllZip (IsInstRead c) b.insts w.insts
  pub terminator : IsInstRead c b.terminator w.terminator
  pub no_results : b.terminator.results ≡ []

insts_read : (c : Counts) (is : List Inst) (ws : List WrittenInst) → Each IsInside is
    → Each (IsInstInRange c.values c.blocks (length c.functions)) is → AllZip (IsInstWritten c.functions) is ws → AllZip (IsInstRead c) is ws
insts_read c [] [] p u z = tt
insts_read c [] (w ∷ ws) p u z = absurd z
insts_read c (i ∷ is) [] p u z = absurd z
insts_read c (i ∷ is) (w ∷ ws) p u z = (record { parts = p.0.parts; used = u.0; is_written = z.0 }, insts_read c is ws p.1 u.1 z.1)

pub blocks_read : (c : Counts) (k : ℕ) (bs : List Block) (ws : List WrittenBlock) → Each BlockHasParts bs → Each (EachInBlock (IsInstInRange c.values c.blocks (length c.functions))) bs
    → AreBlocksWritten c.functions k bs ws → AllZip (IsBlockRead c) bs ws
blocks_read c k [] [] p u z = tt
blocks_read c k [] (w ∷ ws) p u z = absurd z
blocks_read c k (b ∷ bs) [] p u z = absurd z
blocks_read c k (b ∷ bs) (w ∷ ws) p u z = (
  record {
    args = z.0.args;
    insts = insts_read c b.insts w.insts p.0.insts u.0.0 z.0.insts;
    terminator = record { parts = p.0.terminator.parts; used = u.0.1; is_written = z.0.terminator };
    no_results = p.0.terminator.no_results;
  },
  blocks_read c (k + 1) bs ws p.1 u.1 z.1,
)

-- the instructions of a function, terminators among them

block_code : (c : Counts) (b : Block) (w : WrittenBlock) → IsBlockRead c b w → AllZip (IsInstRead c) (insts_of b) (written.code_of w)
block_code c b w r = zip_append (IsInstRead c) b.insts w.insts (b.terminator ∷ []) (w.terminator ∷ []) r.insts (r.terminator, tt)

pub code_read : (c : Counts) (bs : List Block) (ws : List WrittenBlock) → AllZip (IsBlockRead c) bs ws → AllZip (IsInstRead c) (insts_in bs) (flat_map written.code_of ws)
code_read c bs ws z = zip_flat insts_of written.code_of (IsBlockRead c) (IsInstRead c) (block_code c) bs ws z

-- the tokens by which values are defined

arg_token : (a : BlockArg) (w : WrittenArg) → IsArgWritten a w → IsValueNamed a.value w.name
arg_token a w r = r.name

block_tokens : (c : Counts) (b : Block) (w : WrittenBlock) → IsBlockRead c b w → AllZip IsValueNamed (numbering.defined_in b) (written.values_defined w)
block_tokens c b w r = zip_append IsValueNamed (map numbering.value_of b.args) (map written.arg_name w.args) _ _
    (zip_left numbering.value_of (λ a token. IsValueNamed a.value token) IsValueNamed (λ a token e. e) b.args (map written.arg_name w.args)
    (zip_right written.arg_name IsArgWritten (λ a token. IsValueNamed a.value token) arg_token b.args w.args r.args))
    (zip_flat numbering.results_of written.results_of (IsInstRead c) IsValueNamed (λ i w r. r.is_written.results) (insts_of b) (written.code_of w) (block_code c b w r))

pub value_tokens : (c : Counts) (bs : List Block) (ws : List WrittenBlock) → AllZip (IsBlockRead c) bs ws → AllZip IsValueNamed (numbering.values_of bs) (flat_map written.values_defined ws)
value_tokens c bs ws z = zip_flat numbering.defined_in written.values_defined (IsBlockRead c) IsValueNamed (block_tokens c) bs ws z

-- the values that are defined, each under its name

pub inst_defined : (c : Counts) (i : Inst) (w : WrittenInst) → IsInstRead c i w → AllZip IsDefinedAs i.results (defined_by_inst w)
inst_defined c i w r = results_defined w.op i.results w.results (subst (λ (o : Op). has_results o i.results ≡ true) (sym r.is_written.op) r.parts.results) r.is_written.results

pub block_defined : (c : Counts) (b : Block) (w : WrittenBlock) → IsBlockRead c b w → AllZip IsDefinedAs (numbering.defined_in b) (defined_in w)
block_defined c b w r =
    subst (λ (results : List ValueId). AllZip IsDefinedAs (map numbering.value_of b.args ++ results) (defined_in w)) (sym (with_end b.insts b.terminator r.no_results))
    (zip_append IsDefinedAs (map numbering.value_of b.args) (map defined_by_arg w.args) _ _
    (zip_left numbering.value_of (λ a name. IsDefinedAs a.value name) IsDefinedAs (λ a name e. e) b.args (map defined_by_arg w.args)
    (zip_right defined_by_arg IsArgWritten (λ a name. IsDefinedAs a.value name) (λ a w r. ap (λ text. Some text) r.name) b.args w.args r.args))
    (zip_flat numbering.results_of defined_by_inst (IsInstRead c) IsDefinedAs (inst_defined c) b.insts w.insts r.insts))

pub values_defined : (c : Counts) (bs : List Block) (ws : List WrittenBlock) → AllZip (IsBlockRead c) bs ws → AllZip IsDefinedAs (numbering.values_of bs) (flat_map defined_in ws)
values_defined c bs ws z = zip_flat numbering.defined_in defined_in (IsBlockRead c) IsDefinedAs (block_defined c) bs ws z
