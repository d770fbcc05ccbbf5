-- A printed block reads as itself.
use Rattle.std.proofs.Common.{◌≡◌, ℕ, ◌+◌, ◌≤◌, List, [], ◌∷◌, ◌++◌, length, map, None, IsTrue, IsFalse, codes, decimal, refl, ◌∙◌, arith}
use Rattle.std.specs.List.{AllZip, enumerate_from, flat_map}
use Rattle.std.proofs.lemmas.List.{append_assoc, length-map}
use Rattle.std.proofs.lemmas.Slice.Zip.{AllZip-long}
use Rattle.sil_ast.specs.declared.function.ArgKind.{ArgKind}
use Rattle.sil_ast.specs.declared.function.ArgKind.TheVariants as kind
use Rattle.sil_ast.specs.declared.function.Block.{Block}
use Rattle.sil_ast.specs.declared.function.BlockArg.{BlockArg}
use Rattle.sil_ast.specs.declared.function.Function.{Function}
use Rattle.sil_ast.specs.declared.inst.Inst.{Inst}
use Rattle.sil_printer.specs.CanonicalFunctions.{arg_text, block_text, kind_text}
use Rattle.sil_printer.specs.CanonicalInsts.{block_name, inst_text}
use Rattle.sil_printer.specs.CanonicalTypes.{type_text}
use Rattle.sil_printer.specs.Words.{indented, line_feed, listed, parens_if_any}
use Rattle.sil_grammar_classes.specs.declared.classes.AtWord.TheVariants as a
use Rattle.sil_grammar_classes.specs.declared.classes.Punctuation.TheVariants as m
use Rattle.sil_grammar_tables.specs.declared.grammar.Nonterminal.TheVariants as n
use Rattle.sil_grammar_tables.specs.declared.grammar.Production.TheVariants as p
use Rattle.sil_grammar_tables.specs.declared.grammar.Symbol.TheVariants.{Part}
use Rattle.sil_grammar_tables.specs.Grammar.{body, written}
use Rattle.sil_grammar_classes.specs.Spelling.{at_spelling, punctuation_spelling}
use Rattle.sil_rules.specs.declared.limit_word.LimitWord.TheVariants as limit
use Rattle.sil_grammar_tree.specs.WrittenTree.Faults.{passed}
use Rattle.sil_grammar_modules.specs.Leaves.{kept_of}
use Rattle.sil_grammar_values.specs.inner.Meaning.{meaning}
use Rattle.sil_grammar_values.specs.Opened.{PartValue}
use Rattle.sil_grammar_values.specs.inner.PartFaults.{part_fault}
use Rattle.sil_grammar_tree.specs.WrittenTree.Places.{arg_place}
use Rattle.sil_grammar_values.specs.Values.{arg_of, args_of, block_of, blocks_of, insts_of, ownership_of, terminator_of, token_of}
use Rattle.numbered_form.specs.Lists.{Each}
use Rattle.instruction_table.specs.Forms.{is_terminator}
use Rattle.numbered_form.specs.inner.Types.{IsPlacedType}
use Rattle.sil_grammar.proofs.NumberedReadingLaws.ListsAndFaults.{Each-weaker}
use Rattle.sil_printer_laws.proofs.Commas.{MoreItems, listed_reads}
use Rattle.sil_printer_laws.proofs.FixedTokens.{at_here, punctuation_here}
use Rattle.sil_printer_laws.proofs.InstReading.{inst_reads, terminator_reads}
use Rattle.sil_printer_laws.proofs.PartLimits.{not_passed}
use Rattle.sil_printer_laws.proofs.Pieces.{Ends, ReadsAs, Stands, Reads as reads, behind}
use Rattle.sil_printer_laws.proofs.Printable.{IsInstPrintable}
use Rattle.sil_printer_laws.proofs.ProductionReading.{stands_by, part_here}
use Rattle.sil_printer_laws.proofs.TextsInFront.{line_ahead}
use Rattle.sil_printer_laws.proofs.Tokens.{IsSmall, label_token, value_token}
use Rattle.sil_printer_laws.proofs.TypeReading.{placed_reads}
use Rattle.sil_printer_laws.proofs.Written.{AreBlocksWritten, IsArgWritten, IsBlockWritten, IsInstWritten}

pub record IsArgPrintable (a : BlockArg) : Type 0 where
  pub value : IsSmall a.value.0
  pub ty : IsPlacedType a.ty

-- an instruction that ends no block
pub record IsInsidePrintable (functions : List Function) (i : Inst) : Type 0 where
  pub printable : IsInstPrintable functions i
  pub goes_on : IsFalse (is_terminator i.op)

pub record IsEndPrintable (functions : List Function) (i : Inst) : Type 0 where
  pub printable : IsInstPrintable functions i
  pub ends : IsTrue (is_terminator i.op)
  pub unnamed : i.results ≡ []

pub record IsBlockPrintable (functions : List Function) (b : Block) : Type 0 where
  pub args : Each IsArgPrintable b.args
  pub few : length b.args ≤ 64
  pub insts : Each (IsInsidePrintable functions) b.insts
  pub terminator : IsEndPrintable functions b.terminator

-- what stands before the `$` of an argument's type
ownership_reads : (text : List ℕ) (how : ArgKind) (rest : List ℕ) → Stands text n.Ownership (λ x. ownership_of x ≡ how) (kind_text how ++ (36 ∷ rest)) (36 ∷ rest)
unfolding body written meaning part_fault at_spelling ownership_of
ownership_reads text kind.Plain rest = stands_by p.OwnershipNone (λ x. ownership_of x ≡ kind.Plain) reads.nothing refl refl
ownership_reads text kind.Owned rest = stands_by p.OwnershipOwned (λ x. ownership_of x ≡ kind.Owned) (at_here a.Owned refl refl (reads.blank 32 refl reads.nothing)) refl refl
ownership_reads text kind.Guaranteed rest = stands_by p.OwnershipGuaranteed (λ x. ownership_of x ≡ kind.Guaranteed) (at_here a.Guaranteed refl refl (reads.blank 32 refl reads.nothing)) refl refl

arg_ahead : (value how ty after : List ℕ) → (value ++ codes " : " ++ how ++ (codes "$" ++ ty)) ++ after ≡ value ++ (32 ∷ 58 ∷ 32 ∷ (how ++ (36 ∷ (ty ++ after))))
arg_ahead value how ty after = simp append_assoc refl

abbrev pub IsArgValue : BlockArg → PartValue → Type 0
IsArgValue a x = IsArgWritten a (arg_of x)

-- `%3 : @owned $T`
arg_reads : (text : List ℕ) (a : BlockArg) (after : List ℕ) → IsArgPrintable a → Ends after → Stands text n.BlockArg (IsArgValue a) (arg_text a ++ after) after
unfolding body written meaning part_fault punctuation_spelling kept_of token_of arg_of
arg_reads text a after printable ends =
    let ty = placed_reads text a.ty after printable.ty ends in
    let ownership = ownership_reads text a.kind (type_text a.ty ++ after) in
    rw (arg_ahead (37 ∷ decimal a.value.0) (kind_text a.kind) (type_text a.ty) after)
    (stands_by p.WholeBlockArg (IsArgValue a)
    (value_token a.value.0 printable.value refl (reads.blank 32 refl (punctuation_here m.Colon 58 refl refl (reads.blank 32 refl
    (part_here ownership (punctuation_here m.Dollar 36 refl refl ty.reads)))))) refl
    (record { name = refl; kind = ownership.stands; ty = ty.stands }))

abbrev pub AreArgValues : List BlockArg → PartValue → Type 0
AreArgValues args x = AllZip IsArgWritten args (args_of x)

more_args : MoreItems (Part n.BlockArg) n.MoreBlockArgs IsArgValue AreArgValues
unfolding body written meaning part_fault args_of
more_args = record {
  again = p.MoreBlockArgsMore;
  end = p.MoreBlockArgsEnd;
  again_is = (refl, refl, λ parts. refl);
  again_makes = λ a args comma first others is are. (is, are);
  end_is = (refl, refl, λ parts. refl);
  end_makes = tt;
}

each_arg : (text : List ℕ) (args : List BlockArg) → Each IsArgPrintable args → Each (λ a. ReadsAs text (Part n.BlockArg) (IsArgValue a) (arg_text a)) args
each_arg text args printable = Each-weaker IsArgPrintable (λ a. ReadsAs text (Part n.BlockArg) (IsArgValue a) (arg_text a)) (λ a good after ends. arg_reads text a after good ends) args printable

parens_ahead : (inside rest : List ℕ) → (codes "(" ++ inside ++ codes ")") ++ rest ≡ 40 ∷ (inside ++ (41 ∷ rest))
parens_ahead inside rest = simp append_assoc refl

-- the arguments of a block, in parentheses where there are some
args_read : (text : List ℕ) (args : List BlockArg) (rest : List ℕ) → Each IsArgPrintable args
    → Stands text n.BlockArgs (AreArgValues args) (parens_if_any arg_text args ++ rest) rest
unfolding body written meaning part_fault punctuation_spelling args_of
args_read text [] rest printable = stands_by p.BlockArgsNone (AreArgValues []) reads.nothing refl tt
args_read text (a ∷ args) rest printable =
    let each = each_arg text (a ∷ args) printable in
    let inside = listed_reads text (Part n.BlockArg) n.MoreBlockArgs IsArgValue AreArgValues arg_text more_args a args each.0 each.1 (41 ∷ rest) refl in
    rw (parens_ahead (listed arg_text (a ∷ args)) rest)
    (stands_by p.BlockArgsSome (AreArgValues (a ∷ args)) (punctuation_here m.LeftParen 40 refl refl (behind inside.reads (punctuation_here m.RightParen 41 refl refl reads.nothing))) refl
    (inside.is_first, inside.are_others))

args_end : (args : List BlockArg) (rest : List ℕ) → Ends (parens_if_any arg_text args ++ (58 ∷ rest))
args_end [] rest = refl
args_end (a ∷ args) rest = refl

pub record IsCodeValue (functions : List Function) (before : List Inst) (last : Inst) (x : PartValue) : Type 0 where
  pub insts : AllZip (IsInstWritten functions) before (insts_of x)
  pub terminator : IsInstWritten functions last (terminator_of x)

-- the lines of some instructions and of the terminator behind them
code_reads : (text : List ℕ) (functions : List Function) (insts : List Inst) (last : Inst) (after : List ℕ)
    → Each (IsInsidePrintable functions) insts → IsEndPrintable functions last
    → Stands text n.Code (IsCodeValue functions insts last) (indented (inst_text functions) insts ++ (32 ∷ 32 ∷ (inst_text functions last ++ (10 ∷ after)))) after
unfolding body written meaning part_fault insts_of terminator_of
code_reads text functions [] last after printable end =
    let terminator = terminator_reads text functions last (10 ∷ after) end.printable end.ends end.unnamed refl in
    stands_by p.CodeEnd (IsCodeValue functions [] last) (reads.blank 32 refl (reads.blank 32 refl (part_here terminator (reads.blank 10 refl reads.nothing)))) refl
    (record { insts = tt; terminator = terminator.stands })
code_reads text functions (i ∷ insts) last after printable end =
    let others = code_reads text functions insts last after printable.1 end in
    let rest = 32 ∷ 32 ∷ (inst_text functions last ++ (10 ∷ after)) in
    let inst = inst_reads text functions i (10 ∷ (indented (inst_text functions) insts ++ rest)) printable.0.printable printable.0.goes_on refl in
    rw (line_ahead (inst_text functions i) (indented (inst_text functions) insts) rest)
    (stands_by p.CodeInst (IsCodeValue functions (i ∷ insts) last)
    (reads.blank 32 refl (reads.blank 32 refl (part_here inst (reads.blank 10 refl (part_here others reads.nothing))))) refl
    (record { insts = (inst.stands, others.stands.insts); terminator = others.stands.terminator }))

block_ahead : (label args insts last after : List ℕ)
    → (((label ++ args ++ codes ":") ++ line_feed) ++ insts ++ ((codes "  " ++ (last ++ line_feed)) ++ [])) ++ after
    ≡ label ++ (args ++ (58 ∷ 10 ∷ (insts ++ (32 ∷ 32 ∷ (last ++ (10 ∷ after))))))
block_ahead label args insts last after = simp append_assoc refl

few_args : (args : List BlockArg) (x : PartValue) → AreArgValues args x → length args ≤ 64 → passed limit.Arguments 64 (map arg_place (args_of x)) ≡ None
few_args args x written few =
    let same : length (map arg_place (args_of x)) ≡ length args = length-map (args_of x) arg_place ∙ AllZip-long IsArgWritten args (args_of x) written in
    not_passed limit.Arguments 64 (map arg_place (args_of x)) (omega (arith, same, few))

-- the k-th block of its function
abbrev pub IsBlockValue : List Function → ℕ → Block → PartValue → Type 0
IsBlockValue functions k b x = IsBlockWritten functions k b (block_of x)

pub block_reads : (text : List ℕ) (functions : List Function) (k : ℕ) (b : Block) (after : List ℕ) → IsSmall k → IsBlockPrintable functions b
    → Stands text n.Block (IsBlockValue functions k b) (block_text functions k b ++ after) after
unfolding body written meaning part_fault punctuation_spelling kept_of token_of block_of
block_reads text functions k b after small printable =
    let code = code_reads text functions b.insts b.terminator after printable.insts printable.terminator in
    let behind_args = 58 ∷ 10 ∷ (indented (inst_text functions) b.insts ++ (32 ∷ 32 ∷ (inst_text functions b.terminator ++ (10 ∷ after)))) in
    let args = args_read text b.args behind_args printable.args in
    rw (block_ahead (block_name k) (parens_if_any arg_text b.args) (indented (inst_text functions) b.insts) (inst_text functions b.terminator) after)
    (stands_by p.WholeBlock (IsBlockValue functions k b)
    (label_token k small (args_end b.args _) (part_here args (punctuation_here m.Colon 58 refl refl (reads.blank 10 refl (part_here code reads.nothing)))))
    (few_args b.args args.value args.stands printable.few)
    (record { label = refl; args = args.stands; insts = code.stands.insts; terminator = code.stands.terminator }))

-- the blocks behind the first, each behind an empty line
abbrev pub blocks_behind : List Function → ℕ → List Block → List ℕ
blocks_behind functions k blocks = flat_map (λ (k, b). line_feed ++ block_text functions k b) (enumerate_from k blocks)

abbrev pub AreBlockValues : List Function → ℕ → List Block → PartValue → Type 0
AreBlockValues functions k blocks x = AreBlocksWritten functions k blocks (blocks_of x)

pub blocks_read : (text : List ℕ) (functions : List Function) (k : ℕ) (blocks : List Block) (after : List ℕ) → k + length blocks ≤ 1024
    → Each (IsBlockPrintable functions) blocks → Stands text n.Blocks (AreBlockValues functions k blocks) (blocks_behind functions k blocks ++ after) after
unfolding body written meaning part_fault blocks_of
blocks_read text functions k [] after few printable = stands_by p.BlocksEnd (AreBlockValues functions k []) reads.nothing refl tt
blocks_read text functions k (b ∷ blocks) after few printable =
    let others = blocks_read text functions (k + 1) blocks after (omega arith) printable.1 in
    let block = block_reads text functions k b (blocks_behind functions (k + 1) blocks ++ after) (omega arith) printable.0 in
    rw (append_assoc (block_text functions k b) (blocks_behind functions (k + 1) blocks) after)
    (stands_by p.BlocksMore (AreBlockValues functions k (b ∷ blocks)) (reads.blank 10 refl (part_here block (part_here others reads.nothing))) refl
    (block.stands, others.stands))
