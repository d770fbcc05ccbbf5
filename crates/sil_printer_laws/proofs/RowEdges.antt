-- The printed blocks of a row read as themselves, by how the row ends.
use Rattle.std.proofs.Common.{◌≡◌, ℕ, List, [], ◌∷◌, ◌++◌, Bool, true, false, IsTrue, refl, ap}
use Rattle.std.specs.List.{AllZip}
use Rattle.std.proofs.lemmas.List.{append_assoc, append-nil}
use Rattle.instruction_table.specs.Forms.{ending_of}
use Rattle.instruction_table.specs.declared.entries.Ending.{Ending}
use Rattle.instruction_table.specs.declared.entries.Ending.TheVariants as ending
use Rattle.instruction_table.specs.declared.op.Op.{Op}
use Rattle.sil_ast.specs.declared.inst.Edge.{Edge}
use Rattle.sil_ast.specs.declared.operands.Operand.{Operand}
use Rattle.sil_ast.specs.declared.place.BlockId.{BlockId}
use Rattle.sil_printer.specs.CanonicalInsts.{block_name, default_word, edge_text, typed_text}
use Rattle.sil_printer.specs.Words.{listed, parens_if_any}
use Rattle.sil_grammar_tables.specs.Rows.{edges_by}
use Rattle.sil_grammar_classes.specs.Spelling.{punctuation_of, punctuation_spelling, signs}
use Rattle.sil_grammar_values.specs.Opened.{PartValue}
use Rattle.sil_grammar_values.specs.inner.RowMeaning.{edges_at}
use Rattle.numbered_form.specs.inner.Limits.{IsEdgeInLimits}
use Rattle.numbered_form.specs.Lists.{Each}
use Rattle.numbered_form.specs.Names.{IsEdgeSpelled}
use Rattle.numbered_form.specs.inner.Parts.{are_edges_by}
use Rattle.numbered_form.specs.inner.Types.{HasEdgeTypes}
use Rattle.sil_printer_laws.proofs.EdgeForms.{IsOneBranch, IsTwoBranches, branch, branch_to, either_to, one_branch, only_to, switch_edges, two_branches}
use Rattle.sil_printer_laws.proofs.EdgeReading.{branch_reads, switch_reads}
use Rattle.sil_printer_laws.proofs.OperandForms.{impossible}
use Rattle.sil_printer_laws.proofs.PartReads.{ReadsAsValues}
use Rattle.sil_printer_laws.proofs.Pieces.{Ends, Reads as reads, behind}
use Rattle.sil_printer_laws.proofs.Printable.{IsSmallEdge}
use Rattle.sil_printer_laws.proofs.Tokens.{punctuation_token}
use Rattle.sil_printer_laws.proofs.Written.{IsEdgeWritten}

-- the row goes to blocks
abbrev pub has_blocks : Ending → Bool
has_blocks ending.OneBranch = true
has_blocks ending.TwoBranches = true
has_blocks ending.Cases = true
has_blocks _ = false

module _ (text : List ℕ) (o : Op) (rest : List ℕ) (ends : Ends rest) where
  -- the blocks read as what the row keeps of them
  abbrev pub ReadsEdges : Ending → List Edge → Type 0
  ReadsEdges e es = ReadsAsValues text (edges_by e) (λ values. (others : List PartValue) → AllZip IsEdgeWritten es (edges_at e 0 (values ++ others))) (listed (edge_text o) es ++ rest) rest

  plain_edge : (block : BlockId) (args : List Operand) → default_word (ending_of o) ≡ [] → edge_text o (branch_to block args) ≡ block_name block.0 ++ parens_if_any typed_text args
  plain_edge block args plain = ap (λ word. word ++ block_name block.0 ++ parens_if_any typed_text args) plain

  one_edge : (es : List Edge) → default_word (ending_of o) ≡ [] → IsOneBranch es → ReadsEdges ending.OneBranch es
  one_edge _ plain (only_to _ (branch block args small typed few)) =
      let edge = branch_reads text block args rest small typed few ends in
      rw (append-nil (edge_text o (branch_to block args)), plain_edge block args plain)
      record { values = _; reads = edge.reads; stands = λ others. (edge.stands, tt) }

  two_edges : (es : List Edge) → default_word (ending_of o) ≡ [] → IsTwoBranches es → ReadsEdges ending.TwoBranches es
  unfolding punctuation_of punctuation_spelling signs
  two_edges _ plain (either_to _ _ (branch block args small typed few) (branch other other_args other_small other_typed other_few)) =
      let second = branch_reads text other other_args rest other_small other_typed other_few ends in
      let second_text = block_name other.0 ++ parens_if_any typed_text other_args in
      let first_text = block_name block.0 ++ parens_if_any typed_text args in
      let first = branch_reads text block args (44 ∷ 32 ∷ second_text ++ rest) small typed few refl in
      rw (
        append-nil (edge_text o (branch_to other other_args)),
        plain_edge other other_args plain,
        plain_edge block args plain,
        append_assoc first_text (44 ∷ 32 ∷ second_text) rest,
      )
      record {
        values = _;
        reads = behind first.reads (punctuation_token 44 refl refl (reads.blank 32 refl second.reads));
        stands = λ others. (first.stands, (second.stands, tt));
      }

  pub edges_read : (e : Ending) (es : List Edge) → ending_of o ≡ e → IsTrue (has_blocks e) → IsTrue (are_edges_by e es)
      → Each IsEdgeSpelled es → Each IsSmallEdge es → Each HasEdgeTypes es → Each IsEdgeInLimits es → ReadsEdges e es
  edges_read ending.OneBranch es is has h spelled small types few = one_edge es (ap default_word is) (one_branch es h small types few)
  edges_read ending.TwoBranches es is has h spelled small types few = two_edges es (ap default_word is) (two_branches es h small types few)
  edges_read ending.Cases es is has h spelled small types few =
      let cases = switch_reads o (ap default_word is) text es rest (switch_edges es h spelled small) ends in
      record { values = _; reads = cases.reads; stands = λ others. cases.stands }
  edges_read _ es is has h spelled small types few = impossible has
