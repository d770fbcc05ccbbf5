-- The printed edges of a terminator read as themselves.
use Rattle.std.proofs.Common.{◌≡◌, ℕ, ◌≤◌, List, [], ◌∷◌, ◌++◌, length, Some, IsTrue, refl, ap, sym, codes, decimal, flat_map, true≢false}
use Rattle.std.specs.Prelude.{not}
use Rattle.std.specs.List.{AllZip}
use Rattle.std.proofs.lemmas.List.{append_assoc, append-nil}
use Rattle.sil_ast.specs.declared.inst.Edge.{Edge}
use Rattle.sil_ast.specs.declared.member.Member.{Member}
use Rattle.instruction_table.specs.Forms.{ending_of}
use Rattle.instruction_table.specs.declared.op.Op.{Op}
use Rattle.sil_ast.specs.declared.operands.Operand.{Operand}
use Rattle.sil_ast.specs.declared.place.BlockId.{BlockId}
use Rattle.sil_printer.specs.CanonicalInsts.{block_name, default_word, edge_text, typed_text}
use Rattle.sil_printer.specs.Words.{listed, parens_if_any}
use Rattle.sil_grammar_tables.specs.Grammar.{body, written}
use Rattle.sil_grammar_classes.specs.Spelling.{keyword_of, keywords, known_keyword, punctuation_of, punctuation_spelling, signs, spelling}
use Rattle.sil_grammar_tables.specs.declared.grammar.Nonterminal.TheVariants as n
use Rattle.sil_grammar_tables.specs.declared.grammar.Production.TheVariants as p
use Rattle.sil_grammar_modules.specs.Leaves.{kept_of}
use Rattle.sil_grammar_values.specs.inner.Meaning.{meaning}
use Rattle.sil_grammar_values.specs.inner.PartFaults.{part_fault}
use Rattle.sil_grammar_tree.specs.WrittenTree.Places.{operand_place}
use Rattle.sil_grammar_values.specs.Values.{edge_of, edges_of, operands_of, token_of}
use Rattle.sil_rules.specs.declared.limit_word.LimitWord.TheVariants as limit
use Rattle.numbered_form.specs.Lists.{is_empty}
use Rattle.numbered_form.specs.Names.{IsMemberSpelled}
use Rattle.sil_printer_laws.proofs.EdgeForms.{AreCases, AreSwitchEdges, branch_to, case_before, default_last, no_case}
use Rattle.sil_printer_laws.proofs.ListLimits.{none_passed}
use Rattle.sil_printer_laws.proofs.MemberReading.{case_reads}
use Rattle.sil_printer_laws.proofs.OperandReading.{AreTyped, some_operands_read}
use Rattle.sil_printer_laws.proofs.Pieces.{Ends, Reads as reads, Stands, behind}
use Rattle.sil_printer_laws.proofs.ProductionReading.{stands_by}
use Rattle.sil_printer_laws.proofs.Tokens.{IsSmall, label_token, punctuation_token, word_token}
use Rattle.sil_printer_laws.proofs.Written.{IsEdgeWritten, IsOperandWritten}

-- `(%1 : $T, %2 : $U)`, or nothing
edge_args_read : (text : List ℕ) (os : List Operand) (after : List ℕ) → AreTyped os
    → Stands text n.EdgeArgs (λ x. AllZip IsOperandWritten os (operands_of x)) (parens_if_any typed_text os ++ after) after
unfolding body written meaning part_fault operands_of punctuation_of punctuation_spelling signs
edge_args_read text [] after h = stands_by p.EdgeArgsNone _ reads.nothing refl tt
edge_args_read text (o ∷ os) after h =
    let args = some_operands_read text o os (41 ∷ after) h refl in
    rw (append_assoc (listed typed_text (o ∷ os)) (41 ∷ []) after)
    (stands_by p.EdgeArgsSome _ (punctuation_token 40 refl refl (behind args.reads (punctuation_token 41 refl refl reads.nothing))) refl (args.is_first, args.are_others))

ends_args : (os : List Operand) (after : List ℕ) → Ends after → Ends (parens_if_any typed_text os ++ after)
ends_args [] after ends = ends
ends_args (o ∷ os) after ends = refl

-- `bb1(%1 : $T)`
pub branch_reads : (text : List ℕ) (block : BlockId) (args : List Operand) (after : List ℕ) → IsSmall block.0 → AreTyped args → length args ≤ 64 → Ends after
    → Stands text n.Edge (λ x. IsEdgeWritten (branch_to block args) (edge_of x)) ((block_name block.0 ++ parens_if_any typed_text args) ++ after) after
unfolding body written meaning part_fault edge_of token_of kept_of
branch_reads text block args after small typed few ends =
    let inside = edge_args_read text args after typed in
    rw (append_assoc (decimal block.0) (parens_if_any typed_text args) after)
    (stands_by p.WholeEdge _ (label_token block.0 small (ends_args args after ends) inside.reads)
    (none_passed IsOperandWritten operand_place limit.Arguments 64 args (operands_of inside.value) inside.stands few)
    record { label = refl; args = inside.stands; case_of = refl })

-- the edges of a terminator with cases
module _ (o : Op) (last : default_word (ending_of o) ≡ codes "default ") where
  -- the edges of a `switch_enum` behind the first
  abbrev other_edges_text : List Edge → List ℕ
  other_edges_text es = flat_map (λ e. codes ", " ++ edge_text o e) es

  ends_edges : (es : List Edge) (after : List ℕ) → Ends after → Ends (other_edges_text es ++ after)
  ends_edges [] after ends = ends
  ends_edges (e ∷ es) after ends = refl

  abbrev case_to : BlockId → Member → Edge
  case_to block m = record { block = block; args = []; case_of = Some m }

  -- `case #E.c!enumelt: bb1`, and what stands behind it
  case_edge_reads : (text : List ℕ) (block : BlockId) (m : Member) (es : List Edge) (after : List ℕ) → IsSmall block.0 → IsMemberSpelled m → Ends after
      → Stands text n.SwitchMore (λ x. AllZip IsEdgeWritten es (edges_of x)) (other_edges_text es ++ after) after
      → Stands text n.SwitchPart (λ x. AllZip IsEdgeWritten (case_to block m ∷ es) (edges_of x)) (edge_text o (case_to block m) ++ (other_edges_text es ++ after)) after
  unfolding body written meaning part_fault edges_of token_of kept_of punctuation_of punctuation_spelling signs keyword_of known_keyword keywords spelling
  case_edge_reads text block m es after small spelled ends more =
      let rest = other_edges_text es ++ after in
      let name = case_reads text m (58 ∷ 32 ∷ 98 ∷ 98 ∷ decimal block.0 ++ rest) spelled refl in
      let behind_hash = ((m.owner ++ 46 ∷ []) ++ m.name) ++ codes "!enumelt" in
      rw (
        append-nil ((behind_hash ++ 58 ∷ 32 ∷ []) ++ block_name block.0),
        append_assoc (behind_hash ++ 58 ∷ 32 ∷ []) (block_name block.0) rest,
        append_assoc behind_hash (58 ∷ 32 ∷ []) (block_name block.0 ++ rest),
      )
      (stands_by p.SwitchCase _
      (word_token (codes "case") refl refl refl (reads.blank 32 refl (behind name.reads (punctuation_token 58 refl refl (reads.blank 32 refl
      (label_token block.0 small (ends_edges es after ends) more.reads))))))
      refl
      (record { label = refl; args = tt; case_of = ap Some name.stands }, more.stands))

  -- `default bb1`
  default_edge_reads : (text : List ℕ) (block : BlockId) (after : List ℕ) → IsSmall block.0 → Ends after
      → Stands text n.SwitchPart (λ x. AllZip IsEdgeWritten (branch_to block [] ∷ []) (edges_of x)) (edge_text o (branch_to block []) ++ after) after
  unfolding body written meaning part_fault edges_of token_of kept_of keyword_of known_keyword keywords spelling
  default_edge_reads text block after small ends =
      rw (last, append-nil (decimal block.0))
      (stands_by p.SwitchDefault _ (word_token (codes "default") refl refl refl (reads.blank 32 refl (label_token block.0 small ends reads.nothing))) refl
      (record { label = refl; args = tt; case_of = refl }, tt))

  other_edges_read : (text : List ℕ) (es : List Edge) (after : List ℕ) → AreCases es → Ends after
      → Stands text n.SwitchMore (λ x. AllZip IsEdgeWritten es (edges_of x)) (other_edges_text es ++ after) after
  unfolding body written meaning part_fault edges_of punctuation_of punctuation_spelling signs
  other_edges_read text _ after no_case ends = stands_by p.SwitchMoreEnd _ reads.nothing refl tt
  other_edges_read text _ after (default_last block small) ends =
      let this = default_edge_reads text block after small ends in
      rw (append-nil (edge_text o (branch_to block [])))
      (stands_by p.SwitchMoreSome _ (punctuation_token 44 refl refl (reads.blank 32 refl this.reads)) refl this.stands)
  other_edges_read text _ after (case_before block m es small spelled cases) ends =
      let this = case_edge_reads text block m es after small spelled ends (other_edges_read text es after cases ends) in
      rw (append_assoc (edge_text o (case_to block m)) (other_edges_text es) after)
      (stands_by p.SwitchMoreSome _ (punctuation_token 44 refl refl (reads.blank 32 refl this.reads)) refl this.stands)

  cases_read : (text : List ℕ) (es : List Edge) (after : List ℕ) → IsTrue (not (is_empty es)) → AreCases es → Ends after
      → Stands text n.SwitchPart (λ x. AllZip IsEdgeWritten es (edges_of x)) (listed (edge_text o) es ++ after) after
  cases_read text _ after some no_case ends = absurd (true≢false (sym some))
  cases_read text _ after some (default_last block small) ends =
      rw (append-nil (edge_text o (branch_to block []))) (default_edge_reads text block after small ends)
  cases_read text _ after some (case_before block m es small spelled cases) ends =
      rw (append_assoc (edge_text o (case_to block m)) (other_edges_text es) after)
      (case_edge_reads text block m es after small spelled ends (other_edges_read text es after cases ends))

  -- `case #E.c!enumelt: bb1, default bb2`
  pub switch_reads : (text : List ℕ) (es : List Edge) (after : List ℕ) → AreSwitchEdges es → Ends after
      → Stands text n.SwitchPart (λ x. AllZip IsEdgeWritten es (edges_of x)) (listed (edge_text o) es ++ after) after
  switch_reads text es after h ends = cases_read text es after h.some h.cases ends
