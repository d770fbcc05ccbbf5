-- Each row of the table of instructions reads as itself: part by part, from left to right.
use Rattle.std.proofs.Common.{◌≡◌, ◌+◌, ℕ, suc, List, [], ◌∷◌, ◌++◌, length, Some, None, IsTrue, IsFalse, refl, ap, sym, subst, arith, if◌then◌else◌, inr, ◌∙◌}
use Rattle.std.specs.List.{list_any}
use Rattle.std.proofs.lemmas.List.{append_assoc, length-append}
use Rattle.std.proofs.lemmas.Bool.{and_parts}
use Rattle.instruction_table.specs.Forms.{is_terminator, mnemonic_of, parts_of}
use Rattle.instruction_table.specs.declared.forms.Part.{Part}
use Rattle.instruction_table.specs.declared.op.Op.{Op}
use Rattle.instruction_table.specs.declared.op.Op.TheVariants as op
use Rattle.sil_ast.specs.declared.function.Function.{Function}
use Rattle.sil_ast.specs.declared.inst.Inst.{Inst}
use Rattle.sil_ast.specs.declared.operands.Operand.{Operand}
use Rattle.sil_printer.specs.CanonicalInsts.{gap, operands_after, part_text, parts_text}
use Rattle.sil_grammar_tables.specs.Grammar.{body, written}
use Rattle.sil_grammar_tables.specs.Rows.{comma_behind, ends_block, row_body, row_part, symbols_of}
use Rattle.sil_grammar_tables.specs.declared.grammar.Nonterminal.TheVariants as n
use Rattle.sil_grammar_tables.specs.declared.grammar.Production.TheVariants as p
use Rattle.sil_grammar_tables.specs.declared.grammar.Symbol.{Symbol}
use Rattle.sil_grammar_classes.specs.Spelling.{spelling}
use Rattle.sil_grammar_classes.specs.declared.classes.Keyword.TheVariants as k
use Rattle.sil_lexer.specs.declared.token.TokenKind.TheVariants as kind
use Rattle.sil_grammar_modules.specs.Leaves.{leaf_of}
use Rattle.sil_grammar_values.specs.inner.Meaning.{meaning}
use Rattle.sil_grammar_values.specs.Opened.{PartValue}
use Rattle.sil_grammar_values.specs.inner.PartFaults.{fault_of_part, part_fault, parts_fault}
use Rattle.sil_grammar_values.specs.inner.RowMeaning.{behind_part, with_part, with_parts}
use Rattle.sil_grammar_values.specs.Values.{bare_inst, inst_of, token_of}
use Rattle.sil_grammar_tree.specs.WrittenTree.Faults.{earlier}
use Rattle.sil_grammar_tree.specs.declared.written_tree.written_instructions.WrittenInst.{WrittenInst}
use Rattle.numbered_form.specs.Names.{is_word}
use Rattle.sil_grammar.proofs.NumberedReadingLaws.ListsAndFaults.{either_second}
use Rattle.sil_printer_laws.proofs.FixedTokens.{keyword_here}
use Rattle.sil_printer_laws.proofs.PartEnds.{parts_end}
use Rattle.sil_printer_laws.proofs.PartPlaces.{fault_moved, with_part_moved}
use Rattle.sil_printer_laws.proofs.PartReading.{part_reads}
use Rattle.sil_printer_laws.proofs.PartReads.{ReadsPart}
use Rattle.sil_printer_laws.proofs.Pieces.{Ends, Reads, Reads as reads, behind, lexeme_before}
use Rattle.sil_printer_laws.proofs.Printable.{IsInstPrintable}
use Rattle.sil_printer_laws.proofs.ProductionReading.{stands_by}
use Rattle.sil_printer_laws.proofs.RowForms.{RowStands}
use Rattle.sil_printer_laws.proofs.RowGaps.{comma_first, comma_first_is, last_of, parts_behind, parts_row_is}
use Rattle.sil_printer_laws.proofs.RowKept.{all_kept, so_far, turned}
use Rattle.sil_printer_laws.proofs.RowOperands.{AreInRow, AreLeft, all_taken, are_fit, fits, left_by, next_operands, rows_fit, taken_by}
use Rattle.sil_printer_laws.proofs.Written.{IsInstWritten}
use Rattle.sil_printer_laws.proofs.WrittenParts.{mnemonic_written}

-- as many values as symbols
as_many : {text : List ℕ} {ss : List Symbol} {left : List ℕ} {values : List PartValue} {after : List ℕ} → Reads text ss left values after → length values ≡ length ss
as_many (reads.nothing) = refl
as_many (reads.blank byte h r) = as_many r
as_many (reads.token kind spelled accepted is short r) = ap suc (as_many r)
as_many (reads.rule p inside h r) = ap suc (as_many r)

-- what the parts of the row that are still to come put into the instruction, wherever they stand
pub record ReadsRow (text : List ℕ) (functions : List Function) (i : Inst) (parts done : List Part) (all : List Operand) (left after : List ℕ) : Type 0 where
  pub values : List PartValue
  pub reads : Reads text (parts_behind i.op done parts) left values after
  pub written : (front : List PartValue) (w : WrittenInst) → IsInstWritten functions (so_far done all i) w
      → IsInstWritten functions (so_far (turned parts done) i.operands i) (with_parts i.op parts (length front + length (comma_first i.op done parts)) (front ++ values) w)
  pub faultless : (front : List PartValue) (w : WrittenInst) → IsInstWritten functions (so_far done all i) w
      → parts_fault i.op parts (length front + length (comma_first i.op done parts)) (front ++ values) w None ≡ None

-- each mnemonic is a word: computed for all of them
mnemonic_is_word : (o : Op) → IsTrue (is_word (mnemonic_of o))
mnemonic_is_word op.Load = refl
mnemonic_is_word _ = refl

module _ (text : List ℕ) (functions : List Function) (i : Inst) (h : IsInstPrintable functions i) (after : List ℕ) (ends : Ends after) where
  -- a part, and the parts behind it
  module _ (here : Part) (others done : List Part) (all now : List Operand) (left middle : List ℕ)
      (r : ReadsPart text functions i here done all now left middle) (q : ReadsRow text functions i others (here ∷ done) now middle after) where
    module _ (front : List PartValue) where
      abbrev at : ℕ
      at = length front + length (comma_first i.op done (here ∷ others))

      abbrev whole : List PartValue
      whole = front ++ (r.commas ++ (r.inner.values ++ q.values))

      abbrev before : List PartValue
      before = front ++ r.commas

      same_whole : whole ≡ before ++ (r.inner.values ++ q.values)
      same_whole = sym (append_assoc front r.commas (r.inner.values ++ q.values))

      same_at : at ≡ length before
      same_at = ap (λ ss. length front + length ss) (comma_first_is i.op done here others) ∙ ap (λ n. length front + n) (sym (as_many r.led)) ∙ sym (length-append front r.commas)

      -- the part at its place
      part_is : (w : WrittenInst) → with_part i.op here at whole w ≡ with_part i.op here 0 (r.inner.values ++ q.values) w
      part_is w = (λ j. with_part i.op here (same_at j) (same_whole j) w) ∙ with_part_moved before (r.inner.values ++ q.values) i.op here w

      fault_is : (w : WrittenInst) → fault_of_part i.op here at whole w ≡ fault_of_part i.op here 0 (r.inner.values ++ q.values) w
      fault_is w = (λ j. fault_of_part i.op here (same_at j) (same_whole j) w) ∙ fault_moved before (r.inner.values ++ q.values) i.op here w

      -- the parts behind it
      abbrev passed : List PartValue
      passed = before ++ r.inner.values

      whole_passed : whole ≡ passed ++ q.values
      whole_passed = same_whole ∙ sym (append_assoc before r.inner.values q.values)

      at_passed : behind_part i.op here others at ≡ length passed + length (comma_behind i.op here others)
      at_passed =
          let e : at ≡ length before = same_at in
          let m : length r.inner.values ≡ length (symbols_of i.op here) = as_many r.inner.reads in
          let l : length passed ≡ length before + length r.inner.values = length-append before r.inner.values in
          omega (arith, e, m, l)

    with_others : ReadsRow text functions i (here ∷ others) done all left after
    unfolding earlier
    with_others = record {
      values = r.commas ++ (r.inner.values ++ q.values);
      reads = behind r.led (behind r.inner.reads q.reads);
      written = λ front w is.
          subst (IsInstWritten functions (so_far (turned others (here ∷ done)) i.operands i))
          (sym (λ j. with_parts i.op others (at_passed front j) (whole_passed front j) (part_is front w j)))
          (q.written (passed front) (with_part i.op here 0 (r.inner.values ++ q.values) w) (r.inner.stands q.values w is).0);
      faultless = λ front w is.
          (λ j. parts_fault i.op others (at_passed front j) (whole_passed front j) (part_is front w j) ((fault_is front w ∙ (r.inner.stands q.values w is).1) j))
          ∙ q.faultless (passed front) (with_part i.op here 0 (r.inner.values ++ q.values) w) (r.inner.stands q.values w is).0;
    }

  -- the parts from one on
  parts_read : (parts done : List Part) (os all left : List Operand) → IsTrue (are_fit i.op done parts) → AreInRow i.op parts → AreLeft i parts os all left
      → ReadsRow text functions i parts done all (parts_text functions i (last_of done) os parts ++ after) after
  parts_read [] done os all left fit within operands =
      record { values = []; reads = reads.nothing; written = λ front w is. subst (λ os. IsInstWritten functions (so_far done os i) w) (all_taken operands) is; faultless = λ front w is. refl }
  parts_read (here ∷ others) done os all left fit within operands =
      let fits_here = (and_parts (fits i.op done here others) (are_fit i.op (here ∷ done) others) fit).0 in
      let others_text = parts_text functions i (Some here) (operands_after here os) others in
      let others_end = parts_end text functions i h others (here ∷ done) (operands_after here os) after ends in
      let more = parts_read others (here ∷ done) (operands_after here os) (taken_by here all left) (left_by here left)
      (and_parts (fits i.op done here others) (are_fit i.op (here ∷ done) others) fit).1
      (λ test there. within test (either_second (test here) (list_any test others) there))
      (next_operands done here others fits_here operands) in
      rw (append_assoc (part_text functions i os (gap (last_of done) here) here) others_text after)
      (with_others here others done all (taken_by here all left) _ _ (part_reads text functions i h done os all left (others_text ++ after) others_end here others fits_here within operands) more)

  -- the whole row
  row_stands : RowStands text functions after (row_part i.op) i
  unfolding body written meaning part_fault row_body inst_of spelling
  row_stands =
      let row = parts_read (parts_of i.op) [] i.operands [] i.operands (rows_fit i.op) (λ test there. there)
      (record { are = h.parts.operands; shown = inr refl; joined = refl; small = h.operands; types = h.types.operands }) in
      let behind_name = parts_text functions i None i.operands (parts_of i.op) ++ after in
      let name = leaf_of (lexeme_before text kind.Word (mnemonic_of i.op) behind_name) in
      let begun = bare_inst i.op (token_of name).place in
      rw (append_assoc (mnemonic_of i.op) (parts_text functions i None i.operands (parts_of i.op)) after)
      (stands_by (p.Row i.op) _
      (keyword_here (k.Mnemonic i.op) (mnemonic_is_word i.op) (parts_end text functions i h (parts_of i.op) [] i.operands after ends)
      (subst (λ ss. Reads text ss behind_name row.values after) (sym (parts_row_is i.op (parts_of i.op))) row.reads))
      (row.faultless (name ∷ []) begun (mnemonic_written functions i.op _))
      (subst (λ i. IsInstWritten functions i (with_parts i.op (parts_of i.op) 1 (name ∷ row.values) begun)) (all_kept i h.parts)
      (row.written (name ∷ []) begun (mnemonic_written functions i.op _))))

  pub row_reads : IsFalse (is_terminator i.op) → RowStands text functions after n.Row i
  unfolding row_part ends_block
  row_reads inside = subst (λ last. RowStands text functions after (if last then n.Terminator else n.Row) i) inside row_stands

  pub end_reads : IsTrue (is_terminator i.op) → RowStands text functions after n.Terminator i
  unfolding row_part ends_block
  end_reads last = subst (λ last. RowStands text functions after (if last then n.Terminator else n.Row) i) last row_stands
