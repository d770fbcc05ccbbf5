-- The printed results of an instruction, in front of its row.
use Rattle.std.proofs.Common.{◌≡◌, ℕ, ◌≤◌, List, [], ◌∷◌, ◌++◌, length, Bool, true, false, None, refl, codes, decimal, if◌then◌else◌, arith, sym, subst}
use Rattle.std.proofs.lemmas.List.{append_assoc}
use Rattle.instruction_table.specs.Forms.{has_result_list, mnemonic_of, parts_of}
use Rattle.sil_ast.specs.declared.function.Function.{Function}
use Rattle.sil_ast.specs.declared.inst.Inst.{Inst}
use Rattle.sil_ast.specs.declared.place.ValueId.{ValueId}
use Rattle.sil_printer.specs.CanonicalInsts.{inst_text, parts_text, results_text, value_text}
use Rattle.sil_printer.specs.Words.{in_parens, listed}
use Rattle.sil_grammar_tables.specs.Grammar.{body, written}
use Rattle.sil_grammar_classes.specs.Spelling.{punctuation_of, punctuation_spelling, signs}
use Rattle.sil_grammar_tables.specs.declared.grammar.Nonterminal.TheVariants as n
use Rattle.sil_grammar_tables.specs.declared.grammar.Production.TheVariants as p
use Rattle.sil_grammar_modules.specs.Leaves.{kept_of}
use Rattle.sil_grammar_values.specs.inner.Meaning.{meaning}
use Rattle.sil_grammar_values.specs.inner.PartFaults.{part_fault}
use Rattle.sil_grammar_tree.specs.WrittenTree.Places.{token_place}
use Rattle.sil_grammar_values.specs.Values.{inst_of, token_of, tokens_of}
use Rattle.sil_rules.specs.declared.limit_word.LimitWord.TheVariants as limit
use Rattle.numbered_form.specs.Lists.{Each}
use Rattle.sil_printer_laws.proofs.ListLimits.{none_passed}
use Rattle.sil_printer_laws.proofs.NameReading.{result_names_read}
use Rattle.sil_printer_laws.proofs.Pieces.{Reads as reads, Stands, behind}
use Rattle.sil_printer_laws.proofs.Printable.{IsSmallValue}
use Rattle.sil_printer_laws.proofs.RowForms.{RowStands, row_text}
use Rattle.sil_printer_laws.proofs.ProductionReading.{stands_by}
use Rattle.sil_printer_laws.proofs.Tokens.{punctuation_token, value_token}
use Rattle.sil_printer_laws.proofs.Written.{IsInstWritten, IsValueNamed}
use Rattle.sil_printer_laws.proofs.WrittenParts.{with_results}

module _ (text : List ℕ) (functions : List Function) (after : List ℕ) (i : Inst) (row : RowStands text functions after n.Row i) where
  -- the results in parentheses
  listed_results : (rs : List ValueId) → Each IsSmallValue rs → length rs ≤ 64
      → Stands text n.Inst (λ x. IsInstWritten functions (record i { results = rs }) (inst_of x)) ((in_parens value_text rs ++ codes " = ") ++ (row_text functions i ++ after)) after
  unfolding body written meaning part_fault inst_of punctuation_of punctuation_spelling signs
  listed_results rs small few =
      let names = result_names_read (λ v. v) text rs (41 ∷ 32 ∷ 61 ∷ 32 ∷ row_text functions i ++ after) small refl in
      rw (append_assoc (listed value_text rs) (41 ∷ []) (32 ∷ 61 ∷ 32 ∷ []), append_assoc (listed value_text rs) (41 ∷ 32 ∷ 61 ∷ 32 ∷ []) (row_text functions i ++ after))
      (stands_by p.InstNames _
      (punctuation_token 40 refl refl (behind names.reads (punctuation_token 41 refl refl (reads.blank 32 refl (punctuation_token 61 refl refl (reads.blank 32 refl row.reads))))))
      (none_passed IsValueNamed token_place limit.Arguments 64 rs (tokens_of names.value) names.stands few)
      (with_results functions (record i { results = [] }) (inst_of row.value) rs (tokens_of names.value) row.stands names.stands))

  one_result : (v : ValueId) → IsSmallValue v
      → Stands text n.Inst (λ x. IsInstWritten functions (record i { results = v ∷ [] }) (inst_of x)) ((value_text v ++ codes " = ") ++ (row_text functions i ++ after)) after
  unfolding body written meaning part_fault inst_of token_of kept_of punctuation_of punctuation_spelling signs
  one_result v small =
      rw (append_assoc (decimal v.0) (32 ∷ 61 ∷ 32 ∷ []) (row_text functions i ++ after))
      (stands_by p.InstOneName _
      (value_token v.0 small refl (reads.blank 32 refl (punctuation_token 61 refl refl (reads.blank 32 refl row.reads))))
      refl
      (with_results functions (record i { results = [] }) (inst_of row.value) (v ∷ []) (_ ∷ []) row.stands (refl, tt)))

  one_as : (list : Bool) (v : ValueId) → Each IsSmallValue (v ∷ [])
      → Stands text n.Inst (λ x. IsInstWritten functions (record i { results = v ∷ [] }) (inst_of x))
      (((if list then in_parens value_text (v ∷ []) else value_text v) ++ codes " = ") ++ (row_text functions i ++ after)) after
  one_as true v small = listed_results (v ∷ []) small (omega arith)
  one_as false v small = one_result v small.0

  some_results : (rs : List ValueId) → Each IsSmallValue rs → length rs ≤ 64
      → Stands text n.Inst (λ x. IsInstWritten functions (record i { results = rs }) (inst_of x)) (results_text i.op rs ++ (row_text functions i ++ after)) after
  unfolding body written meaning part_fault
  some_results [] small few = stands_by p.InstUnnamed _ row.reads refl row.stands
  some_results (v ∷ []) small few = one_as (has_result_list i.op) v small
  some_results (v ∷ w ∷ vs) small few = listed_results (v ∷ w ∷ vs) small few

  pub inst_with_results : Each IsSmallValue i.results → length i.results ≤ 64
      → Stands text n.Inst (λ x. IsInstWritten functions i (inst_of x)) (inst_text functions i ++ after) after
  inst_with_results small few =
      let results = results_text i.op i.results in
      rw (append_assoc results (mnemonic_of i.op) (parts_text functions i None i.operands (parts_of i.op)), append_assoc results (row_text functions i) after)
      (some_results i.results small few)

-- a row without results
pub inst_unnamed : (text : List ℕ) (functions : List Function) (after : List ℕ) (i : Inst) → RowStands text functions after n.Terminator i → i.results ≡ []
    → Stands text n.Terminator (λ x. IsInstWritten functions i (inst_of x)) (inst_text functions i ++ after) after
inst_unnamed text functions after i row none =
    subst (λ rs. Stands text n.Terminator (λ x. IsInstWritten functions (record i { results = rs }) (inst_of x)) (inst_text functions (record i { results = rs }) ++ after) after)
    (sym none) row
