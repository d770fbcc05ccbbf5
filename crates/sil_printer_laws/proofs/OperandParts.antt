-- Each part of a row that takes operands reads as itself.
use Rattle.std.proofs.Common.{◌≡◌, ◌≤◌, ℕ, List, [], ◌∷◌, ◌++◌, length, map, slice_get, take, Some, None, Bool, true, false, IsTrue, IsFalse, refl, sym, subst, codes, if◌then◌else◌, ◌||◌, ◌&&◌}
use Rattle.std.specs.Prelude.{not}
use Rattle.std.specs.List.{AllZip, list_all}
use Rattle.std.proofs.lemmas.List.{append_assoc}
use Rattle.std.proofs.lemmas.Bool.{and_parts}
use Rattle.instruction_table.specs.Forms.{may_lack_operand}
use Rattle.instruction_table.specs.declared.forms.Part.{Part}
use Rattle.instruction_table.specs.declared.forms.Part.TheVariants as form
use Rattle.sil_ast.specs.declared.function.Function.{Function}
use Rattle.sil_ast.specs.declared.inst.Inst.{Inst}
use Rattle.sil_ast.specs.declared.operands.Operand.{Operand}
use Rattle.sil_printer.specs.CanonicalInsts.{bare_text, gap, part_text, typed_text}
use Rattle.sil_printer.specs.Words.{if_there, in_parens, listed}
use Rattle.sil_grammar_tables.specs.Grammar.{body, written}
use Rattle.sil_grammar_tables.specs.Rows.{brings_comma, symbols_of}
use Rattle.sil_grammar_tables.specs.Rows as rows
use Rattle.sil_grammar_tables.specs.declared.grammar.Nonterminal.TheVariants as n
use Rattle.sil_grammar_tables.specs.declared.grammar.Production.TheVariants as p
use Rattle.sil_grammar_tables.specs.declared.grammar.Symbol.TheVariants.{Part as NamedPart}
use Rattle.sil_grammar_classes.specs.Spelling.{punctuation_of, punctuation_spelling, signs}
use Rattle.sil_rules.specs.declared.limit_word.LimitWord.TheVariants as limit
use Rattle.sil_grammar_modules.specs.Leaves.{kept_of}
use Rattle.sil_grammar_values.specs.inner.Meaning.{meaning}
use Rattle.sil_grammar_values.specs.inner.PartFaults.{part_fault}
use Rattle.sil_grammar_values.specs.inner.RowMeaning.{bare_operand, typed_by}
use Rattle.sil_grammar_values.specs.Values.{operands_of, token_of, tokens_of}
use Rattle.sil_grammar_tree.specs.WrittenTree.Faults.{passed}
use Rattle.sil_grammar_tree.specs.WrittenTree.Places.{operand_place}
use Rattle.sil_grammar_tree.specs.declared.written_tree.written_instructions.WrittenInst.{WrittenInst}
use Rattle.sil_grammar_tree.specs.declared.written_tree.written_instructions.WrittenOperand.{WrittenOperand}
use Rattle.numbered_form.specs.Lists.{Each, is_empty}
use Rattle.sil_grammar.proofs.NumberedReadingLaws.ListsAndFaults.{both}
use Rattle.numbered_form.specs.inner.Parts.{first_then, is_bare, is_typed}
use Rattle.numbered_form.specs.inner.Types.{HasOperandType}
use Rattle.sil_printer_laws.proofs.ListLimits.{none_passed}
use Rattle.sil_printer_laws.proofs.NameReading.{argument_names_read}
use Rattle.sil_printer_laws.proofs.OperandForms.{all_bare_written, bare_written, impossible, none_there, one_there}
use Rattle.sil_printer_laws.proofs.OperandReading.{listed_operands_read, operand_reads}
use Rattle.sil_printer_laws.proofs.PartReads.{ReadsInner, ReadsPart, by_itself, led, unled}
use Rattle.sil_printer_laws.proofs.Pieces.{Ends, Reads, Reads as reads, Stands, behind}
use Rattle.sil_printer_laws.proofs.Printable.{IsSmallOperand}
use Rattle.sil_printer_laws.proofs.ProductionReading.{stands_by}
use Rattle.sil_printer_laws.proofs.RowGaps.{comma_gap, is_behind_item, last_of, own_comma}
use Rattle.sil_printer_laws.proofs.RowKept.{so_far}
use Rattle.sil_printer_laws.proofs.Tokens.{punctuation_token, value_token}
use Rattle.sil_printer_laws.proofs.Written.{IsInstWritten, IsOperandWritten}
use Rattle.sil_printer_laws.proofs.WrittenParts.{with_operands}

-- two lists side by side, and two behind them
pub zip_append : {A B : Type 0} (R : A → B → Type 0) (xs others : List A) (ys more : List B) → AllZip R xs ys → AllZip R others more → AllZip R (xs ++ others) (ys ++ more)
zip_append R [] others [] more h k = k
zip_append R [] others (y ∷ ys) more h k = absurd h
zip_append R (x ∷ xs) others [] more h k = absurd h
zip_append R (x ∷ xs) others (y ∷ ys) more h k = (h.0, zip_append R xs others ys more h.1 k)

module _ (text : List ℕ) (functions : List Function) (i : Inst) (done : List Part) (all : List Operand) (rest : List ℕ) where
  abbrev lead : Part → List ℕ
  lead here = gap (last_of done) here

  -- a part that takes these of the operands before it
  abbrev pub Takes : Part → List Operand → List Operand → Type 0
  Takes here os taken = ReadsPart text functions i here done all (all ++ taken) (part_text functions i os (lead here) here ++ rest) rest

  -- with these operands more, within the limit
  more_written : (taken : List Operand) (w : WrittenInst) (ws : List WrittenOperand) → IsInstWritten functions (so_far done all i) w → AllZip IsOperandWritten taken ws
      → IsInstWritten functions (record (so_far done all i) { operands = all ++ taken }) (record w { operands = w.operands ++ ws })
  more_written taken w ws is h = with_operands functions (so_far done all i) w (all ++ taken) (w.operands ++ ws) is (zip_append IsOperandWritten all taken w.operands ws is.operands h)

  few_written : (taken : List Operand) (w : WrittenInst) (ws : List WrittenOperand) → length (all ++ taken) ≤ 64 → IsInstWritten functions (so_far done all i) w → AllZip IsOperandWritten taken ws
      → passed limit.Arguments 64 (map operand_place (w.operands ++ ws)) ≡ None
  few_written taken w ws few is h =
      none_passed IsOperandWritten operand_place limit.Arguments 64 (all ++ taken) (w.operands ++ ws) (zip_append IsOperandWritten all taken w.operands ws is.operands h) few

  -- `%1 : $T`
  typed_one : Ends rest → IsFalse (may_lack_operand i.op) → (x : Operand) (os : List Operand) → IsTrue (is_typed x) → IsSmallOperand x → HasOperandType x → Takes form.Typed (x ∷ os) (x ∷ [])
  unfolding symbols_of rows.operand_of brings_comma
  typed_one ends never x os typed small has_type =
      let operand = operand_reads text x rest typed small has_type ends in
      led (typed_text x) refl never record {
        values = operand.value ∷ [];
        reads = subst (λ lack. Reads text (NamedPart (if lack then n.EnumOperand else n.Operand) ∷ []) (typed_text x ++ rest) (operand.value ∷ []) rest) (sym never) operand.reads;
        stands = λ others w is. (
          more_written (x ∷ []) w (typed_by (may_lack_operand i.op) operand.value) is
              (subst (λ lack. AllZip IsOperandWritten (x ∷ []) (typed_by lack operand.value)) (sym never) (operand.stands, tt)),
          refl,
        );
      }

  -- `, %1 : $T`, or nothing
  lacking_reads : Ends rest → (os : List Operand) → IsTrue (list_all is_typed (take 1 os)) → Each IsSmallOperand os → Each HasOperandType os
      → Stands text n.EnumOperand (λ x. AllZip IsOperandWritten (take 1 os) (operands_of x)) (if_there (codes ", ") typed_text (slice_get os 0) ++ rest) rest
  unfolding body written meaning part_fault operands_of punctuation_of punctuation_spelling signs
  lacking_reads ends [] typed small types = stands_by p.EnumOperandNone _ reads.nothing refl tt
  lacking_reads ends (x ∷ os) typed small types =
      let operand = operand_reads text x rest (and_parts (is_typed x) true typed).0 small.0 types.0 ends in
      stands_by p.EnumOperandSome _ (punctuation_token 44 refl refl (reads.blank 32 refl operand.reads)) refl (operand.stands, tt)

  typed_or_none : Ends rest → IsTrue (may_lack_operand i.op) → IsTrue (is_behind_item done)
      → (os : List Operand) → IsTrue (list_all is_typed (take 1 os)) → Each IsSmallOperand os → Each HasOperandType os
      → Takes form.Typed os (take 1 os)
  unfolding symbols_of rows.operand_of brings_comma
  typed_or_none ends may item os typed small types =
      let operand = lacking_reads ends os typed small types in
      rw (comma_gap done item)
      (unled (own_comma i.op done form.Typed may) record {
        values = operand.value ∷ [];
        reads = subst (λ lack. Reads text (NamedPart (if lack then n.EnumOperand else n.Operand) ∷ []) (if_there (codes ", ") typed_text (slice_get os 0) ++ rest) (operand.value ∷ []) rest)
            (sym may) operand.reads;
        stands = λ others w is. (
          more_written (take 1 os) w (typed_by (may_lack_operand i.op) operand.value) is
              (subst (λ lack. AllZip IsOperandWritten (take 1 os) (typed_by lack operand.value)) (sym may) operand.stands),
          refl,
        );
      })

  -- one that is there has a type
  typed_front : (rest_fits : List Operand → Bool) (lack : Bool) (os : List Operand) → IsTrue (first_then is_typed rest_fits os || (lack && is_empty os)) → IsTrue (list_all is_typed (take 1 os))
  typed_front rest_fits lack [] h = refl
  typed_front rest_fits lack (x ∷ os) h =
      both (is_typed x) true (and_parts (is_typed x) (rest_fits os) (one_there (is_typed x && rest_fits os) lack h)).0 refl

  -- an operand with its type, which may be lacking in some rows
  pub typed_part : (lack : Bool) → may_lack_operand i.op ≡ lack → IsTrue (not lack || is_behind_item done) → Ends rest
      → (rest_fits : List Operand → Bool) (os : List Operand) → IsTrue (first_then is_typed rest_fits os || (lack && is_empty os)) → Each IsSmallOperand os → Each HasOperandType os
      → Takes form.Typed os (take 1 os)
  typed_part true may item ends rest_fits os h small types = typed_or_none ends may item os (typed_front rest_fits true os h) small types
  typed_part false never item ends rest_fits [] h small types = impossible h
  typed_part false never item ends rest_fits (x ∷ os) h small types =
      typed_one ends never x os (and_parts (is_typed x) (rest_fits os) (one_there (is_typed x && rest_fits os) false h)).0 small.0 types.0

  -- `%1`, which lacks in no row
  pub bare_part : (lack : Bool) → IsTrue (not lack) → Ends rest
      → (rest_fits : List Operand → Bool) (os : List Operand) → IsTrue (first_then is_bare rest_fits os || (lack && is_empty os)) → Each IsSmallOperand os
      → Takes form.Bare os (take 1 os)
  unfolding symbols_of brings_comma token_of kept_of
  bare_part lack never ends rest_fits [] h small = none_there lack never h
  bare_part lack never ends rest_fits (x ∷ os) h small =
      let bare = (and_parts (is_bare x) (rest_fits os) (one_there (is_bare x && rest_fits os) lack h)).0 in
      led (bare_text x) refl refl record {
        values = _;
        reads = value_token x.value.0 small.0 ends reads.nothing;
        stands = λ others w is. (more_written (x ∷ []) w _ is (bare_written x _ bare refl, tt), refl);
      }

  -- `(%1, %2)`
  pub bare_args_part : (os : List Operand) → IsTrue (list_all is_bare os) → Each IsSmallOperand os → length (all ++ os) ≤ 64 → Takes form.BareArgs os os
  unfolding symbols_of punctuation_of punctuation_spelling signs
  bare_args_part os bare small few =
      let names = argument_names_read (λ o. o.value) text os (41 ∷ rest) small refl in
      let named : AllZip IsOperandWritten os (map bare_operand (tokens_of names.value)) = all_bare_written os (tokens_of names.value) bare names.stands in
      rw (append_assoc (listed bare_text os) (41 ∷ []) rest)
      (by_itself refl record {
        values = _;
        reads = punctuation_token 40 refl refl (behind names.reads (punctuation_token 41 refl refl reads.nothing));
        stands = λ others w is. (more_written os w _ is named, few_written os w _ few is named);
      })

  -- `(%1 : $T, %2 : $U)`
  args_read : (os : List Operand) → IsTrue (list_all is_typed os) → Each IsSmallOperand os → Each HasOperandType os → length (all ++ os) ≤ 64
      → ReadsInner text functions i form.TypedArgs done all (all ++ os) (in_parens typed_text os ++ rest) rest
  unfolding symbols_of punctuation_of punctuation_spelling signs
  args_read os typed small types few =
      let args = listed_operands_read text os (41 ∷ rest) (record { typed = typed; small = small; types = types }) refl in
      rw (append_assoc (listed typed_text os) (41 ∷ []) rest)
      record {
        values = _;
        reads = punctuation_token 40 refl refl (behind args.reads (punctuation_token 41 refl refl reads.nothing));
        stands = λ others w is. (more_written os w _ is args.stands, few_written os w _ few is args.stands);
      }

-- arguments stand behind a text at once, and else behind a blank
args_behind : (text : List ℕ) (functions : List Function) (i : Inst) (before : Part) (done : List Part) (all now os : List Operand) (rest : List ℕ)
    → ReadsInner text functions i form.TypedArgs (before ∷ done) all now (in_parens typed_text os ++ rest) rest
    → ReadsPart text functions i form.TypedArgs (before ∷ done) all now ((gap (Some before) form.TypedArgs ++ in_parens typed_text os) ++ rest) rest
unfolding brings_comma
args_behind text functions i form.Text done all now os rest inner = by_itself refl inner
args_behind text functions i _ done all now os rest inner = led (in_parens typed_text os) refl refl inner

pub typed_args_part : (text : List ℕ) (functions : List Function) (i : Inst) (done : List Part) (all : List Operand) (rest : List ℕ) (os : List Operand)
    → IsTrue (list_all is_typed os) → Each IsSmallOperand os → Each HasOperandType os → length (all ++ os) ≤ 64 → Takes text functions i done all rest form.TypedArgs os os
unfolding brings_comma
typed_args_part text functions i [] all rest os typed small types few = led (in_parens typed_text os) refl refl (args_read text functions i [] all rest os typed small types few)
typed_args_part text functions i (before ∷ done) all rest os typed small types few =
    args_behind text functions i before done all (all ++ os) os rest (args_read text functions i (before ∷ done) all rest os typed small types few)
