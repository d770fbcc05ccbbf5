-- Each part of a row reads as itself.
use Rattle.std.proofs.Common.{◌||◌, ◌≡◌, ◌<◌, ℕ, List, length, [], ◌∷◌, ◌++◌, Option, Some, Bool, true, false, IsTrue, refl, ap, sym, subst, codes, ℤ, IfSome, ◌∙◌}
use Rattle.std.specs.Fmt.{signed_decimal}
use Rattle.std.specs.Prelude.{not}
use Rattle.std.specs.List.{list_any}
use Rattle.std.specs.Option.{option_map}
use Rattle.std.proofs.lemmas.Bool.{and_parts}
use Rattle.instruction_table.specs.Forms.{detail_of, ending_of, may_lack_operand, words_of}
use Rattle.instruction_table.specs.declared.entries.Detail.{Detail}
use Rattle.instruction_table.specs.declared.entries.Detail.TheVariants as detail
use Rattle.instruction_table.specs.declared.entries.Words.{Words}
use Rattle.instruction_table.specs.declared.entries.Words.TheVariants as words
use Rattle.instruction_table.specs.declared.forms.Part.{Part}
use Rattle.instruction_table.specs.declared.forms.Part.TheVariants as form
use Rattle.sil_ast.specs.declared.function.Function.{Function}
use Rattle.sil_ast.specs.declared.inst.Inst.{Inst}
use Rattle.sil_ast.specs.declared.inst.Qualifier.{Qualifier}
use Rattle.sil_ast.specs.declared.member.Member.{Member}
use Rattle.sil_ast.specs.declared.operands.Operand.{Operand}
use Rattle.sil_ast.specs.declared.place.FuncId.{FuncId}
use Rattle.sil_ast.specs.declared.type_name.TypeName.{TypeName}
use Rattle.sil_printer.specs.CanonicalInsts.{edge_text, function_name, gap, member_text, part_text, quoted, signature_word, type_word}
use Rattle.sil_printer.specs.CanonicalInsts as printed
use Rattle.sil_printer.specs.Words.{listed}
use Rattle.sil_grammar_shape.specs.Derivation.{Accepts}
use Rattle.sil_grammar_tables.specs.Rows.{brings_comma, symbols_of, text_by, text_of, word_by}
use Rattle.sil_grammar_tables.specs.Rows as rows
use Rattle.sil_grammar_tables.specs.declared.grammar.Symbol.TheVariants.{Read}
use Rattle.sil_grammar_tables.specs.declared.grammar.Terminal.TheVariants as t
use Rattle.sil_grammar_classes.specs.Spelling.{keyword_of, keywords, known_keyword, punctuation_of, punctuation_spelling, signs, spelling}
use Rattle.sil_grammar_classes.specs.declared.classes.Class.TheVariants as c
use Rattle.instruction_table.specs.BuiltinNames.BuiltinNames.{is_builtin_name}
use Rattle.sil_grammar_modules.specs.Leaves.{kept_of}
use Rattle.sil_grammar_values.specs.Opened.{PartValue}
use Rattle.sil_grammar_values.specs.inner.RowMeaning.{number_by}
use Rattle.sil_grammar_values.specs.Values.{member_of, token_of}
use Rattle.numbered_form.specs.inner.Limits.{IsSignatureInLimits}
use Rattle.numbered_form.specs.inner.Literals.{is_number_by, is_text_by}
use Rattle.numbered_form.specs.Names.{IsMemberSpelled, is_quotable}
use Rattle.numbered_form.specs.inner.Parts.{are_of_parts, is_among, is_bare, is_callee, is_member, is_number, is_signature, is_text, is_type, is_typed, row_has}
use Rattle.sil_grammar.proofs.NumberedReadingLaws.ListsAndFaults.{implied}
use Rattle.numbered_form.specs.inner.Types.{HasSignatureTypes, IsPlainType}
use Rattle.sil_grammar.specs.Classes.{text_class}
use Rattle.sil_grammar.proofs.NumberedLemmas.{between_quotes}
use Rattle.sil_printer_laws.proofs.DebugReading.{any_text, debug_reads}
use Rattle.sil_printer_laws.proofs.FunctionNames.{is_name_at}
use Rattle.sil_printer_laws.proofs.MemberReading.{case_reads, field_reads}
use Rattle.sil_printer_laws.proofs.NumberReading.{element_reads, in_range, literal_reads}
use Rattle.sil_printer_laws.proofs.OperandForms.{impossible}
use Rattle.sil_printer_laws.proofs.PartReads.{IsThere, ReadsPart, by_itself, is_there, led, of_it, shown}
use Rattle.sil_printer_laws.proofs.Pieces.{Ends, Reads, Reads as reads, Stands}
use Rattle.sil_printer_laws.proofs.Printable.{IsInstPrintable}
use Rattle.sil_printer_laws.proofs.QualifierReading.{ReadsQualifier, flags_read, init_reads, qualifier_reads, take_reads}
use Rattle.sil_printer_laws.proofs.RowEdges.{edges_read}
use Rattle.sil_printer_laws.proofs.RowOperands.{AreInRow, AreLeft, args_pass, few_operands, fits, number_fits, printed_there, taken_by}
use Rattle.sil_printer_laws.proofs.OperandParts.{bare_args_part, bare_part, typed_args_part, typed_part}
use Rattle.sil_printer_laws.proofs.RowGaps.{last_of}
use Rattle.sil_printer_laws.proofs.RowKept.{kept_if, so_far}
use Rattle.sil_printer_laws.proofs.SignatureReading.{signature_reads}
use Rattle.sil_printer_laws.proofs.Tokens.{at_token, number_token, punctuation_token, text_token, word_token}
use Rattle.sil_printer_laws.proofs.TypeReading.{type_reads}
use Rattle.sil_printer_laws.proofs.Written.{name_in}
use Rattle.sil_printer_laws.proofs.WrittenParts.{with_debug, with_edges, with_flags, with_function, with_member, with_number, with_qualifier, with_signature, with_text, with_type}

-- the words that the row allows in brackets
word_reads : (text : List ℕ) (allowed : Words) (q : Qualifier) → IsTrue (is_among allowed q) → ReadsQualifier text (word_by allowed) q
word_reads text words.AnyWord q may = qualifier_reads text q
word_reads text words.NoWord q may = qualifier_reads text q
word_reads text words.TakeWord q may = take_reads text q may
word_reads text words.InitWord q may = init_reads text q may

-- a case, or a field
member_reads : (text : List ℕ) (said : Detail) (m : Member) (after : List ℕ) → IsMemberSpelled m → Ends after
    → Stands text (rows.member_by said) (λ x. member_of x ≡ m) (printed.member_by said m ++ after) after
member_reads text detail.Case m after spelled ends = case_reads text m after spelled ends
member_reads text _ m after spelled ends = field_reads text m after spelled ends

-- a text that the row allows is one that the grammar asks for there
text_accepted : (said : Detail) (x : List ℕ) → IsTrue (is_text_by said x) → Accepts (Read (text_by said)) (text_class (is_builtin_name x))
text_accepted detail.Operation x known = subst (λ known. Accepts (Read (t.Just c.BuiltinText)) (text_class known)) (sym known) refl
text_accepted _ x known = any_text (is_builtin_name x)

-- a printed number is read as itself, at the type that is known before it
pub record ReadsNumber (text : List ℕ) (said : Detail) (known : Option TypeName) (z : ℤ) (rest : List ℕ) : Type 0 where
  pub value : PartValue
  pub reads : Reads text (Read (t.Just c.Number) ∷ []) (signed_decimal z ++ rest) (value ∷ []) rest
  pub stands : number_by said known (token_of value).text ≡ Some z

literal_read : (text : List ℕ) (ty : TypeName) (z : ℤ) (rest : List ℕ) → IsPlainType ty
    → IsTrue (is_number_by detail.Literal (Some ty) z) → Ends rest → ReadsNumber text detail.Literal (Some ty) z rest
unfolding token_of kept_of
literal_read text ty z rest plain h ends = let literal = literal_reads ty z plain h in record { value = _; reads = number_token z rest literal.small ends reads.nothing; stands = literal.reads }

number_reads : (text : List ℕ) (said : Detail) (typed : Bool) (ty : Option TypeName) (z : ℤ) (rest : List ℕ) → IsTrue (number_fits said typed) → (IsTrue typed → IsThere ty) → IfSome ty IsPlainType
    → IsTrue (is_number_by said ty z) → Ends rest → ReadsNumber text said (kept_if typed ty) z rest
unfolding token_of kept_of
number_reads text detail.Literal true ty z rest fits given plain h ends =
    let there = given refl in
    subst (λ ty. ReadsNumber text detail.Literal ty z rest) (sym there.is)
    (literal_read text there.value z rest (of_it IsPlainType there plain) (subst (λ ty. IsTrue (is_number_by detail.Literal ty z)) there.is h) ends)
number_reads text detail.Literal false ty z rest fits given plain h ends = impossible fits
number_reads text detail.Element typed ty z rest fits given plain h ends =
    let element = element_reads z h in
    record { value = _; reads = number_token z rest element.small ends reads.nothing; stands = element.reads }
number_reads text _ typed ty z rest fits given plain h ends = impossible fits

module _ (text : List ℕ) (functions : List Function) (i : Inst) (h : IsInstPrintable functions i) (done : List Part) (os all left : List Operand) (rest : List ℕ) (ends : Ends rest) where
  abbrev lead : Part → List ℕ
  lead here = gap (last_of done) here

  -- the part reads as itself behind those that are done, and takes its operands
  abbrev pub IsRead : Part → Type 0
  IsRead here = ReadsPart text functions i here done all (taken_by here all left) (part_text functions i os (lead here) here ++ rest) rest

  number_part : (typed : Bool) → typed ≡ list_any is_type done → IsTrue (number_fits (detail_of i.op) typed) → (IsTrue typed → IsThere i.ty) → IsThere i.number → IsRead form.Number
  unfolding symbols_of brings_comma
  number_part typed is_typed fit typed_there z =
      let inside = number_reads text (detail_of i.op) typed i.ty z.value rest fit typed_there h.types.ty (of_it (λ z. IsTrue (is_number_by (detail_of i.op) i.ty z)) z h.literals.number) ends in
      shown (lead form.Number) signed_decimal z (led (signed_decimal z.value) refl refl record {
        values = inside.value ∷ [];
        reads = inside.reads;
        stands = λ others w is.
            let reads : number_by (detail_of i.op) w.ty (token_of inside.value).text ≡ Some z.value =
            ap (λ ty. number_by (detail_of i.op) ty (token_of inside.value).text) (is.ty ∙ ap (λ typed. kept_if typed i.ty) (sym is_typed)) ∙ inside.stands in
            (with_number functions (so_far done all i) w i.number _ is (reads ∙ sym z.is), in_range _ z.value _ reads);
      })

  -- each part of a row that fits there
  pub part_reads : (here : Part) (others : List Part) → IsTrue (fits i.op done here others) → AreInRow i.op (here ∷ others) → AreLeft i (here ∷ others) os all left → IsRead here
  unfolding symbols_of brings_comma text_of rows.qualifier_of rows.member_of rows.edges_of token_of kept_of keyword_of known_keyword keywords spelling punctuation_of punctuation_spelling signs
  part_reads form.Flags others fit within operands =
      let words = flags_read text i.lexical i.var_decl rest in
      by_itself refl record { values = _; reads = words.reads; stands = λ others w is. (with_flags functions (so_far done all i) w i.lexical i.var_decl _ _ is words.stands.0 words.stands.1, refl) }
  part_reads form.Qualifier others fit within operands =
      let word = word_reads text (words_of i.op) i.qualifier h.parts.qualifier rest in
      by_itself refl record { values = _; reads = word.reads; stands = λ others w is. (with_qualifier functions (so_far done all i) w i.qualifier _ is word.stands, refl) }
  part_reads form.Typed others fit within operands =
      rw (printed_there others os left operands.shown)
      (typed_part text functions i done all rest (may_lack_operand i.op) refl fit ends (are_of_parts others) left operands.are operands.small operands.types)
  part_reads form.Bare others fit within operands =
      rw (printed_there others os left operands.shown)
      (bare_part text functions i done all rest (may_lack_operand i.op) fit ends (are_of_parts others) left operands.are operands.small)
  part_reads form.To others fit within operands =
      led (codes "to") refl refl record { values = _; reads = word_token (codes "to") refl refl ends reads.nothing; stands = λ others w is. (is, refl) }
  part_reads form.TypeWord others fit within operands =
      let ty = is_there i.ty (h.parts.ty ∙ within is_type refl) in
      let inside = type_reads text ty.value rest (of_it IsPlainType ty h.types.ty) ends in
      shown (lead form.TypeWord) type_word ty (led (type_word ty.value) refl refl record {
        values = _;
        reads = punctuation_token 36 refl refl inside.reads;
        stands = λ others w is. (with_type functions (so_far done all i) w i.ty _ is (ap Some inside.stands.ty ∙ sym ty.is), refl);
      })
  part_reads form.Member others fit within operands =
      let m = is_there i.member (h.parts.member ∙ within is_member refl) in
      let inside = member_reads text (detail_of i.op) m.value rest (of_it IsMemberSpelled m h.spelled.member) ends in
      shown (lead form.Member) (member_text i.op) m (led (member_text i.op m.value) refl refl record {
        values = _;
        reads = inside.reads;
        stands = λ others w is. (with_member functions (so_far done all i) w i.member _ is (ap Some inside.stands ∙ sym m.is), refl);
      })
  part_reads form.Number others fit within operands =
      let typed = list_any is_type done in
      let known = number_fits (detail_of i.op) typed in
      number_part typed refl (and_parts known (not typed || row_has is_type i.op) fit).0
      (λ there. is_there i.ty (h.parts.ty ∙ implied typed (row_has is_type i.op) there (and_parts known (not typed || row_has is_type i.op) fit).1))
      (is_there i.number (h.parts.number ∙ within is_number refl))
  part_reads form.Text others fit within operands =
      let x = is_there i.text (h.parts.text ∙ within is_text refl) in
      let accepted = text_accepted (detail_of i.op) x.value (of_it (λ x. IsTrue (is_text_by (detail_of i.op) x)) x h.literals.text) in
      shown (lead form.Text) quoted x (led (quoted x.value) refl refl record {
        values = _;
        reads = text_token x.value rest (of_it (λ x. IsTrue (is_quotable x)) x h.spelled.text) accepted reads.nothing;
        stands = λ others w is. (with_text functions (so_far done all i) w i.text _ is (ap Some (between_quotes x.value) ∙ sym x.is), refl);
      })
  part_reads form.Callee others fit within operands =
      let f = is_there i.function (h.parts.function ∙ within is_callee refl) in
      let named = is_name_at functions f.value (of_it (λ (f : FuncId). f.0 < length functions) f h.function) h.names in
      shown (lead form.Callee) (function_name functions) f (led (function_name functions f.value) refl refl (rw named.text record {
        values = _;
        reads = at_token (name_in functions f.value) named.spelled refl ends reads.nothing;
        stands = λ others w is. (with_function functions (so_far done all i) w i.function _ is (sym (ap (option_map (name_in functions)) f.is)), refl);
      }))
  part_reads form.BareArgs others fit within operands =
      rw (printed_there others os left operands.shown)
      (bare_args_part text functions i done all rest left (args_pass is_bare (may_lack_operand i.op) left operands.are) operands.small (few_operands h.limits.operands operands))
  part_reads form.TypedArgs others fit within operands =
      rw (printed_there others os left operands.shown)
      (typed_args_part text functions i done all rest left (args_pass is_typed (may_lack_operand i.op) left operands.are) operands.small operands.types (few_operands h.limits.operands operands))
  part_reads form.ResultType others fit within operands =
      let ty = is_there i.ty (h.parts.ty ∙ within is_type refl) in
      let inside = type_reads text ty.value rest (of_it IsPlainType ty h.types.ty) ends in
      shown (codes " : ") type_word ty (by_itself refl record {
        values = _;
        reads = reads.blank 32 refl (punctuation_token 58 refl refl (reads.blank 32 refl (punctuation_token 36 refl refl inside.reads)));
        stands = λ others w is. (with_type functions (so_far done all i) w i.ty _ is (ap Some inside.stands.ty ∙ sym ty.is), refl);
      })
  part_reads form.SignatureWord others fit within operands =
      let s = is_there i.signature (h.parts.signature ∙ within is_signature refl) in
      let inside = signature_reads text s.value rest (of_it HasSignatureTypes s h.types.signature) (of_it IsSignatureInLimits s h.limits.signature) ends in
      shown (codes " : ") signature_word s (by_itself refl record {
        values = _;
        reads = reads.blank 32 refl (punctuation_token 58 refl refl (reads.blank 32 refl (punctuation_token 36 refl refl inside.reads)));
        stands = λ others w is. (with_signature functions (so_far done all i) w i.signature _ is (ap Some inside.stands ∙ sym s.is), refl);
      })
  part_reads form.Debug others fit within operands =
      let said = debug_reads text rest ends i.debug h.spelled.debug h.literals.argno in
      by_itself refl record { values = _; reads = said.reads; stands = λ others w is. (with_debug functions (so_far done all i) w i.debug _ is said.stands, refl) }
  part_reads form.Edges others fit within operands =
      let edges = edges_read text i.op rest ends (ending_of i.op) i.edges refl fit h.parts.edges h.spelled.edges h.edges h.types.edges h.limits.edges in
      led (listed (edge_text i.op) i.edges) refl refl record {
        values = edges.values;
        reads = edges.reads;
        stands = λ others w is. (with_edges functions (so_far done all i) w i.edges _ is (edges.stands others), refl);
      }
