-- No name or number goes on with the parts of a row.
use Rattle.std.proofs.Common.{ℕ, List, [], ◌∷◌, ◌++◌, Option, Some, None, Bool, true, false, IsTrue, refl, slice_get, codes, if◌then◌else◌, ◌&&◌}
use Rattle.std.specs.Fmt.{signed_decimal}
use Rattle.std.proofs.lemmas.List.{append_assoc}
use Rattle.instruction_table.specs.Forms.{is_item}
use Rattle.instruction_table.specs.declared.forms.Part.{Part}
use Rattle.instruction_table.specs.declared.forms.Part.TheVariants as part
use Rattle.sil_ast.specs.declared.function.Function.{Function}
use Rattle.sil_ast.specs.declared.inst.Inst.{Inst}
use Rattle.sil_ast.specs.declared.operands.Operand.{Operand}
use Rattle.sil_printer.specs.CanonicalInsts.{bare_text, edge_text, function_name, gap, member_text, operands_after, part_text, parts_text, quoted, signature_word, type_word, typed_text}
use Rattle.sil_printer.specs.Words.{if_there, in_parens, listed}
use Rattle.sil_printer_laws.proofs.DebugReading.{ends_debug}
use Rattle.sil_printer_laws.proofs.Pieces.{Ends}
use Rattle.sil_printer_laws.proofs.Printable.{IsInstPrintable}
use Rattle.sil_printer_laws.proofs.QualifierReading.{ends_flags, ends_qualifier}
use Rattle.sil_printer_laws.proofs.RowGaps.{first_gap, is_led, last_of, next_gap}

blank_ends : (comma : Bool) (rest : List ℕ) → Ends ((if comma then codes ", " else codes " ") ++ rest)
blank_ends true rest = refl
blank_ends false rest = refl

gap_ends : (done : List Part) (here : Part) (rest : List ℕ) → IsTrue (is_led done here) → Ends (gap (last_of done) here ++ rest)
gap_ends [] here rest led = rw (first_gap here led) refl
gap_ends (before ∷ done) here rest led = rw (next_gap before here done led) (blank_ends (is_item before && is_item here) rest)

shown_ends : {A : Type 0} (lead : List ℕ) (f : A → List ℕ) (o : Option A) (rest : List ℕ) → ((behind : List ℕ) → Ends (lead ++ behind)) → Ends rest → Ends (if_there lead f o ++ rest)
shown_ends lead f None rest led ends = ends
shown_ends lead f (Some x) rest led ends = rw (append_assoc lead (f x) rest) (led (f x ++ rest))

args_end_by : (before : Part) (os : List Operand) (rest : List ℕ) → Ends ((gap (Some before) part.TypedArgs ++ in_parens typed_text os) ++ rest)
args_end_by part.Text os rest = refl
args_end_by _ os rest = refl

args_end : (done : List Part) (os : List Operand) (rest : List ℕ) → Ends ((gap (last_of done) part.TypedArgs ++ in_parens typed_text os) ++ rest)
args_end [] os rest = refl
args_end (before ∷ done) os rest = args_end_by before os rest

module _ (text : List ℕ) (functions : List Function) (i : Inst) (h : IsInstPrintable functions i) where
  part_ends : (done : List Part) (here : Part) (os : List Operand) (rest : List ℕ) → Ends rest → Ends (part_text functions i os (gap (last_of done) here) here ++ rest)
  part_ends done part.Flags os rest ends = ends_flags i.lexical i.var_decl rest ends
  part_ends done part.Qualifier os rest ends = ends_qualifier i.qualifier rest ends
  part_ends done part.Typed os rest ends = shown_ends (gap (last_of done) part.Typed) typed_text (slice_get os 0) rest (λ behind. gap_ends done part.Typed behind refl) ends
  part_ends done part.Bare os rest ends = shown_ends (gap (last_of done) part.Bare) bare_text (slice_get os 0) rest (λ behind. gap_ends done part.Bare behind refl) ends
  part_ends done part.To os rest ends = rw (append_assoc (gap (last_of done) part.To) (codes "to") rest) (gap_ends done part.To (codes "to" ++ rest) refl)
  part_ends done part.TypeWord os rest ends = shown_ends (gap (last_of done) part.TypeWord) type_word i.ty rest (λ behind. gap_ends done part.TypeWord behind refl) ends
  part_ends done part.Member os rest ends = shown_ends (gap (last_of done) part.Member) (member_text i.op) i.member rest (λ behind. gap_ends done part.Member behind refl) ends
  part_ends done part.Number os rest ends = shown_ends (gap (last_of done) part.Number) signed_decimal i.number rest (λ behind. gap_ends done part.Number behind refl) ends
  part_ends done part.Text os rest ends = shown_ends (gap (last_of done) part.Text) quoted i.text rest (λ behind. gap_ends done part.Text behind refl) ends
  part_ends done part.Callee os rest ends = shown_ends (gap (last_of done) part.Callee) (function_name functions) i.function rest (λ behind. gap_ends done part.Callee behind refl) ends
  part_ends done part.BareArgs os rest ends = refl
  part_ends done part.TypedArgs os rest ends = args_end done os rest
  part_ends done part.ResultType os rest ends = shown_ends (codes " : ") type_word i.ty rest (λ behind. refl) ends
  part_ends done part.SignatureWord os rest ends = shown_ends (codes " : ") signature_word i.signature rest (λ behind. refl) ends
  part_ends done part.Debug os rest ends = ends_debug text rest ends i.debug h.spelled.debug h.literals.argno
  part_ends done part.Edges os rest ends =
      rw (append_assoc (gap (last_of done) part.Edges) (listed (edge_text i.op) i.edges) rest) (gap_ends done part.Edges (listed (edge_text i.op) i.edges ++ rest) refl)

  pub parts_end : (parts done : List Part) (os : List Operand) (after : List ℕ) → Ends after → Ends (parts_text functions i (last_of done) os parts ++ after)
  parts_end [] done os after ends = ends
  parts_end (here ∷ others) done os after ends =
      let behind = parts_text functions i (Some here) (operands_after here os) others in
      rw (append_assoc (part_text functions i os (gap (last_of done) here) here) behind after)
      (part_ends done here os (behind ++ after) (parts_end others (here ∷ done) (operands_after here os) after ends))
