-- How a part of a row reads: its tokens and parts of the grammar, and what they put into the instruction.
use Rattle.std.proofs.Common.{◌≡◌, ℕ, List, [], ◌∷◌, ◌++◌, Option, Some, None, IsTrue, IsFalse, IfSome, is_some, true, refl, subst, sym}
use Rattle.std.proofs.lemmas.List.{append_assoc}
use Rattle.instruction_table.specs.Forms.{is_item}
use Rattle.instruction_table.specs.declared.forms.Part.{Part}
use Rattle.sil_ast.specs.declared.function.Function.{Function}
use Rattle.sil_ast.specs.declared.inst.Inst.{Inst}
use Rattle.sil_ast.specs.declared.operands.Operand.{Operand}
use Rattle.sil_printer.specs.CanonicalInsts.{gap}
use Rattle.sil_printer.specs.Words.{if_there}
use Rattle.sil_grammar_tables.specs.Rows.{brings_comma, symbols_of}
use Rattle.sil_grammar_tables.specs.declared.grammar.Symbol.{Symbol}
use Rattle.sil_grammar_values.specs.Opened.{PartValue}
use Rattle.sil_grammar_values.specs.inner.PartFaults.{fault_of_part}
use Rattle.sil_grammar_values.specs.inner.RowMeaning.{with_part}
use Rattle.sil_grammar_tree.specs.declared.written_tree.written_instructions.WrittenInst.{WrittenInst}
use Rattle.sil_printer_laws.proofs.OperandForms.{impossible}
use Rattle.sil_printer_laws.proofs.Pieces.{Reads}
use Rattle.sil_printer_laws.proofs.RowGaps.{comma_before, gap_reads, is_led, last_of, no_comma, no_gap}
use Rattle.sil_printer_laws.proofs.RowKept.{so_far}
use Rattle.sil_printer_laws.proofs.Written.{IsInstWritten}

-- a part that is there
pub record IsThere {A : Type 0} (o : Option A) : Type 0 where
  pub value : A
  pub is : o ≡ Some value

pub is_there : {A : Type 0} (o : Option A) → is_some o ≡ true → IsThere o
is_there None h = impossible h
is_there (Some x) h = record { value = x; is = refl }

pub of_it : {A : Type 0} (P : A → Type 0) {o : Option A} (given : IsThere o) → IfSome o P → P given.value
of_it P given h = subst (λ o. IfSome o P) given.is h

-- bytes read as symbols with some values, of which P holds
pub record ReadsAsValues (text : List ℕ) (ss : List Symbol) (P : List PartValue → Type 0) (left after : List ℕ) : Type 0 where
  pub values : List PartValue
  pub reads : Reads text ss left values after
  pub stands : P values

module _ (text : List ℕ) (functions : List Function) (i : Inst) (here : Part) (done : List Part) (before now : List Operand) where
  -- an instruction that has what it should of the parts before has this one too, and no fault in it
  abbrev pub Puts : List PartValue → Type 0
  Puts values = (others : List PartValue) (w : WrittenInst) → IsInstWritten functions (so_far done before i) w
      → IsInstWritten functions (so_far (here ∷ done) now i) (with_part i.op here 0 (values ++ others) w) × (fault_of_part i.op here 0 (values ++ others) w ≡ None)

  -- the part reads, without the comma before it
  abbrev pub ReadsInner : List ℕ → List ℕ → Type 0
  ReadsInner left after = ReadsAsValues text (symbols_of i.op here) Puts left after

  -- the part reads, with the comma before it
  pub record ReadsPart (left after : List ℕ) : Type 0 where
    pub commas : List PartValue
    pub middle : List ℕ
    pub led : Reads text (comma_before i.op done here) left commas middle
    pub inner : ReadsInner middle after

module _ {text : List ℕ} {functions : List Function} {i : Inst} {here : Part} {done : List Part} {before now : List Operand} {after : List ℕ} where
  -- no comma stands before it
  pub unled : {left : List ℕ} → comma_before i.op done here ≡ [] → ReadsInner text functions i here done before now left after → ReadsPart text functions i here done before now left after
  unled {left} none inner = record { commas = []; middle = left; led = no_gap text i.op done here left none; inner = inner }

  pub by_itself : {left : List ℕ} → IsFalse (is_item here) → ReadsInner text functions i here done before now left after → ReadsPart text functions i here done before now left after
  by_itself other inner = unled (no_comma i.op done here other) inner

  -- a comma or a blank stands before it
  pub led : (inside : List ℕ) → IsTrue (is_led done here) → IsFalse (brings_comma i.op here) → ReadsInner text functions i here done before now (inside ++ after) after
      → ReadsPart text functions i here done before now ((gap (last_of done) here ++ inside) ++ after) after
  led inside is own inner =
      let comma = gap_reads text i.op done here (inside ++ after) is own in
      rw (append_assoc (gap (last_of done) here) inside after) record { commas = comma.values; middle = inside ++ after; led = comma.reads; inner = inner }

  -- it is printed since it is there
  pub shown : {A : Type 0} (lead : List ℕ) (f : A → List ℕ) {o : Option A} (given : IsThere o)
      → ReadsPart text functions i here done before now ((lead ++ f given.value) ++ after) after → ReadsPart text functions i here done before now (if_there lead f o ++ after) after
  shown lead f given reads = subst (λ o. ReadsPart text functions i here done before now (if_there lead f o ++ after) after) (sym given.is) reads
