-- Which operands the parts of a row leave to those behind them, and whether the table's rows can be read from left to right.
use Rattle.std.proofs.Common.{◌∙◌, ◌≡◌, ◌≤◌, length, subst, sym, List, [], ◌∷◌, ◌++◌, drop, take, Bool, true, false, IsTrue, refl, ap, ◌⊎◌, inl, inr, ◌||◌, ◌&&◌}
use Rattle.std.specs.Prelude.{not}
use Rattle.std.specs.List.{list_all, list_any}
use Rattle.std.proofs.lemmas.List.{append_assoc, append-nil}
use Rattle.std.proofs.lemmas.Bool.{and_parts}
use Rattle.instruction_table.specs.Forms.{detail_of, ending_of, may_lack_operand, parts_of}
use Rattle.instruction_table.specs.declared.entries.Detail.{Detail}
use Rattle.instruction_table.specs.declared.entries.Detail.TheVariants as detail
use Rattle.instruction_table.specs.declared.forms.Part.{Part}
use Rattle.instruction_table.specs.declared.forms.Part.TheVariants as part
use Rattle.instruction_table.specs.declared.op.Op.{Op}
use Rattle.instruction_table.specs.declared.op.Op.TheVariants as op
use Rattle.sil_ast.specs.declared.inst.Inst.{Inst}
use Rattle.sil_ast.specs.declared.operands.Operand.{Operand}
use Rattle.sil_printer.specs.CanonicalInsts.{operands_after}
use Rattle.numbered_form.specs.Lists.{Each, is_empty}
use Rattle.numbered_form.specs.inner.Parts.{are_of_part, are_of_parts, is_bare, is_type, is_typed, row_has}
use Rattle.sil_grammar.proofs.NumberedReadingLaws.ListsAndFaults.{either_first, either_second}
use Rattle.sil_printer_laws.proofs.OperandForms.{impossible, none_there, one_there}
use Rattle.numbered_form.specs.inner.Types.{HasOperandType}
use Rattle.sil_printer_laws.proofs.Printable.{IsSmallOperand}
use Rattle.sil_printer_laws.proofs.RowEdges.{has_blocks}
use Rattle.sil_printer_laws.proofs.RowGaps.{is_behind_item}
use Rattle.sil_printer_laws.proofs.RowKept.{has_operand}

-- a number is a literal of the type that stands before it, or that of an element
abbrev pub number_fits : Detail → Bool → Bool
number_fits detail.Literal typed = typed
number_fits detail.Element typed = true
number_fits _ typed = false

-- what a part asks of the parts before it and behind it
abbrev pub fits : Op → List Part → Part → List Part → Bool
fits o done part.Typed others = not (may_lack_operand o) || is_behind_item done
fits o done part.Bare others = not (may_lack_operand o)
fits o done part.Number others = number_fits (detail_of o) (list_any is_type done) && (not (list_any is_type done) || row_has is_type o)
fits o done part.BareArgs others = not (list_any has_operand others)
fits o done part.TypedArgs others = not (list_any has_operand others)
fits o done part.Edges others = has_blocks (ending_of o)
fits o done _ others = true

abbrev pub are_fit : Op → List Part → List Part → Bool
are_fit o done [] = true
are_fit o done (here ∷ others) = fits o done here others && are_fit o (here ∷ done) others

-- the rows of the table are so: computed for all of them
pub rows_fit : (o : Op) → IsTrue (are_fit o [] (parts_of o))
rows_fit op.Load = refl
rows_fit _ = refl

-- the operands that a part takes, and those that it leaves
abbrev pub taken_by : Part → List Operand → List Operand → List Operand
taken_by part.Typed all left = all ++ take 1 left
taken_by part.Bare all left = all ++ take 1 left
taken_by part.BareArgs all left = all ++ left
taken_by part.TypedArgs all left = all ++ left
taken_by _ all left = all

abbrev pub left_by : Part → List Operand → List Operand
left_by part.Typed left = drop 1 left
left_by part.Bare left = drop 1 left
left_by part.BareArgs left = []
left_by part.TypedArgs left = []
left_by _ left = left

front_and_rest : (all left : List Operand) → (all ++ take 1 left) ++ drop 1 left ≡ all ++ left
front_and_rest all [] = append_assoc all [] []
front_and_rest all (x ∷ left) = append_assoc all (x ∷ []) left

same_together : (here : Part) (all left : List Operand) → taken_by here all left ++ left_by here left ≡ all ++ left
same_together part.Typed all left = front_and_rest all left
same_together part.Bare all left = front_and_rest all left
same_together part.BareArgs all left = append-nil (all ++ left)
same_together part.TypedArgs all left = append-nil (all ++ left)
same_together _ all left = refl

each_behind : (P : Operand → Type 0) (left : List Operand) → Each P left → Each P (drop 1 left)
each_behind P [] h = tt
each_behind P (x ∷ left) h = h.1

each_left : (P : Operand → Type 0) (here : Part) (left : List Operand) → Each P left → Each P (left_by here left)
each_left P part.Typed left h = each_behind P left h
each_left P part.Bare left h = each_behind P left h
each_left P part.BareArgs left h = tt
each_left P part.TypedArgs left h = tt
each_left P _ left h = h

-- no part takes operands
abbrev pub AreQuiet : List Part → Type 0
AreQuiet parts = IsTrue (not (list_any has_operand parts))

neither : (a b : Bool) → IsTrue (not (a || b)) → IsTrue (not b)
neither true b h = impossible h
neither false b h = h

quiet_one : (here : Part) (fit : List Operand → Bool) (others : Bool) → IsTrue (not (has_operand here || others)) → IsTrue (fit []) → IsTrue (are_of_part here fit [])
quiet_one part.Typed fit others quiet h = impossible quiet
quiet_one part.Bare fit others quiet h = impossible quiet
quiet_one part.BareArgs fit others quiet h = refl
quiet_one part.TypedArgs fit others quiet h = refl
quiet_one _ fit others quiet h = h

quiet_take_none : (parts : List Part) → AreQuiet parts → IsTrue (are_of_parts parts [])
quiet_take_none [] quiet = refl
quiet_take_none (here ∷ others) quiet =
    quiet_one here (are_of_parts others) (list_any has_operand others) quiet (quiet_take_none others (neither (has_operand here) (list_any has_operand others) quiet))

-- the operands that are left are those of the parts, or some may lack
abbrev pub are_left : Op → List Part → List Operand → Bool
are_left o parts left = are_of_parts parts left || (may_lack_operand o && is_empty left)

typed_left : (o : Op) (parts : List Part) (left : List Operand) → IsTrue (are_left o (part.Typed ∷ parts) left) → IsTrue (are_left o parts (drop 1 left))
typed_left o parts [] h = either_second (are_of_parts parts []) (may_lack_operand o && true) h
typed_left o parts (x ∷ left) h =
    either_first (are_of_parts parts left) (may_lack_operand o && is_empty left)
    (and_parts (is_typed x) (are_of_parts parts left) (one_there (is_typed x && are_of_parts parts left) (may_lack_operand o) h)).1

bare_left : (o : Op) (parts : List Part) (left : List Operand) → IsTrue (not (may_lack_operand o)) → IsTrue (are_left o (part.Bare ∷ parts) left) → IsTrue (are_left o parts (drop 1 left))
bare_left o parts [] never h = none_there (may_lack_operand o) never h
bare_left o parts (x ∷ left) never h =
    either_first (are_of_parts parts left) (may_lack_operand o && is_empty left)
    (and_parts (is_bare x) (are_of_parts parts left) (one_there (is_bare x && are_of_parts parts left) (may_lack_operand o) h)).1

quiet_left : (o : Op) (parts : List Part) → AreQuiet parts → IsTrue (are_left o parts [])
quiet_left o parts quiet = either_first (are_of_parts parts []) (may_lack_operand o && true) (quiet_take_none parts quiet)

next_left : (o : Op) (done : List Part) (here : Part) (others : List Part) (left : List Operand) → IsTrue (fits o done here others)
    → IsTrue (are_left o (here ∷ others) left) → IsTrue (are_left o others (left_by here left))
next_left o done part.Typed others left fit h = typed_left o others left h
next_left o done part.Bare others left fit h = bare_left o others left fit h
next_left o done part.BareArgs others left fit h = quiet_left o others fit
next_left o done part.TypedArgs others left fit h = quiet_left o others fit
next_left o done _ others left fit h = h

-- the printer has the operands that are left, or no part prints any
abbrev pub ArePrinted : List Part → List Operand → List Operand → Type 0
ArePrinted parts os left = AreQuiet parts ⊎ (os ≡ left)

behind_one : (o : List Operand) (left : List Operand) (parts : List Part) → IsTrue false ⊎ (o ≡ left) → ArePrinted parts (drop 1 o) (drop 1 left)
behind_one o left parts (inl quiet) = impossible quiet
behind_one o left parts (inr e) = inr (ap (drop 1) e)

next_printed : (o : Op) (done : List Part) (here : Part) (others : List Part) (os left : List Operand) → IsTrue (fits o done here others)
    → ArePrinted (here ∷ others) os left → ArePrinted others (operands_after here os) (left_by here left)
next_printed o done part.Typed others os left fit h = behind_one os left others h
next_printed o done part.Bare others os left fit h = behind_one os left others h
next_printed o done part.BareArgs others os left fit h = inl fit
next_printed o done part.TypedArgs others os left fit h = inl fit
next_printed o done _ others os left fit h = h

-- where a part takes operands, the printer has those that are left
pub printed_there : (parts : List Part) (os left : List Operand) → IsTrue false ⊎ (os ≡ left) → os ≡ left
printed_there parts os left (inl quiet) = impossible quiet
printed_there parts os left (inr e) = e

-- at the end none is left
none_left : (o : Op) (left : List Operand) → IsTrue (are_left o [] left) → [] ≡ left
none_left o [] h = refl
none_left o (x ∷ left) h = impossible (one_there false (may_lack_operand o) h)

-- arguments are all that is left
pub args_pass : (test : Operand → Bool) (lack : Bool) (left : List Operand) → IsTrue (list_all test left || (lack && is_empty left)) → IsTrue (list_all test left)
args_pass test lack [] h = refl
args_pass test lack (x ∷ left) h = one_there (list_all test (x ∷ left)) lack h

-- some parts stand in the row
abbrev pub AreInRow : Op → List Part → Type 0
AreInRow o parts = (test : Part → Bool) → IsTrue (list_any test parts) → IsTrue (row_has test o)

-- what is left of an instruction's operands for some parts, and what the parts before have taken
pub record AreLeft (i : Inst) (parts : List Part) (os all left : List Operand) : Type 0 where
  pub are : IsTrue (are_left i.op parts left)
  pub shown : ArePrinted parts os left
  pub joined : all ++ left ≡ i.operands
  pub small : Each IsSmallOperand left
  pub types : Each HasOperandType left

pub few_operands : {i : Inst} {parts : List Part} {os all left : List Operand} → length i.operands ≤ 64 → AreLeft i parts os all left → length (all ++ left) ≤ 64
few_operands few operands = subst (λ (os : List Operand). length os ≤ 64) (sym operands.joined) few

pub next_operands : {i : Inst} {os all left : List Operand} (done : List Part) (here : Part) (others : List Part) → IsTrue (fits i.op done here others)
    → AreLeft i (here ∷ others) os all left → AreLeft i others (operands_after here os) (taken_by here all left) (left_by here left)
next_operands {i} {os} {all} {left} done here others fit operands = record {
  are = next_left i.op done here others left fit operands.are;
  shown = next_printed i.op done here others os left fit operands.shown;
  joined = same_together here all left ∙ operands.joined;
  small = each_left IsSmallOperand here left operands.small;
  types = each_left HasOperandType here left operands.types;
}

-- behind the last part all are taken
pub all_taken : {i : Inst} {os all left : List Operand} → AreLeft i [] os all left → all ≡ i.operands
all_taken {i} {os} {all} {left} operands = sym (append-nil all) ∙ ap (λ left. all ++ left) (none_left i.op left operands.are) ∙ operands.joined
