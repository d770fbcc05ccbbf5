-- A printed operand reads as itself, and so do lists of operands.
use Rattle.std.proofs.Common.{ℕ, List, [], ◌∷◌, ◌++◌, Option, Some, None, IsTrue, IfSome, refl, ap, sym, decimal, true≢false}
use Rattle.std.specs.List.{AllZip, list_all}
use Rattle.std.proofs.lemmas.List.{append_assoc}
use Rattle.std.proofs.lemmas.Bool.{and_parts}
use Rattle.sil_ast.specs.declared.operands.Operand.{Operand}
use Rattle.sil_ast.specs.declared.place.ValueId.{ValueId}
use Rattle.sil_ast.specs.declared.type_name.TypeName.{TypeName}
use Rattle.sil_printer.specs.CanonicalInsts.{typed_text}
use Rattle.sil_printer.specs.CanonicalTypes.{type_text}
use Rattle.sil_printer.specs.Words.{listed}
use Rattle.sil_grammar_tables.specs.declared.grammar.Nonterminal.TheVariants as n
use Rattle.sil_grammar_tables.specs.declared.grammar.Production.TheVariants as p
use Rattle.sil_grammar_tables.specs.declared.grammar.Symbol.TheVariants.{Part}
use Rattle.sil_grammar_tables.specs.Grammar.{body, written}
use Rattle.sil_grammar_classes.specs.Spelling.{punctuation_of, punctuation_spelling, signs}
use Rattle.sil_grammar_modules.specs.Leaves.{kept_of}
use Rattle.sil_grammar_values.specs.inner.Meaning.{meaning}
use Rattle.sil_grammar_values.specs.Opened.{PartValue}
use Rattle.sil_grammar_values.specs.inner.PartFaults.{part_fault}
use Rattle.sil_grammar_values.specs.Values.{operand_of, operands_of, token_of}
use Rattle.numbered_form.specs.Lists.{Each}
use Rattle.numbered_form.specs.inner.Parts.{is_typed}
use Rattle.numbered_form.specs.inner.Types.{HasOperandType, IsPlacedType}
use Rattle.sil_printer_laws.proofs.Commas.{AllItems, ReadsListed, list_reads, listed_reads}
use Rattle.sil_printer_laws.proofs.Pieces.{Ends, Reads as reads, ReadsAs, Stands}
use Rattle.sil_printer_laws.proofs.Printable.{IsSmallOperand}
use Rattle.sil_printer_laws.proofs.ProductionReading.{stands_by}
use Rattle.sil_printer_laws.proofs.Tokens.{IsSmall, punctuation_token, value_token}
use Rattle.sil_printer_laws.proofs.TypeReading.{placed_reads}
use Rattle.sil_printer_laws.proofs.Written.{IsOperandWritten}

-- `%1 : $T`
operand_with : (text : List ℕ) (v : ValueId) (ty : Option TypeName) (after : List ℕ) → IsTrue (is_typed (record { value = v; ty = ty })) → IsSmall v.0 → IfSome ty IsPlacedType → Ends after
    → Stands text n.Operand (λ x. IsOperandWritten (record { value = v; ty = ty }) (operand_of x)) (typed_text (record { value = v; ty = ty }) ++ after) after
unfolding body written meaning part_fault kept_of token_of operand_of punctuation_of punctuation_spelling signs
operand_with text v None after typed small placed ends = absurd (true≢false (sym typed))
operand_with text v (Some t) after typed small placed ends =
    let ty = placed_reads text t after placed ends in
    rw (append_assoc (decimal v.0) (32 ∷ 58 ∷ 32 ∷ 36 ∷ type_text t) after) (stands_by p.WholeOperand _
    (value_token v.0 small refl (reads.blank 32 refl (punctuation_token 58 refl refl (reads.blank 32 refl (punctuation_token 36 refl refl ty.reads)))))
    refl record { name = refl; ty = ap Some ty.stands })

pub operand_reads : (text : List ℕ) (o : Operand) (after : List ℕ) → IsTrue (is_typed o) → IsSmallOperand o → HasOperandType o → Ends after
    → Stands text n.Operand (λ x. IsOperandWritten o (operand_of x)) (typed_text o ++ after) after
operand_reads text o after typed small placed ends = operand_with text o.value o.ty after typed small placed ends

-- operands with types
pub record AreTyped (os : List Operand) : Type 0 where
  pub typed : IsTrue (list_all is_typed os)
  pub small : Each IsSmallOperand os
  pub types : Each HasOperandType os

abbrev IsOperand : Operand → PartValue → Type 0
IsOperand o x = IsOperandWritten o (operand_of x)

abbrev AreOperands : List Operand → PartValue → Type 0
AreOperands os x = AllZip IsOperandWritten os (operands_of x)

all_operands : AllItems (Part n.Operand) n.MoreOperands n.Operands IsOperand AreOperands
unfolding body written part_fault meaning operands_of
all_operands = record {
  others = record {
    again = p.MoreOperandsMore;
    end = p.MoreOperandsEnd;
    again_is = (refl, refl, λ parts. refl);
    again_makes = λ o os comma first others is_first are_others. (is_first, are_others);
    end_is = (refl, refl, λ parts. refl);
    end_makes = tt;
  };
  some = p.OperandsSome;
  none = p.OperandsNone;
  some_is = (refl, refl, λ parts. refl);
  some_makes = λ o os first others is_first are_others. (is_first, are_others);
  none_is = (refl, refl, λ parts. refl);
  none_makes = tt;
}

each_reads : (text : List ℕ) (os : List Operand) → AreTyped os → Each (λ o. ReadsAs text (Part n.Operand) (IsOperand o) (typed_text o)) os
each_reads text [] h = tt
each_reads text (o ∷ os) h =
    let typed : IsTrue (list_all is_typed os) = (and_parts (is_typed o) (list_all is_typed os) h.typed).1 in (
      λ after ends. operand_reads text o after (and_parts (is_typed o) (list_all is_typed os) h.typed).0 h.small.0 h.types.0 ends,
      each_reads text os record { typed = typed; small = h.small.1; types = h.types.1 },
    )

-- `%1 : $T, %2 : $U`
pub listed_operands_read : (text : List ℕ) (os : List Operand) (after : List ℕ) → AreTyped os → Ends after
    → Stands text n.Operands (AreOperands os) (listed typed_text os ++ after) after
listed_operands_read text os after h ends = list_reads text (Part n.Operand) n.MoreOperands IsOperand AreOperands typed_text n.Operands all_operands os (each_reads text os h) after ends

-- the same, where there is at least one
pub some_operands_read : (text : List ℕ) (o : Operand) (os : List Operand) (after : List ℕ) → AreTyped (o ∷ os) → Ends after
    → ReadsListed text (Part n.Operand) n.MoreOperands IsOperand AreOperands o os (listed typed_text (o ∷ os) ++ after) after
some_operands_read text o os after h ends =
    let each = each_reads text (o ∷ os) h in
    listed_reads text (Part n.Operand) n.MoreOperands IsOperand AreOperands typed_text all_operands.others o os each.0 each.1 after ends
