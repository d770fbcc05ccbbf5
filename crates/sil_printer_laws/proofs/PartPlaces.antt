-- What a part puts into an instruction doesn't depend on what stands before it in the row.
use Rattle.std.proofs.Common.{◌≡◌, ℕ, List, ◌∷◌, ◌++◌, [], ◌+◌, length, map, Some, refl, ap, arith, ◌∙◌}
use Rattle.std.proofs.lemmas.List.{get_or-append-add}
use Rattle.instruction_table.specs.Forms.{detail_of, ending_of, may_lack_operand}
use Rattle.instruction_table.specs.declared.entries.Ending.{Ending}
use Rattle.instruction_table.specs.declared.entries.Ending.TheVariants as ending
use Rattle.instruction_table.specs.declared.forms.Part.{Part}
use Rattle.instruction_table.specs.declared.forms.Part.TheVariants as form
use Rattle.instruction_table.specs.declared.op.Op.{Op}
use Rattle.sil_rules.specs.declared.limit_word.LimitWord.TheVariants as limit
use Rattle.sil_grammar_values.specs.Opened.{PartValue}
use Rattle.sil_grammar_values.specs.inner.PartFaults.{fault_of_part}
use Rattle.sil_grammar_values.specs.inner.Parts.{part}
use Rattle.sil_grammar_values.specs.inner.RowMeaning.{bare_operand, edges_at, number_by, typed_by, with_part}
use Rattle.sil_grammar_values.specs.Values.{debug_of, edge_of, edges_of, flags_of, member_of, operands_of, qualifier_of, signature_of, token_of, tokens_of, type_of}
use Rattle.sil_grammar_tree.specs.WrittenTree.Faults.{out_of_range, passed}
use Rattle.sil_grammar_tree.specs.WrittenTree.Places.{operand_place}
use Rattle.sil_grammar_tree.specs.declared.written_tree.written_instructions.WrittenInst.{WrittenInst}

module _ (front more : List PartValue) where
  part_moved : (k : ℕ) → part (length front + k) (front ++ more) ≡ part k more
  part_moved k = get_or-append-add front more k _

  part_first : part (length front) (front ++ more) ≡ part 0 more
  part_first = let e : length front ≡ length front + 0 = omega arith in ap (λ n. part n (front ++ more)) e ∙ part_moved 0

  edges_moved : (e : Ending) → edges_at e (length front) (front ++ more) ≡ edges_at e 0 more
  edges_moved ending.OneBranch = ap (λ v. edge_of v ∷ []) part_first
  edges_moved ending.TwoBranches = λ j. edge_of (part_first j) ∷ edge_of (part_moved 2 j) ∷ []
  edges_moved ending.Cases = ap edges_of part_first
  edges_moved _ = refl

  pub with_part_moved : (o : Op) (here : Part) (w : WrittenInst) → with_part o here (length front) (front ++ more) w ≡ with_part o here 0 more w
  with_part_moved o form.Flags w = ap (λ v. record w { lexical = (flags_of v).lexical; var_decl = (flags_of v).var_decl }) part_first
  with_part_moved o form.Qualifier w = ap (λ v. record w { qualifier = qualifier_of v }) part_first
  with_part_moved o form.Typed w = ap (λ v. record w { operands = w.operands ++ typed_by (may_lack_operand o) v }) part_first
  with_part_moved o form.Bare w = ap (λ v. record w { operands = w.operands ++ bare_operand (token_of v) ∷ [] }) part_first
  with_part_moved o form.To w = refl
  with_part_moved o form.TypeWord w = ap (λ v. record w { ty = Some (type_of v).ty }) (part_moved 1)
  with_part_moved o form.Member w = ap (λ v. record w { member = Some (member_of v) }) part_first
  with_part_moved o form.Number w = ap (λ v. record w { number = number_by (detail_of o) w.ty (token_of v).text }) part_first
  with_part_moved o form.Text w = ap (λ v. record w { text = Some (token_of v).text }) part_first
  with_part_moved o form.Callee w = ap (λ v. record w { function = Some (token_of v) }) part_first
  with_part_moved o form.BareArgs w = ap (λ v. record w { operands = w.operands ++ map bare_operand (tokens_of v) }) (part_moved 1)
  with_part_moved o form.TypedArgs w = ap (λ v. record w { operands = w.operands ++ operands_of v }) (part_moved 1)
  with_part_moved o form.ResultType w = ap (λ v. record w { ty = Some (type_of v).ty }) (part_moved 2)
  with_part_moved o form.SignatureWord w = ap (λ v. record w { signature = Some (signature_of v) }) (part_moved 2)
  with_part_moved o form.Debug w = ap (λ v. record w { debug = debug_of v }) part_first
  with_part_moved o form.Edges w = ap (λ es. record w { edges = es }) (edges_moved (ending_of o))

  pub fault_moved : (o : Op) (here : Part) (w : WrittenInst) → fault_of_part o here (length front) (front ++ more) w ≡ fault_of_part o here 0 more w
  fault_moved o form.Number w = ap (λ v. out_of_range (number_by (detail_of o) w.ty (token_of v).text) (token_of v).place) part_first
  fault_moved o form.BareArgs w = ap (λ w. passed limit.Arguments 64 (map operand_place w.operands)) (with_part_moved o form.BareArgs w)
  fault_moved o form.TypedArgs w = ap (λ w. passed limit.Arguments 64 (map operand_place w.operands)) (with_part_moved o form.TypedArgs w)
  fault_moved o _ w = refl
