-- Rows: what their parts stand for is what the replay makes of them, by induction over the parts and not by instruction.
use Rattle.std.proofs.Common.{◌≡◌, ℕ, suc, ◌+◌, List, [], ◌∷◌, ◌++◌, length, drop, Option, Some, None, Bool, true, false, ◌&&◌, IfSome, if◌then◌else◌, ap, ap₂, sym, refl, subst, ◌∙◌, append_assoc}
use Rattle.std.specs.Prelude.{⊤, ℤ}
use Rattle.std.specs.List.{list_all}
use Rattle.std.specs.Option.{option_to_list}
use Rattle.std.proofs.lemmas.List.{length-append}
use Rattle.std.proofs.Math.Seq.{drop-append_seam}
use Rattle.std.proofs.lemmas.Bool.{and_parts}
use Rattle.instruction_table.specs.Forms.{detail_of, ending_of, is_item, may_lack_operand, parts_of, words_of}
use Rattle.instruction_table.specs.declared.entries.Detail.{Detail}
use Rattle.instruction_table.specs.declared.entries.Detail.TheVariants as detail
use Rattle.instruction_table.specs.declared.entries.Ending.{Ending}
use Rattle.instruction_table.specs.declared.entries.Ending.TheVariants as ending
use Rattle.instruction_table.specs.declared.entries.Words.{Words}
use Rattle.instruction_table.specs.declared.entries.Words.TheVariants as words
use Rattle.instruction_table.specs.declared.forms.Part.{Part}
use Rattle.instruction_table.specs.declared.forms.Part.TheVariants as form
use Rattle.instruction_table.specs.declared.op.Op.{Op}
use Rattle.instruction_table.specs.declared.op.Op.TheVariants as op
use Rattle.sil_ast.specs.declared.member.Member.{Member}
use Rattle.sil_ast.specs.declared.type_name.TypeName.{TypeName}
use Rattle.sil_grammar_tables.specs.declared.grammar.Nonterminal.TheVariants as n
use Rattle.sil_grammar_tables.specs.declared.grammar.Symbol.{Symbol}
use Rattle.sil_grammar_tables.specs.Rows.{comma_behind, comma_between, edges_by, edges_of, member_by, member_of as member_part}
use Rattle.sil_grammar_tables.specs.Rows.{operand_of as operand_part, parts_row, qualifier_of as qualifier_part, symbols_of, word_by}
use Rattle.sil_grammar_tree.specs.WrittenNumbers.Numbers.{literal_of}
use Rattle.sil_grammar_values.specs.Opened.{PartValue}
use Rattle.sil_grammar_values.specs.inner.PartFaults.{fault_of_part}
use Rattle.sil_grammar_values.specs.inner.RowMeaning.{edges_at, number_by, typed_by, with_part}
use Rattle.sil_grammar_values.specs.Values.{edge_of, type_of, edges_of as stored_edges}
use Rattle.sil_grammar_values.specs.Variants as v
use Rattle.sil_grammar_values.proofs.Unfolded.{value_parts}
use Rattle.sil_grammar_tree.specs.declared.written_tree.fault.Fault.{Fault}
use Rattle.sil_grammar_tree.specs.declared.written_tree.written_declarations.WrittenToken.{WrittenToken}
use Rattle.sil_grammar_tree.specs.declared.written_tree.written_instructions.WrittenEdge.{WrittenEdge}
use Rattle.sil_grammar_tree.specs.declared.written_tree.written_instructions.WrittenInst.{WrittenInst}
use Rattle.sil_grammar_tree.specs.declared.written_tree.written_instructions.WrittenQualifier.{WrittenQualifier}
use Rattle.sil_grammar.specs.SpelledPartsLaws.Limits.{no_number, number_of}
use Rattle.sil_grammar.specs.SpelledPartsLaws.RowParts.{AreEdges, IsRow, past_comma}
use Rattle.sil_grammar.proofs.SpelledPartsLaws.RowPlaces.{faults_from, left_behind, row_from}
use Rattle.sil_grammar.proofs.SpelledPartsLaws.ValueKinds.{Contents, HasBits, kind_of_part, split_contents, values_of}

-- one part at the front of these values, and those behind it and its comma
record Steps (o : Op) (here : Part) (others : List Part) (values rest : List PartValue) (i : WrittenInst) : Type 0 where
  stands : (result : WrittenInst) (more : List Fault) → IsRow o others rest (with_part o here 0 values i) result more
      → IsRow o (here ∷ others) values i result (option_to_list (fault_of_part o here 0 values i) ++ more)
  back : (result : WrittenInst) (faults : List Fault) → IsRow o (here ∷ others) values i result faults
      → (more : List Fault) × IsRow o others rest (with_part o here 0 values i) result more × (faults ≡ option_to_list (fault_of_part o here 0 values i) ++ more)

-- the same row from equal values and an equal instruction
moved : (o : Op) (others : List Part) {left rest : List PartValue} {i more : WrittenInst} (result : WrittenInst) (faults : List Fault) → left ≡ rest → i ≡ more
    → IsRow o others left i result faults → IsRow o others rest more result faults
moved o others {rest = rest} {i = i} result faults e f m = subst (λ j. IsRow o others rest j result faults) f (subst (λ values. IsRow o others values i result faults) e m)

-- a part without a number or a list
simple : {o : Op} {others : List Part} {left rest : List PartValue} {i : WrittenInst} → (here : Part) (values : List PartValue) (before : WrittenInst)
    → left ≡ rest → i ≡ with_part o here 0 values before → fault_of_part o here 0 values before ≡ None
    → ((result : WrittenInst) (faults : List Fault) → IsRow o (here ∷ others) values before result faults ≡ IsRow o others left i result faults) → Steps o here others values rest before
simple {o} {others} here values before e f none same = record {
  stands = λ result more m.
      subst (λ (own : Option Fault). IsRow o (here ∷ others) values before result (option_to_list own ++ more)) (sym none)
      (subst (λ T. T) (sym (same result more)) (moved o others result _ (sym e) (sym f) m));
  back = λ result faults m. (faults, moved o others result _ e f (subst (λ T. T) (same result faults) m), ap (λ (own : Option Fault). option_to_list own ++ faults) (sym none));
}

-- what stands for a part of which the grammar depends on the instruction

qualifier_by : (w : Words) (x : (kind_of_part (word_by w)).Content) → (q : WrittenQualifier) × ((kind_of_part (word_by w)).value x ≡ v.Qualifier q)
unfolding kind_of_part
qualifier_by words.AnyWord x = (x, refl)
qualifier_by words.TakeWord x = (x, refl)
qualifier_by words.InitWord x = (x, refl)
qualifier_by words.NoWord x = (x, refl)

member_is : (d : Detail) (x : (kind_of_part (member_by d)).Content) → (m : Member) × ((kind_of_part (member_by d)).value x ≡ v.Member m)
unfolding kind_of_part
member_is detail.Case x = (x, refl)
member_is _ x = (x, refl)

-- what is unfolded of a part of a row
unfoldable row_parts : ⊤
unfolding symbols_of IsRow kind_of_part operand_part qualifier_part member_part edges_of value_parts
row_parts = tt

typed_steps : (o : Op) (others : List Part) (lacks : Bool) → may_lack_operand o ≡ lacks
    → (x : (kind_of_part (if lacks then n.EnumOperand else n.Operand)).Content) (left rest : List PartValue) (i : WrittenInst)
    → past_comma o form.Typed others left ≡ rest → Steps o form.Typed others ((kind_of_part (if lacks then n.EnumOperand else n.Operand)).value x ∷ left) rest i
unfolding row_parts
typed_steps o others true e x left rest i past =
    simple form.Typed (v.Operands x ∷ left) i past (ap (λ (lacks : Bool). record i { operands = i.operands ++ typed_by lacks (v.Operands x) }) (sym e)) refl (λ result faults. refl)
typed_steps o others false e x left rest i past =
    simple form.Typed (v.Operand x ∷ left) i past (ap (λ (lacks : Bool). record i { operands = i.operands ++ typed_by lacks (v.Operand x) }) (sym e)) refl (λ result faults. refl)

-- numbers

number_is : (d : Detail) (t : Option TypeName) (text : List ℕ) → IfSome t HasBits → number_by d t text ≡ number_of d t text
unfolding number_of
number_is detail.Literal (Some t) text bits = ap (λ (width : ℕ). literal_of width text) bits
number_is detail.Element t text bits = refl
number_is _ _ text bits = refl

number_steps : (o : Op) (others : List Part) (spelling : WrittenToken) (left rest : List PartValue) (i : WrittenInst)
    → past_comma o form.Number others left ≡ rest → IfSome i.ty HasBits → Steps o form.Number others (v.Token spelling ∷ left) rest i
unfolding row_parts
number_steps o others spelling left rest i past bits =
    let e = number_is (detail_of o) i.ty spelling.text bits in
    record {
      stands = λ result more m. (more, moved o others result _ (sym past) (ap (λ (x : Option ℤ). record i { number = x }) e) m, ap (λ (x : Option ℤ). no_number x spelling.place ++ more) e);
      back = λ result faults m.
          (m.0, moved o others result _ past (ap (λ (x : Option ℤ). record i { number = x }) (sym e)) m.1, m.2 ∙ ap (λ (x : Option ℤ). no_number x spelling.place ++ m.0) (sym e));
    }

-- the blocks that a terminator goes to

goes_on : Ending → Bool
goes_on ending.OneBranch = true
goes_on ending.TwoBranches = true
goes_on ending.Cases = true
goes_on _ = false

edges_are : (e : Ending) (own : Contents (edges_by e)) (left : List PartValue) → goes_on e ≡ true
    → AreEdges e (values_of (edges_by e) own ++ left) (edges_at e 0 (values_of (edges_by e) own ++ left)) left
unfolding AreEdges kind_of_part edge_of stored_edges goes_on
edges_are ending.OneBranch own left h = (refl, refl)
edges_are ending.TwoBranches own left h = (refl, refl)
edges_are ending.Cases own left h = (refl, refl)
edges_are _ own left h = absurd (cc)

edges_back : (e : Ending) (own : Contents (edges_by e)) (left : List PartValue) (edges : List WrittenEdge) (rest : List PartValue) → AreEdges e (values_of (edges_by e) own ++ left) edges rest
    → (edges ≡ edges_at e 0 (values_of (edges_by e) own ++ left)) × (rest ≡ left)
unfolding AreEdges kind_of_part edge_of stored_edges
edges_back ending.OneBranch own left edges rest m = m
edges_back ending.TwoBranches own left edges rest m = m
edges_back ending.Cases own left edges rest m = m
edges_back _ own left edges rest m = absurd m

edge_steps : (o : Op) (others : List Part) (own : Contents (edges_by (ending_of o))) (left rest : List PartValue) (i : WrittenInst)
    → past_comma o form.Edges others left ≡ rest → goes_on (ending_of o) ≡ true → Steps o form.Edges others (values_of (edges_by (ending_of o)) own ++ left) rest i
unfolding IsRow
edge_steps o others own left rest i past goes =
    let values : List PartValue = values_of (edges_by (ending_of o)) own ++ left in
    record {
      stands = λ result more m. (edges_at (ending_of o) 0 values, left, edges_are (ending_of o) own left goes, moved o others result _ (sym past) refl m);
      back = λ result faults m.
          let b = edges_back (ending_of o) own left m.0 m.1 m.2 in
          (faults, moved o others result _ (ap (past_comma o form.Edges others) b.1 ∙ past) (ap (λ (edges : List WrittenEdge). record i { edges = edges }) b.0) m.3, refl);
    }

-- only an instruction that goes on to blocks has a part for them
pub fits_in : Op → Part → Bool
fits_in o form.Edges = goes_on (ending_of o)
fits_in o _ = true

pub all_fit : (o : Op) → list_all (fits_in o) (parts_of o) ≡ true
unfolding fits_in goes_on
all_fit op.Br = refl
all_fit _ = refl

-- each part

steps : (o : Op) (here : Part) (others : List Part) (own : Contents (symbols_of o here)) (comma rest : List PartValue) (i : WrittenInst)
    → (is_item here ≡ false → comma ++ rest ≡ rest) → past_comma o here others (comma ++ rest) ≡ rest → fits_in o here ≡ true → IfSome i.ty HasBits
    → Steps o here others ((values_of (symbols_of o here) own ++ comma) ++ rest) rest i
unfolding row_parts fits_in
steps o form.Flags others own comma rest i clear past fits bits = simple form.Flags _ i (clear refl) refl refl (λ result faults. refl)
steps o form.Qualifier others own comma rest i clear past fits bits =
    let q = qualifier_by (words_of o) own.0 in
    subst (λ (x : PartValue). Steps o form.Qualifier others (x ∷ (comma ++ rest)) rest i) (sym q.1)
    (simple form.Qualifier (v.Qualifier q.0 ∷ (comma ++ rest)) i (clear refl) refl refl (λ result faults. refl))
steps o form.Typed others own comma rest i clear past fits bits = typed_steps o others (may_lack_operand o) refl own.0 (comma ++ rest) rest i past
steps o form.Bare others own comma rest i clear past fits bits = simple form.Bare _ i past refl refl (λ result faults. refl)
steps o form.To others own comma rest i clear past fits bits = simple form.To _ i (clear refl) refl refl (λ result faults. refl)
steps o form.TypeWord others own comma rest i clear past fits bits = simple form.TypeWord _ i past refl refl (λ result faults. refl)
steps o form.Member others own comma rest i clear past fits bits =
    let m = member_is (detail_of o) own.0 in
    subst (λ (x : PartValue). Steps o form.Member others (x ∷ (comma ++ rest)) rest i) (sym m.1) (simple form.Member (v.Member m.0 ∷ (comma ++ rest)) i past refl refl (λ result faults. refl))
steps o form.Number others own comma rest i clear past fits bits = number_steps o others own.0 (comma ++ rest) rest i past bits
steps o form.Text others own comma rest i clear past fits bits = simple form.Text _ i past refl refl (λ result faults. refl)
steps o form.Callee others own comma rest i clear past fits bits = simple form.Callee _ i (clear refl) refl refl (λ result faults. refl)
steps o form.BareArgs others own comma rest i clear past fits bits = record {
  stands = λ result more m. (more, moved o others result _ (sym (clear refl)) refl m, refl);
  back = λ result faults m. (m.0, moved o others result _ (clear refl) refl m.1, m.2);
}
steps o form.TypedArgs others own comma rest i clear past fits bits = record {
  stands = λ result more m. (more, moved o others result _ (sym (clear refl)) refl m, refl);
  back = λ result faults m. (m.0, moved o others result _ (clear refl) refl m.1, m.2);
}
steps o form.ResultType others own comma rest i clear past fits bits = simple form.ResultType _ i (clear refl) refl refl (λ result faults. refl)
steps o form.SignatureWord others own comma rest i clear past fits bits = simple form.SignatureWord _ i (clear refl) refl refl (λ result faults. refl)
steps o form.Debug others own comma rest i clear past fits bits = simple form.Debug _ i (clear refl) refl refl (λ result faults. refl)
steps o form.Edges others own comma rest i clear past fits bits =
    subst (λ (values : List PartValue). Steps o form.Edges others values rest i) (sym (append_assoc (values_of (edges_by (ending_of o)) own) comma rest))
    (edge_steps o others own (comma ++ rest) rest i past fits)

-- the type that an instruction has by then, if it has one

bits_after : (o : Op) (here : Part) (own : Contents (symbols_of o here)) (left : List PartValue) (i : WrittenInst) → IfSome i.ty HasBits
    → IfSome (with_part o here 0 (values_of (symbols_of o here) own ++ left) i).ty HasBits
unfolding symbols_of kind_of_part type_of
bits_after o form.TypeWord own left i bits = own.1.0.1.bits
bits_after o form.ResultType own left i bits = own.1.1.0.1.bits
bits_after o _ own left i bits = bits

-- all parts in a row

pub record RowAgrees (o : Op) (ps : List Part) (values : List PartValue) (i : WrittenInst) : Type 0 where
  pub stands : IsRow o ps values i (row_from o ps values i) (faults_from o ps values i)
  pub back : (result : WrittenInst) (faults : List Fault) → IsRow o ps values i result faults → (result ≡ row_from o ps values i) × (faults ≡ faults_from o ps values i)

values_length : (ss : List Symbol) (xs : Contents ss) → length (values_of ss xs) ≡ length ss
values_length [] xs = refl
values_length (s ∷ ss) xs = ap suc (values_length ss xs.1)

drop_front : (n : ℕ) (front rest : List PartValue) → length front ≡ n → drop n (front ++ rest) ≡ rest
drop_front n front rest e = subst (λ (m : ℕ). drop m (front ++ rest) ≡ rest) e (drop-append_seam front rest)

no_comma : (o : Op) (here : Part) (others : List Part) → is_item here ≡ false → comma_behind o here others ≡ []
unfolding comma_behind comma_between
no_comma o here [] e = refl
no_comma o here (behind ∷ others) e = rw e refl

no_values : (ss : List Symbol) (xs : Contents ss) → ss ≡ [] → values_of ss xs ≡ []
no_values [] xs e = refl
no_values (s ∷ ss) xs e = absurd (cc)

one_more : (o : Op) (here : Part) (others : List Part) (values rest : List PartValue) (i : WrittenInst) → Steps o here others values rest i → left_behind o here others values ≡ rest
    → RowAgrees o others rest (with_part o here 0 values i) → RowAgrees o (here ∷ others) values i
one_more o here others values rest i step left more =
    let next : WrittenInst = with_part o here 0 values i in
    let own : List Fault = option_to_list (fault_of_part o here 0 values i) in
    record {
      stands =
          subst (λ (vs : List PartValue). IsRow o (here ∷ others) values i (row_from o others vs next) (own ++ faults_from o others vs next)) (sym left)
          (step.stands (row_from o others rest next) (faults_from o others rest next) more.stands);
      back = λ result faults m.
          let s = step.back result faults m in
          let b = more.back result s.0 s.1 in (
            b.0 ∙ ap (λ (vs : List PartValue). row_from o others vs next) (sym left),
            s.2 ∙ ap (λ (fs : List Fault). own ++ fs) (b.1 ∙ ap (λ (vs : List PartValue). faults_from o others vs next) (sym left)),
          );
    }

pub rows : (o : Op) (ps : List Part) (xs : Contents (parts_row o ps)) (i : WrittenInst) → list_all (fits_in o) ps ≡ true → IfSome i.ty HasBits → RowAgrees o ps (values_of (parts_row o ps) xs) i
unfolding parts_row IsRow
rows o [] xs i f bits = record { stands = (refl, refl); back = λ result faults m. m }
rows o (here ∷ others) xs i f bits =
    let mark : List Symbol = comma_behind o here others in
    let s = split_contents (symbols_of o here ++ mark) (parts_row o others) xs in
    let t = split_contents (symbols_of o here) mark s.0 in
    let own : List PartValue = values_of (symbols_of o here) t.0 in
    let comma : List PartValue = values_of mark t.1 in
    let rest : List PartValue = values_of (parts_row o others) s.1 in
    let values : List PartValue = (own ++ comma) ++ rest in
    let step = steps o here others t.0 comma rest i
    (λ e. ap (λ (vs : List PartValue). vs ++ rest) (no_values mark t.1 (no_comma o here others e)))
    (drop_front (length mark) comma rest (values_length mark t.1))
    (and_parts _ _ f).0 bits in
    let left : left_behind o here others values ≡ rest =
    drop_front (length (symbols_of o here) + length mark) (own ++ comma) rest
    (length-append own comma ∙ ap₂ (λ (m k : ℕ). m + k) (values_length (symbols_of o here) t.0) (values_length mark t.1)) in
    let bits_then = subst (λ (vs : List PartValue). IfSome (with_part o here 0 vs i).ty HasBits) (sym (append_assoc own comma rest)) (bits_after o here t.0 (comma ++ rest) i bits) in
    subst (λ (vs : List PartValue). RowAgrees o (here ∷ others) vs i) (ap (λ (vs : List PartValue). vs ++ rest) t.2 ∙ s.2)
    (one_more o here others values rest i step left (rows o others s.1 (with_part o here 0 values i) (and_parts _ _ f).1 bits_then))
