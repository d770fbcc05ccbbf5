-- The replay of a row counts the places of its parts. Here it takes their values from the front of what is left.
use Rattle.std.proofs.Common.{◌≡◌, ℕ, zero, suc, ◌+◌, List, [], ◌∷◌, ◌++◌, length, drop, Option, Some, ap, sym, refl, ◌∙◌}
use Rattle.std.specs.Option.{option_to_list}
use Rattle.std.proofs.lemmas.List.{drop-drop}
use Rattle.std.proofs.Math.Nat.{suc-add, zero-add}
use Rattle.instruction_table.specs.Forms.{detail_of, ending_of}
use Rattle.instruction_table.specs.declared.entries.Ending.{Ending}
use Rattle.instruction_table.specs.declared.entries.Ending.TheVariants as ending
use Rattle.instruction_table.specs.declared.forms.Part.{Part}
use Rattle.instruction_table.specs.declared.forms.Part.TheVariants as form
use Rattle.instruction_table.specs.declared.op.Op.{Op}
use Rattle.sil_grammar_tables.specs.Rows.{comma_behind, symbols_of}
use Rattle.sil_grammar_values.specs.Opened.{PartValue}
use Rattle.sil_grammar_values.specs.inner.PartFaults.{fault_of_part, parts_fault}
use Rattle.sil_grammar_values.specs.inner.Parts.{part}
use Rattle.sil_grammar_values.specs.inner.RowMeaning.{edges_at, number_by, with_part, with_parts}
use Rattle.sil_grammar_values.specs.Values.{token_of}
use Rattle.sil_grammar_tree.specs.declared.written_tree.fault.Fault.{Fault}
use Rattle.sil_grammar_tree.specs.WrittenTree.Faults.{earlier, out_of_range}
use Rattle.sil_grammar_tree.specs.declared.written_tree.written_instructions.WrittenEdge.{WrittenEdge}
use Rattle.sil_grammar_tree.specs.declared.written_tree.written_instructions.WrittenInst.{WrittenInst}
use Rattle.sil_grammar_tree.proofs.WrittenTree.FaultOrder.{earlier-assoc, earlier-none}
use Rattle.sil_grammar.proofs.SpelledPartsLaws.FaultLists.{first-append, first-option, first_of}

-- what is left behind a part
abbrev pub left_behind : Op → Part → List Part → List PartValue → List PartValue
left_behind o here others values = drop (length (symbols_of o here) + length (comma_behind o here others)) values

-- an instruction with these parts more
abbrev pub row_from : Op → List Part → List PartValue → WrittenInst → WrittenInst
row_from o [] values i = i
row_from o (here ∷ others) values i = row_from o others (left_behind o here others values) (with_part o here 0 values i)

-- what is at fault in these parts, from the first to the last
abbrev pub faults_from : Op → List Part → List PartValue → WrittenInst → List Fault
faults_from o [] values i = []
faults_from o (here ∷ others) values i =
    option_to_list (fault_of_part o here 0 values i) ++ faults_from o others (left_behind o here others values) (with_part o here 0 values i)

part_from : (k at : ℕ) (parts : List PartValue) → part (at + k) parts ≡ part k (drop at parts)
part_from k zero parts = ap (λ n. part n parts) (zero-add k)
part_from k (suc at) [] = refl
part_from k (suc at) (x ∷ parts) = ap (λ n. part n (x ∷ parts)) (suc-add at k) ∙ part_from k at parts

here_from : (at : ℕ) (parts : List PartValue) → part at parts ≡ part 0 (drop at parts)
here_from zero parts = refl
here_from (suc at) [] = refl
here_from (suc at) (x ∷ parts) = here_from at parts

edges_from : (e : Ending) (at : ℕ) (parts : List PartValue) → edges_at e at parts ≡ edges_at e 0 (drop at parts)
edges_from ending.OneBranch at parts = rw (here_from at parts) refl
edges_from ending.TwoBranches at parts = rw (here_from at parts, part_from 2 at parts) refl
edges_from ending.Cases at parts = rw (here_from at parts) refl
edges_from _ at parts = refl

part_moved : (o : Op) (here : Part) (at : ℕ) (parts : List PartValue) (i : WrittenInst) → with_part o here at parts i ≡ with_part o here 0 (drop at parts) i
part_moved o form.To at parts i = refl
part_moved o form.TypeWord at parts i = rw (part_from 1 at parts) refl
part_moved o form.BareArgs at parts i = rw (part_from 1 at parts) refl
part_moved o form.TypedArgs at parts i = rw (part_from 1 at parts) refl
part_moved o form.ResultType at parts i = rw (part_from 2 at parts) refl
part_moved o form.SignatureWord at parts i = rw (part_from 2 at parts) refl
part_moved o form.Number at parts i = ap (λ (x : PartValue). record i { number = number_by (detail_of o) i.ty (token_of x).text }) (here_from at parts)
part_moved o form.Text at parts i = ap (λ (x : PartValue). record i { text = Some (token_of x).text }) (here_from at parts)
part_moved o form.Edges at parts i = ap (λ (edges : List WrittenEdge). record i { edges = edges }) (edges_from (ending_of o) at parts)
part_moved o _ at parts i = rw (here_from at parts) refl

fault_moved : (o : Op) (here : Part) (at : ℕ) (parts : List PartValue) (i : WrittenInst) → fault_of_part o here at parts i ≡ fault_of_part o here 0 (drop at parts) i
fault_moved o form.Number at parts i = ap (λ (x : PartValue). out_of_range (number_by (detail_of o) i.ty (token_of x).text) (token_of x).place) (here_from at parts)
fault_moved o form.BareArgs at parts i = rw (part_from 1 at parts) refl
fault_moved o form.TypedArgs at parts i = rw (part_from 1 at parts) refl
fault_moved o _ at parts i = refl

pub row_moved : (o : Op) (ps : List Part) (at : ℕ) (parts : List PartValue) (i : WrittenInst) → with_parts o ps at parts i ≡ row_from o ps (drop at parts) i
row_moved o [] at parts i = refl
row_moved o (here ∷ others) at parts i =
    let n : ℕ = length (symbols_of o here) + length (comma_behind o here others) in
    row_moved o others (at + n) parts (with_part o here at parts i)
    ∙ ap (λ values. row_from o others values (with_part o here at parts i)) (sym (drop-drop n at parts))
    ∙ ap (row_from o others (drop n (drop at parts))) (part_moved o here at parts i)

-- a fault that was found before stands first
pub row_faults_moved : (o : Op) (ps : List Part) (at : ℕ) (parts : List PartValue) (i : WrittenInst) (found : Option Fault)
    → parts_fault o ps at parts i found ≡ earlier found (first_of (faults_from o ps (drop at parts) i))
row_faults_moved o [] at parts i found = sym (earlier-none found)
row_faults_moved o (here ∷ others) at parts i found =
    let n : ℕ = length (symbols_of o here) + length (comma_behind o here others) in
    let own : Option Fault = fault_of_part o here 0 (drop at parts) i in
    let next : WrittenInst = with_part o here 0 (drop at parts) i in
    let rest : List Fault = faults_from o others (drop n (drop at parts)) next in
    let same : faults_from o others (drop (at + n) parts) (with_part o here at parts i) ≡ rest =
    ap (λ values. faults_from o others values (with_part o here at parts i)) (sym (drop-drop n at parts))
    ∙ ap (faults_from o others (drop n (drop at parts))) (part_moved o here at parts i) in
    row_faults_moved o others (at + n) parts (with_part o here at parts i) (earlier found (fault_of_part o here at parts i))
    ∙ ap (λ (f : Option Fault). earlier (earlier found f) (first_of (faults_from o others (drop (at + n) parts) (with_part o here at parts i)))) (fault_moved o here at parts i)
    ∙ ap (λ (fs : List Fault). earlier (earlier found own) (first_of fs)) same
    ∙ earlier-assoc found own (first_of rest)
    ∙ ap (earlier found) (ap (λ (f : Option Fault). earlier f (first_of rest)) (sym (first-option own)) ∙ sym (first-append (option_to_list own) rest))
