-- The parts of a row, one by one: what a part puts rests on its own values alone, and the next part's stand behind them.
use Rattle.std.proofs.Common.{◌≡◌, ℕ, ◌+◌, ◌<◌, ◌≤◌, List, [], ◌∷◌, ◌++◌, length, take, drop, refl, ap, sym, ◌∙◌, arith, length-append}
use Rattle.std.specs.Prelude.{Option, None}
use Rattle.std.proofs.lemmas.List.{drop-drop, get_or-drop, get_or-take, length-drop}
use Rattle.instruction_table.specs.Forms.{ending_of, parts_of}
use Rattle.instruction_table.specs.declared.entries.Ending.{Ending}
use Rattle.instruction_table.specs.declared.entries.Ending.TheVariants as ending
use Rattle.instruction_table.specs.declared.forms.Part.{Part}
use Rattle.instruction_table.specs.declared.forms.Part.TheVariants as form
use Rattle.instruction_table.specs.declared.op.Op.{Op}
use Rattle.sil_grammar_tables.specs.Rows.{comma_behind, edges_by, edges_of, parts_row, row_body, symbols_of}
use Rattle.sil_grammar_tables.specs.Grammar.{body}
use Rattle.sil_grammar_tables.specs.declared.grammar.Production.TheVariants.{Row}
use Rattle.sil_grammar_tree.specs.WrittenTree.Faults.{earlier}
use Rattle.sil_grammar_tree.specs.declared.written_tree.fault.Fault.{Fault}
use Rattle.sil_grammar_tree.specs.declared.written_tree.written_instructions.WrittenInst.{WrittenInst}
use Rattle.sil_grammar_values.specs.inner.PartFaults.{fault_of_part, part_fault, parts_fault, row_fault}
use Rattle.sil_grammar_values.specs.inner.Reduced.{reduced}
use Rattle.sil_grammar_values.specs.inner.Meaning.{meaning}
use Rattle.sil_grammar_values.specs.Values.{bare_inst, token_of}
use Rattle.sil_grammar_values.specs.inner.Parts.{part}
use Rattle.sil_grammar_values.specs.inner.RowMeaning.{behind_part, edges_at, row, with_part, with_parts}
use Rattle.sil_grammar_values.specs.declared.value.Value.{Value}
use Rattle.sil_grammar_values.specs.declared.value.Value.TheVariants as v

-- a value of a body, counted from a place on
at : (place k n : ℕ) (values : List Value) → place + k < n → part (place + k) (take n values) ≡ part k (drop place values)
at place k n values inside = get_or-take n values (place + k) v.Nothing inside ∙ sym (get_or-drop place values k v.Nothing)

first : (place n : ℕ) (values : List Value) → place < n → part place (take n values) ≡ part 0 (drop place values)
first place n values inside =
    let e : place ≡ place + 0 = omega arith in
    ap (λ i. part i (take n values)) e ∙ at place 0 n values (omega (arith, inside))

edges-at : (e : Ending) (place n : ℕ) (values : List Value) → place + length (edges_by e) ≤ n → edges_at e place (take n values) ≡ edges_at e 0 (drop place values)
edges-at ending.OneBranch place n values inside = rw (first place n values (omega (arith, inside))) refl
edges-at ending.TwoBranches place n values inside = rw (first place n values (omega (arith, inside)), at place 2 n values (omega (arith, inside))) refl
edges-at ending.Cases place n values inside = rw (first place n values (omega (arith, inside))) refl
edges-at _ place n values inside = refl

-- what a part puts, and the fault that shows there
abbrev putting : Op → WrittenInst → Part → ℕ → List Value → WrittenInst × Option Fault
putting o i here place parts = (with_part o here place parts i, fault_of_part o here place parts i)

first-of : (o : Op) (i : WrittenInst) (here : Part) (place n : ℕ) (values : List Value) → place < n
    → putting o i here 0 (part place (take n values) ∷ []) ≡ putting o i here 0 (part 0 (drop place values) ∷ [])
first-of o i here place n values inside = ap (λ value. putting o i here 0 (value ∷ [])) (first place n values inside)

second-of : (o : Op) (i : WrittenInst) (here : Part) (place n : ℕ) (values : List Value) → place + 1 < n
    → putting o i here 0 (v.Nothing ∷ part (place + 1) (take n values) ∷ []) ≡ putting o i here 0 (v.Nothing ∷ part 1 (drop place values) ∷ [])
second-of o i here place n values inside = ap (λ value. putting o i here 0 (v.Nothing ∷ value ∷ [])) (at place 1 n values inside)

third-of : (o : Op) (i : WrittenInst) (here : Part) (place n : ℕ) (values : List Value) → place + 2 < n
    → putting o i here 0 (v.Nothing ∷ v.Nothing ∷ part (place + 2) (take n values) ∷ []) ≡ putting o i here 0 (v.Nothing ∷ v.Nothing ∷ part 2 (drop place values) ∷ [])
third-of o i here place n values inside = ap (λ value. putting o i here 0 (v.Nothing ∷ v.Nothing ∷ value ∷ [])) (at place 2 n values inside)

putting-at : (o : Op) (i : WrittenInst) (here : Part) (place n : ℕ) (values : List Value) → place + length (symbols_of o here) ≤ n
    → putting o i here place (take n values) ≡ putting o i here 0 (drop place values)
unfolding symbols_of edges_of
putting-at o i form.To place n values inside = refl
putting-at o i form.TypeWord place n values inside = second-of o i form.TypeWord place n values (omega (arith, inside))
putting-at o i form.BareArgs place n values inside = second-of o i form.BareArgs place n values (omega (arith, inside))
putting-at o i form.TypedArgs place n values inside = second-of o i form.TypedArgs place n values (omega (arith, inside))
putting-at o i form.ResultType place n values inside = third-of o i form.ResultType place n values (omega (arith, inside))
putting-at o i form.SignatureWord place n values inside = third-of o i form.SignatureWord place n values (omega (arith, inside))
putting-at o i form.Edges place n values inside = ap (λ edges. (record i { edges = edges }, None)) (edges-at (ending_of o) place n values inside)
putting-at o i here place n values inside = first-of o i here place n values (omega (arith, inside))

-- the values of a row's body
abbrev pub own : Op → List Value → List Value
own o values = take (length (row_body o)) values

-- an instruction with some parts, the first fault in them, the parts that are left of its row, and the values that are left
pub record Put (o : Op) (all : List Value) (left : List Part) (values : List Value) (i : WrittenInst) (found : Option Fault) : Type 0 where
  pub place : ℕ
  pub rest : values ≡ drop place all
  pub room : place + length (parts_row o left) ≡ length (row_body o)
  pub inst : with_parts o left place (own o all) i ≡ row o (own o all)
  pub fault : parts_fault o left place (own o all) i found ≡ row_fault o (own o all)

length-parts : (o : Op) (here : Part) (others : List Part) → length (parts_row o (here ∷ others)) ≡ length (symbols_of o here) + (length (comma_behind o here others) + length (parts_row o others))
unfolding parts_row
length-parts o here others =
    let both = length-append (symbols_of o here) (comma_behind o here others) in
    omega (arith, both, length-append (symbols_of o here ++ comma_behind o here others) (parts_row o others))

-- there are the values of the next part, and of the comma behind it
pub enough_for : {o : Op} {all : List Value} {here : Part} {others : List Part} {values : List Value} {i : WrittenInst} {found : Option Fault}
    → Put o all (here ∷ others) values i found → length (row_body o) ≤ length all
    → length (symbols_of o here) + length (comma_behind o here others) ≤ length values
enough_for {o = o} {all = all} {here = here} {others = others} put enough =
    omega (arith, put.room, length-parts o here others, enough, ap length put.rest, length-drop put.place all)

pub put_next : {o : Op} {all : List Value} {here : Part} {others : List Part} {values : List Value} {i : WrittenInst} {found : Option Fault}
    (between after : List Value) (new : WrittenInst) (fault : Option Fault)
    → Put o all (here ∷ others) values i found
    → new ≡ with_part o here 0 values i → fault ≡ fault_of_part o here 0 values i
    → between ≡ drop (length (symbols_of o here)) values → after ≡ drop (length (comma_behind o here others)) between
    → Put o all others after new (earlier found fault)
put_next {o = o} {all = all} {here = here} {others = others} {values = values} {i = i} {found = found} between after new fault put new_is fault_is between_is after_is =
    let n : ℕ = length (row_body o) in
    let symbols : ℕ = length (symbols_of o here) in
    let comma : ℕ = length (comma_behind o here others) in
    let inside : put.place + symbols ≤ n = omega (arith, put.room, length-parts o here others) in
    let inst_is : with_part o here put.place (own o all) i ≡ new =
    ap (λ p. p.0) (putting-at o i here put.place n all inside) ∙ ap (λ vs. with_part o here 0 vs i) (sym put.rest) ∙ sym new_is in
    let found_is : fault_of_part o here put.place (own o all) i ≡ fault =
    ap (λ p. p.1) (putting-at o i here put.place n all inside) ∙ ap (λ vs. fault_of_part o here 0 vs i) (sym put.rest) ∙ sym fault_is in
    let behind : drop comma (drop symbols (drop put.place all)) ≡ drop (put.place + (symbols + comma)) all =
    drop-drop comma symbols (drop put.place all) ∙ drop-drop (symbols + comma) put.place all in
    record {
      place = behind_part o here others put.place;
      rest = after_is ∙ ap (drop comma) (between_is ∙ ap (drop symbols) put.rest) ∙ behind;
      room = omega (arith, put.room, length-parts o here others);
      inst = ap (with_parts o others (behind_part o here others put.place) (own o all)) (sym inst_is) ∙ put.inst;
      fault = ap (λ j. parts_fault o others (behind_part o here others put.place) (own o all) j (earlier found fault)) (sym inst_is)
          ∙ ap (λ f. parts_fault o others (behind_part o here others put.place) (own o all) (with_part o here put.place (own o all) i) (earlier found f)) (sym found_is)
          ∙ put.fault;
    }

-- behind the mnemonic all parts are left
pub put_none : (o : Op) (all rest : List Value) (token : Value) → all ≡ token ∷ rest → Put o all (parts_of o) rest (bare_inst o (token_of token).place) None
unfolding row_body
put_none o all rest token is =
    let mnemonic : part 0 (own o all) ≡ token = get_or-take (length (row_body o)) all 0 v.Nothing (omega arith) ∙ ap (part 0) is in
    record {
      place = 1;
      rest = sym (ap (drop 1) is);
      room = omega arith;
      inst = ap (λ t. with_parts o (parts_of o) 1 (own o all) (bare_inst o (token_of t).place)) (sym mnemonic);
      fault = ap (λ t. parts_fault o (parts_of o) 1 (own o all) (bare_inst o (token_of t).place) None) (sym mnemonic);
    }

-- where no part is left, the row is what the production stands for
pub put_all : {o : Op} {all values : List Value} {i : WrittenInst} {found : Option Fault} → Put o all [] values i found
    → (reduced (Row o) all ≡ v.Inst i ∷ values) × (found ≡ part_fault (Row o) (own o all))
unfolding reduced meaning part_fault body parts_row
put_all {o = o} {all = all} {i = i} put =
    let behind : drop (length (row_body o)) all ≡ drop put.place all = ap (λ n. drop n all) (omega (arith, put.room)) in
    (ap (λ j. v.Inst j ∷ drop (length (row_body o)) all) (sym put.inst) ∙ ap (λ vs. v.Inst i ∷ vs) (behind ∙ sym put.rest), put.fault)
