-- Each part puts its own values, and the comma behind it is skipped.
use Rattle.std.proofs.Common.{◌≡◌, ◌∷◌, ◌+◌, ◌-◌, ◌<◌, ◌≤◌, ◌∙◌, ℕ, List, [], drop, take, length, get_or, ap, arith, subst, sym}
use Rattle.std.specs.Prelude.{Option, None, IfOk, OnOk}
use Rattle.std.proofs.Math.ListN.{drop_of_length-le}
use Rattle.std.proofs.lemmas.List.{drop_more, length-drop, take_all}
use Rattle.instruction_table.specs.Forms.{parts_of}
use Rattle.instruction_table.specs.declared.forms.Part.{Part}
use Rattle.instruction_table.specs.declared.op.Op.{Op}
use Rattle.sil_grammar_tree.specs.WrittenTree.Faults.{earlier}
use Rattle.sil_grammar_tree.specs.declared.written_tree.fault.Fault.{Fault}
use Rattle.sil_grammar_tree.specs.declared.written_tree.written_instructions.WrittenInst.{WrittenInst}
use Rattle.sil_grammar_values.specs.Values.{bare_inst}
use Rattle.sil_grammar_values.specs.declared.value.Value.{Value}
use Rattle.sil_grammar_values.specs.declared.value.Value.TheVariants as v
use Rattle.instruction_table.specs.declared.forms.Part.TheVariants.{Flags}
use Rattle.sil_grammar_tables.specs.Grammar.{body}
use Rattle.sil_grammar_tables.specs.Rows.{row_body, symbols_of}
use Rattle.sil_grammar_instructions.proofs.RowLemmas.{Put, enough_for, put_all, put_next, put_none}
use Rattle.sil_grammar_instructions.proofs.build_rows.reduce_row.Goals as goal

pub pop_front-requires : goal.pop_front-requires
unfolding body row_body
pop_front-requires c = omega (arith, c.requires)

pub loop-i-init : goal.loop-i-init
loop-i-init c =
    let none = put_none c.args.op _ c.pop_front.new.self c.pop_front.result c.pop_front.ensures in
    let inst = ap (bare_inst c.args.op) (ap (λ t. t.place) (sym c.into_token.ensures)) ∙ sym c.in_ok-inst.ensures in
    subst (λ left. Put c.args.op c.args.values.now left c.pop_front.new.self c.in_ok-inst.inst None) (sym c.row_of.ensures.parts)
    (subst (λ i. Put c.args.op c.args.values.now (parts_of c.args.op) c.pop_front.new.self i None) inst none)

-- the parts behind this one, as the code takes them
others_from : (parts : List Part) (i : ℕ) → take (length parts - (i + 1)) (drop (i + 1) parts) ≡ drop (i + 1) parts
others_from parts i = take_all _ _ (omega (arith, length-drop (i + 1) parts))

here : (o : Op) (all : List Value) (parts : List Part) (i : ℕ) (values : List Value) (inst : WrittenInst) (found : Option Fault) → i < length parts
    → Put o all (drop i parts) values inst found → Put o all (get_or parts i Flags ∷ take (length parts - (i + 1)) (drop (i + 1) parts)) values inst found
here o all parts i values inst found inside = subst (λ left. Put o all left values inst found) (drop_more parts i Flags inside
    ∙ ap (λ others. get_or parts i Flags ∷ others) (sym (others_from parts i)))

pub put_part-requires : goal.put_part-requires
unfolding body
put_part-requires c =
    let now = here _ _ _ c.loop-i.i _ _ _ c.loop-i-test.true c.loop-i.invariant in
    omega (arith, enough_for now c.requires)

pub skip_comma-requires : goal.skip_comma-requires
unfolding body
skip_comma-requires c =
    let now = here _ _ _ c.loop-i.i _ _ _ c.loop-i-test.true c.loop-i.invariant in
    omega (arith, enough_for now c.requires, ap length c.in_ok-found.ensures.rest, length-drop (length (symbols_of c.args.op (get_or c.row_of.result.parts.now c.loop-i.i Flags))) c.loop-i.values)

pub loop-i-preserved : goal.loop-i-preserved
loop-i-preserved c =
    let now = here _ _ _ c.loop-i.i _ _ _ c.loop-i-test.true c.loop-i.invariant in
    let next = put_next _ _ _ _ now c.in_ok-found.ensures.inst c.in_ok-found.ensures.fault c.in_ok-found.ensures.rest c.skip_comma.ensures in
    subst (λ found. Put c.args.op c.args.values.now (drop (c.loop-i.i + 1) c.row_of.result.parts.now) c.skip_comma.new.values c.put_part.new.inst found) (sym c.earlier-fault.ensures)
    (subst (λ left. Put c.args.op c.args.values.now left c.skip_comma.new.values c.put_part.new.inst (earlier c.loop-i.fault c.in_ok-found.found))
    (others_from c.row_of.result.parts.now c.loop-i.i) next)

-- no part is left
done : (o : Op) (all : List Value) (parts : List Part) (i : ℕ) (values : List Value) (inst : WrittenInst) (found : Option Fault) → length parts ≤ i
    → Put o all (drop i parts) values inst found → Put o all [] values inst found
done o all parts i values inst found past = subst (λ left. Put o all left values inst found) (drop_of_length-le parts past)

pub returns-clause-values : goal.returns-clause-values
returns-clause-values c =
    let all = put_all (done _ _ _ c.loop-i.i _ _ _ c.loop-i-test.false c.loop-i.invariant) in
    subst (λ values. OnOk c.put.result (c.put.new.values ≡ values)) (ap (λ i. v.Inst i ∷ c.loop-i.values) c.in_ok-new.ensures ∙ sym all.0) c.put.ensures.value

pub returns-clause-fault : goal.returns-clause-fault
unfolding body
returns-clause-fault c =
    let all = put_all (done _ _ _ c.loop-i.i _ _ _ c.loop-i-test.false c.loop-i.invariant) in
    subst (λ found. IfOk c.put.result (λ fault. fault ≡ found)) all.1 c.put.ensures.fault
