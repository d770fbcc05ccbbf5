-- For `earlier_refusal`: of a fault and a bad place the one that stands first.
use Rattle.std.proofs.Common.{◌≡◌, ◌≤◌, Some, subst, sym, ◌∙◌, arith}
use Rattle.sil_grammar_tree.specs.declared.written_tree.fault.Fault.{Fault}
use Rattle.sil_grammar.specs.Refusals.{IsRefusalOf, shapeless, faulty}
use Rattle.sil_grammar.proofs.ReadLemmas.{bad_spells_none, clear_front, faulty_front}
use Rattle.sil_grammar.proofs.reader.earlier_refusal.Goals.{in_default-via-in-Some+else-fault-bad, in_default-via-in_default}
use Rattle.sil_grammar.proofs.reader.earlier_refusal.Goals as goal

pub returns-in-Some : goal.returns-in-Some
returns-in-Some c text lexing count left is broken found =
    subst (IsRefusalOf text) (sym c.refusal_of_fault.ensures)
    (faulty c.in-Some.fault (bad_spells_none text c.args.bad broken.first)
    (faulty_front text lexing is c.args.bad count c.args.fault left broken found c.in-Some.fault c.in-Some.is (omega (arith, c.if-fault-bad.true))))

pub returns-in_default : goal.returns-in_default
returns-in_default c text lexing count left is broken found =
    subst (IsRefusalOf text) (sym c.refusal_of_bad.ensures)
    (shapeless c.args.bad (bad_spells_none text c.args.bad broken.first)
    (clear_front text lexing is c.args.bad count c.args.fault left broken found (λ f some.
    elim c.in_default.branch [
      | in_default-via-in-Some+else-fault-bad w ↦
          let same : Some f ≡ Some w.in-Some.fault = sym some ∙ w.in-Some.is in
          let this : f ≡ w.in-Some.fault = cc same in
          subst (λ (g : Fault). c.args.bad.place.offset ≤ g.place.offset) (sym this) w.if-fault-bad.false
      | in_default-via-in_default w ↦ absurd (w.in_default.not-Some f some)
    ])))
