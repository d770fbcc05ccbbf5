use Rattle.std.proofs.Common.{List, sym, ◌∙◌, subst}
use Rattle.std.proofs.lemmas.List.{take_all}
use Rattle.sil_rules.specs.Order.{IsFirst}
use Rattle.sil_rules.specs.RuleFaults.Keys.{fault_key}
use Rattle.memory_rules_parts.specs.Shown.{IsShown}
use Rattle.memory_rules_parts.specs.declared.part.Part.{Part}
use Rattle.memory_rules_parts.proofs.FirstAmong.{among_one_more, behind_all}
use Rattle.memory_rules_parts.proofs.first.first_from.Goals as goal

pub returns-then-is_behind : goal.returns-then-is_behind
returns-then-is_behind c = λ count facts by.
    behind_all c.args.m.now facts c.args.f.now c.args.parts.now c.loop-number.number _ c.loop-number.best c.subject_of.result
    c.loop-number-test.true c.requires.rising c.subject_of.ensures (sym c.is_behind.ensures ∙ c.if-is_behind.true) (c.loop-number.invariant count facts by)

pub loop-number-preserved : goal.loop-number-preserved
loop-number-preserved c = λ count facts by.
    among_one_more c.args.m.now facts c.args.f.now c.args.parts.now c.loop-number.number _ c.loop-number.best c.in_ok-next.next c.earlier-best.result
    c.loop-number-test.true (c.loop-number.invariant count facts by) (c.in_ok-next.ensures count facts by) c.earlier-best.ensures

pub returns : goal.returns
returns c = λ count facts by.
    let P : List Part → Type 0 = λ v. IsFirst fault_key (IsShown c.args.m.now facts c.args.f.now v) c.loop-number.best in
    subst P (take_all c.loop-number.number c.args.parts.now c.loop-number-test.false) (c.loop-number.invariant count facts by)
