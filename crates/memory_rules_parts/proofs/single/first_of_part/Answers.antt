use Rattle.std.proofs.Common.{[], ◌∷◌, subst, ap, ◌∙◌, Option, Some}
use Rattle.reach_engine_marks.specs.PathChecks.First.{IsFirst}
use Rattle.reach_engine_marks.specs.declared.path_checks.fault.PathFault.{PathFault}
use Rattle.memory_rules_accesses.proofs.ByItem.{anew_agrees}
use Rattle.memory_rules_parts.specs.inner.Batches.{batch_table}
use Rattle.memory_rules_parts.specs.Shown.{first_root}
use Rattle.memory_rules_parts.proofs.AtOnePart.{first_alone, none_among}
use Rattle.memory_rules_parts.proofs.single.first_of_part.Goals as goal

pub returns-in-None : goal.returns-in-None
returns-in-None c = λ count facts by.
    let P : Option PathFault → Type 0 = λ o. IsFirst c.args.f.now (batch_table c.args.m.now facts c.args.f.now (c.args.part ∷ [])) o in
    none_among c.args.m.now facts c.args.f.now (c.args.part ∷ []) (subst P c.in-None.is (c.in_ok-first_number.ensures count facts by))

pub returns-in_ok-does-in-Some : goal.returns-in_ok-does-in-Some
returns-in_ok-does-in-Some c = λ count facts by.
    let P : Option PathFault → Type 0 = λ o. IsFirst c.args.f.now (batch_table c.args.m.now facts c.args.f.now (c.args.part ∷ [])) o in
    let fault = c.in-Some.fault in
    let first : IsFirst c.args.f.now (batch_table c.args.m.now facts c.args.f.now (c.args.part ∷ [])) (Some fault) = subst P c.in-Some.is (c.in_ok-first_number.ensures count facts by) in
    let does = c.in_ok-does-in-Some.ensures ∙ anew_agrees c.args.m.now c.args.f.now c.args.g.now c.args.k.now count facts by fault.item in
    first_alone c.args.m.now facts c.args.f.now c.args.part fault c.subject_of.result c.other_of.result first c.subject_of.ensures
    (c.other_of.ensures ∙ ap (first_root c.args.m.now c.args.part) (c.deref.ensures.value ∙ does))
