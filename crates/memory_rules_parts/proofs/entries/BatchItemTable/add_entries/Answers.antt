use Rattle.std.proofs.Common.{◌≡◌, ◌++◌, ◌∙◌, List, ap, subst}
use Rattle.std.specs.Prelude.{OnOk}
use Rattle.std.specs.List.{flat_map}
use Rattle.ownership_kinds_chains.specs.OwnershipMarks.Known.{facts_of}
use Rattle.memory_rules_accesses.specs.Accesses.{accesses_with}
use Rattle.memory_rules_accesses.specs.declared.access.Access.{Access}
use Rattle.memory_rules_parts.specs.inner.Batches.{joint}
use Rattle.memory_rules_parts.proofs.entries.BatchItemTable.add_entries.Goals as goal

pub returns : goal.returns
returns c =
    let b = c.args.self.now in
    let P : List Access → Type 0 = λ v.
    OnOk c.add_of_accesses.result (c.add_of_accesses.new.entries.items ≡ c.args.entries.now.items ++ flat_map (joint b.m.now (facts_of b.k.now) b.parts.now) v) in
    subst P
    (c.as_slice.ensures.value ∙ c.in_ok-make_accesses.ensures ∙ ap (λ marks. accesses_with b.m.now marks b.f.now c.args.item) c.marks.ensures)
    c.add_of_accesses.ensures
