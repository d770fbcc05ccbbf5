use Rattle.std.proofs.Common.{◌≡◌, ◌++◌, List, ap, ◌∙◌, subst}
use Rattle.std.specs.Prelude.{OnOk}
use Rattle.std.specs.List.{flat_map}
use Rattle.ownership_kinds_chains.specs.OwnershipMarks.Known.{facts_of}
use Rattle.reach_engine_marks.specs.declared.path_checks.entry.Entry.{Entry}
use Rattle.memory_rules_parts.specs.inner.Batches.{entry_at}
use Rattle.memory_rules_parts.specs.inner.Index.{HasAll}
use Rattle.memory_rules_parts.specs.inner.Keys.{keys_of_access}
use Rattle.memory_rules_parts.specs.declared.key.Key.{Key}
use Rattle.memory_rules_parts.proofs.Listed.{by_index}
use Rattle.memory_rules_parts.proofs.entries.add_by_index.Goals as goal

pub returns : goal.returns
returns c =
    let keys : c.as_slice.result.now ≡ keys_of_access c.args.batch.now.m.now (facts_of c.args.batch.now.k.now) c.args.access =
    c.as_slice.ensures.value ∙ c.in_ok-add_keys_of_access.ensures ∙ ap (λ v. v ++ keys_of_access c.args.batch.now.m.now (facts_of c.args.batch.now.k.now) c.args.access) c.new-keys.ensures.items in
    let P : List Entry → Type 0 = λ v. OnOk c.add_of_each.result (c.add_of_each.new.entries.items ≡ c.args.entries.now.items ++ v) in
    subst P
    (ap (flat_map (entry_at c.args.batch.now.m.now (facts_of c.args.batch.now.k.now) c.args.batch.now.parts.now c.args.access)) c.as_slice-2.ensures.value
    ∙ by_index c.args.batch.now.m.now (facts_of c.args.batch.now.k.now) c.args.batch.now.parts.now c.args.access c.args.rows.now c.in_ok-numbers.numbers.items c.requires c.in_ok-numbers.ensures.rising
    (subst (λ (v : List Key). HasAll c.args.rows.now v c.in_ok-numbers.numbers.items) keys c.in_ok-numbers.ensures.all))
    c.add_of_each.ensures
