use Rattle.std.proofs.Common.{◌≡◌, ◌++◌, ◌∙◌, List, Option, ap, ap₂, subst}
use Rattle.std.specs.Prelude.{OnOk}
use Rattle.std.specs.List.{flat_map}
use Rattle.sil_ast.specs.declared.inst.Inst.{Inst}
use Rattle.sil_ast.specs.declared.place.ValueId.{ValueId}
use Rattle.sil_cfg_items.specs.Items.{item_defined, item_taken}
use Rattle.sil_cfg_items.specs.Parts.{item_inst}
use Rattle.sil_cfg_items.specs.declared.taken.Taken.{Taken}
use Rattle.memory_rules_accesses.specs.Accesses.{begun, deallocations_of, does_of, ended, made, mentions_of}
use Rattle.memory_rules_accesses.specs.inner.Done.{does_among}
use Rattle.memory_rules_accesses.specs.declared.access.Access.{Access}
use Rattle.memory_rules_accesses.proofs.Operating.{all_steps, item_does}
use Rattle.memory_rules_accesses.proofs.accesses.make_accesses.Goals as goal

pub returns : goal.returns
returns c =
    let f = c.args.f.now in
    let item = c.args.item in
    let marks = c.args.marks.now in
    let inst = c.item_inst-inst.ensures in
    let taken : c.add_item_taken.new.taken.items ≡ item_taken f item = c.in_ok-add_item_taken.ensures ∙ ap (λ (v : List Taken). v ++ item_taken f item) c.clear.ensures.items in
    let defined : c.add_item_defined.new.defined.items ≡ item_defined f item = c.in_ok-add_item_defined.ensures ∙ ap (λ (v : List ValueId). v ++ item_defined f item) c.clear-2.ensures.items in
    let P : List Access → Type 0 = λ v. OnOk c.add_begins.result (c.add_begins.new.accesses.items ≡ v) in
    subst P
    (all_steps (flat_map ended marks) (mentions_of (item_inst f item) (item_taken f item)) (does_of (item_inst f item))
    (deallocations_of (item_inst f item)) (flat_map (made c.args.m.now) (item_defined f item)) (flat_map begun marks)
    c.add_ends.new.accesses.items c.add_mentions.new.accesses.items c.add_does.new.accesses.items c.add_deallocations.new.accesses.items c.add_made.new.accesses.items
    (c.in_ok-add_ends.ensures ∙ ap (λ (v : List Access). v ++ flat_map ended marks) c.clear-3.ensures.items)
    (c.in_ok-add_mentions.ensures ∙ ap₂ (λ (o : Option Inst) (v : List Taken). c.add_ends.new.accesses.items ++ mentions_of o v) inst (c.as_slice.ensures.value ∙ taken))
    (c.in_ok-add_does.ensures ∙ ap₂ (λ (o : Option Inst) (v : List Taken). c.add_mentions.new.accesses.items ++ does_among o v) inst (c.as_slice-2.ensures.value ∙ taken)
    ∙ ap (λ v. c.add_mentions.new.accesses.items ++ v) (item_does f item))
    (c.in_ok-add_deallocations.ensures ∙ ap (λ (o : Option Inst). c.add_does.new.accesses.items ++ deallocations_of o) inst)
    (c.in_ok-add_made.ensures ∙ ap (λ (v : List ValueId). c.add_deallocations.new.accesses.items ++ flat_map (made c.args.m.now) v) (c.as_slice-3.ensures.value ∙ defined)))
    c.add_begins.ensures
