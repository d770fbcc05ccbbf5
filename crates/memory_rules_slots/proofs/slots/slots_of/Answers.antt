use Rattle.std.proofs.Common.{◌≡◌, ◌+◌, [], ◌∷◌, ◌++◌, sym, ap, ◌∙◌, subst}
use Rattle.std.specs.Prelude.{unwrap_or}
use Rattle.std.specs.List.{slice_get}
use Rattle.std.specs.declared.alloc.Global.{Global}
use Rattle.std.specs.declared.vec.Vec.{Vec}
use Rattle.std.proofs.lemmas.Option.{slice_get-get_or}
use Rattle.sil_ast.specs.declared.place.ValueId.{ValueId}
use Rattle.memory_rules_accesses.specs.declared.source.Source.TheVariants as source
use Rattle.memory_rules_accesses.specs.Sources.{is_slot_source}
use Rattle.memory_rules_slots.specs.inner.Searches.{AreSlots}
use Rattle.memory_rules_slots.proofs.SlotsListed.{slots_put, slots_left}
use Rattle.memory_rules_slots.proofs.slots.slots_of.Goals as goal
use Rattle.memory_rules_slots.proofs.slots.slots_of.Goals.{then-is_slot+in-Ok+in_ok-push, else-is_slot}

pub loop-index-preserved : goal.loop-index-preserved
loop-index-preserved c = elim c.if-is_slot.branch [
  | then-is_slot+in-Ok+in_ok-push w ↦
      let s : ValueId = record { 0 = w.in-Ok.number } in
      let place : w.in-Ok.number ≡ c.loop-index.index = w.in-Ok.ensures.1 in
      let new : c.if-is_slot.slots.items ≡ c.loop-index.slots.items ++ s ∷ [] = ap (λ (v : Vec ValueId Global). v.items) w.slots-is ∙ w.in_ok-push.ensures.items in
      let there = ap (λ o. is_slot_source (unwrap_or o source.Other)) (slice_get-get_or c.args.sources.now c.loop-index.index _ c.loop-index-test.true) ∙ sym c.is_slot.ensures
      ∙ w.if-is_slot.true in
      subst (AreSlots c.args.sources.now (c.loop-index.index + 1)) (sym new)
      (slots_put c.args.sources.now c.loop-index.index c.loop-index.slots.items s place (ap (λ k. is_slot_source (unwrap_or (slice_get c.args.sources.now k) source.Other)) place ∙ there)
      c.loop-index.invariant)
  | else-is_slot w ↦
      let same : c.if-is_slot.slots.items ≡ c.loop-index.slots.items = ap (λ (v : Vec ValueId Global). v.items) w.slots-is in
      subst (AreSlots c.args.sources.now (c.loop-index.index + 1)) (sym same)
      (slots_left c.args.sources.now c.loop-index.index c.loop-index.slots.items (ap (λ o. is_slot_source (unwrap_or o source.Other))
      (slice_get-get_or c.args.sources.now c.loop-index.index _ c.loop-index-test.true) ∙ sym c.is_slot.ensures ∙ w.if-is_slot.false) c.loop-index.invariant)
]
