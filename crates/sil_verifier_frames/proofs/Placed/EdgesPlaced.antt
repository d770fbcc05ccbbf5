-- An edge is taken: nothing is done to places.
use Rattle.std.proofs.Common.{◌≡◌, ℕ, List, [], ◌∷◌, Bool, true, false, Option, Some, refl, sym, ap, ◌∙◌}
use Rattle.std.specs.List.{list_any}
use Rattle.holder_model_laws.specs.holder_model.Data.{Datum}
use Rattle.holder_model_laws.specs.holder_model.Effects.{effect_of, unchanged}
use Rattle.holder_model_laws.specs.holder_model.Frames.{Frame}
use Rattle.holder_model_laws.specs.holder_model.HolderStates.{HolderNext, HolderState}
use Rattle.holder_model_laws.specs.holder_model.ModuleFacts.{ModuleFacts, facts_told}
use Rattle.holder_model_laws.specs.holder_model.States.{Task}
use Rattle.holder_model_laws.specs.holder_model.declared.row_effect.RowEffect.TheVariants.{NoEffect}
use Rattle.holder_model_laws.specs.memory_rules_accesses.Operations.{deallocates, operations_of}
use Rattle.holder_model_laws.specs.memory_rules_accesses.Sources.{sources_of}
use Rattle.holder_model_laws.specs.memory_rules_parts.Parts.{whole_cell}
use Rattle.sil_verifier_trails.specs.RunTrails.inner.RunTrails.{IsRunTrail}
use Rattle.sil_verifier_trails.specs.AcceptedPlaces.inner.Cells.{operates_on, touches}
use Rattle.sil_verifier_trails.specs.AcceptedPlaces.inner.Stacks.{keeps_slots}
use Rattle.sil_verifier_trails.specs.sil_verifier_accepted.AcceptedModules.inner.Checked.{IsVerified}
use Rattle.sil_verifier_trails.specs.sil_verifier_values.inner.Known.{IsAcceptedBody}
use Rattle.holder_model_laws.specs.HolderLaws.inner.Steps.Ways.{GoesBehind}
use Rattle.holder_model_laws.proofs.HolderLaws.Steps.WhichFaults.{results_err}
use Rattle.instruction_table.specs.Forms.{ending_of}
use Rattle.instruction_table.specs.declared.entries.Ending.{Ending}
use Rattle.instruction_table.specs.declared.entries.Ending.TheVariants as ending
use Rattle.instruction_table.specs.declared.op.Op.{Op}
use Rattle.instruction_table.specs.declared.op.Op.TheVariants as op
use Rattle.sil_cfg_items.specs.Items.{item_defined}
use Rattle.sil_cfg_items.specs.Parts.{item_inst, terminator_of}
use Rattle.holder_model_laws.specs.ownership_kinds_chains.declared.ownership_chains.facts.Facts.{Facts}
use Rattle.sil_ast.specs.declared.function.Function.{Function}
use Rattle.sil_ast.specs.declared.inst.Inst.{Inst}
use Rattle.sil_ast.specs.declared.module.Module.{Module}
use Rattle.sil_ast.specs.declared.place.EdgeId.{EdgeId}
use Rattle.sil_ast.specs.declared.place.ValueId.{ValueId}
use Rattle.sil_cfg.specs.declared.item.Item.TheVariants as item
use Rattle.sil_types_declarations.specs.TypeDefinitions.Declarations.{declarations_of}
use Rattle.sil_verifier_trails.specs.holder_model_typing.TypedMemory.inner.Worlds.{World}
use Rattle.sil_verifier_frames.specs.inner.Placed.Items.{PlacedNext}
use Rattle.sil_verifier_frames.specs.inner.Placed.TrailLaws.{TrailLaws}
use Rattle.sil_verifier_frames.proofs.Placed.Contents.{untouched_by}
use Rattle.sil_verifier_frames.proofs.Placed.EntriesKept.{ok_once}
use Rattle.sil_verifier_frames.proofs.Placed.FirstFrames.{IsFirst, TypingLaws, body}
use Rattle.sil_verifier_frames.proofs.Placed.Moving.{HoldsBehind, moved, still_behind}
use Rattle.sil_verifier_frames.proofs.Placed.OtherFaults.{result_fault}
use Rattle.sil_verifier_frames.proofs.Placed.Quiet.{PutsResults}
use Rattle.sil_verifier_frames.proofs.Placed.RowChanges.{is_still, still_slots}
use Rattle.sil_verifier_frames.proofs.Placed.RowsAt.{is_quiet, is_removal, no_operation, not_removed}

-- ---- terminators

abbrev pub is_inside : Ending → Bool
is_inside ending.Inside = true
is_inside _ = false

ends_only : (o : Op) → is_inside (ending_of o) ≡ false → effect_of o ≡ NoEffect
ends_only op.Br e = refl
ends_only op.CondBr e = refl
ends_only op.SwitchEnum e = refl
ends_only op.Return e = refl
ends_only op.Unreachable e = refl
ends_only _ e = absurd (cc)

module _ (i : Inst) (ends : is_inside (ending_of i.op) ≡ false) where
  no_effect : effect_of i.op ≡ NoEffect
  no_effect = ends_only i.op ends

  ends_slots : keeps_slots (Some i) ≡ true
  ends_slots = still_slots i.op (ap is_still no_effect)

  nothing_there : operations_of i ≡ []
  nothing_there = no_operation i (ap is_quiet no_effect)

  no_slot : deallocates i ≡ false
  no_slot = not_removed i (ap is_removal no_effect)

-- ---- behind an edge

module _ (laws : TrailLaws) (typing : TypingLaws) (m : Module) (told : ModuleFacts) (bound : ℕ) (verified : IsVerified m) (w : World) (Found : Type 0)
    (s : HolderState) (frame : Frame) (rest : List (Task Frame)) (f : Function) (first : IsFirst m w s.memory frame rest f)
    (e : EdgeId) (i : Inst) (terminator : terminator_of f e.block.0 ≡ Some i) (ends : is_inside (ending_of i.op) ≡ false) (trail : IsRunTrail f (item.Edge e ∷ frame.trail)) where
  accepted : IsAcceptedBody m frame.function.0 f
  accepted = body laws typing m verified w s.memory frame rest f first

  untouched : (v : ValueId) → touches (sources_of (declarations_of m) f) (whole_cell v) (item_inst f (item.Edge e)) ≡ false
  untouched v = ap (touches (sources_of (declarations_of m) f) (whole_cell v)) terminator
      ∙ untouched_by laws m frame.function.0 f accepted (whole_cell v) i
      (ap (list_any (operates_on (sources_of (declarations_of m) f) (whole_cell v))) (nothing_there i ends)) (no_slot i ends)

  pub edge_placed : (carried : List Datum) (next : HolderNext)
      → GoesBehind m told bound s rest frame f (item.Edge e) (record (unchanged s.memory) { results = carried }) next → PlacedNext Found m next
  edge_placed carried _ (GoesBehind.goes slots entries same put) =
      moved laws m frame.function.0 f accepted facts s.memory s.memory frame rest (item.Edge e) carried entries puts behind first.typed.is first.below slots
      (sym (ok_once frame.slots slots same)) []
    where
      facts : ValueId → Option Facts
      facts = facts_told told frame.function

      puts : PutsResults laws m frame.function.0 f accepted facts s.memory s.memory frame rest (item.Edge e) carried entries
      puts = record { holds = first.holds; goes = first.typed.goes; trail = trail; put = put }

      behind : HoldsBehind laws m frame.function.0 f accepted facts s.memory s.memory frame rest (item.Edge e) carried entries
      behind = still_behind laws m frame.function.0 f accepted facts s.memory s.memory frame rest (item.Edge e) carried entries puts first.none_lent refl
          (laws.slots_kept m frame.function.0 f accepted frame.trail (item.Edge e) (ap keeps_slots terminator ∙ ends_slots i ends))
          (λ v there. untouched v)
          (typing.edges_named m frame.function.0 f accepted frame.trail e frame.entries entries)
  edge_placed carried _ (GoesBehind.wrong_slot x same) = absurd (cc)
  edge_placed carried _ (GoesBehind.wrong_result slots x same put) =
      λ found. result_fault x (results_err (facts_told told frame.function) (item_defined f (item.Edge e)) carried frame.entries x put)
