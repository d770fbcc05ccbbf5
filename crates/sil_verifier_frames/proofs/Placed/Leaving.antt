-- A return: no slot is left, the places that were given are as they are asked for, and the frame that waited goes on.
use Rattle.std.proofs.Common.{◌≡◌, inr, ℕ, List, [], ◌∷◌, map, true, false, Option, Some, refl, sym, ap, ◌∙◌, slice_get, arith}
use Rattle.std.proofs.lemmas.Bool.{true≢false}
use Rattle.holder_model_laws.specs.holder_model.Calling.{are_as_after, places_given}
use Rattle.holder_model_laws.specs.holder_model.Data.{Datum}
use Rattle.holder_model_laws.specs.holder_model.Frames.{Entry, Frame, has_any}
use Rattle.holder_model_laws.specs.holder_model.States.{Runs, Task}
use Rattle.holder_model_laws.specs.memory_rules_accesses.Operations.{operations_of}
use Rattle.holder_model_laws.specs.memory_rules_accesses.Sources.{is_trivial_source, sources_of}
use Rattle.sil_verifier_trails.specs.AcceptedPlaces.inner.Stacks.{keeps_slots}
use Rattle.sil_verifier_trails.specs.sil_verifier_values.inner.Known.{IsAcceptedBody}
use Rattle.sil_cfg_items.specs.Parts.{item_inst}
use Rattle.holder_model_laws.specs.ownership_kinds_chains.declared.ownership_chains.facts.Facts.{Facts}
use Rattle.holder_model_values.specs.RunValues.Memory.{Memory}
use Rattle.sil_ast.specs.declared.function.Function.{Function}
use Rattle.sil_ast.specs.declared.inst.Inst.{Inst}
use Rattle.sil_ast.specs.declared.module.Module.{Module}
use Rattle.sil_ast.specs.declared.place.PointId.{PointId}
use Rattle.sil_ast.specs.declared.place.ValueId.{ValueId}
use Rattle.sil_cfg.specs.declared.item.Item.{Item}
use Rattle.sil_cfg.specs.declared.item.Item.TheVariants as item
use Rattle.sil_types_declarations.specs.TypeDefinitions.Declarations.{declarations_of}
use Rattle.sil_verifier_frames.specs.inner.Placed.PlaceStates.{AreLentBy, BelowPlaced, TasksPlaced, as_given}
use Rattle.sil_verifier_frames.specs.inner.Placed.Roots.{argument}
use Rattle.sil_verifier_frames.specs.inner.Placed.TrailLaws.{TrailLaws}
use Rattle.sil_verifier_frames.proofs.Placed.Keeping.{keeps_roots}
use Rattle.sil_verifier_frames.proofs.Placed.Lending.{IsCallAt}
use Rattle.sil_verifier_frames.proofs.Placed.PartsNamed.{AreNewNamed}
use Rattle.sil_verifier_frames.proofs.Placed.Quiet.{PutsResults, behind, keeps, root_kept}
use Rattle.sil_verifier_frames.proofs.Placed.Resuming.{AreShaped, left_so, none_left}
use Rattle.sil_verifier_frames.proofs.Placed.Returning.{Returns, all_as_after, resumes_holds}
use Rattle.sil_verifier_frames.proofs.Placed.Taking.{given_kept, goes_placed}

module _ (laws : TrailLaws) (m : Module) (number : ℕ) (g : Function) (callee : IsAcceptedBody m number g) (memory : Memory) (top : Frame) (below : List (Task Frame)) (i : Item)
    (s : Returns laws m number g callee memory top below i) (shaped_top : AreShaped m g top) where
  -- the faults of a return never come
  pub slots_gone : has_any top.slots ≡ true → ⊥
  slots_gone e = true≢false (sym e ∙ none_left laws m number g callee memory top below i s)

  pub places_left : are_as_after memory (places_given g top.entries) ≡ false → ⊥
  places_left e = true≢false (sym (all_as_after laws m number g callee memory top below i s (λ v row is p names.
      shaped_top v (argument row true is) p names ∙ ap is_trivial_source is)) ∙ e)

  module _ (caller_number : ℕ) (f : Function) (body : IsAcceptedBody m caller_number f) (facts : ValueId → Option Facts) (frame : Frame) (rest : List (Task Frame))
      (point : PointId) (x : Inst) (results : List Datum) (entries : List Entry) where
    -- the frame that waited, at its call
    pub record Waited : Type 0 where
      pub call : IsCallAt laws m caller_number f body frame.trail point x
      pub by : AreLentBy frame.entries (operations_of x) frame.lent
      pub given : places_given g top.entries ≡ map as_given frame.lent
      pub shaped : AreShaped m f frame
      pub is : slice_get m.functions frame.function.0 ≡ Some f
      pub under : BelowPlaced m memory frame rest
      pub puts : PutsResults laws m caller_number f body facts memory memory frame rest (item.Inst point) results entries
      pub slots : keeps_slots (item_inst f (item.Inst point)) ≡ true
      pub news : AreNewNamed (sources_of (declarations_of m) f) f frame.trail (item.Inst point) frame.entries entries

    pub resumed : Waited → TasksPlaced m memory (Runs (record frame { trail = item.Inst point ∷ frame.trail; entries = entries; lent = [] }) ∷ rest)
    resumed w = goes_placed m memory memory f frame next rest w.is refl refl
        (given_kept laws m caller_number f body frame.entries entries (λ v row trivial src.
        root_kept laws m caller_number f body facts memory memory frame rest (item.Inst point) results entries w.puts v (argument row trivial src)))
        (resumes_holds laws m caller_number f body point x memory frame next rest (record {
          call = w.call;
          holds = w.puts.holds;
          by = w.by;
          left = λ l c own. left_so laws m number g callee memory top below i s shaped_top caller_number f body frame next rest point x w.call w.puts.holds w.shaped w.given l c own;
          trail = refl;
          keeps = keeps_roots laws m caller_number f body frame next rest memory memory w.puts.holds
              (keeps laws m caller_number f body facts memory memory frame rest (item.Inst point) results entries w.puts
              (laws.slots_kept m caller_number f body frame.trail (item.Inst point) w.slots) w.news);
        }))
        (omega arith) (λ n. inr refl) w.under
      where
        next : Frame
        next = behind laws m caller_number f body facts memory memory frame rest (item.Inst point) results entries
