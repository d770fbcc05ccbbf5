-- Behind an item, or where a function is entered, the objects of a state are right where they are so in its memory and tasks.
use Rattle.std.proofs.Common.{◌≡◌, inl, ℕ, List, ◌∷◌, refl, sym, ap, ◌∙◌, false, Some, Ok}
use Rattle.std.specs.Prelude.{slice_get}
use Rattle.sil_verifier_frames.specs.holder_model.Calling.{value_count}
use Rattle.sil_verifier_frames.specs.holder_model.Data.{Datum, references_in}
use Rattle.sil_verifier_frames.specs.holder_model.Effects.{Change, unchanged}
use Rattle.sil_verifier_frames.specs.holder_model.Frames.{Entry, Frame, no_entries, results_put}
use Rattle.sil_verifier_frames.specs.holder_model.HolderStates.{HolderNext, HolderState}
use Rattle.sil_verifier_frames.specs.holder_model.ModuleFacts.{ModuleFacts, facts_of, facts_told}
use Rattle.sil_verifier_frames.specs.holder_model.StepParts.{slots_behind}
use Rattle.sil_verifier_frames.specs.holder_model.States.{Ends, Goes, Runs, Task, dropping}
use Rattle.sil_verifier_frames.specs.memory_rules_accesses.Operations.{access_kind_of}
use Rattle.sil_verifier_frames.specs.ownership_kinds_origins.Facts.{facts_in}
use Rattle.sil_verifier_frames.proofs.sil_verifier_values.Facts.{run_facts}
use Rattle.sil_verifier_frames.specs.holder_model_laws.HolderLaws.inner.Held.Items.{frame_behind}
use Rattle.sil_verifier_frames.specs.holder_model_laws.HolderLaws.inner.Held.ObjectStates.{AreObjectsRight, TasksBuild}
use Rattle.sil_cfg_items.specs.Items.{item_defined}
use Rattle.sil_cfg_items.specs.Parts.{item_inst}
use Rattle.numbered_form.specs.Lists.{Each}
use Rattle.holder_model_values.specs.RunValues.Memory.{Memory}
use Rattle.holder_model_values.specs.RunValues.Places.{Place}
use Rattle.sil_ast.specs.declared.function.Function.{Function}
use Rattle.sil_ast.specs.declared.inst.Inst.{Inst}
use Rattle.sil_ast.specs.declared.module.Module.{Module}
use Rattle.sil_ast.specs.declared.place.FuncId.{FuncId}
use Rattle.sil_cfg.specs.declared.item.Item.{Item}
use Rattle.sil_cfg.specs.declared.item.Item.TheVariants as item
use Rattle.sil_types_declarations.specs.TypeDefinitions.Declarations.{declarations_of}
use Rattle.sil_verifier_frames.specs.holder_model_laws.HolderLaws.inner.Steps.Ways.{GoesBehind}
use Rattle.sil_verifier_frames.specs.holder_model_laws.HolderLaws.inner.Whole.Whole.{IsWholeMemory, NameWhole}
use Rattle.sil_verifier_runs.specs.inner.Built.Said.{said}
use Rattle.sil_verifier_runs.proofs.Built.Apart.{KeepsApart}
use Rattle.sil_verifier_runs.proofs.Built.Filling.{fills_none, stores}
use Rattle.sil_verifier_runs.proofs.Built.ItemsDone.{Doing, MakesNone, apart_quietly, quietly_right, stack_stays}

abbrev pub BuiltNext : Module → HolderNext → Type 0
BuiltNext m (Goes s) = AreObjectsRight m (said m) s
BuiltNext m (Ends e s) = Unit {0}

module _ (m : Module) (bound : ℕ) where
  abbrev pub told : ModuleFacts
  told = facts_of m

  -- ---- behind an item

  -- what holds of memory and tasks behind the item, with these slots and entries
  abbrev pub LeadsBy : List (Task Frame) → Frame → Item → Change → List Place → List Entry → Type 0
  LeadsBy rest frame i c slots entries =
      IsWholeMemory c.memory × TasksBuild m (said m) c.memory (dropping c.dropped (Runs (frame_behind frame i entries slots) ∷ rest))

  pub behind_built : (s : HolderState) (rest : List (Task Frame)) (frame : Frame) (f : Function) → slice_get m.functions frame.function.0 ≡ Some f → (i : Item) (c : Change)
      → ((slots : List Place) (entries : List Entry) → slots_behind c.slots frame.slots ≡ Ok slots
      → results_put (facts_in (declarations_of m) f) (item_defined f i) c.results frame.entries ≡ Ok entries → LeadsBy rest frame i c slots entries)
      → (next : HolderNext) → GoesBehind m told bound s rest frame f i c next → BuiltNext m next
  behind_built s rest frame f is i c leads _ (GoesBehind.goes slots entries so put) =
      let right = leads slots entries so (ap (λ facts. results_put facts (item_defined f i) c.results frame.entries) (sym (run_facts m frame.function f is)) ∙ put) in
      record { memory = right.0; tasks = right.1 }
  behind_built s rest frame f is i c leads _ (GoesBehind.wrong_slot x e) = tt
  behind_built s rest frame f is i c leads _ (GoesBehind.wrong_result slots x so put) = tt

  -- what an item leaves whose instruction keeps its results apart, writes nothing and makes nothing
  module _ (memory : Memory) (rest : List (Task Frame)) (frame : Frame) (f : Function) (i : Item) (left : List Entry) (doing : Doing m memory rest frame f i left)
      (apart : KeepsApart f i) (makes : MakesNone m memory rest frame f i left)
      (writes : (x : Inst) → item_inst f i ≡ Some x → stores (access_kind_of x.op) ≡ false) where
    pub given_built : (xs : List Datum) → Each (λ y. NameWhole memory (references_in y)) xs → (slots : List Place) (entries : List Entry)
        → results_put (facts_in (declarations_of m) f) (item_defined f i) xs left ≡ Ok entries
        → LeadsBy rest frame i (record (unchanged memory) { results = xs }) slots entries
    given_built xs whole slots entries put =
        quietly_right m memory rest frame f i left doing makes (λ object k. inl (fills_none m frame.function.0 f doing.body i object k writes))
        (record (unchanged memory) { results = xs })
        (apart_quietly m memory rest frame f i left doing apart (record (unchanged memory) { results = xs }) (doing.stands.whole, λ o is. is)
        (stack_stays m memory memory (Runs frame ∷ rest) (doing.stands.whole, λ o is. is) refl) tt whole)
        (facts_in (declarations_of m) f) entries slots put

  -- ---- a function is entered

  -- the entries of the callee
  pub callee_entries : (g : FuncId) (callee : Function) → slice_get m.functions g.0 ≡ Some callee → (args : List Datum) (entries : List Entry)
      → results_put (facts_told told g) (item_defined callee item.Entry) args (no_entries (value_count callee)) ≡ Ok entries
      → results_put (facts_in (declarations_of m) callee) (item_defined callee item.Entry) args (no_entries (value_count callee)) ≡ Ok entries
  callee_entries g callee there args entries put =
      ap (λ facts. results_put facts (item_defined callee item.Entry) args (no_entries (value_count callee))) (sym (run_facts m g callee there)) ∙ put
