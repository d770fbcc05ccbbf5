-- References are dropped, and objects deinitialise and end, in a typed state.
use Rattle.std.proofs.Common.{◌≡◌, ◌∙◌, ℕ, List, [], ◌∷◌, ◌++◌, append_assoc, refl, sym, ap, subst, true, false, Option, Some, None}
use Rattle.std.specs.Prelude.{bytes_eq, slice_get}
use Rattle.std.specs.List.{flat_map, list_any}
use Rattle.std.specs.Option.{option_to_list}
use Rattle.std.proofs.lemmas.Bool.{false≢true, or_left, or_right}
use Rattle.std.proofs.lemmas.Option.{same_Some}
use Rattle.std.proofs.lemmas.Slice.Eq.{bytes_eq-Decides}
use Rattle.holder_model_laws.specs.holder_model.RunTyping.CallForms.{IsDeinitOf}
use Rattle.holder_model_laws.specs.holder_model.RunTyping.Classes.{ClassesAreSound, is_a}
use Rattle.holder_model_laws.specs.holder_model.RunTyping.Forms.{OfValue, entry_forms}
use Rattle.sil_verifier_trails.specs.sil_verifier_accepted.AcceptedModules.inner.Checked.{IsVerified}
use Rattle.numbered_form.proofs.Lists.{each_weaker}
use Rattle.sil_verifier_trails.proofs.holder_model_typing.RunTypingLaws.Declared.{each_append}
use Rattle.holder_model_laws.specs.HolderLaws.inner.Steps.Ways.{DropsOne, Enters, FinishesOne, with_tasks}
use Rattle.numbered_form.specs.Lists.{Each}
use Rattle.numbered_form.specs.Names.{Name}
use Rattle.holder_model_laws.specs.holder_model.Data.{ValueOf}
use Rattle.holder_model_laws.specs.holder_model.Dropping.{deinits_of, deinits_of_class, field_references}
use Rattle.holder_model_laws.specs.holder_model.Frames.{Frame, has_any}
use Rattle.holder_model_laws.specs.holder_model.HolderStates.{HolderNext, HolderState}
use Rattle.holder_model_laws.specs.holder_model.ModuleFacts.{facts_of}
use Rattle.holder_model_laws.specs.holder_model.States.{Finishes, OutOfTurns, Task, Trapped}
use Rattle.holder_model_laws.specs.holder_model.declared.trap.Trap.TheVariants as trap
use Rattle.holder_model_values.specs.declared.run_values.phase.Phase.{Phase}
use Rattle.holder_model_values.specs.declared.run_values.phase.Phase.TheVariants as phase
use Rattle.holder_model_values.specs.RunValues.Memory.{is_dead_phase, is_live_phase, object_at, phase_of}
use Rattle.holder_model_values.specs.RunValues.Shapes.{Reference}
use Rattle.holder_model_values.specs.RunValues.Values as value
use Rattle.sil_ast.specs.declared.decl.Storage.TheVariants as storage
use Rattle.sil_ast.specs.declared.function.Function.{Function}
use Rattle.sil_ast.specs.declared.module.Module.{Module}
use Rattle.sil_ast.specs.declared.place.FuncId.{FuncId}
use Rattle.sil_ast.specs.declared.place.ObjectId.{ObjectId}
use Rattle.sil_types_declarations.specs.TypeDefinitions.Declarations.{Declarations, ancestors_of, declarations_of, inherits}
use Rattle.sil_types_declarations.specs.TypeDefinitions.Lookups.{deinit_of}
use Rattle.sil_verifier_trails.specs.holder_model_typing.TypedMemory.inner.Worlds.{DatumIs, IsWorldOf, MemoryIs, World}
use Rattle.sil_verifier_trails.proofs.holder_model_typing.TypedMemory.Homes.{object_is}
use Rattle.sil_verifier_trails.proofs.holder_model_typing.TypedMemory.Makes.{object_ended, phase_changed}
use Rattle.sil_verifier_trails.proofs.holder_model_typing.TypedMemory.Naming.{is_named}
use Rattle.sil_verifier_trails.proofs.holder_model_typing.TypedMemory.Referring.{object_references_made}
use Rattle.sil_verifier_frames.specs.inner.Typed.TypedStates.{DeinitsClass, IsMade, TasksAre}
use Rattle.sil_verifier_frames.proofs.Typed.Data.{DataAre}
use Rattle.sil_verifier_frames.proofs.Typed.GoesOn.{NextTyped, ends, enters, goes, typed_module}
use Rattle.sil_verifier_frames.proofs.Typed.Stacks.{dropping_typed}

-- the deinitialisers of an object's class and its ancestors

module _ (m : Module) (w : World) (sound : ClassesAreSound m) (o : ObjectId) (own : Name) (there : slice_get w.classes o.0 ≡ Some own) where
  abbrev d : Declarations
  d = declarations_of m

  of_class : (class : Name) → is_a d own class ≡ true → (g : Option FuncId) → deinit_of d class ≡ g → Each (DeinitsClass m w o) (option_to_list g)
  of_class class above None is = tt
  of_class class above (Some g) is = (record { class = class; is = is; names = is_named m w class own o there above }, tt)

  -- of classes that are all above it
  of_classes : (classes : List Name) → Each (λ class. is_a d own class ≡ true) classes → Each (DeinitsClass m w o) (flat_map (deinits_of_class d) classes)
  of_classes [] above = tt
  of_classes (class ∷ classes) above =
      each_append (DeinitsClass m w o) (deinits_of_class d class) (flat_map (deinits_of_class d) classes) (of_class class above.0 (deinit_of d class) refl) (of_classes classes above.1)

  -- an ancestor that is listed is found among all
  listed : (all front classes : List Name) → all ≡ front ++ classes → Each (λ class. list_any (bytes_eq class) all ≡ true) classes
  listed all front [] is = tt
  listed all front (class ∷ classes) is = (
    subst (λ names. list_any (bytes_eq class) names ≡ true) (sym is) (found front),
    listed all (front ++ class ∷ []) classes (is ∙ sym (append_assoc front (class ∷ []) classes)),
  )
    where
      found : (front : List Name) → list_any (bytes_eq class) (front ++ class ∷ classes) ≡ true
      found [] = or_left (bytes_eq class class) (list_any (bytes_eq class) classes) ((bytes_eq-Decides class class).1 refl)
      found (x ∷ front) = or_right (bytes_eq class x) (list_any (bytes_eq class) (front ++ class ∷ classes)) (found front)

  pub deinits_typed : Each (DeinitsClass m w o) (deinits_of d own)
  deinits_typed = of_classes (own ∷ ancestors_of d own) (
    sound.itself own,
    each_weaker (λ class. list_any (bytes_eq class) (ancestors_of d own) ≡ true) (λ class. is_a d own class ≡ true)
        (λ class found. or_right (bytes_eq class own) (inherits d own class) found) (ancestors_of d own) (listed (ancestors_of d own) [] (ancestors_of d own) refl),
  )

live_alive : (p : Phase) → is_live_phase p ≡ true → is_dead_phase p ≡ false
live_alive phase.Live e = refl
live_alive phase.Deiniting e = refl
live_alive phase.Dead e = absurd (false≢true e)

module _ (m : Module) (v : IsVerified m) (bound : ℕ) (w : World) (of : IsWorldOf m w) (s : HolderState) (memory : MemoryIs m w s.memory) where
  pub drops_one : TasksAre m w s.tasks → (o : ObjectId) → IsMade m w o → (n : HolderNext) → DropsOne m (facts_of m) bound s o n → NextTyped m n
  drops_one tasks o made _ (DropsOne.held_still left held) = goes s (record { world = w; of = of; memory = memory; tasks = tasks })
  drops_one tasks o made _ (DropsOne.not_live none not_live) = goes s (record { world = w; of = of; memory = memory; tasks = tasks })
  drops_one tasks o made _ (DropsOne.deinitialises none live turn) =
      let class : (object_at s.memory o).class ≡ made.0 = (object_is m w s.memory memory o made.0 made.1).is in
      goes _ (record {
        world = w;
        of = of;
        memory = phase_changed m w s.memory memory o (live_alive (phase_of s.memory o) live);
        tasks = (
          (
            made,
            subst (λ c. Each (DeinitsClass m w o) (deinits_of (declarations_of m) c)) (sym class)
                (deinits_typed m w (typed_module m v).classes o made.0 made.1),
          ),
          tasks,
        );
      })
  drops_one tasks o made _ (DropsOne.no_turn none live turn) = ends OutOfTurns s (λ e. cc)

  pub finishes_one : (rest : List (Task Frame)) → s.tasks ≡ rest → TasksAre m w rest → (o : ObjectId) → IsMade m w o → (n : HolderNext) → FinishesOne m (facts_of m) bound s o n → NextTyped m n
  finishes_one rest is tasks o made _ (FinishesOne.finishes none) = goes _ (record {
    world = w;
    of = of;
    memory = object_ended m w s.memory memory o;
    tasks = dropping_typed m w (field_references (object_at s.memory o)) s.tasks (object_references_made m w s.memory memory storage.Strong o made) (subst (TasksAre m w) (sym is) tasks);
  })
  finishes_one rest is tasks o made _ (FinishesOne.escapes left held) = ends (Trapped trap.Escaped) s (λ e. cc)

  -- a deinitialiser is called with the object
  pub calls_deinit : (g : FuncId) (gs : List FuncId) (o : ObjectId) (rest : List (Task Frame)) → TasksAre m w (Finishes (g ∷ gs) o ∷ rest) → (f : Function)
      → slice_get m.functions g.0 ≡ Some f → (n : HolderNext)
      → Enters m (facts_of m) bound (with_tasks m (facts_of m) bound s (Finishes gs o ∷ rest)) (Finishes gs o ∷ rest) g f (ValueOf (value.Object o) ∷ []) n → NextTyped m n
  calls_deinit g gs o rest tasks f there n way =
      let first : DeinitsClass m w o g = tasks.0.1.0 in
      let deinit : IsDeinitOf m first.class g = (typed_module m v).deinits first.class g first.is in
      let same : deinit.body ≡ f = same_Some deinit.body f (sym deinit.there ∙ there) in
      enters m v bound w of (with_tasks m (facts_of m) bound s (Finishes gs o ∷ rest)) memory (Finishes gs o ∷ rest) g f there
      (ap (λ (b : Function). has_any b.blocks) (sym same) ∙ deinit.bodied) (ValueOf (value.Object o) ∷ [])
      (subst (λ forms. DataAre m w forms (ValueOf (value.Object o) ∷ [])) (sym (ap (entry_forms (declarations_of m)) (sym same) ∙ deinit.takes))
      (DataAre.more (OfValue (Reference first.class)) (ValueOf (value.Object o)) [] [] (DatumIs.value (Reference first.class) (value.Object o) first.names) DataAre.none))
      (λ frame is. (tt, (tasks.0.0, tasks.0.1.1), tasks.1)) n way
