-- What a change retains isn't dead: it comes from operands, which name nothing dead, from a place that keeps it strongly, or is live.
use Rattle.std.proofs.Common.{◌≡◌, ◌+◌, ◌<◌, ℕ, List, [], ◌∷◌, Bool, true, false, cond, refl, sym, ap, ◌∙◌, subst, arith}
use Rattle.std.proofs.lemmas.Bool.{and_parts, false_from_ne_true, or_from}
use Rattle.std.proofs.lemmas.Option.{same_Some}
use Rattle.sil_cfg_items.specs.Items.{item_taken}
use Rattle.numbered_form.specs.Lists.{Each}
use Rattle.holder_model_values.specs.RunValues.Memory.{Memory, is_dead, is_dead_phase, is_live}
use Rattle.holder_model_values.specs.RunValues.Shapes.{Shape}
use Rattle.holder_model_values.specs.RunValues.Values.{references_of}
use Rattle.sil_ast.specs.declared.inst.Inst.{Inst}
use Rattle.sil_ast.specs.declared.module.Module.{Module}
use Rattle.sil_ast.specs.declared.place.ObjectId.{ObjectId}
use Rattle.sil_cfg.specs.declared.item.Item.TheVariants as item
use Rattle.sil_types_declarations.specs.TypeDefinitions.Declarations.{Declarations, declarations_of}
use Rattle.sil_verifier_runs.specs.sil_verifier_accepted.AcceptedModules.inner.Checked.{IsVerified}
use Rattle.sil_verifier_runs.specs.sil_verifier_values.inner.Known.{IsAcceptedBody}
use Rattle.sil_verifier_runs.proofs.sil_verifier_values.Facts.{run_facts}
use Rattle.sil_verifier_runs.specs.inner.RightStates.{IsRightState}
use Rattle.sil_verifier_runs.specs.holder_model_laws.HolderLaws.inner.Counts.Doing.{Leaves}
use Rattle.sil_verifier_runs.specs.holder_model_laws.HolderLaws.inner.Counts.Doing as doing
use Rattle.sil_verifier_runs.specs.holder_model_laws.HolderLaws.inner.Counts.Naming.{HoldsNone, IsAlive, LoadsStrongly, in_data, in_datum}
use Rattle.sil_verifier_runs.proofs.holder_model_laws.HolderLaws.Counts.Alive.{after_phase}
use Rattle.sil_verifier_runs.proofs.holder_model_laws.HolderLaws.Counts.Changes.{changes_told}
use Rattle.sil_verifier_runs.proofs.holder_model_laws.HolderLaws.Counts.Places.{live_not_dead}
use Rattle.sil_verifier_runs.proofs.holder_model_laws.HolderLaws.Counts.Sums.{total_cons}
use Rattle.sil_verifier_runs.proofs.Guarded.Changing.{changes_alive, given_alive}
use Rattle.sil_verifier_runs.proofs.Guarded.Named.{dead_named}
use Rattle.sil_verifier_runs.proofs.Guarded.TypedGiven.{typed_for_rows}
use Rattle.sil_verifier_runs.specs.holder_model.Data.{Datum, ValueOf}
use Rattle.sil_verifier_runs.specs.holder_model.Effects as effects
use Rattle.sil_verifier_runs.specs.holder_model.Effects.{Change}
use Rattle.sil_verifier_runs.specs.holder_model.Frames.{any_dead, operands_of}
use Rattle.sil_verifier_runs.specs.holder_model.Holders.{of_references, one_object}
use Rattle.sil_verifier_runs.specs.holder_model.HolderStates.{HolderState}
use Rattle.sil_verifier_runs.specs.holder_model.MemoryEffects.{all_live, copies_with}
use Rattle.sil_verifier_runs.specs.holder_model.ModuleFacts.{facts_of, facts_told}
use Rattle.sil_verifier_runs.specs.holder_model.ModuleShapes.{ModuleShapes, shapes_in, shapes_of}
use Rattle.sil_verifier_runs.specs.holder_model.Standing.{stands_at}
use Rattle.sil_verifier_runs.specs.holder_model.States.{Runs}
use Rattle.sil_verifier_runs.specs.sil_verifier_frames.inner.Typed.TypedStates.{FrameIs, TasksAre}
use Rattle.sil_verifier_runs.proofs.sil_verifier_frames.Typed.GoesOn.{accepted_body}
use Rattle.ownership_lowering_runs.specs.SameRuns.inner.InRightStates.{AreRetainedAlive, AtInst, effect_there}

-- what is live isn't dead
live_alive : (m : Memory) (os : List ObjectId) → all_live m os ≡ true → any_dead m os ≡ false
live_alive m [] h = refl
live_alive m (o ∷ os) h =
    let parts = and_parts (is_live m o) (all_live m os) h in
    or_from (is_dead m o) (any_dead m os) (live_not_dead m o parts.0) (live_alive m os parts.1)

-- ---- by what the change leaves

module _ (d : Declarations) (shapes : ModuleShapes) (values : List Shape) (m : Memory) (i : Inst) (xs : List Datum) (alive : Each (IsAlive m) xs) where
  -- what the change leaves holds nothing that is dead behind it
  abbrev HoldsNoneDead : Change → Type 0
  HoldsNoneDead c = (o : ObjectId) → is_dead c.memory o ≡ true → HoldsNone (one_object o) c

  copied : (b : Bool) (os : List ObjectId) → any_dead m os ≡ false → any_dead m (cond b os []) ≡ false
  copied true os h = h
  copied false os h = refl

  retained : (c : Change) → Leaves d shapes values m i xs c → HoldsNoneDead c → any_dead m c.retained ≡ false
  retained _ doing.nothing none = refl
  retained _ (doing.bare x e) none = refl
  retained _ (doing.object class is) none = refl
  retained _ (doing.slot s p is home) none = refl
  retained _ (doing.removes p is given) none = refl
  retained _ (doing.gives x is given) none = refl
  retained _ (doing.copies x is given) none = (subst (Each (IsAlive m)) given alive).0
  retained _ (doing.retains x is given) none = (subst (Each (IsAlive m)) given alive).0
  retained _ (doing.drops x is given) none = refl
  retained _ (doing.loads o p x is done given at) none =
      copied (copies_with i.qualifier) (references_of x) (false_from_ne_true (any_dead m (references_of x)) (λ h.
      let named = dead_named m (references_of x) h in
      let held : in_data (one_object named.0) (ValueOf x ∷ []) ≡ 0 = (none named.0 (ap is_dead_phase (after_phase d shapes values m i xs o p named.0) ∙ named.2)).results in
      let one : in_data (one_object named.0) (ValueOf x ∷ []) ≡ of_references (one_object named.0) (references_of x) + 0 =
      total_cons (in_datum (one_object named.0)) (ValueOf x) [] in
      let some : 0 < of_references (one_object named.0) (references_of x) = named.1 in
      omega (arith, some, held, one)))
  retained _ (doing.names o p x is done given at live) none = live_alive m (references_of x) live
  retained _ (doing.names_none o p is done given) none = refl
  retained _ (doing.stores o x p is done given) none = refl
  retained _ (doing.destroys o p is done given) none = refl
  retained _ (doing.groups vs is are) none = refl
  retained _ (doing.chooses k x is given) none = refl
  retained _ (doing.member k x y is given at) none = refl
  retained _ (doing.members x ys is given are) none = refl
  retained _ (doing.part k p q is given at) none = refl
  retained _ (doing.field x o q is given is_o home) none = refl

-- ---- in a right state

module _ (m : Module) (bound : ℕ) (s : HolderState) (verified : IsVerified m) (right : IsRightState m s) (x : AtInst m s) (c : Change)
    (makes : effect_there m bound s x ≡ effects.Makes c) where
  tasks : TasksAre m right.typed.world (Runs x.frame ∷ x.rest)
  tasks = subst (TasksAre m right.typed.world) x.is right.typed.tasks

  frame_is : FrameIs m right.typed.world x.f x.frame
  frame_is = subst (λ g. FrameIs m right.typed.world g x.frame) (same_Some tasks.0.0 x.f (sym tasks.0.1.is ∙ x.there)) tasks.0.1

  accepted : IsAcceptedBody m x.frame.function.0 x.f
  accepted = accepted_body m verified x.frame.function x.f x.there frame_is.bodied

  alive : Each (IsAlive s.memory) x.ops.given
  alive = given_alive (facts_told (facts_of m) x.frame.function) s.memory x.frame.entries (item_taken x.f (item.Inst (stands_at x.f x.frame.trail))) x.ops x.found

  loads : LoadsStrongly s.memory x.i x.ops.given
  loads =
      (typed_for_rows m x.frame.function.0 x.f accepted right.typed.world s.memory (stands_at x.f x.frame.trail) x.i x.frame.entries x.ops x.here right.typed.memory frame_is.entries
      (ap (λ facts. operands_of facts s.memory x.frame.entries (item_taken x.f (item.Inst (stands_at x.f x.frame.trail)))) (sym (run_facts m x.frame.function x.f x.there)) ∙ x.found)).1

  alive_retained : any_dead s.memory c.retained ≡ false
  alive_retained =
      retained (declarations_of m) (shapes_of m) (shapes_in (shapes_of m) x.frame.function) s.memory x.i x.ops.given alive c
      (changes_told (declarations_of m) (shapes_of m) (shapes_in (shapes_of m) x.frame.function) s.memory x.i x.ops.given c makes)
      (changes_alive (declarations_of m) (shapes_of m) (shapes_in (shapes_of m) x.frame.function) s.memory s.tasks x.i x.ops.given c makes right.guarded.dead alive loads).1

pub retained_alive : AreRetainedAlive
retained_alive m bound s verified right x other c slots entries leaves = alive_retained m bound s verified right x c leaves.makes
