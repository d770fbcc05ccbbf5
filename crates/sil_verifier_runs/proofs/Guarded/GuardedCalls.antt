-- Where a function is called, what its Guaranteed arguments name is guarded in the frame that waits for it.
use Rattle.std.proofs.Common.{◌≡◌, ℕ, suc, List, ◌∷◌, map, sym, ap, ap₂, ◌∙◌, subst, ⊎_elim, Some, None, Ok}
use Rattle.std.specs.Prelude.{slice_get}
use Rattle.std.proofs.lemmas.Option.{same_Some}
use Rattle.sil_cfg_items.specs.Items.{item_defined, item_taken}
use Rattle.sil_cfg_items.specs.Parts.{inst_at}
use Rattle.sil_cfg_items.specs.declared.taken.Taken.{Taken}
use Rattle.numbered_form.specs.Lists.{Each}
use Rattle.sil_ast.specs.declared.function.Function.{Function}
use Rattle.sil_ast.specs.declared.inst.Inst.{Inst}
use Rattle.sil_ast.specs.declared.module.Module.{Module}
use Rattle.sil_ast.specs.declared.place.FuncId.{FuncId}
use Rattle.sil_ast.specs.declared.place.ObjectId.{ObjectId}
use Rattle.sil_ast.specs.declared.place.PointId.{PointId}
use Rattle.sil_ast.specs.declared.place.ValueId.{ValueId}
use Rattle.sil_cfg.specs.declared.item.Item.TheVariants as item
use Rattle.sil_types_declarations.specs.TypeDefinitions.Declarations.{Declarations, declarations_of}
use Rattle.sil_types_declarations.specs.declared.type_definitions.kind.Kind.TheVariants as kind
use Rattle.holder_model_values.specs.RunValues.Memory.{Memory}
use Rattle.holder_model_values.specs.RunValues.Shapes.{Shape}
use Rattle.sil_verifier_frames.specs.ownership_kinds_origins.Facts.{facts_in}
use Rattle.sil_verifier_frames.specs.holder_model_typing.OwnedRunTyping.inner.OwnedTyped.{OwnedFunction, OwnedInst}
use Rattle.sil_verifier_frames.specs.sil_verifier_values.inner.Known.{IsAcceptedBody, kind_at}
use Rattle.sil_verifier_frames.specs.holder_model.RunTyping.EndForms.{value_in}
use Rattle.sil_verifier_frames.specs.holder_model.RunTyping.Forms.{OfFunction, form_by, form_of}
use Rattle.sil_verifier_frames.proofs.sil_verifier_values.Accepted.{typed, well_typed}
use Rattle.sil_verifier_frames.proofs.holder_model_typing.RunTypingLaws.CallFacts.{Called, function_only}
use Rattle.sil_verifier_frames.proofs.holder_model_typing.RunTypingLaws.Rows.Points.{is_at}
use Rattle.sil_verifier_frames.specs.holder_model_typing.TypedMemory.inner.Worlds.{World}
use Rattle.sil_verifier_frames.specs.inner.Typed.TypedStates.{EntriesAre}
use Rattle.sil_verifier_frames.proofs.Typed.Data.{read_function}
use Rattle.sil_verifier_frames.proofs.Typed.Entries.{FitEach, Fits, operands_fit}
use Rattle.sil_verifier_frames.proofs.Typed.GoesOn.{typed_module}
use Rattle.sil_verifier_frames.specs.holder_model.Calling.{as_argument}
use Rattle.sil_verifier_frames.specs.holder_model.Data.{Datum, FunctionOf, as_function, references_in}
use Rattle.sil_verifier_frames.specs.holder_model.Effects as effects
use Rattle.sil_verifier_frames.specs.holder_model.Frames.{Entry, Frame, Lent, LentPlace, Operands, datum_in, entry_at, made_entry, operand_data, operands_of, without_ended}
use Rattle.sil_verifier_frames.specs.holder_model.MemoryEffects.{effect}
use Rattle.sil_verifier_frames.specs.holder_model.ModuleShapes.{ModuleShapes}
use Rattle.sil_verifier_frames.specs.holder_model.States.{Runs, Task}
use Rattle.sil_verifier_frames.proofs.holder_model_laws.HolderLaws.Counts.Entries.{IsLeftOf, left_of, was_there}
use Rattle.sil_verifier_frames.proofs.holder_model_laws.HolderLaws.Counts.Moves.{operands_are}
use Rattle.sil_verifier_runs.specs.inner.Guarded.Guards.{AreLentGuarded, AreOfKinds, Guard, IsCurrent, IsNamed, IsThere, owner}
use Rattle.sil_verifier_runs.specs.inner.Guarded.GuardedStates.{IsGuardedIn, IsGuardedRun, Loans}
use Rattle.sil_verifier_runs.specs.inner.Guarded.LoansKept.{LendOn}
use Rattle.sil_verifier_runs.specs.inner.Guarded.Stepping.{AreArgumentsGuarded, KeepsBorrowed, frame_waiting}
use Rattle.sil_verifier_runs.proofs.Guarded.CallOperands.{all_taken, calling, ends_no_scope, lent_operand, taken_is}
use Rattle.sil_verifier_runs.proofs.Guarded.CallRows.{IsCall, call_row}
use Rattle.sil_verifier_runs.proofs.Guarded.FirstFrames.{first_kinds, first_left}
use Rattle.sil_verifier_runs.proofs.Guarded.Guards.{guard_there, guards_kept}
use Rattle.sil_verifier_runs.proofs.Guarded.Handing.{argument_names}
use Rattle.sil_verifier_runs.proofs.Guarded.LentArguments.{IsInObject, is_argument, lent_made, mapped_at, own_base}
use Rattle.sil_verifier_runs.proofs.Guarded.Sources as sources
use Rattle.sil_verifier_runs.proofs.Guarded.Sources.{held, lends_it}

first_fits : (m : Module) (w : World) (f : Function) (v : ValueId) (x : Datum) (vs : List ValueId) (xs : List Datum) → FitEach m w f (v ∷ vs) (x ∷ xs) → Fits m w f v x
first_fits m w f v x vs xs (FitEach.more _ _ _ _ fit rest) = fit

datum_there : (e : Entry) (x : Datum) → datum_in e ≡ Some x → IsThere e
datum_there e x h gone = let none : None ≡ Some x = ap datum_in (sym gone) ∙ h in absurd (cc)

module _ (m : Module) (loans : Loans) (n : ℕ) (f : Function) (a : IsAcceptedBody m n f) (w : World) (memory : Memory) (rest : List (Task Frame)) (frame : Frame)
    (p : PointId) (i : Inst) (here : inst_at f p ≡ Some i) (ops : Operands) (state : IsGuardedRun m loans memory (Runs frame ∷ rest))
    (is : slice_get m.functions frame.function.0 ≡ Some f) (entries_are : EntriesAre m w f frame.entries)
    (ops_are : operands_of (facts_in (declarations_of m) f) memory frame.entries (item_taken f (item.Inst p)) ≡ Ok ops)
    (shapes : ModuleShapes) (values : List Shape) (g : FuncId) (args : List Datum)
    (calls : effect (declarations_of m) shapes values memory i ops.given ≡ effects.Calls g args) where
  abbrev d : Declarations
  d = declarations_of m

  pub call : IsCall d shapes values memory i ops.given g args
  call = call_row d shapes values memory i ops.given g args calls

  abbrev pub how : Called m (well_typed m a.verified) n f a.body.there p.block.0 p.index i (is_at f p i here) call.is
  how = calling m n f a p i here call.is

  -- ---- which function is called

  of_function : OwnedFunction m f
  of_function = (typed_module m a.verified).functions n f a.body.there

  of_inst : OwnedInst m f p i
  of_inst = of_function.insts p i here

  fits : FitEach m w f (how.value.value ∷ map value_in how.handed) (call.callee ∷ args)
  fits =
      subst (FitEach m w f (how.value.value ∷ map value_in how.handed)) call.given
      (subst (λ vs. FitEach m w f vs ops.given) (of_inst.takes ∙ ap (map value_in) how.operands)
      (operands_fit m w f (facts_in d f) memory (item_taken f (item.Inst p)) frame.entries ops entries_are (of_function.items (item.Inst p)).taken ops_are).0)

  stands_for : form_of d f how.value.value ≡ OfFunction how.named
  stands_for = ap₂ (form_by d) (function_only m f (typed m n f a) how.value.value.0 how.named how.stands_for).0 how.stands_for

  named_is : how.named ≡ g
  named_is =
      let fit = first_fits m w f how.value.value call.callee (map value_in how.handed) args fits in
      let names : call.callee ≡ FunctionOf how.named = read_function m w fit.is how.named stands_for in
      same_Some how.named g (ap as_function (sym names) ∙ call.names)

  pub callee_is : (callee : Function) → slice_get m.functions g.0 ≡ Some callee → how.body ≡ callee
  callee_is callee there = same_Some how.body callee (sym how.there ∙ ap (λ (h : FuncId). slice_get m.functions h.0) named_is ∙ there)

  -- ---- what it is lent

  module _ (later : Memory) (lent : List LentPlace)
      (current : Each (λ (x : Taken). IsCurrent (declarations_of m) f (loans f frame) memory frame.entries frame.trail x.value) (item_taken f (item.Inst p)))
      (borrowed : KeepsBorrowed m loans f frame.entries ops.left)
      (lend : LendOn f (loans f frame) (loans f (frame_waiting m loans frame ops lent)) memory later ops.left) where
    left_is : without_ended (facts_in d f) (item_taken f (item.Inst p)) frame.entries ≡ Ok ops.left
    left_is = (operands_are (facts_in d f) memory frame.entries (item_taken f (item.Inst p)) ops ops_are).left

    given_is : operand_data (facts_in d f) memory frame.entries ops.left (item_taken f (item.Inst p)) ≡ Ok (call.callee ∷ args)
    given_is = (operands_are (facts_in d f) memory frame.entries (item_taken f (item.Inst p)) ops ops_are).given ∙ ap Ok call.given

    from : IsLeftOf frame.entries ops.left
    from = left_of (facts_in d f) (item_taken f (item.Inst p)) frame.entries ops.left left_is

    kinds : AreOfKinds d f frame.entries
    kinds = first_kinds m loans memory rest frame f state is

    left : AreLentGuarded d f (loans f frame) memory ops.left frame.trail
    left = first_left m loans memory rest frame f state is ops.left (item_taken f (item.Inst p)) left_is borrowed

    abbrev ts : List Taken
    ts = all_taken m n f a p i here call.is

    ts_are : item_taken f (item.Inst p) ≡ ts
    ts_are = taken_is m n f a p i here call.is

    -- the frame that waits guards what it guarded behind the ends
    waits_guarding : (o : ObjectId) → (b : ValueId) × Guard d f (loans f frame) memory ops.left o b → IsGuardedIn m loans later (frame_waiting m loans frame ops lent) o
    waits_guarding o guard = record {
      f = f;
      is = is;
      base = guard.0;
      guard = guards_kept d f (loans f frame) (loans f (frame_waiting m loans frame ops lent)) memory later ops.left ops.left
          (record {
            held = λ v x e there. e;
            lent = λ v x anchor e there. e;
            borrowed = λ s b x is e there from there_b. there_b;
            lending = λ s x k y borrow e there l keeps. lend s x k y borrow e l keeps;
          })
          o guard.0 guard.1 (guard_there d f (loans f frame) memory ops.left o guard.0 guard.1);
    }

    -- the operand of a Guaranteed argument is guarded there
    guarded_operand : (k : ℕ) (t : Taken) (y : Datum) (o : ObjectId) → slice_get ts k ≡ Some t → slice_get ops.given k ≡ Some y → datum_in (entry_at ops.left t.value) ≡ Some y
        → IsNamed o (references_in y) → (b : ValueId) × Guard d f (loans f frame) memory ops.left o b
    guarded_operand k t y o taken given at named =
        by (sources.form_of m n f a (item.Inst p) ts ts_are (loans f frame) memory frame.entries frame.trail ops ops_are kinds left current o t.value y entry named)
      where
        was : entry_at frame.entries t.value ≡ entry_at ops.left t.value
        was = was_there frame.entries ops.left t.value from (datum_there (entry_at ops.left t.value) y at)

        entry : datum_in (entry_at frame.entries t.value) ≡ Some y
        entry = ap datum_in was ∙ at

        by : sources.Form m n f a (item.Inst p) ts ts_are (loans f frame) memory frame.entries frame.trail ops ops_are kinds left current t.value y
            → (b : ValueId) × Guard d f (loans f frame) memory ops.left o b
        by (held e owned) = (t.value, owner t.value y (sym was ∙ e) named)
        by (lends_it e not_owned value) =
            let guarded = sources.lent_guarded m n f a (item.Inst p) ts ts_are (loans f frame) memory frame.entries frame.trail ops ops_are kinds left current
            (ends_no_scope m n f a p i here call.is) o y (record { k = k; taken = t; is_taken = taken; is_given = given; entry = entry; named = named }) e not_owned in
            (guarded.base, guarded.guard)

    -- an argument that is lent is guarded there, where the places of arguments are on the stack
    own : IsAcceptedBody m g.0 how.body
        → ((k : ℕ) (v : ValueId) (x : Datum) → slice_get (item_defined how.body item.Entry) k ≡ Some v → slice_get (map as_argument args) k ≡ Some x
        → made_entry (kind_at d how.body v) x ≡ Ok (Lent x) → kind_at d how.body v ≡ kind.Plain → IsInObject x → ⊥)
        → AreArgumentsGuarded m loans how.body (map as_argument args) (IsGuardedIn m loans later (frame_waiting m loans frame ops lent))
    own b outside = record {
      own = λ k v x o defined at made named. ⊎_elim
          (λ guaranteed. (is_argument m g.0 how.body b k v defined, own_base m g.0 how.body b k v defined guaranteed, one k v x o defined at guaranteed named))
          (λ inside. absurd (outside k v x defined at made inside.0 inside.1))
          (lent_made (kind_at d how.body v) x made);
    }
      where
        one : (k : ℕ) (v : ValueId) (x : Datum) (o : ObjectId) → slice_get (item_defined how.body item.Entry) k ≡ Some v → slice_get (map as_argument args) k ≡ Some x
            → kind_at d how.body v ≡ kind.Guaranteed → IsNamed o (references_in x) → IsGuardedIn m loans later (frame_waiting m loans frame ops lent) o
        one k v x o defined at guaranteed named =
            let y = mapped_at as_argument args k x at in
            let operand = lent_operand m n f a p i here call.is g.0 b (facts_in d f) memory frame.entries ops.left call.callee args given_is k v y.0 defined y.1 guaranteed in
            let same : references_in x ≡ references_in y.0 = ap references_in (sym y.2) ∙ argument_names y.0 in
            waits_guarding o
            (guarded_operand (suc k) operand.0 y.0 o operand.1 (ap (λ xs. slice_get xs (suc k)) call.given ∙ y.1) operand.2 (subst (IsNamed o) same named))

    pub arguments_guarded : (callee : Function) → IsAcceptedBody m g.0 callee
        → ((k : ℕ) (v : ValueId) (x : Datum) → slice_get (item_defined callee item.Entry) k ≡ Some v → slice_get (map as_argument args) k ≡ Some x
        → made_entry (kind_at d callee v) x ≡ Ok (Lent x) → kind_at d callee v ≡ kind.Plain → IsInObject x → ⊥)
        → AreArgumentsGuarded m loans callee (map as_argument args) (IsGuardedIn m loans later (frame_waiting m loans frame ops lent))
    arguments_guarded callee b =
        subst (λ (h : Function). IsAcceptedBody m g.0 h
        → ((k : ℕ) (v : ValueId) (x : Datum) → slice_get (item_defined h item.Entry) k ≡ Some v → slice_get (map as_argument args) k ≡ Some x
        → made_entry (kind_at d h v) x ≡ Ok (Lent x) → kind_at d h v ≡ kind.Plain → IsInObject x → ⊥)
        → AreArgumentsGuarded m loans h (map as_argument args) (IsGuardedIn m loans later (frame_waiting m loans frame ops lent)))
        (callee_is callee b.body.there) own b
