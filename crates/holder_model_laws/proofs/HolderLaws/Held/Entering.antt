-- Functions are entered with entries that name whole objects, and a run begins with none.
use Rattle.std.proofs.Common.{◌≡◌, ⊎_elim, ℕ, zero, suc, List, [], ◌∷◌, length, replicate, Some, refl, sym, ap, ◌∙◌, subst, arith}
use Rattle.std.specs.Prelude.{slice_get, unwrap_or}
use Rattle.std.proofs.lemmas.Option.{none-some}
use Rattle.argument_conventions.specs.declared.row.Content.{Content}
use Rattle.argument_conventions.specs.declared.row.Content.TheVariants as content
use Rattle.holder_model_laws.specs.HolderLaws.inner.Built.Building.{Progress}
use Rattle.holder_model_laws.specs.HolderLaws.inner.Built.FrameObjects.{Holds, HoldsObjects, MayName}
use Rattle.holder_model_laws.proofs.HolderLaws.Built.FieldWrites.{which_value}
use Rattle.holder_model_laws.proofs.HolderLaws.Built.Results.{holds_names}
use Rattle.holder_model.specs.Calling.{emptied_for, handed_over, value_count}
use Rattle.holder_model.specs.Data.{AddressOf, references_in}
use Rattle.holder_model.specs.Frames.{Entry, Frame, Gone, LentPlace, datum_in, no_entries}
use Rattle.holder_model.specs.ModuleShapes.{shapes_of}
use Rattle.holder_model.specs.StepParts.{new_frame}
use Rattle.holder_model.specs.States.{Finishes, Runs, Task}
use Rattle.holder_model_laws.specs.HolderLaws.inner.Cells.Cells.{IsInside}
use Rattle.holder_model_laws.proofs.HolderLaws.Cells.Writes.{emptied_changes}
use Rattle.numbered_form.specs.Lists.{Each}
use Rattle.holder_model.specs.holder_model_values.RunValues.Cells.{Empty, cell_count}
use Rattle.holder_model.specs.holder_model_values.RunValues.Memory.{Memory, no_object, object_at}
use Rattle.holder_model.specs.holder_model_values.RunValues.Places.{Home, Inside, OnStack, Place, emptied, home_cells, with_cells}
use Rattle.sil_ast.specs.declared.function.Function.{Function}
use Rattle.sil_ast.specs.declared.module.Module.{Module}
use Rattle.sil_ast.specs.declared.place.FuncId.{FuncId}
use Rattle.sil_ast.specs.declared.place.ObjectId.{ObjectId}
use Rattle.sil_cfg.specs.declared.item.Item.{Item}
use Rattle.sil_cfg.specs.declared.item.Item.TheVariants as item
use Rattle.holder_model_laws.specs.HolderLaws.inner.Whole.Whole.{IsWhole, IsWholeMemory, NameWhole, cell_references}
use Rattle.holder_model_laws.specs.HolderLaws.inner.Whole.Laws.{KeepsWhole}
use Rattle.holder_model_laws.proofs.HolderLaws.Whole.Keeping.{taken_whole}
use Rattle.holder_model_laws.proofs.HolderLaws.Whole.Lists.{each_of}
use Rattle.holder_model_laws.specs.HolderLaws.inner.Held.ObjectStates.{FrameBuilds, TasksBuild}
use Rattle.holder_model_laws.specs.HolderLaws.inner.Held.Items.{AreCallsRight, AreDeinitsRight, AreEntered, BeginRight, IsOnStack, LosesEntries, Stands, sources_in}
use Rattle.holder_model_laws.proofs.HolderLaws.Held.Below.{below_stays}
use Rattle.holder_model_laws.proofs.HolderLaws.Held.Items.{alone, below_same, building_left, held_left}

module _ (m : Module) (said : Function → List Item → Progress) where
  -- a function that is entered is building nothing
  pub entered_holds : (memory : Memory) (f : Function) (entries : List Entry) → AreEntered m said memory f entries
      → HoldsObjects (shapes_of m) (sources_in m said f) (said f (item.Entry ∷ [])) memory entries
  entered_holds memory f entries e = record {
    named = λ v x names. each_of (IsWhole memory) (MayName (shapes_of m) (sources_in m said f) (said f (item.Entry ∷ [])) memory entries v) (λ o is. MayName.whole is)
        (references_in x) (e.named v x names).0;
    held = λ object un. absurd (e.none object un);
    built = λ object o un holds. absurd (e.none object un);
    apart = λ v w o uv uw hv hw. absurd (e.none v uv);
    same = λ object v about since x names o holds. ⊎_elim
        (λ (itself : v ≡ object). holds_names entries v o x (subst (λ w. Holds entries w o) (sym itself) holds) names)
        (λ (differ : v ≡ object → ⊥). absurd ((e.named v x names).1.about object differ about))
        (which_value v object);
    placed = λ v l of k address p names. absurd ((e.named v (AddressOf p) names).1.address l of k address);
  }

  pub entered_builds : (memory : Memory) (g : FuncId) (f : Function) (entries : List Entry) (rest : List (Task Frame)) → slice_get m.functions g.0 ≡ Some f
      → AreEntered m said memory f entries → FrameBuilds m said memory (new_frame g entries) rest
  entered_builds memory g f entries rest is e = record {
    f = f;
    is = is;
    holds = entered_holds memory f entries e;
    alone = λ o b. absurd (e.none b.object b.unfinished);
  }

  pub deinits_right : AreDeinitsRight m said
  deinits_right memory rest gs o g h callee entries tasks is e = (entered_builds memory g callee entries (Finishes gs o ∷ rest) is e, (tt, tasks.0, tasks.1))

  -- ---- a run begins

  gone_entries : (n k : ℕ) → unwrap_or (slice_get (no_entries n) k) Gone ≡ Gone
  gone_entries zero k = refl
  gone_entries (suc n) zero = refl
  gone_entries (suc n) (suc k) = gone_entries n k

  pub begin_right : BeginRight m said
  begin_right e f is none = record {
    memory = record { there = λ o n gone. absurd (cc); kept = kept };
    tasks = (
      entered_builds (record { stack = []; objects = [] }) e f (no_entries (value_count f)) [] is (record {
        none = none;
        named = λ v x names. absurd (none-some x (sym (ap datum_in (gone_entries (value_count f) v.0)) ∙ names));
      }),
      tt,
    );
  }
    where
      kept : (h : Home) → Each (λ c. NameWhole (record { stack = []; objects = [] }) (cell_references c)) (home_cells (record { stack = []; objects = [] }) h)
      kept OnStack = tt
      kept (Inside o) = tt

  -- ---- places are handed over

  -- what is handed over is emptied on the stack alone
  pub record StackAlone (memory later : Memory) : Type 0 where
    pub whole : KeepsWhole memory later
    pub objects : later.objects ≡ memory.objects
    pub inside : (p : Place) → IsInside memory p → IsInside later p

  stack_none : (memory : Memory) → IsWholeMemory memory → StackAlone memory memory
  stack_none memory wm = record { whole = (wm, λ o is. is); objects = refl; inside = λ p is. is }

  emptied_objects : (memory : Memory) (p : Place) → p.home ≡ OnStack → (emptied memory p).objects ≡ memory.objects
  emptied_objects memory p at = subst (λ g. (with_cells memory (record p { home = g }) (replicate (cell_count p.shape) Empty)).objects ≡ memory.objects) (sym at) refl

  stack_emptied : (memory : Memory) → IsWholeMemory memory → (l : LentPlace) → IsOnStack m said memory l → (c : Content) → StackAlone memory (emptied_for memory l c)
  stack_emptied memory wm l on content.Full = stack_none memory wm
  stack_emptied memory wm l on content.Empty = record {
    whole = (taken_whole memory wm l.place on.1 on.0).0;
    objects = emptied_objects memory l.place on.0;
    inside = λ p is. let size = (emptied_changes memory l.place on.1).sizes p.home in omega (arith, is, size);
  }

  handed_alone : (lent : List LentPlace) (memory : Memory) → IsWholeMemory memory → Each (IsOnStack m said memory) lent → StackAlone memory (handed_over memory lent)
  handed_alone [] memory wm on = stack_none memory wm
  handed_alone (l ∷ ls) memory wm on =
      let first = stack_emptied memory wm l on.0 l.row.before in
      let later : Memory = emptied_for memory l l.row.before in
      let rest = handed_alone ls later first.whole.0
      (each_of (IsOnStack m said memory) (IsOnStack m said later) (λ k h. (h.0, first.inside k.place h.1)) ls on.1) in
      record {
        whole = (rest.whole.0, λ o is. rest.whole.1 o (first.whole.1 o is));
        objects = rest.objects ∙ first.objects;
        inside = λ p is. rest.inside p (first.inside p is);
      }

  -- ---- a call

  module _ (memory : Memory) (rest : List (Task Frame)) (frame : Frame) (f : Function) (left : List Entry) (lent : List LentPlace)
      (stands : Stands m said memory rest frame f) (loses : LosesEntries (sources_in m said f) (said f frame.trail) frame.entries left)
      (on : Each (IsOnStack m said memory) lent) where
    abbrev handed : Memory
    handed = handed_over memory lent

    abbrev waits : Frame
    waits = record frame { entries = left; lent = lent }

    alone_so : StackAlone memory handed
    alone_so = handed_alone lent memory stands.whole on

    object_same : (o : ObjectId) → object_at handed o ≡ object_at memory o
    object_same o = ap (λ os. unwrap_or (slice_get os o.0) no_object) alone_so.objects

    waiting : FrameBuilds m said memory waits rest
    waiting = record {
      f = f;
      is = stands.is;
      holds = held_left m said memory rest frame f stands left loses;
      alone = λ o b. alone m said memory rest frame f stands o (building_left m said memory rest frame f stands left loses b.object o b.unfinished b.holds);
    }

    pub call_one : (g : FuncId) (callee : Function) (entries : List Entry) → slice_get m.functions g.0 ≡ Some callee → AreEntered m said memory callee entries
        → IsWholeMemory handed × TasksBuild m said handed (Runs (new_frame g entries) ∷ Runs waits ∷ rest)
    call_one g callee entries is e = (
      alone_so.whole.0,
      (
        entered_builds handed g callee entries (Runs waits ∷ rest) is (record {
          none = e.none;
          named = λ v x names. let n = e.named v x names in (each_of (IsWhole memory) (IsWhole handed) alone_so.whole.1 (references_in x) n.0, n.1);
        }),
        below_stays m said memory handed alone_so.whole.1 (omega (arith, ap length alone_so.objects)) (λ o made. ap (λ y. y.class) (object_same o)) (Runs waits ∷ rest)
            (λ o some. object_same o) (new_frame g entries) (waiting, below_same m said memory frame waits rest stands.below),
      ),
    )

  pub calls_right : AreCallsRight m said
  calls_right memory rest frame f left lent g callee entries stands loses on is e = call_one memory rest frame f left lent stands loses on g callee entries is e
