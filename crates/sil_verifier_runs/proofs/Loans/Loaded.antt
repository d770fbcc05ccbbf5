-- A scope that is opened over a place lends the cells that keep what is loaded.
use Rattle.std.proofs.Common.{◌≡◌, ⊎_elim, ◌++◌, append-nil, ℕ, List, [], ◌∷◌, Bool, true}
use Rattle.std.proofs.Common.{false, cond, Contains, Some, Ok, refl, sym, ap, ◌∙◌, subst, slice_get, arith}
use Rattle.std.specs.Prelude.{option_map}
use Rattle.std.proofs.lemmas.Bool.{false≢true, true≢false}
use Rattle.std.proofs.lemmas.List.Elements.{Contains-push}
use Rattle.std.proofs.lemmas.Option.{same_Some}
use Rattle.sil_verifier_frames.specs.holder_model.Data.{AddressOf}
use Rattle.sil_verifier_frames.specs.holder_model.Effects as effects
use Rattle.sil_verifier_frames.specs.holder_model.Effects.{Change, effect_of}
use Rattle.sil_verifier_frames.specs.holder_model.Frames.{Entry, Frame, Operands, datum_in, results_put}
use Rattle.sil_verifier_frames.specs.holder_model.HolderStates.{HolderState}
use Rattle.sil_verifier_frames.specs.holder_model.MemoryEffects.{effect, takes}
use Rattle.sil_verifier_frames.specs.holder_model.ModuleShapes.{ModuleShapes}
use Rattle.sil_verifier_frames.specs.holder_model.States.{Task}
use Rattle.sil_verifier_frames.specs.holder_model.declared.row_effect.RowEffect.{RowEffect}
use Rattle.sil_verifier_frames.specs.holder_model.declared.row_effect.RowEffect.TheVariants as row
use Rattle.sil_verifier_frames.specs.memory_rules_accesses.Operations.{access_kind_of, operated, operation_by, operations_of}
use Rattle.sil_verifier_frames.specs.memory_rules_accesses.Rows.{has_by, has_operation, has_steps, is_part}
use Rattle.sil_verifier_frames.specs.memory_rules_accesses.Sources.{is_trivial_at, loan_source, result_source, source_at, source_by, sources_of}
use Rattle.sil_verifier_frames.specs.memory_rules_accesses.declared.access.Operation.{Operation}
use Rattle.sil_verifier_frames.specs.memory_rules_accesses.declared.access.Operation.TheVariants.{Lend}
use Rattle.sil_verifier_frames.specs.sil_verifier_trails.AcceptedPlaces.inner.Located.{IsAddress}
use Rattle.sil_verifier_frames.specs.sil_verifier_trails.AcceptedPlaces.inner.Stacks.{keeps_slots, slots_on}
use Rattle.sil_verifier_frames.proofs.sil_verifier_values.TableRows.{result_rows}
use Rattle.sil_verifier_frames.proofs.holder_model_typing.RunTypingLaws.Rows.Points.{is_at}
use Rattle.sil_verifier_frames.specs.sil_verifier_accepted.AcceptedModules.inner.Checked.{IsVerified}
use Rattle.sil_verifier_frames.specs.sil_verifier_values.inner.Known.{IsAcceptedBody}
use Rattle.sil_verifier_frames.specs.ownership_kinds_origins.Facts.{facts_in}
use Rattle.sil_verifier_frames.proofs.holder_model_laws.HolderLaws.Counts.Changes.{changes_told}
use Rattle.sil_verifier_frames.specs.holder_model_laws.HolderLaws.inner.Counts.Doing.{Leaves}
use Rattle.sil_verifier_frames.specs.holder_model_laws.HolderLaws.inner.Counts.Naming.{IsReadStrongly}
use Rattle.sil_verifier_frames.specs.holder_model.Holders.{one_object}
use Rattle.instruction_table.specs.Forms.{result_kind_of, roles_of}
use Rattle.instruction_table.specs.declared.op.Op.{Op}
use Rattle.instruction_table.specs.declared.op.Op.TheVariants as op
use Rattle.sil_cfg_items.specs.Items.{item_defined, item_taken, taken_in}
use Rattle.sil_cfg_items.specs.Parts.{inst_at}
use Rattle.sil_cfg_items.specs.Roles.{conventions_in, roles_for, taken_as, taken_by, taken_each}
use Rattle.sil_cfg_items.specs.declared.taken.Taken.{Taken}
use Rattle.sil_cfg_items.specs.declared.taken.Treatment.{Treatment}
use Rattle.sil_verifier_frames.specs.holder_model_laws.HolderLaws.inner.Cells.Cells.{cell_at, has_cell}
use Rattle.sil_verifier_frames.specs.ownership_kinds_chains.OwnershipChains.Facts.{has}
use Rattle.holder_model_values.specs.RunValues.Places.{OnStack, Place, emptied, value_at}
use Rattle.holder_model_values.specs.RunValues.Shapes.{Shape}
use Rattle.holder_model_values.specs.RunValues.Trivial.{is_trivial}
use Rattle.holder_model_values.specs.RunValues.Values.{Value, references_of}
use Rattle.sil_ast.specs.declared.function.Function.{Function}
use Rattle.sil_ast.specs.declared.inst.Inst.{Inst}
use Rattle.sil_ast.specs.declared.module.Module.{Module}
use Rattle.sil_ast.specs.declared.operands.Operand.{Operand}
use Rattle.sil_ast.specs.declared.place.ObjectId.{ObjectId}
use Rattle.sil_ast.specs.declared.place.PointId.{PointId}
use Rattle.sil_ast.specs.declared.place.ValueId.{ValueId}
use Rattle.sil_cfg.specs.declared.item.Item.TheVariants as item
use Rattle.sil_types_declarations.specs.TypeDefinitions.Declarations.{declarations_of}
use Rattle.sil_verifier_frames.proofs.holder_model_typing.TypedMemory.Homes.{place_read}
use Rattle.sil_verifier_frames.proofs.holder_model_typing.TypedMemory.Trivials.{no_references}
use Rattle.sil_verifier_frames.specs.holder_model_typing.TypedMemory.inner.Worlds.{Suits, names}
use Rattle.numbered_form.specs.ValueTables.Borrows.{borrow_by, borrows}
use Rattle.numbered_form.specs.ValueTables.FirstValue.{value_of}
use Rattle.sil_verifier_runs.proofs.Guarded.TypedGiven.{typed_for_rows}
use Rattle.sil_verifier_runs.specs.inner.Guarded.Guards.{IsNamed, KeepsAt}
use Rattle.sil_verifier_runs.specs.inner.Guarded.LoansKept.{TakesOperands}
use Rattle.sil_verifier_runs.specs.inner.Guarded.Rows.{LendsLoaded}
use Rattle.sil_verifier_frames.specs.inner.Placed.FramePlaces.{HoldsPlaces, IsNamed as IsNamedAt, Names}
use Rattle.sil_verifier_frames.specs.inner.Placed.PlaceStates.{AreSlotsRight}
use Rattle.sil_verifier_frames.specs.inner.Placed.Roots.{IsThere, argument, slot}
use Rattle.sil_verifier_frames.specs.inner.Placed.TakenPlaces.{AreNamedBy}
use Rattle.sil_verifier_frames.proofs.Placed.EffectsAt.{is_at_place}
use Rattle.sil_verifier_frames.proofs.Placed.EntriesKept.{results_other}
use Rattle.sil_verifier_frames.proofs.Placed.Locating.{IsInObject, IsOperandAt, operand_at}
use Rattle.sil_verifier_frames.proofs.Placed.Naming.{names_once}
use Rattle.sil_verifier_frames.proofs.Placed.OperandsNamed.{operands_named}
use Rattle.sil_verifier_frames.proofs.Placed.PlaceRows.{named_first, place_slots}
use Rattle.sil_verifier_frames.proofs.Placed.PlainAddresses.{named_address, place_typed}
use Rattle.sil_verifier_frames.proofs.Placed.Reading.{root_itself}
use Rattle.sil_verifier_frames.proofs.Placed.RootsShaped.{roots_shaped}
use Rattle.sil_verifier_frames.proofs.Placed.RowsAt.{is_at_one, one_operation}
use Rattle.sil_verifier_frames.proofs.Placed.TrailsSo.{trail_laws}
use Rattle.sil_verifier_runs.specs.inner.Loans.Loans.{loans_of, reached}
use Rattle.sil_verifier_runs.proofs.Loans.AtItems.{accepted, first, now, reads, run}
use Rattle.sil_verifier_runs.proofs.Loans.Keeping.{kept_at}
use Rattle.sil_verifier_runs.proofs.Loans.LoanAt.{cell_lent}
use Rattle.sil_verifier_runs.proofs.Loans.Reached.{reaches, same_cells}
use Rattle.sil_verifier_runs.proofs.Loans.Trivial.{part_trivial}

-- ---- the row

abbrev is_load : RowEffect → Bool
is_load row.LoadsValue = true
is_load _ = false

-- a scope that loads a value borrows from a place
scope_loads : (o : Op) (i : Inst) → is_load (effect_of o) ≡ true → borrows (borrow_by (result_kind_of o) i) ≡ true → o ≡ op.LoadBorrow
scope_loads op.LoadBorrow i is b = refl
scope_loads op.Load i is b = absurd (false≢true b)
scope_loads o i is b = absurd (false≢true is)

first_taken : (os : List Operand) (rs : List Treatment) (t : Taken) → taken_each os rs ≡ t ∷ [] → option_map value_of (slice_get os 0) ≡ Some t.value
first_taken [] rs t e = absurd (cc)
first_taken (o ∷ os) [] t e = absurd (cc)
first_taken (o ∷ os) (r ∷ rs) t e = let same : taken_as o r ≡ t = cc in ap (λ (x : Taken). Some x.value) same

no_steps : (path : List ℕ) → has_steps path ≡ false → path ≡ []
no_steps [] e = refl
no_steps (k ∷ path) e = absurd (true≢false e)

module _ (m : Module) (verified : IsVerified m) (s : HolderState) (rest : List (Task Frame)) (frame : Frame) (f : Function) (point : PointId) (ops : Operands)
    (x : TakesOperands m (loans_of m) (AreSlotsRight m) s rest frame f (item.Inst point) ops) (i : Inst) (here : inst_at f point ≡ Some i) where
  abbrev n : ℕ
  n = frame.function.0

  abbrev body : IsAcceptedBody m frame.function.0 f
  body = accepted m verified s rest frame f (item.Inst point) ops x

  abbrev left : Frame
  left = record frame { entries = ops.left }

  abbrev holds : HoldsPlaces m s.memory f (record frame { entries = ops.left }) rest
  holds = (now m verified s rest frame f (item.Inst point) ops x).holds

  taken_is : item_taken f (item.Inst point) ≡ taken_by i
  taken_is = ap (λ o. taken_in o ++ []) here ∙ append-nil (taken_by i)

  named : AreNamedBy ops.left (taken_by i) ops.given
  named = subst (λ ts. AreNamedBy ops.left ts ops.given) taken_is
      (operands_named m n f x.state.typed.world _ s.memory frame.entries (item.Inst point) ops (reads m verified s rest frame f (item.Inst point) ops x))

  module _ (p : Place) (loading : effect_of i.op ≡ row.LoadsValue) (given : ops.given ≡ AddressOf p ∷ []) (is_op : i.op ≡ op.LoadBorrow) where
    operand : (t : Taken) × (taken_by i ≡ t ∷ []) × Names ops.left t.value p
    operand = named_first i ops.left p Lend (ap is_at_one loading) (subst (AreNamedBy ops.left (taken_by i)) given named)

    address : IsAddress (declarations_of m) f operand.0.value
    address = named_address m x.state.typed.world n f body ops.left (now m verified s rest frame f (item.Inst point) ops x).typed.entries operand.0.value p operand.2

    at : IsOperandAt trail_laws m frame.function.0 f body frame.trail operand.0.value
    at = operand_at trail_laws m n f body frame.trail (item.Inst point) (run m verified s rest frame f (item.Inst point) ops x) operand.0
        (subst (λ ts. Contains ts operand.0) (sym (taken_is ∙ operand.1)) (Contains-push [] operand.0)) address

    done : operation_by (access_kind_of i.op) i.qualifier ≡ Some Lend
    done = ap (λ o. operation_by (access_kind_of o) i.qualifier) is_op

    among : Contains (operations_of i) (operated operand.0.value Lend)
    among = subst (λ os. Contains os (operated operand.0.value Lend)) (sym (one_operation i operand.0 Lend (ap is_at_one loading) operand.1 done))
        (Contains-push [] (operated operand.0.value Lend))

    has_row : has_operation (sources_of (declarations_of m) f) at.location Lend ≡ true
    has_row = trail_laws.rows (declarations_of m) f (trail_laws.accepted m n f body) (item.Inst point) i here (operated operand.0.value Lend) among at.location at.is

    -- no part of an object is lent
    is_there : IsThere (declarations_of m) f frame.trail at.location.root
    is_there = ⊎_elim
        (λ (there : IsThere (declarations_of m) f frame.trail at.location.root). there)
        (λ (field : IsInObject trail_laws m frame.function.0 f body at.location.root).
        absurd (true≢false (sym has_row ∙ ap (λ y. has_by (sources_of (declarations_of m) f) y (is_part at.location) Lend) field.source)))
        at.root

    slots_same : slots_on (declarations_of m) f (item.Inst point ∷ frame.trail) ≡ slots_on (declarations_of m) f frame.trail
    slots_same = trail_laws.slots_kept m n f body frame.trail (item.Inst point) (ap keeps_slots here ∙ place_slots i.op (ap is_at_place loading))

    there_behind : IsThere (declarations_of m) f (item.Inst point ∷ frame.trail) at.location.root
    there_behind = by is_there
      where
        by : IsThere (declarations_of m) f frame.trail at.location.root → IsThere (declarations_of m) f (item.Inst point ∷ frame.trail) at.location.root
        by (slot trivial is there) = slot trivial is (ap (λ vs. has vs at.location.root.0) slots_same ∙ there)
        by (argument row trivial is) = argument row trivial is

    root : IsNamedAt m s.memory ops.left at.location.root
    root = holds.named at.location.root is_there

    -- ---- the place at the location

    record IsFound : Type 0 where
      place : Place
      leads : reached root.place at.location.path ≡ Some place
      cells : (k : ℕ) → has_cell place k ≡ has_cell p k
      trivial : is_trivial root.place.shape ≡ true → is_trivial p.shape ≡ true
      home : p.home ≡ OnStack

    found : IsFound
    found = by (is_part at.location) refl
      where
        by : (b : Bool) → is_part at.location ≡ b → IsFound
        by false e =
            let own : at.location.root ≡ operand.0.value = root_itself (sources_of (declarations_of m) f) operand.0.value at.location at.is e in
            let same : p ≡ root.place = names_once ops.left operand.0.value p root.place operand.2 (subst (λ w. Names ops.left w root.place) own root.names) in
            record {
              place = root.place;
              leads = ap (reached root.place) (no_steps at.location.path e);
              cells = λ k. ap (λ q. has_cell q k) (sym same);
              trivial = λ h. subst (λ (q : Place). is_trivial q.shape ≡ true) (sym same) h;
              home = ap (λ (q : Place). q.home) same ∙ root.home;
            }
        by true e =
            let part = holds.parts operand.0.value at.location at.is e at.made root.place p root.names operand.2 in
            let r = reaches at.location.path root.place root.place.shape p.shape refl part.shape in
            record {
              place = r.place;
              leads = r.is;
              cells = same_cells r.place p (r.lies.first ∙ sym part.first) r.shape;
              trivial = λ h. part_trivial root.place.shape p.shape part.shape h;
              home = part.home ∙ root.home;
            }

    -- ---- what is read

    strongly : IsReadStrongly s.memory p
    strongly = (typed_for_rows m n f body x.state.typed.world s.memory point i frame.entries ops here x.state.typed.memory
        (first m verified s rest frame f (item.Inst point) ops x).typed.entries x.ops_are).1 p loading given

    read_suits : (y : Value) → value_at s.memory p ≡ Some y → Suits m x.state.typed.world p.shape y
    read_suits y is = place_read m x.state.typed.world s.memory x.state.typed.memory p y
        (place_typed m x.state.typed.world n f body ops.left (now m verified s rest frame f (item.Inst point) ops x).typed.entries operand.0.value p operand.2) is

    -- the root isn't trivial, as it holds something
    nontrivial : (y : Value) (o : ObjectId) → value_at s.memory p ≡ Some y → IsNamed o (references_of y) → is_trivial_at (sources_of (declarations_of m) f) at.location.root ≡ false
    nontrivial y o is holds_it = by (is_trivial_at (sources_of (declarations_of m) f) at.location.root) refl
      where
        by : (b : Bool) → is_trivial_at (sources_of (declarations_of m) f) at.location.root ≡ b → is_trivial_at (sources_of (declarations_of m) f) at.location.root ≡ false
        by false e = e
        by true e =
            let shaped = roots_shaped m n f x.state.typed.world ops.left body (now m verified s rest frame f (item.Inst point) ops x).typed.entries frame.trail at.location.root is_there
            root.place root.names in
            let none : references_of y ≡ [] = no_references (names m x.state.typed.world) p.shape y (read_suits y is) (found.trivial (shaped ∙ e)) in
            let never : IsNamed o [] = subst (IsNamed o) none holds_it in
            absurd (omega (arith, never))

    -- ---- memory stays

    lends_still : (shapes : ModuleShapes) (values : List Shape) (c : Change) → Leaves (declarations_of m) shapes values s.memory i ops.given c → c.memory.stack ≡ s.memory.stack
    lends_still shapes values _ Leaves.nothing = refl
    lends_still shapes values _ (Leaves.bare y none) = refl
    lends_still shapes values _ (Leaves.object class is) = refl
    lends_still shapes values _ (Leaves.slot t q is home) = let two : row.LoadsValue ≡ row.MakesSlot = sym loading ∙ is in absurd (cc)
    lends_still shapes values _ (Leaves.removes q is xs) = let two : row.LoadsValue ≡ row.RemovesSlot = sym loading ∙ is in absurd (cc)
    lends_still shapes values _ (Leaves.gives y is xs) = refl
    lends_still shapes values _ (Leaves.copies y is xs) = refl
    lends_still shapes values _ (Leaves.retains y is xs) = refl
    lends_still shapes values _ (Leaves.drops y is xs) = refl
    lends_still shapes values _ (Leaves.loads o q y is did xs held) =
        ap (λ (z : Operation). (cond (takes z) (emptied s.memory q) s.memory).stack) (same_Some o Lend (sym did ∙ done))
    lends_still shapes values _ (Leaves.names o q y is did xs held live) = let two : row.LoadsValue ≡ row.LoadsName = sym loading ∙ is in absurd (cc)
    lends_still shapes values _ (Leaves.names_none o q is did xs) = let two : row.LoadsValue ≡ row.LoadsName = sym loading ∙ is in absurd (cc)
    lends_still shapes values _ (Leaves.stores o y q is did xs) = let two : row.LoadsValue ≡ row.StoresValue = sym loading ∙ is in absurd (cc)
    lends_still shapes values _ (Leaves.destroys o q is did xs) = let two : row.LoadsValue ≡ row.DestroysPlace = sym loading ∙ is in absurd (cc)
    lends_still shapes values _ (Leaves.groups vs is xs) = refl
    lends_still shapes values _ (Leaves.chooses k y is xs) = refl
    lends_still shapes values _ (Leaves.member k y z is xs held) = refl
    lends_still shapes values _ (Leaves.members y ys is xs held) = refl
    lends_still shapes values _ (Leaves.part k q r is xs held) = refl
    lends_still shapes values _ (Leaves.field y o q is xs held home) = refl

    -- ---- the scope lends it

    module _ (shapes : ModuleShapes) (values : List Shape) (c : Change) (makes : effect (declarations_of m) shapes values s.memory i ops.given ≡ effects.Makes c)
        (behind : List Entry) (put : results_put (facts_in (declarations_of m) f) (item_defined f (item.Inst point)) c.results ops.left ≡ Ok behind) (slots : List Place) where
      abbrev next : Frame
      next = record frame { trail = item.Inst point ∷ frame.trail; entries = behind; slots = slots; lent = [] }

      names_behind : Names behind at.location.root root.place
      names_behind =
          ap datum_in (results_other (facts_in (declarations_of m) f) (item_defined f (item.Inst point)) c.results ops.left behind put at.location.root
          (trail_laws.made_once m n f body frame.trail (item.Inst point) (run m verified s rest frame f (item.Inst point) ops x)
          (first m verified s rest frame f (item.Inst point) ops x).typed.goes at.location.root is_there)) ∙ root.names

      lends_it : (v : ValueId) (k : ℕ) (y : Value) (o : ObjectId) → slice_get i.results k ≡ Some v → value_at s.memory p ≡ Some y → IsNamed o (references_of y)
          → (j : ℕ) × (z : Value) × (loans_of m f next v j ≡ true) × KeepsAt c.memory j z × IsNamed o (references_of z)
      lends_it v k y o result is holds_it =
          let kept = kept_at (one_object o) s.memory p y strongly is holds_it in
          let source_is : source_at (sources_of (declarations_of m) f) v ≡ result_source (declarations_of m) i =
          (result_rows m n f body point.block.0 point.index k i v (is_at f point i here) result).source in (
            kept.number,
            kept.value,
            cell_lent m f next v kept.number (record {
              address = operand.0.value;
              source = source_is ∙ ap (λ z. source_by (access_kind_of z) (declarations_of m) i) is_op
                  ∙ ap loan_source (first_taken i.operands (roles_for (roles_of i.op) (conventions_in i) _) operand.0 operand.1);
              location = at.location;
              at = at.is;
              root = record { there = there_behind; nontrivial = nontrivial y o is holds_it };
              whole = root.place;
              names = names_behind;
              place = found.place;
              leads = found.leads;
              has = found.cells kept.number ∙ kept.of_place;
            }),
            ap (λ cells. slice_get cells kept.number) (lends_still shapes values c (changes_told (declarations_of m) shapes values s.memory i ops.given c makes))
                ∙ sym (ap (λ h. cell_at s.memory h kept.number) found.home) ∙ kept.there,
            kept.weighs,
          )

  -- what is loaded into a scope is kept by cells that it lends
  pub loads_lent : (shapes : ModuleShapes) (values : List Shape) (c : Change) → effect (declarations_of m) shapes values s.memory i ops.given ≡ effects.Makes c
      → (behind : List Entry) → results_put (facts_in (declarations_of m) f) (item_defined f (item.Inst point)) c.results ops.left ≡ Ok behind → (slots : List Place)
      → LendsLoaded f (loans_of m f (record frame { trail = item.Inst point ∷ frame.trail; entries = behind; slots = slots; lent = [] })) s.memory c.memory i ops.given
  loads_lent shapes values c makes behind put slots p v k y o loading given result borrow is holds_it =
      lends_it p loading given
      (scope_loads i.op i (ap is_load loading)
      (sym (ap borrows (result_rows m n f body point.block.0 point.index k i v (is_at f point i here) result).borrow) ∙ borrow))
      shapes values c makes behind put slots v k y o result is holds_it
