-- A frame stands at the terminator of its block: both runs take an edge, return, or end.
use Rattle.std.proofs.Common.{◌≡◌, ◌⊎◌, inl, inr, ℕ, List, [], ◌∷◌, ◌++◌, append-nil, length, map, refl, sym, ap, ◌∙◌, subst, false, Option, Some, None, Ok}
use Rattle.std.specs.Prelude.{option_map, slice_get, unwrap_or}
use Rattle.std.specs.List.{AllZip}
use Rattle.std.proofs.lemmas.List.{map-append}
use Rattle.std.proofs.lemmas.Option.{none-some, same_Some, slice_get_within}
use Rattle.instruction_table.specs.Forms.{ending_of}
use Rattle.instruction_table.specs.declared.entries.Ending.TheVariants as ending
use Rattle.sil_cfg_items.specs.Items.{item_taken, taken_along_in, taken_in}
use Rattle.sil_cfg_items.specs.Parts.{edge_at, edge_in, inst_at, terminator_of}
use Rattle.sil_cfg_items.specs.Roles.{taken_by}
use Rattle.sil_cfg_items.specs.declared.taken.Taken.{Taken}
use Rattle.numbered_form.specs.Lists.{Each}
use Rattle.ownership_kinds_chains.specs.declared.ownership_chains.facts.Facts.{Facts}
use Rattle.sil_ast.specs.declared.function.Function.{Function}
use Rattle.sil_ast.specs.declared.inst.Edge.{Edge}
use Rattle.sil_ast.specs.declared.inst.Inst.{Inst}
use Rattle.sil_ast.specs.declared.module.Module.{Module}
use Rattle.sil_ast.specs.declared.operands.Operand.{Operand}
use Rattle.sil_ast.specs.declared.place.EdgeId.{EdgeId}
use Rattle.sil_ast.specs.declared.place.FuncId.{FuncId}
use Rattle.sil_ast.specs.declared.place.PointId.{PointId}
use Rattle.sil_ast.specs.declared.place.ValueId.{ValueId}
use Rattle.sil_cfg.specs.Items.{leaves_function}
use Rattle.sil_cfg.specs.declared.item.Item.{Item}
use Rattle.sil_cfg.specs.declared.item.Item.TheVariants as item
use Rattle.sil_types_declarations.specs.TypeDefinitions.Declarations.{Declarations, declarations_of}
use Rattle.numbered_form.specs.ValueTables.FirstValue.{value_of}
use Rattle.holder_model_values.specs.RunValues.Memory.{Memory}
use Rattle.holder_model_values.specs.RunValues.Shapes.{Unknown}
use Rattle.holder_model_values.specs.RunValues.Values.{Value}
use Rattle.sil_verifier_runs.specs.sil_verifier_trails.RunTrails.inner.RunTrails.{ComesAt, IsAtEnd}
use Rattle.sil_verifier_runs.proofs.sil_verifier_trails.RunTrails.TurnedTrails.{turned_item}
use Rattle.sil_verifier_runs.specs.holder_model.declared.trap.Trap.TheVariants as trap
use Rattle.sil_verifier_runs.specs.holder_model.Data.{AddressOf, Datum, FunctionOf, ValueOf, as_value, references_in}
use Rattle.sil_verifier_runs.specs.holder_model.Edges.{branch_of, case_edge, edge_of}
use Rattle.sil_verifier_runs.specs.holder_model.Effects.{only}
use Rattle.sil_verifier_runs.specs.holder_model.Faults.{LeavesHeld, LeavesPlace, LeavesSlot, NoEntry, WrongShape}
use Rattle.sil_verifier_runs.specs.holder_model.Frames.{Entry, Frame, Operands, any_dead, datum_in, entry_at, has_any, operands_of}
use Rattle.sil_verifier_runs.specs.holder_model.HolderStates.{HolderNext, HolderState}
use Rattle.sil_verifier_runs.specs.holder_model.ModuleFacts.{facts_of, facts_told}
use Rattle.sil_verifier_runs.specs.holder_model.ModuleShapes.{ModuleShapes, shape_at, shapes_in, shapes_of}
use Rattle.sil_verifier_runs.specs.holder_model.Standing.{stands_at}
use Rattle.sil_verifier_runs.specs.holder_model.StepParts.{switched_shape}
use Rattle.sil_verifier_runs.specs.holder_model.States.{Ends, Runs, Task, Trapped}
use Rattle.sil_verifier_runs.specs.holder_model.LoweredRun.LowFrames as low_frames
use Rattle.sil_verifier_runs.specs.holder_model.LoweredRun.LowFrames.{LowFrame, and_others, read_all}
use Rattle.sil_verifier_runs.specs.holder_model.LoweredRun.LowStepParts.{LowNext, LowState, taken_value, values_taken}
use Rattle.sil_verifier_runs.specs.holder_model.LoweredRun.LowSteps as steps
use Rattle.ownership_lowering_laws.specs.ownership_lowering_model.LoweredModules.{lowered, lowered_body}
use Rattle.ownership_lowering_laws.specs.ownership_lowering_model.Numbers.{renumbered_inst, renumbered_operand}
use Rattle.sil_verifier_runs.specs.holder_model_laws.HolderLaws.inner.Steps.Ways as holder
use Rattle.sil_verifier_runs.specs.holder_model_laws.LoweredSteps.inner.LowWays as ways
use Rattle.ownership_lowering_runs.specs.StoredRuns.inner.Along.{AreTotalsFor, IsNextAlong, IsNoFault}
use Rattle.ownership_lowering_runs.specs.StoredRuns.inner.EndsAlong.{AreEndsAlong, ComesPlain, MayReturnTo}
use Rattle.ownership_lowering_runs.specs.StoredRuns.inner.Frames.{AreTasksFor, HasFullParts, IsFrameAt, IsNoAddress}
use Rattle.ownership_lowering_runs.specs.StoredRuns.inner.Lowering.{LowersSo}
use Rattle.ownership_lowering_runs.specs.StoredRuns.inner.Memories.{IsMemoryFor}
use Rattle.ownership_lowering_runs.specs.StoredRuns.inner.Names.{IsCurrent, IsOld, lowered_number}
use Rattle.ownership_lowering_runs.specs.StoredRuns.inner.Runs.{IsEndingFor}
use Rattle.ownership_lowering_runs.proofs.StoredRuns.EdgesTaken.{are_edges_taken, carried_parts, first_taken_of}
use Rattle.ownership_lowering_runs.proofs.StoredRuns.Lowered.LoweredCode.{IsLoweredEnd, lowered_end}
use Rattle.ownership_lowering_runs.proofs.StoredRuns.Reading.{AreReadSo, like_exact, taken_exact, taken_read, taken_renumbered}
use Rattle.ownership_lowering_runs.proofs.StoredRuns.Returned.{are_returned}
use Rattle.ownership_lowering_runs.proofs.StoredRuns.SwitchedEdges.{same_edge}
use Rattle.ownership_lowering_runs.proofs.StoredRuns.ValuesFor.{AreTakenSo, IsGivenAlive, operands_given}

-- ---- one operand

one_is : (xs : List Datum) (x : Datum) → only xs ≡ Some x → xs ≡ x ∷ []
one_is [] x e = absurd (none-some x e)
one_is (y ∷ []) x e = ap (λ z. z ∷ []) (same_Some y x e)
one_is (y ∷ z ∷ xs) x e = absurd (none-some x e)

no_address : (x : Datum) (v : Value) → as_value x ≡ Some v → IsNoAddress x
no_address (ValueOf y) v e = refl
no_address (AddressOf p) v e = absurd (none-some v e)
no_address (FunctionOf g) v e = refl

given_alive : (facts : ValueId → Option Facts) (m : Memory) (entries : List Entry) (ts : List Taken) (x : Datum) → AllZip (IsGivenAlive facts m entries) ts (x ∷ [])
    → any_dead m (references_in x) ≡ false
given_alive facts m entries [] x h = absurd h
given_alive facts m entries (t ∷ ts) x h = h.0.1

first_holds : (P : ValueId → Type 0) (ts : List Taken) (w : ValueId) (more : List ValueId) → map taken_value ts ≡ w ∷ more → Each (λ t. P t.value) ts → P w
first_holds P [] w more e h = absurd (cc)
first_holds P (t ∷ ts) w more e h = let same : t.value ≡ w = cc in subst P same h.0

module _ (m : Module) (bound : ℕ) (s : HolderState) (l : LowState) (frame : Frame) (rest : List (Task Frame)) (f : Function)
    (low : LowFrame) (lrest : List (Task LowFrame))
    (totals : AreTotalsFor s l) (memory : IsMemoryFor s.memory l.memory) (size : length l.numbers ≡ length s.memory.objects)
    (there : slice_get m.functions frame.function.0 ≡ Some f) (lowers : LowersSo m frame.function f) (frames : IsFrameAt (declarations_of m) f frame low)
    (rest_for : AreTasksFor m rest lrest) (full : Each (HasFullParts m l.memory) (Runs low ∷ lrest))
    (at_end : inst_at f (stands_at f frame.trail) ≡ None)
    (comes : (i : Item) → ComesAt f (stands_at f frame.trail) i → ComesPlain m s frame f i)
    (below : MayReturnTo m s l frame f rest) where
  abbrev d : Declarations
  d = declarations_of m

  abbrev low_told : ModuleShapes
  low_told = shapes_of (lowered m)

  abbrev lf : Function
  lf = lowered_body d f

  abbrev number : ValueId → ValueId
  number v = lowered_number d f v

  abbrev facts : ValueId → Option Facts
  facts v = facts_told (facts_of m) frame.function v

  abbrev p : PointId
  p = stands_at f frame.trail

  pub record LowActs (next : HolderNext) : Type 0 where
    pub low_next : LowNext
    pub way : ways.Acts (lowered m) low_told bound l lrest low lf low_next
    pub for : IsNextAlong m l.numbers next low_next

  module _ (i : Inst) (stands : holder.StandsAtEnd m (facts_of m) bound frame f i) where
    abbrev j : Inst
    j = renumbered_inst number i

    low_end : IsLoweredEnd d f p i
    low_end = lowered_end d f p i stands.behind stands.terminator

    low_stands : ways.StandsAtEnd (lowered m) low_told bound low lf j
    low_stands = record {
      behind = ap (inst_at lf) frames.at ∙ low_end.behind;
      terminator = ap (λ (q : PointId). terminator_of lf q.block.0) frames.at ∙ low_end.terminator;
    }

    abbrev is_end : IsAtEnd f p
    is_end = record { terminator = i; behind_insts = stands.behind; there = stands.terminator }

    -- ---- edges

    pub record LowEdge (k : ℕ) (next : HolderNext) : Type 0 where
      pub low_next : LowNext
      pub way : ways.TakesEdge (lowered m) low_told bound l lrest low lf (edge_of low.at k) low_next
      pub for : IsNextAlong m l.numbers next low_next

    edge_there : (e : EdgeId) (next : HolderNext) → holder.TakesEdge m (facts_of m) bound s rest frame f e next → IsNoFault next → (y : Edge) × (edge_at f e ≡ Some y)
    edge_there e _ (holder.TakesEdge.takes ops carried next found along some way) none =
        let c = carried_parts f e ops.given carried along in (c.y, c.there)
    edge_there e _ (holder.TakesEdge.no_turn ops carried found along some) none =
        let c = carried_parts f e ops.given carried along in (c.y, c.there)
    edge_there e _ (holder.TakesEdge.wrong_operand x h) none = absurd (none x s refl)
    edge_there e _ (holder.TakesEdge.not_carried ops found h) none = absurd (none WrongShape s refl)

    edge_comes : (k : ℕ) → leaves_function (ending_of i.op) ≡ false → (y : Edge) → edge_at f (edge_of p k) ≡ Some y → ComesPlain m s frame f (item.Edge (edge_of p k))
    edge_comes k goes y is =
        comes (item.Edge (edge_of p k)) (
          refl,
          record {
            at_end = is_end;
            goes_on = goes;
            has_edge = slice_get_within i.edges k y (ap (λ o. edge_in o k) (sym stands.terminator) ∙ is);
          },
        )

    edge : (k : ℕ) → leaves_function (ending_of i.op) ≡ false → (next : HolderNext) → holder.TakesEdge m (facts_of m) bound s rest frame f (edge_of p k) next → IsNoFault next
        → LowEdge k next
    edge k goes next way none =
        let y = edge_there (edge_of p k) next way none in
        let c = edge_comes k goes y.0 y.1 in
        let t = are_edges_taken m bound s l frame rest f low lrest (edge_of p k) next totals memory size there lowers frames rest_for full
        (turned_item f (item.Edge (edge_of p k)) frame.trail c.trail) c.trail c.plain way none in
        record {
          low_next = t.0;
          way = subst (λ e. ways.TakesEdge (lowered m) low_told bound l lrest low lf e t.0) (sym (ap (λ (q : PointId). edge_of q k) frames.at)) t.1;
          for = t.2;
        }

    -- ---- the operand by which a terminator chooses

    module _ (switches : (ending_of i.op ≡ ending.TwoBranches) ⊎ (ending_of i.op ≡ ending.Cases)) (goes : leaves_function (ending_of i.op) ≡ false)
        (x : Datum) (v : Value) (chosen : holder.IsChosenBy m (facts_of m) bound frame i (Some x)) (value : as_value x ≡ Some v)
        (k : ℕ) (y : Edge) (is : edge_at f (edge_of p k) ≡ Some y) where
      one : (o : Operand) × (i.operands ≡ o ∷ [])
      one = lowers.chosen p.block.0 i stands.terminator switches

      abbrev o : Operand
      o = one.0

      same_operand : chosen.operand ≡ o
      same_operand = same_Some chosen.operand o (sym chosen.first ∙ ap (λ os. slice_get os 0) one.1)

      c : ComesPlain m s frame f (item.Edge (edge_of p k))
      c = edge_comes k goes y is

      takes_first : (more : List ValueId) × (map taken_value (item_taken f (item.Edge (edge_of p k))) ≡ o.value ∷ more)
      takes_first =
          let first = first_taken_of i o.value switches (ap (λ os. option_map value_of (slice_get os 0)) one.1) in (
            first.0 ++ map taken_value (taken_along_in (edge_at f (edge_of p k))),
            ap (λ z. map taken_value (taken_in z ++ taken_along_in (edge_at f (edge_of p k)))) stands.terminator
                ∙ map-append taken_value (taken_by i) (taken_along_in (edge_at f (edge_of p k)))
                ∙ ap (λ vs. vs ++ map taken_value (taken_along_in (edge_at f (edge_of p k)))) first.1,
          )

      old : IsOld f o.value
      old =
          first_holds (IsOld f) (item_taken f (item.Edge (edge_of p k))) o.value takes_first.0 takes_first.1
          (lowers.taken (item.Edge (edge_of p k)) (turned_item f (item.Edge (edge_of p k)) frame.trail c.trail))

      current : IsCurrent f frame.trail o.value
      current =
          first_holds (IsCurrent f frame.trail) (item_taken f (item.Edge (edge_of p k))) o.value takes_first.0 takes_first.1
          (lowers.current frame.trail (item.Edge (edge_of p k)) c.trail)

      low_value : low_frames.value_at low.values (number o.value) ≡ Some x
      low_value =
          let shown = frames.values o.value x (ap (λ (q : Operand). datum_in (entry_at frame.entries q.value)) (sym same_operand) ∙ chosen.is) (old, current) in
          shown.1 ∙ ap Some (like_exact d f lowers.named o.value x shown.0 (no_address x v value) shown.2)

      low_chosen : ways.chosen_by (lowered m) low_told bound low j ≡ Ok (x ∷ [])
      low_chosen =
          ap (λ os. read_all low.values (map (λ (q : Operand). q.value) (map (renumbered_operand number) os))) one.1
          ∙ ap (λ z. and_others (low_frames.there (number o.value) z) (Ok [])) low_value

      same_shape : switched_shape (shapes_in low_told low.function) j ≡ switched_shape (shapes_in (shapes_of m) frame.function) i
      same_shape =
          ap (λ os. unwrap_or (option_map (λ (q : Operand). shape_at (shapes_in low_told low.function) q.value) (slice_get (map (renumbered_operand number) os) 0)) Unknown) one.1
          ∙ ap (λ (h : FuncId). shape_at (shapes_in low_told h) (number o.value)) frames.function
          ∙ lowers.shapes o.value old
          ∙ ap (λ os. unwrap_or (option_map (λ (q : Operand). shape_at (shapes_in (shapes_of m) frame.function) q.value) (slice_get os 0)) Unknown) (sym one.1)

      pub record LowChooses (choose : Value → Option ℕ) : Type 0 where
        pub low_choose : Value → Option ℕ
        pub chooses : ways.Chooses (lowered m) low_told bound low j low_choose
        pub same : low_choose v ≡ choose v

      low_chooses : (choose : Value → Option ℕ) → holder.Chooses m (facts_of m) bound frame i choose → LowChooses choose
      low_chooses _ (holder.Chooses.by_bit two) = record { low_choose = branch_of; chooses = ways.Chooses.by_bit two; same = refl }
      low_chooses _ (holder.Chooses.by_case cases) = record {
        low_choose = steps.switch_edge (lowered m) low_told bound low j;
        chooses = ways.Chooses.by_case cases;
        same = ap (λ sh. case_edge sh j.edges v) same_shape ∙ same_edge number (switched_shape (shapes_in (shapes_of m) frame.function) i) i.edges v;
      }

    choosing : (choose : Value → Option ℕ) → holder.Chooses m (facts_of m) bound frame i choose
        → ((ending_of i.op ≡ ending.TwoBranches) ⊎ (ending_of i.op ≡ ending.Cases)) × (leaves_function (ending_of i.op) ≡ false)
    choosing _ (holder.Chooses.by_bit two) = (inl two, ap leaves_function two)
    choosing _ (holder.Chooses.by_case cases) = (inr cases, ap leaves_function cases)

    chooses_edge : (choose : Value → Option ℕ) (x : Datum) (v : Value) (k : ℕ) (next : HolderNext) → holder.Chooses m (facts_of m) bound frame i choose
        → holder.IsChosenBy m (facts_of m) bound frame i (Some x) → as_value x ≡ Some v → choose v ≡ Some k
        → holder.TakesEdge m (facts_of m) bound s rest frame f (edge_of p k) next → IsNoFault next → LowActs next
    chooses_edge choose x v k next chooses chosen value choice way none =
        let so = choosing choose chooses in
        let y = edge_there (edge_of p k) next way none in
        let e = edge k so.1 next way none in
        let c = low_chooses so.0 so.1 x v chosen value k y.0 y.1 choose chooses in
        record {
          low_next = e.low_next;
          way = ways.Acts.chooses j c.low_choose (x ∷ []) x v k e.low_next low_stands c.chooses (low_chosen so.0 so.1 x v chosen value k y.0 y.1) refl value (c.same ∙ choice) e.way;
          for = e.for;
        }

    -- ---- returns

    module _ (returns : ending_of i.op ≡ ending.Return) (ops : Operands) (found : operands_of facts s.memory frame.entries (item_taken f (item.Exit p)) ≡ Ok ops)
        (x : Datum) (only_one : only ops.given ≡ Some x) where
      exit_comes : ComesPlain m s frame f (item.Exit p)
      exit_comes = comes (item.Exit p) (refl, record { at_end = is_end; leaves = ap leaves_function returns })

      taken_so : AreTakenSo facts s.memory frame.entries (item_taken f (item.Exit p)) ops
      taken_so = operands_given facts s.memory frame.entries (item_taken f (item.Exit p)) ops found

      given_is : ops.given ≡ x ∷ []
      given_is = one_is ops.given x only_one

      reads : AreReadSo d f lowers.named low.values (item_taken f (item.Exit p)) ops.given
      reads =
          taken_read d f lowers.named low.values frame.trail s.memory facts frame.entries (item_taken f (item.Exit p)) ops.given frames.values
          (lowers.taken (item.Exit p) (turned_item f (item.Exit p) frame.trail exit_comes.trail)) (lowers.current frame.trail (item.Exit p) exit_comes.trail) taken_so.given

      exact : reads.ys ≡ ops.given
      exact = taken_exact d f lowers.named low.values (item_taken f (item.Exit p)) ops.given reads.ys reads.like (exit_comes.plain ops found)

      takes_by : (g : Function) (q : PointId) (t : Inst) → terminator_of g q.block.0 ≡ Some t → values_taken g (item.Exit q) ≡ map taken_value (taken_by t)
      takes_by g q t ends = ap (λ z. map taken_value (taken_in z ++ [])) ends ∙ ap (map taken_value) (append-nil (taken_by t))

      low_read : read_all low.values (values_taken lf (item.Exit low.at)) ≡ Ok ops.given
      low_read =
          ap (read_all low.values)
          (takes_by lf low.at j low_stands.terminator ∙ taken_renumbered number i ∙ ap (map number) (sym (takes_by f p i stands.terminator)))
          ∙ reads.read ∙ ap Ok exact

      alive : any_dead s.memory (references_in x) ≡ false
      alive = given_alive facts s.memory frame.entries (item_taken f (item.Exit p)) x (subst (AllZip (IsGivenAlive facts s.memory frame.entries) (item_taken f (item.Exit p))) given_is taken_so.given)

      leaves : (next : HolderNext) → holder.Leaves m (facts_of m) bound s rest (record frame { entries = ops.left }) f x next → IsNoFault next → LowActs next
      leaves _ (holder.Leaves.leaves next held slots after way) none =
          let r = are_returned m bound s l x rest lrest next totals memory size rest_for full.1 alive (below i ops x stands.terminator returns found only_one held) way none in
          record {
            low_next = r.0;
            way = ways.Acts.returns j ops.given x r.0 low_stands returns low_read (ap has_any frames.slots ∙ slots) only_one r.1;
            for = r.2;
          }
      leaves _ (holder.Leaves.holds e) none = absurd (none LeavesHeld s refl)
      leaves _ (holder.Leaves.has_slot e) none = absurd (none LeavesSlot s refl)
      leaves _ (holder.Leaves.wrong_place e) none = absurd (none LeavesPlace s refl)

  -- ---- what the terminator does

  acts : (next : HolderNext) → holder.Acts m (facts_of m) bound s rest frame f next → IsNoFault next → LowActs next
  acts _ (holder.Acts.does i ops next here found way) none = absurd (none-some i (sym at_end ∙ here))
  acts _ (holder.Acts.branches i next stands one way) none =
      let e = edge i stands 0 (ap leaves_function one) next way none in
      record { low_next = e.low_next; way = ways.Acts.branches (renumbered_inst number i) e.low_next (low_stands i stands) one e.way; for = e.for }
  acts _ (holder.Acts.chooses i choose x v k next stands chooses chosen value choice way) none =
      chooses_edge i stands choose x v k next chooses chosen value choice way none
  acts _ (holder.Acts.returns i ops x next stands returns found one way) none = leaves i stands returns ops found x one next way none
  acts _ (holder.Acts.unreachable i stands is) none = record {
    low_next = Ends (Trapped trap.Unreachable) l;
    way = ways.Acts.unreachable (renumbered_inst number i) (low_stands i stands) is;
    for = IsNextAlong.ends (Trapped trap.Unreachable) s (Trapped trap.Unreachable) l
        (record { events = totals.events; ending = IsEndingFor.trapped trap.Unreachable; left = refl; retains = totals.retains; releases = totals.releases });
  }
  acts _ (holder.Acts.wrong_operand i x here e) none = absurd (none x s refl)
  acts _ (holder.Acts.no_operand i choose stands chooses e) none = absurd (none WrongShape s refl)
  acts _ (holder.Acts.no_entry i choose stands chooses e) none = absurd (none NoEntry s refl)
  acts _ (holder.Acts.no_value i choose x stands chooses chosen e) none = absurd (none WrongShape s refl)
  acts _ (holder.Acts.no_choice i choose x v stands chooses chosen value e) none = absurd (none WrongShape s refl)
  acts _ (holder.Acts.wrong_returned i x stands returns e) none = absurd (none x s refl)
  acts _ (holder.Acts.not_one_returned i ops stands returns found e) none = absurd (none WrongShape s refl)
  acts _ (holder.Acts.no_ending i stands e) none = absurd (none WrongShape s refl)
  acts _ (holder.Acts.no_terminator behind e) none = absurd (none WrongShape s refl)

pub are_ends_along : AreEndsAlong
are_ends_along m bound s l frame rest f low lrest next totals memory size there lowers frames rest_for full at_end comes below way none =
    let a = acts m bound s l frame rest f low lrest totals memory size there lowers frames rest_for full at_end comes below next way none in (a.low_next, a.way, a.for)
