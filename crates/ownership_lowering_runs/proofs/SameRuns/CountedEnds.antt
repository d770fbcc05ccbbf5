-- Counts behind a terminator: an edge is taken, or the frame returns.
use Rattle.std.proofs.Common.{◌≡◌, inl, inr, ℕ, List, [], ◌∷◌, ◌++◌, map, length, refl, sym, ap, ◌∙◌, subst, false, Option, Some, None, Ok}
use Rattle.std.specs.Prelude.{not, option_and_then, slice_get}
use Rattle.std.proofs.lemmas.Bool.{and_parts}
use Rattle.std.proofs.lemmas.Option.{none-some, slice_get_within}
use Rattle.instruction_table.specs.Forms.{ending_of, roles_of}
use Rattle.instruction_table.specs.declared.entries.Ending.TheVariants as ending
use Rattle.instruction_table.specs.declared.entries.Role.TheVariants as role
use Rattle.instruction_table.specs.declared.op.Op.TheVariants as op
use Rattle.numbered_form.specs.Lists.{Each, is_empty}
use Rattle.numbered_form.specs.inner.Parts.{are_cases}
use Rattle.sil_ast.specs.declared.function.Function.{Function}
use Rattle.sil_ast.specs.declared.inst.Edge.{Edge}
use Rattle.sil_ast.specs.declared.inst.Inst.{Inst}
use Rattle.sil_ast.specs.declared.module.Module.{Module}
use Rattle.sil_ast.specs.declared.operands.Operand.{Operand}
use Rattle.sil_ast.specs.declared.place.EdgeId.{EdgeId}
use Rattle.sil_ast.specs.declared.place.ObjectId.{ObjectId}
use Rattle.sil_ast.specs.declared.place.PointId.{PointId}
use Rattle.sil_ast.specs.declared.place.ValueId.{ValueId}
use Rattle.sil_cfg.specs.Items.{leaves_function}
use Rattle.sil_cfg.specs.declared.item.Item.TheVariants as item
use Rattle.sil_cfg_items.specs.Items.{item_defined, item_taken, taken_along_in, taken_in}
use Rattle.sil_cfg_items.specs.Parts.{edge_at, edge_in}
use Rattle.sil_cfg_items.specs.Roles.{by_row, consumed, conventions_in, roles_for, taken_along, taken_as, taken_by, taken_each}
use Rattle.sil_cfg_items.specs.declared.taken.Taken.{Taken}
use Rattle.ownership_kinds_chains.specs.declared.ownership_chains.facts.Facts.{Facts}
use Rattle.sil_types_declarations.specs.TypeDefinitions.Declarations.{Declarations, declarations_of}
use Rattle.sil_verifier_runs.specs.sil_verifier_accepted.AcceptedModules.inner.Checked.{IsVerified}
use Rattle.sil_verifier_runs.specs.ownership_kinds_origins.Facts.{facts_in}
use Rattle.sil_verifier_runs.specs.sil_verifier_values.inner.Known.{IsAcceptedBody}
use Rattle.ownership_lowering_laws.specs.holder_model_typing.OwnedRunTyping.inner.OwnedEnds.{OwnedEndForms}
use Rattle.sil_verifier_runs.specs.holder_model.RunTyping.EndForms.{EndForms}
use Rattle.sil_verifier_runs.specs.holder_model.RunTyping.Forms.{OfValue, form_of}
use Rattle.sil_verifier_runs.specs.holder_model.RunTyping.RowForms.{IsEnum}
use Rattle.sil_verifier_runs.proofs.sil_verifier_values.Made.{items_of}
use Rattle.sil_verifier_runs.specs.sil_verifier_trails.RunTrails.inner.RunTrails.{ComesAt}
use Rattle.holder_model_values.specs.RunValues.Shapes.{Shape, case_shapes}
use Rattle.holder_model_values.specs.RunValues.Values.{Value}
use Rattle.sil_verifier_runs.specs.holder_model.Data.{Datum, ValueOf}
use Rattle.sil_verifier_runs.specs.holder_model.Edges.{carried_along, carried_by, edge_of}
use Rattle.sil_verifier_runs.specs.holder_model.Effects.{unchanged}
use Rattle.sil_verifier_runs.specs.holder_model.Frames.{Entry, Frame, Operands, results_put}
use Rattle.sil_verifier_runs.specs.holder_model.Holders.{of_references}
use Rattle.sil_verifier_runs.specs.holder_model.HolderStates.{HolderNext, HolderState}
use Rattle.sil_verifier_runs.specs.holder_model.ModuleFacts.{facts_of, facts_told}
use Rattle.sil_verifier_runs.specs.holder_model.Outcomes.{Numbers}
use Rattle.sil_verifier_runs.specs.holder_model.Standing.{stands_at}
use Rattle.sil_verifier_runs.specs.holder_model.States.{Ends, Goes, Runs, Task}
use Rattle.sil_verifier_runs.specs.holder_model.LoweredRun.LowStepParts.{taken_value}
use Rattle.sil_verifier_runs.specs.holder_model_laws.HolderLaws.inner.Counts.Taking.{IsBelow, references_begun, references_ended}
use Rattle.sil_verifier_runs.specs.holder_model_laws.HolderLaws.inner.Steps.Ways.{Chooses, GoesBehind, StandsAtEnd, TakesEdge, left_with, operands_in, turned}
use Rattle.sil_verifier_runs.specs.holder_model_laws.StoredCounts.inner.Numbers.{AreCounts}
use Rattle.sil_verifier_runs.proofs.holder_model_laws.StoredCounts.Turns.{kept_stored}
use Rattle.ownership_lowering_runs.proofs.OwnedCounts.TakenOwned.{IsValue, Keeps}
use Rattle.ownership_lowering_laws.proofs.holder_model_typing.TypedMemory.Grouped.{enum_choice}
use Rattle.ownership_lowering_laws.specs.holder_model_typing.TypedMemory.inner.Worlds.{Suits, World, names}
use Rattle.sil_verifier_runs.proofs.sil_verifier_frames.Typed.Data.{read_value}
use Rattle.sil_verifier_runs.proofs.sil_verifier_frames.Typed.Edges.{end_forms, one_operand}
use Rattle.sil_verifier_runs.proofs.sil_verifier_frames.Typed.Entries.{FitEach, operands_fit}
use Rattle.sil_verifier_runs.proofs.sil_verifier_frames.Typed.GoesOn.{Running, accepted_body}
use Rattle.holder_model_values.specs.ValueParts.inner.Choices.{IsChoice}
use Rattle.ownership_lowering_runs.proofs.StoredRuns.Typed.TypedEnds.{IsOfValue, case_bare, edges_by, takes_values}
use Rattle.ownership_lowering_runs.proofs.SameRuns.CountedEdges.{Balances, IsCase, branch_balances, cond_op, br_op, one_by, switch_balances, switch_op}
use Rattle.ownership_lowering_runs.proofs.SameRuns.CountedMoves.{moved_counted}

-- the counts of a state to which a step leads
abbrev pub CountedNext : List Numbers → HolderNext → Type 0
CountedNext stored (Goes s) = AreCounts s stored
CountedNext stored (Ends e s) = Unit {0}

-- a turn changes no count
pub turned_counted : (s : HolderState) (stored : List Numbers) → AreCounts s stored → AreCounts (turned s) stored
turned_counted s stored counts = kept_stored s (turned s) stored (record { size = refl; strongly = λ o. refl; named = λ how o. refl }) counts

module _ (m : Module) (w : World) (f : Function) where
  pub values_fit : {vs : List ValueId} {xs : List Datum} → FitEach m w f vs xs → Each (IsOfValue m f) vs → Each IsValue xs
  values_fit FitEach.none h = tt
  values_fit (FitEach.more u x vs xs fit rest) h = let z = read_value m w fit.is h.0.0 h.0.1 in ((z.0, z.1), values_fit rest h.1)

  one_fit : (u : ValueId) (xs : List Datum) (vs : List ValueId) → vs ≡ u ∷ [] → FitEach m w f vs xs → (shape : Shape) → form_of (declarations_of m) f u ≡ OfValue shape
      → (x : Value) × (xs ≡ ValueOf x ∷ []) × Suits m w shape x
  one_fit u xs vs is fit shape form = by vs xs fit is
    where
      by : (vs : List ValueId) (xs : List Datum) → FitEach m w f vs xs → vs ≡ u ∷ [] → (x : Value) × (xs ≡ ValueOf x ∷ []) × Suits m w shape x
      by _ _ FitEach.none e = cc
      by _ _ (FitEach.more z x _ _ fit FitEach.none) e =
          let same : z ≡ u = cc in
          let y = read_value m w fit.is shape (ap (form_of (declarations_of m) f) same ∙ form) in (y.0, ap (λ d. d ∷ []) y.1, y.2)
      by _ _ (FitEach.more z x _ _ fit (FitEach.more z' x' vs' xs' fit' rest)) e = cc

module _ (m : Module) (v : IsVerified m) (bound : ℕ) (s : HolderState) (rest : List (Task Frame)) (frame : Frame) (f : Function) (r : Running m s rest frame f)
    (at_top : s.tasks ≡ Runs frame ∷ rest) (i : Inst) (stands : StandsAtEnd m (facts_of m) bound frame f i) where
  abbrev d : Declarations
  d = declarations_of m

  abbrev p : PointId
  p = stands_at f frame.trail

  abbrev facts : ValueId → Option Facts
  facts = facts_in d f

  a : IsAcceptedBody m frame.function.0 f
  a = accepted_body m v frame.function f r.typed.is r.typed.bodied

  forms : OwnedEndForms d f i
  forms = end_forms m v bound s rest frame f r i stands

  no_operands : ending_of i.op ≡ ending.OneBranch → OwnedEndForms d f i → i.operands ≡ []
  no_operands is (OwnedEndForms.also_lowered other (EndForms.branch e is' bare at forms)) = bare
  no_operands is (OwnedEndForms.also_lowered other (EndForms.branches set clear is' operands set_is clear_is set_forms clear_forms)) = absurd (cc)
  no_operands is (OwnedEndForms.also_lowered other (EndForms.cases shape is' operands is_enum all)) = absurd (cc)
  no_operands is (OwnedEndForms.also_lowered other (EndForms.returns is' operands)) = absurd (cc)
  no_operands is (OwnedEndForms.also_lowered other (EndForms.unreachable is')) = absurd (cc)
  no_operands is (OwnedEndForms.cases shape is' operands is_enum all) = absurd (cc)

  one_bit : ending_of i.op ≡ ending.TwoBranches → OwnedEndForms d f i → (o : Operand) × (i.operands ≡ o ∷ [])
  one_bit is (OwnedEndForms.also_lowered other (EndForms.branches set clear is' operands set_is clear_is set_forms clear_forms)) =
      let y = one_operand d f i _ operands in (y.0, y.1)
  one_bit is (OwnedEndForms.also_lowered other (EndForms.branch e is' bare at forms)) = absurd (cc)
  one_bit is (OwnedEndForms.also_lowered other (EndForms.cases shape is' operands is_enum all)) = absurd (cc)
  one_bit is (OwnedEndForms.also_lowered other (EndForms.returns is' operands)) = absurd (cc)
  one_bit is (OwnedEndForms.also_lowered other (EndForms.unreachable is')) = absurd (cc)
  one_bit is (OwnedEndForms.cases shape is' operands is_enum all) = absurd (cc)

  record Switched : Type 0 where
    shape : Shape
    is_enum : IsEnum shape
    operand : Operand
    one : i.operands ≡ operand ∷ []
    form : form_of d f operand.value ≡ OfValue shape

  switched_on : ending_of i.op ≡ ending.Cases → OwnedEndForms d f i → Switched
  switched_on is (OwnedEndForms.cases shape is' operands is_enum all) =
      let y = one_operand d f i (OfValue shape) operands in record { shape = shape; is_enum = is_enum; operand = y.0; one = y.1; form = y.2 }
  switched_on is (OwnedEndForms.also_lowered other (EndForms.cases shape is' operands is_enum all)) = absurd (other is)
  switched_on is (OwnedEndForms.also_lowered other (EndForms.branch e is' bare at forms)) = absurd (cc)
  switched_on is (OwnedEndForms.also_lowered other (EndForms.branches set clear is' operands set_is clear_is set_forms clear_forms)) = absurd (cc)
  switched_on is (OwnedEndForms.also_lowered other (EndForms.returns is' operands)) = absurd (cc)
  switched_on is (OwnedEndForms.also_lowered other (EndForms.unreachable is')) = absurd (cc)

  module _ (k : ℕ) (ops : Operands) (found : operands_in m (facts_of m) bound s frame f (item.Edge (edge_of p k)) ≡ Ok ops) (carried : List Datum)
      (is : carried_along f (edge_of p k) ops.given ≡ Some carried) where
    abbrev e : EdgeId
    e = edge_of p k

    abbrev ts : List Taken
    ts = item_taken f (item.Edge e)

    edge_there : (y : Edge) × (edge_at f e ≡ Some y)
    edge_there = by (edge_at f e) refl
      where
        by : (o : Option Edge) → edge_at f e ≡ o → (y : Edge) × (edge_at f e ≡ Some y)
        by (Some y) h = (y, h)
        by None h =
            absurd (none-some carried
            (sym (ap (option_and_then (λ j. option_and_then (λ taken. carried_by (ending_of j.op) f e taken ops.given) (edge_at f e))) stands.terminator
            ∙ ap (option_and_then (λ taken. carried_by (ending_of i.op) f e taken ops.given)) h) ∙ is))

    within_edges : slice_get i.edges k ≡ Some edge_there.0
    within_edges = sym (ap (λ t. edge_in t k) stands.terminator) ∙ edge_there.1

    fits : FitEach m r.w f (map taken_value ts) ops.given
    fits =
        (operands_fit m r.w f (facts_told (facts_of m) frame.function) s.memory ts frame.entries ops r.typed.entries
        (items_of m frame.function.0 f a (item.Edge e)).taken found).0

    comes : leaves_function (ending_of i.op) ≡ false → ComesAt f p (item.Edge e)
    comes goes_on = (
      refl,
      record {
        at_end = record { terminator = i; behind_insts = stands.behind; there = stands.terminator };
        goes_on = goes_on;
        has_edge = slice_get_within i.edges k edge_there.0 within_edges;
      },
    )

    values : leaves_function (ending_of i.op) ≡ false → Each IsValue ops.given
    values goes_on = values_fit m r.w f fits (takes_values m s r.w frame f a r.typed stands.behind (item.Edge e) (comes goes_on))

    are_behind : Each (IsBelow (length ops.left)) (item_defined f (item.Edge e))
    are_behind =
        subst (λ n. Each (IsBelow n) (item_defined f (item.Edge e)))
        (sym (operands_fit m r.w f (facts_told (facts_of m) frame.function) s.memory ts frame.entries ops r.typed.entries
        (items_of m frame.function.0 f a (item.Edge e)).taken found).1.size)
        (items_of m frame.function.0 f a (item.Edge e)).defined

    module _ (entries : List Entry) (put : results_put (facts_told (facts_of m) frame.function) (item_defined f (item.Edge e)) carried ops.left ≡ Ok entries)
        (goes_on : leaves_function (ending_of i.op) ≡ false) where
      abbrev AreBalanced : Type 0
      AreBalanced = Balances m v bound s rest frame f r i stands k edge_there.0 edge_there.1 ops found (values goes_on) carried is entries put

      by_br : ending_of i.op ≡ ending.OneBranch → AreBalanced
      by_br one =
          let bare = no_operands one forms in
          let none : taken_by i ≡ [] = ap (λ os. taken_each os (roles_for (roles_of i.op) (conventions_in i) (length os))) bare in
          branch_balances m v bound s rest frame f r i stands k edge_there.0 edge_there.1 ops found (values goes_on) carried is entries put (inl (br_op i.op one))
          (subst (Each (Keeps facts frame.entries)) (sym none) tt) (ap length none ∙ sym (ap length bare)) (ap (λ z. carried_by z f e edge_there.0 ops.given) one)

      by_cond : ending_of i.op ≡ ending.TwoBranches → AreBalanced
      by_cond two =
          let one = one_bit two forms in
          let taken : taken_by i ≡ taken_as one.0 (by_row role.Used) ∷ [] = one_by i.op op.CondBr (conventions_in i) one.0 i.operands (cond_op i.op two) one.1 in
          branch_balances m v bound s rest frame f r i stands k edge_there.0 edge_there.1 ops found (values goes_on) carried is entries put (inr (cond_op i.op two))
          (subst (Each (Keeps facts frame.entries)) (sym taken) (inl refl, tt)) (ap length taken ∙ sym (ap length one.1)) (ap (λ z. carried_by z f e edge_there.0 ops.given) two)

      by_switch : ending_of i.op ≡ ending.Cases → AreBalanced
      by_switch cases =
          let on = switched_on cases forms in
          let no_args : edge_there.0.args ≡ [] =
          case_bare i.edges (and_parts (not (is_empty i.edges)) (are_cases i.edges) (edges_by m frame.function.0 f a p.block.0 i stands.terminator ending.Cases cases)).1 k edge_there.0
          within_edges in
          let alone : map taken_value ts ≡ on.operand.value ∷ [] =
          ap (map taken_value)
          (ap (λ t. taken_in t ++ taken_along_in (edge_at f e)) stands.terminator ∙ ap (λ o. taken_by i ++ taken_along_in o) edge_there.1
          ∙ ap (λ us. us ++ taken_along edge_there.0) (one_by i.op op.SwitchEnum (conventions_in i) on.operand i.operands (switch_op i.op cases) on.one)
          ∙ ap (λ os. taken_as on.operand (by_row role.Forwarded) ∷ map consumed os) no_args) in
          let x = one_fit m r.w f on.operand.value ops.given (map taken_value ts) alone fits on.shape on.form in
          switch_balances m v bound s rest frame f r i stands k edge_there.0 edge_there.1 ops found (values goes_on) carried is entries put cases no_args on.operand on.one x.0
          (is_case x.0 (case_shapes on.shape) (enum_choice (names m r.w) on.shape on.is_enum x.0 x.2)) x.1
        where
          is_case : (z : Value) (cs : List _) → IsChoice (names m r.w) cs z → IsCase z
          is_case _ cs (IsChoice.plain n c there bare) = IsCase.alone n
          is_case _ cs (IsChoice.full n y c t there has good) = IsCase.carries n y

  module _ (stored : List Numbers) (counts : AreCounts s stored) where
    takes_counted : (k : ℕ) → ((ops : Operands) (found : operands_in m (facts_of m) bound s frame f (item.Edge (edge_of p k)) ≡ Ok ops) (carried : List Datum)
        (is : carried_along f (edge_of p k) ops.given ≡ Some carried) (entries : List Entry)
        (put : results_put (facts_told (facts_of m) frame.function) (item_defined f (item.Edge (edge_of p k))) carried ops.left ≡ Ok entries)
        → (weight : ObjectId → ℕ) → of_references weight (references_begun (facts_told (facts_of m) frame.function) (item_defined f (item.Edge (edge_of p k))) carried)
        ≡ of_references weight (references_ended (facts_told (facts_of m) frame.function) frame.entries (item_taken f (item.Edge (edge_of p k)))))
        → (n : HolderNext) → TakesEdge m (facts_of m) bound s rest frame f (edge_of p k) n → CountedNext stored n
    takes_counted k balances n (TakesEdge.takes ops carried _ found is turn moves) = behind n moves
      where
        behind : (n : HolderNext) → GoesBehind m (facts_of m) bound (turned s) rest (left_with m (facts_of m) bound frame ops) f (item.Edge (edge_of p k))
            (record (unchanged s.memory) { results = carried }) n → CountedNext stored n
        behind _ (GoesBehind.goes slots entries left put) =
            moved_counted m bound (turned s) rest frame f (item.Edge (edge_of p k)) ops carried slots entries stored at_top found put (are_behind k ops found carried is)
            (balances ops found carried is entries put) (turned_counted s stored counts)
        behind _ (GoesBehind.wrong_slot x e) = tt
        behind _ (GoesBehind.wrong_result slots x e put) = tt
    takes_counted k balances _ (TakesEdge.no_turn ops carried found is turn) = tt
    takes_counted k balances _ (TakesEdge.wrong_operand x found) = tt
    takes_counted k balances _ (TakesEdge.not_carried ops found is) = tt

    pub branch_counted : ending_of i.op ≡ ending.OneBranch → (n : HolderNext) → TakesEdge m (facts_of m) bound s rest frame f (edge_of p 0) n → CountedNext stored n
    branch_counted one = takes_counted 0 (λ ops found carried is entries put. by_br 0 ops found carried is entries put (ap leaves_function one) one)

    pub chosen_counted : (choose : Value → Option ℕ) → Chooses m (facts_of m) bound frame i choose → (k : ℕ) → (n : HolderNext)
        → TakesEdge m (facts_of m) bound s rest frame f (edge_of p k) n → CountedNext stored n
    chosen_counted _ (Chooses.by_bit two) k = takes_counted k (λ ops found carried is entries put. by_cond k ops found carried is entries put (ap leaves_function two) two)
    chosen_counted _ (Chooses.by_case cases) k = takes_counted k (λ ops found carried is entries put. by_switch k ops found carried is entries put (ap leaves_function cases) cases)
