-- The frames of the function whose copy is a move do alike: instructions, edges, returns, and what a callee returned.
use Rattle.std.proofs.Common.{◌≡◌, ◌⊎◌, inl, inr, ℕ, zero, suc, ◌<◌, ◌≤◌, List, [], ◌∷◌, length, drop, refl, sym, ap, ap₂, ◌∙◌, subst, arith}
use Rattle.std.proofs.Common.{true, false, Option, Some, None, Ok}
use Rattle.std.specs.Prelude.{option_and_then, option_map, slice_get}
use Rattle.std.specs.List.{list_any}
use Rattle.std.proofs.lemmas.Bool.{cases_eq}
use Rattle.std.proofs.lemmas.Option.{none-some}
use Rattle.sil_verifier_runs.specs.sil_verifier_accepted.AcceptedModules.inner.Checked.{IsVerified}
use Rattle.holder_model_laws.specs.ownership_kinds_origins.Facts.{facts_in}
use Rattle.copy_pairing_acceptance.specs.copy_pairing_model.Removable.{concerns}
use Rattle.copy_pairing_acceptance.specs.copy_pairing_model.Rewritten.{moved, with_function}
use Rattle.instruction_table.specs.Forms.{ending_of}
use Rattle.instruction_table.specs.declared.entries.Ending.TheVariants as ending
use Rattle.sil_cfg_items.specs.Items.{item_defined, item_taken}
use Rattle.sil_cfg_items.specs.Parts.{inst_at, inst_in, terminator_of}
use Rattle.ownership_kinds_chains.specs.OwnershipChains.Facts.{is_owned, known_or}
use Rattle.ownership_kinds_chains.specs.declared.ownership_chains.facts.Facts.{Facts}
use Rattle.ownership_kinds_chains.specs.OwnershipMarks.Marks.{marks_of}
use Rattle.holder_model_values.specs.RunValues.Places.{Place}
use Rattle.sil_ast.specs.declared.function.Function.{Function}
use Rattle.sil_ast.specs.declared.inst.Inst.{Inst}
use Rattle.sil_ast.specs.declared.module.Module.{Module}
use Rattle.sil_ast.specs.declared.operands.Operand.{Operand}
use Rattle.sil_ast.specs.declared.place.EdgeId.{EdgeId}
use Rattle.sil_ast.specs.declared.place.FuncId.{FuncId}
use Rattle.sil_ast.specs.declared.place.PointId.{PointId}
use Rattle.sil_ast.specs.declared.place.ValueId.{ValueId}
use Rattle.sil_cfg.specs.Items.{point_at}
use Rattle.sil_cfg.specs.declared.item.Item.{Item}
use Rattle.sil_cfg.specs.declared.item.Item.TheVariants as item
use Rattle.sil_types_declarations.specs.TypeDefinitions.Declarations.{declarations_of}
use Rattle.holder_model_laws.specs.holder_model.Data.{Datum}
use Rattle.holder_model_laws.specs.holder_model.Frames.{Entry, Frame, LentPlace, entry_at, datum_in, no_entries, operands_of, results_put}
use Rattle.holder_model_laws.specs.holder_model.HolderStates.{HolderState}
use Rattle.holder_model_laws.specs.holder_model.ModuleFacts.{ModuleFacts, facts_of, facts_told}
use Rattle.holder_model_laws.specs.holder_model.Standing.{stands_at}
use Rattle.holder_model_laws.specs.holder_model.States.{Runs, Task}
use Rattle.holder_model_laws.specs.LockstepRuns.inner.Frames.{AreInstsAlike}
use Rattle.holder_model_laws.specs.LockstepRuns.inner.Lockstep.{ArePutAlike, frame_at}
use Rattle.holder_model_laws.specs.LockstepRuns.inner.Parts.{puts}
use Rattle.copy_pairing_acceptance.specs.MovedFunctions.inner.Structure.{old_point}
use Rattle.copy_pairing_acceptance.proofs.MovedFunctions.Marks.{destroy_defines}
use Rattle.copy_pairing_acceptance.proofs.MovedFunctions.Places.{after, same_defined, same_taken}
use Rattle.copy_pairing_acceptance.proofs.MovedFunctions.SameFacts.{destroy_makes_none}
use Rattle.copy_pairing_acceptance.proofs.MovedFunctions.Split.{IsSplit}
use Rattle.copy_pairing_runs.specs.MovedRuns.inner.MovedFrames.{AreAt, IsAlone, IsCleared, IsLike, Lags}
use Rattle.copy_pairing_runs.proofs.MovedRuns.MovedPoints.{old_copy}
use Rattle.holder_model_laws.specs.holder_model.Edges.{carried_along, carried_by, edge_of, first_value_of, switched_data}
use Rattle.holder_model_laws.specs.holder_model.Calling.{given_places, argument_data}
use Rattle.holder_model_laws.specs.holder_model.Standing.{first_point, target_of}
use Rattle.argument_conventions.specs.Arguments.{arguments_of}
use Rattle.instruction_table.specs.declared.entries.Ending.{Ending}
use Rattle.sil_cfg_items.specs.Parts.{edge_at}
use Rattle.sil_ast.specs.declared.inst.Edge as edge
use Rattle.holder_model_laws.specs.LockstepRuns.inner.Frames.{AreEdgesAlike, AreEndsAlike, DoAlike}
use Rattle.holder_model_laws.specs.LockstepRuns.inner.Parts.{AreFramesOn, call_at}
use Rattle.copy_pairing_acceptance.proofs.MovedFunctions.Places.{copy_stood, destroy_stood, inst_elsewhere, old_block, same_args, same_edge, same_operands, same_terminator}
use Rattle.copy_pairing_runs.specs.MovedRuns.inner.MovedFrames.{KnowsFrames}
use Rattle.copy_pairing_runs.proofs.MovedRuns.CopyMoved.{copy_inst}
use Rattle.copy_pairing_runs.proofs.MovedRuns.DoMoved.{lag_inst, lag_put, level_inst, level_put, old_lag}
use Rattle.copy_pairing_runs.proofs.MovedRuns.MovedPoints.{at_copy, level_first}
use Rattle.copy_pairing_runs.proofs.MovedRuns.SameTold.{count_same}

none_behind : {A : Type 0} (xs : List A) (k j : ℕ) → slice_get xs k ≡ None → k ≤ j → slice_get xs j ≡ None
none_behind [] k j e le = refl
none_behind (x ∷ xs) zero j e le = absurd (cc)
none_behind (x ∷ xs) (suc k) zero e le = absurd (omega (arith, le))
none_behind (x ∷ xs) (suc k) (suc j) e le = none_behind xs k j e (omega (arith, le))

pub is_point : (q r : PointId) → (q ≡ r) ⊎ (q ≡ r → ⊥)
is_point q r = by (cases_eq q.block.0 r.block.0) (cases_eq q.index r.index)
  where
    by : (q.block.0 ≡ r.block.0) ⊎ (q.block.0 ≡ r.block.0 → ⊥) → (q.index ≡ r.index) ⊎ (q.index ≡ r.index → ⊥) → (q ≡ r) ⊎ (q ≡ r → ⊥)
    by (inl b) (inl i) = inl (ap₂ (λ x y. point_at x y) b i)
    by (inl b) (inr i) = inr (λ e. i (ap (λ (x : PointId). x.index) e))
    by (inr b) i = inr (λ e. b (ap (λ (x : PointId). x.block.0) e))

module _ (m : Module) (n : ℕ) (f : Function) (verified : IsVerified m) (in_module : slice_get m.functions n ≡ Some f) {p : PointId} {last : ℕ}
    {c v : ValueId} (s : IsSplit f p last c v)
    (owned : is_owned (known_or (facts_in (declarations_of m) f) v).kind ≡ true)
    (quiet : (k : ℕ) → p.index < k → k < last
    → list_any (concerns c v) (marks_of (facts_in (declarations_of m) f) f (item.Inst (point_at p.block.0 k))) ≡ false)
    (bound : ℕ) (First Second : HolderState → Type 0) (knows : KnowsFrames p c v last n f (after s) First) where
  abbrev m' : Module
  m' = with_function n (moved p last) m

  abbrev told : ModuleFacts
  told = facts_of m

  abbrev f' : Function
  f' = after s

  abbrev Like : FuncId → List Item → List Entry → List Item → List Entry → Type 0
  Like = IsLike p c v last n f f'

  abbrev Alone : FuncId → List Item → Type 0
  Alone = IsAlone p c v last n f f'

  module _ (g : FuncId) (g_is : g.0 ≡ n) where
    abbrev facts : ValueId → Option Facts
    facts = facts_told told g

    -- ---- edges

    carried_by_same : (e : EdgeId) (xs : List Datum) (x : Ending) (taken : edge.Edge) → carried_by x f' e taken xs ≡ carried_by x f e taken xs
    carried_by_same e xs ending.Inside taken = refl
    carried_by_same e xs ending.OneBranch taken = ap (λ (ops : List Operand). Some (drop (length ops) xs)) (same_operands s (item.Edge e) (λ q. cc))
    carried_by_same e xs ending.TwoBranches taken = ap (λ (ops : List Operand). Some (drop (length ops) xs)) (same_operands s (item.Edge e) (λ q. cc))
    carried_by_same e xs ending.Cases taken =
        ap (λ args. option_map (switched_data taken (length args)) (first_value_of xs)) (same_args s taken.block.0)
    carried_by_same e xs ending.Return taken = refl
    carried_by_same e xs ending.Unreachable taken = refl

    carried_same : (e : EdgeId) (xs : List Datum) → carried_along f' e xs ≡ carried_along f e xs
    carried_same e xs =
        ap₂ (λ t o. option_and_then (λ (i : Inst). option_and_then (λ taken. carried_by (ending_of i.op) f' e taken xs) o) t) (same_terminator s e.block.0) (same_edge s e)
        ∙ by (terminator_of f e.block.0)
      where
        by_edge : (i : Inst) (o : Option edge.Edge) → option_and_then (λ taken. carried_by (ending_of i.op) f' e taken xs) o
            ≡ option_and_then (λ taken. carried_by (ending_of i.op) f e taken xs) o
        by_edge i None = refl
        by_edge i (Some taken) = carried_by_same e xs (ending_of i.op) taken

        by : (t : Option Inst) → option_and_then (λ (i : Inst). option_and_then (λ taken. carried_by (ending_of i.op) f' e taken xs) (edge_at f e)) t
            ≡ option_and_then (λ (i : Inst). option_and_then (λ taken. carried_by (ending_of i.op) f e taken xs) (edge_at f e)) t
        by None = refl
        by (Some i) = by_edge i (edge_at f e)

    edge_put : (e : EdgeId) (trail trail' : List Item) (xs : List Datum) (es es' : List Entry) → es' ≡ es
        → ArePutAlike Like g (item.Edge e ∷ trail) (item.Edge e ∷ trail') (puts told g f (item.Edge e) xs es) (puts told g f' (item.Edge e) xs es')
    edge_put e trail trail' xs es es' same behind is =
        let first = level_first s (target_of (edge_at f e)) in
        let to : first_point (target_of (edge_at f' e)) ≡ first_point (target_of (edge_at f e)) = ap (λ o. first_point (target_of o)) (same_edge s e) in (
          behind,
          ap₂ (λ vs l. results_put facts vs xs l) (same_defined s (item.Edge e) (λ q. cc)) same ∙ is,
          IsLike.here g_is (AreAt.level (first.0 ∙ ap (old_point p last) (sym to)) first.1 refl),
        )

    -- ---- the terminator, where frames are level

    module _ (h r : HolderState) (trail trail' : List Item) (entries entries' : List Entry) (rest : List (Task Frame)) (memory : r.memory ≡ h.memory)
        (level : stands_at f trail ≡ old_point p last (stands_at f' trail')) (same : entries' ≡ entries) where
      one_block : (stands_at f' trail').block.0 ≡ (stands_at f trail).block.0
      one_block = sym (ap (λ (q : PointId). q.block.0) level ∙ old_block s (stands_at f' trail'))

      abbrev IsAlikeOn : EdgeId → EdgeId → Type 0
      IsAlikeOn e e' = AreEdgesAlike m m' told told bound First Second Like Alone g f f' h r trail trail' entries entries' rest e e'

      edges : (e : EdgeId) → IsAlikeOn e e
      edges e ops carried is some = record {
        other = ops;
        taken = ap (λ ts. operands_of facts r.memory entries' ts) (same_taken s (item.Edge e) (λ q. cc))
            ∙ (ap₂ (λ y l. operands_of facts y l (item_taken f (item.Edge e))) memory same ∙ is);
        carries = carried_same e ops.given ∙ some;
        put = edge_put e trail trail' carried ops.left ops.left refl;
      }

      level_ends : (i : Inst) → inst_at f (stands_at f trail) ≡ None → terminator_of f (stands_at f trail).block.0 ≡ Some i
          → AreEndsAlike m m' told told bound First Second Like Alone g f f' h r trail trail' entries entries' rest i
      level_ends i at ends = record {
        behind = inst_elsewhere s (stands_at f' trail') not_copy ∙ ap (inst_at f) (sym level) ∙ at;
        terminator = same_terminator s (stands_at f' trail').block.0 ∙ ap (terminator_of f) one_block ∙ ends;
        chosen = λ o x first is. ap (λ l. datum_in (entry_at l o.value)) same ∙ is;
        edges = λ other k. subst (λ e. IsAlikeOn (edge_of (stands_at f trail) k) e)
            (ap (λ b. let q : PointId = point_at b (stands_at f trail).index in edge_of q k) (sym one_block)) (edges (edge_of (stands_at f trail) k));
        returns = λ e ops is. record {
          other = ops;
          taken = ap (λ ts. operands_of facts r.memory entries' ts) (same_taken s (item.Exit (stands_at f' trail')) (λ q. cc)
              ∙ ap (λ q. item_taken f (item.Exit q)) (sym level))
              ∙ (ap₂ (λ y l. operands_of facts y l (item_taken f (item.Exit (stands_at f trail)))) memory same ∙ is);
          given = refl;
          held = λ held. held;
          places = ap (λ vs. given_places (arguments_of f.signature) (argument_data ops.left vs)) (same_defined s item.Entry (λ q. cc));
        };
      }
        where
          not_copy : stands_at f' trail' ≡ p → ⊥
          not_copy e =
              none-some s.copy (sym at ∙ ap (inst_at f) (level ∙ ap (old_point p last) e ∙ old_copy s) ∙ copy_stood s)

    -- where frames lag, an instruction stands
    lags_inside : (q : PointId) → Lags p c v last q → inst_at f q ≡ None → ⊥
    lags_inside q lags at =
        none-some s.destroy (sym (none_behind s.block.insts q.index last (sym (there q.index lags.block) ∙ at) lags.until) ∙ sym (there last refl) ∙ destroy_stood s)
      where
        there : (k : ℕ) {b : ℕ} → b ≡ p.block.0 → inst_at f (point_at b k) ≡ slice_get s.block.insts k
        there k e = ap (λ x. inst_at f (point_at x k)) e ∙ ap (λ o. inst_in o k) s.there

    -- ---- instructions

    module _ (h r : HolderState) (slots : List Place) (lent : List LentPlace) (trail trail' : List Item) (entries entries' : List Entry) (rest rest' : List (Task Frame))
        (on : AreFramesOn m m' told told bound First Second Like Alone h r g slots lent trail trail' entries entries' rest rest') (i : Inst) where
      insts : inst_at f (stands_at f trail) ≡ Some i → AreInstsAlike m m' told told bound First Second Like Alone g f f' h r trail trail' entries entries' rest i
      insts stands = by on.like
        where
          at_level : stands_at f trail ≡ old_point p last (stands_at f' trail') → (Lags p c v last (stands_at f trail) → ⊥) → entries' ≡ entries
              → (stands_at f trail ≡ p) ⊎ (stands_at f trail ≡ p → ⊥)
              → AreInstsAlike m m' told told bound First Second Like Alone g f f' h r trail trail' entries entries' rest i
          at_level level outside same (inl at) =
              let known = knows.held h on.first g g_is slots lent trail entries rest on.h_tasks in
              copy_inst m n f verified in_module s owned quiet bound First Second g g_is trail trail' at (at_copy s (stands_at f' trail') (sym at ∙ level))
              h r entries entries' rest on.level.memory same known.0 known.1 i stands
          at_level level outside same (inr ne) =
              level_inst m n f verified in_module s owned quiet bound First Second g g_is trail trail' level outside ne h r entries entries' rest on.level.memory same i
              (inst_elsewhere s (stands_at f' trail') (λ e. ne (level ∙ ap (old_point p last) e ∙ old_copy s)) ∙ ap (inst_at f) (sym level) ∙ stands)

          at_lag : stands_at f' trail' ≡ stands_at f trail → Lags p c v last (stands_at f trail) → IsCleared c v entries entries'
              → (stands_at f trail ≡ point_at p.block.0 last) ⊎ (stands_at f trail ≡ point_at p.block.0 last → ⊥)
              → AreInstsAlike m m' told told bound First Second Like Alone g f f' h r trail trail' entries entries' rest i
          at_lag same lags cleared (inl at) = absurd (on.at_rest (g_is, at))
          at_lag same lags cleared (inr ne) =
              lag_inst m n f verified in_module s owned quiet bound First Second g g_is trail trail' same lags ne h r entries entries' rest on.level.memory cleared i
              (inst_elsewhere s (stands_at f' trail') not_copy
              ∙ ap (inst_at f) (sym (old_lag m n f verified in_module s owned quiet bound First Second g g_is trail trail' same lags ne)) ∙ stands)
            where
              not_copy : stands_at f' trail' ≡ p → ⊥
              not_copy e =
                  let index : (stands_at f trail).index ≡ p.index = ap (λ (x : PointId). x.index) (sym same ∙ e) in
                  let lt = lags.behind in
                  omega (arith, index, lt)

          by : Like g trail entries trail' entries' → AreInstsAlike m m' told told bound First Second Like Alone g f f' h r trail trail' entries entries' rest i
          by (IsLike.elsewhere other t e) = absurd (other g_is)
          by (IsLike.here is at) = by_point at
            where
              by_point : AreAt p c v last (stands_at f trail) (stands_at f' trail') entries entries'
                  → AreInstsAlike m m' told told bound First Second Like Alone g f f' h r trail trail' entries entries' rest i
              by_point (AreAt.level level outside same) = at_level level outside same (is_point (stands_at f trail) p)
              by_point (AreAt.lagging same lags cleared) = at_lag same lags cleared (is_point (stands_at f trail) (point_at p.block.0 last))

      ends : inst_at f (stands_at f trail) ≡ None → terminator_of f (stands_at f trail).block.0 ≡ Some i
          → AreEndsAlike m m' told told bound First Second Like Alone g f f' h r trail trail' entries entries' rest i
      ends at is = by on.like
        where
          by : Like g trail entries trail' entries' → AreEndsAlike m m' told told bound First Second Like Alone g f f' h r trail trail' entries entries' rest i
          by (IsLike.elsewhere other t e) = absurd (other g_is)
          by (IsLike.here here points) = by_point points
            where
              by_point : AreAt p c v last (stands_at f trail) (stands_at f' trail') entries entries'
                  → AreEndsAlike m m' told told bound First Second Like Alone g f f' h r trail trail' entries entries' rest i
              by_point (AreAt.level level outside same) = level_ends h r trail trail' entries entries' rest on.level.memory level same i at is
              by_point (AreAt.lagging same lags cleared) = absurd (lags_inside (stands_at f trail) lags at)

    -- ---- what a callee returned

    resume : (h : HolderState) (callee : Frame) (slots : List Place) (lent : List LentPlace) (trail trail' : List Item) (entries entries' : List Entry)
        (rest : List (Task Frame)) (x : Datum) → First h → h.tasks ≡ Runs callee ∷ Runs (frame_at g slots lent trail entries) ∷ rest
        → Like g trail entries trail' entries'
        → ArePutAlike Like g (call_at f trail ∷ trail) (call_at f' trail' ∷ trail') (puts told g f (call_at f trail) (x ∷ []) entries)
        (puts told g f' (call_at f' trail') (x ∷ []) entries')
    resume h callee slots lent trail trail' entries entries' rest x first tasks (IsLike.elsewhere other t e) = absurd (other g_is)
    resume h callee slots lent trail trail' entries entries' rest x first tasks (IsLike.here is (AreAt.level level outside same)) =
        level_put m n f verified in_module s owned quiet bound First Second g g_is trail trail' level outside
        (knows.waits h first callee g g_is slots lent trail entries rest tasks) (x ∷ []) entries entries' same
    resume h callee slots lent trail trail' entries entries' rest x first tasks (IsLike.here is (AreAt.lagging same lags cleared)) =
        by (is_point (stands_at f trail) (point_at p.block.0 last))
      where
        none_put : (vs : List ValueId) → vs ≡ [] → (behind : List Entry) → results_put facts vs (x ∷ []) entries ≡ Ok behind → ⊥
        none_put vs e behind is = let no_result = sym (ap (λ l. results_put facts l (x ∷ []) entries) e) ∙ is in cc

        by : (stands_at f trail ≡ point_at p.block.0 last) ⊎ (stands_at f trail ≡ point_at p.block.0 last → ⊥)
            → ArePutAlike Like g (call_at f trail ∷ trail) (call_at f' trail' ∷ trail') (puts told g f (call_at f trail) (x ∷ []) entries)
            (puts told g f' (call_at f' trail') (x ∷ []) entries')
        by (inl at) behind put_is =
            absurd (none_put (item_defined f (call_at f trail))
            (ap (λ q. item_defined f (item.Inst q)) at ∙ destroy_defines s (destroy_makes_none m n f verified in_module s)) behind put_is)
        by (inr ne) behind put_is =
            lag_put m n f verified in_module s owned quiet bound First Second g g_is trail trail' same lags ne (x ∷ []) entries entries' cleared behind put_is

    -- ---- together

    pub moved_does_alike : DoAlike m m' told told bound First Second Like Alone g f f'
    moved_does_alike = record {
      shapes = refl;
      begin = let first = level_first s 0 in IsLike.here g_is (AreAt.level first.0 first.1 (ap no_entries (count_same m n f verified in_module s)));
      enter = λ args behind is. let first = level_first s 0 in (
        behind,
        ap₂ (λ vs l. results_put facts vs args l) (same_defined s item.Entry (λ q. cc)) (ap no_entries (count_same m n f verified in_module s)) ∙ is,
        IsLike.here g_is (AreAt.level first.0 first.1 refl),
      );
      insts = λ h r slots lent trail trail' entries entries' rest rest' on i at. insts h r slots lent trail trail' entries entries' rest rest' on i at;
      ends = λ h r slots lent trail trail' entries entries' rest rest' on i at is. ends h r slots lent trail trail' entries entries' rest rest' on i at is;
      resume = resume;
    }
