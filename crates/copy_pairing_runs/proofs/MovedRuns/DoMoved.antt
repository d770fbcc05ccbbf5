-- The frames of the function whose copy is a move do alike in the two runs, item by item.
use Rattle.std.proofs.Common.{◌≡◌, ℕ, ◌<◌, List, [], ◌∷◌, drop, set, refl, sym, ap, ap₂, ◌∙◌, subst, arith, true, false, Option, Some}
use Rattle.std.specs.Prelude.{slice_get}
use Rattle.std.specs.List.{list_any}
use Rattle.sil_verifier_runs.proofs.sil_verifier_values.Facts.{run_facts}
use Rattle.sil_verifier_runs.specs.sil_verifier_accepted.AcceptedModules.inner.Checked.{IsVerified}
use Rattle.holder_model_laws.specs.ownership_kinds_origins.Facts.{facts_in}
use Rattle.copy_pairing_acceptance.specs.copy_pairing_model.Removable.{concerns}
use Rattle.copy_pairing_acceptance.specs.copy_pairing_model.Rewritten.{moved, with_function}
use Rattle.sil_cfg_items.specs.Items.{item_defined, item_taken}
use Rattle.sil_cfg_items.specs.Parts.{inst_at}
use Rattle.ownership_kinds_chains.specs.OwnershipChains.Facts.{facts_with, is_owned, known_or}
use Rattle.ownership_kinds_chains.specs.declared.ownership_chains.facts.Facts.{Facts}
use Rattle.ownership_kinds_chains.specs.OwnershipMarks.Marks.{marks_of}
use Rattle.sil_ast.specs.declared.function.Function.{Function}
use Rattle.sil_ast.specs.declared.inst.Inst.{Inst}
use Rattle.sil_ast.specs.declared.module.Module.{Module}
use Rattle.sil_ast.specs.declared.place.FuncId.{FuncId}
use Rattle.sil_ast.specs.declared.place.PointId.{PointId}
use Rattle.sil_ast.specs.declared.place.ValueId.{ValueId}
use Rattle.sil_cfg.specs.Items.{point_at}
use Rattle.sil_cfg.specs.declared.item.Item.{Item}
use Rattle.sil_cfg.specs.declared.item.Item.TheVariants as item
use Rattle.sil_types_declarations.specs.TypeDefinitions.Declarations.{declarations_of}
use Rattle.sil_types_declarations.specs.declared.type_definitions.kind.Kind.TheVariants as kind
use Rattle.holder_model_laws.specs.holder_model.Calling.{lent_places}
use Rattle.holder_model_laws.specs.holder_model.Data.{Datum}
use Rattle.holder_model_laws.specs.holder_model.Effects as effects
use Rattle.holder_model_laws.specs.holder_model.Effects.{Effect}
use Rattle.holder_model_laws.specs.holder_model.Faults.{HolderFault}
use Rattle.holder_model_laws.specs.holder_model.Frames.{Entry, Frame, Gone, operands_of, results_put}
use Rattle.holder_model_laws.specs.holder_model.HolderStates.{HolderState}
use Rattle.holder_model_laws.specs.holder_model.ModuleFacts.{ModuleFacts, facts_of, facts_told}
use Rattle.holder_model_laws.specs.holder_model.Standing.{point_behind, stands_at}
use Rattle.holder_model_laws.specs.holder_model.States.{Task}
use Rattle.holder_model_laws.specs.LockstepRuns.inner.Frames.{AreDropsAlike, AreEffectsAlike, AreInstsAlike, does}
use Rattle.holder_model_laws.specs.LockstepRuns.inner.Lockstep.{ArePutAlike}
use Rattle.holder_model_laws.specs.LockstepRuns.inner.Parts.{puts}
use Rattle.copy_pairing_acceptance.specs.MovedFunctions.inner.Structure.{old_point}
use Rattle.copy_pairing_acceptance.proofs.MovedFunctions.Places.{after, same_defined, same_taken}
use Rattle.copy_pairing_acceptance.proofs.MovedFunctions.SameFacts.{copy_owned}
use Rattle.copy_pairing_acceptance.proofs.MovedFunctions.Split.{IsSplit}
use Rattle.copy_pairing_runs.specs.MovedRuns.inner.MovedFrames.{AreAt, IsAlone, IsCleared, IsLike, Lags}
use Rattle.copy_pairing_runs.proofs.MovedRuns.ClearedEntries.{held_behind, left_kept, others_end_not, put_cleared, taken_by, taken_cleared}
use Rattle.copy_pairing_runs.proofs.MovedRuns.MovedPoints.{lags_behind, level_behind, old_before, old_copy}
use Rattle.copy_pairing_runs.proofs.MovedRuns.Quiet.{quiet_operands}

module _ (m : Module) (n : ℕ) (f : Function) (verified : IsVerified m) (in_module : slice_get m.functions n ≡ Some f) {p : PointId} {last : ℕ}
    {c v : ValueId} (s : IsSplit f p last c v)
    (owned : is_owned (known_or (facts_in (declarations_of m) f) v).kind ≡ true)
    (quiet : (k : ℕ) → p.index < k → k < last
    → list_any (concerns c v) (marks_of (facts_in (declarations_of m) f) f (item.Inst (point_at p.block.0 k))) ≡ false)
    (bound : ℕ) (First Second : HolderState → Type 0) where
  abbrev pub m' : Module
  m' = with_function n (moved p last) m

  abbrev pub told : ModuleFacts
  told = facts_of m

  abbrev pub f' : Function
  f' = after s

  abbrev pub Like : FuncId → List Item → List Entry → List Item → List Entry → Type 0
  Like = IsLike p c v last n f f'

  abbrev pub Alone : FuncId → List Item → Type 0
  Alone = IsAlone p c v last n f f'

  module _ (g : FuncId) (g_is : g.0 ≡ n) where
    abbrev facts : ValueId → Option Facts
    facts = facts_told told g

    there : slice_get m.functions g.0 ≡ Some f
    there = ap (slice_get m.functions) g_is ∙ in_module

    pub facts_are_told : facts_told told g ≡ facts_in (declarations_of m) f
    facts_are_told = run_facts m g f there

    pub v_is_owned : is_owned (known_or (facts_told told g) v).kind ≡ true
    v_is_owned = ap (λ (F : ValueId → Option Facts). is_owned (known_or F v).kind) facts_are_told ∙ owned

    pub c_is_owned : facts_told told g c ≡ Some (facts_with kind.Owned (c ∷ []))
    c_is_owned = ap (λ (F : ValueId → Option Facts). F c) facts_are_told ∙ copy_owned m n f verified in_module s

    -- ---- an item that is the same in both, by how the frames are related

    module _ (E : List Entry → List Entry → Type 0) (trail trail' : List Item) (i i' : Item)
        (waits : (es es' : List Entry) → E es es' → Like g trail es trail' es')
        (put : (xs : List Datum) (es es' : List Entry) → E es es' → ArePutAlike Like g (i ∷ trail) (i' ∷ trail') (puts told g f i xs es) (puts told g f' i' xs es'))
        (taken : item_taken f' i' ≡ item_taken f i) where
      pub effect_alike : (left left' : List Entry) → E left left' → (rest : List (Task Frame)) (e : Effect HolderFault)
          → AreEffectsAlike m m' told told bound First Second Like Alone g f f' trail trail' i i' left left' rest e e
      effect_alike left left' is rest (effects.Makes c) = record {
        memory = refl;
        slots = refl;
        retained = omega arith;
        dropped = AreDropsAlike.both refl;
        put = put c.results left left' is;
      }
      effect_alike left left' is rest (effects.Calls k args) = record {
        callee = refl;
        given = refl;
        lent = ap (λ ts. lent_places (drop 1 ts) args) taken;
        waits = waits left left' is;
        out = put _ left left' is;
      }
      effect_alike left left' is rest (effects.Traps t) = refl
      effect_alike left left' is rest (effects.Faults x) = tt
      effect_alike left left' is rest effects.Unfit = tt

    -- ---- where frames stand level, at another item than the copy

    module _ (trail trail' : List Item) (level : stands_at f trail ≡ old_point p last (stands_at f' trail')) (outside : Lags p c v last (stands_at f trail) → ⊥)
        (ne : stands_at f trail ≡ p → ⊥) where
      abbrev here : Item
      here = item.Inst (stands_at f trail)

      abbrev there' : Item
      there' = item.Inst (stands_at f' trail')

      not_move : there' ≡ item.Inst p → ⊥
      not_move e = ne (level ∙ ap (old_point p last) (let q : stands_at f' trail' ≡ p = cc in q) ∙ old_copy s)

      pub level_taken : item_taken f' there' ≡ item_taken f here
      level_taken = same_taken s there' not_move ∙ ap (λ q. item_taken f (item.Inst q)) (sym level)

      level_defined : item_defined f' there' ≡ item_defined f here
      level_defined = same_defined s there' not_move ∙ ap (λ q. item_defined f (item.Inst q)) (sym level)

      pub level_put : (xs : List Datum) (es es' : List Entry) → es' ≡ es
          → ArePutAlike Like g (here ∷ trail) (there' ∷ trail') (puts told g f here xs es) (puts told g f' there' xs es')
      level_put xs es es' same behind is =
          let next = level_behind s (stands_at f trail) (stands_at f' trail') level outside ne in (
            behind,
            ap₂ (λ vs l. results_put facts vs xs l) level_defined same ∙ is,
            IsLike.here g_is (AreAt.level next.0 next.1 refl),
          )

      level_waits : (es es' : List Entry) → es' ≡ es → Like g trail es trail' es'
      level_waits es es' same = IsLike.here g_is (AreAt.level level outside same)

      pub level_inst : (h r : HolderState) (entries entries' : List Entry) (rest : List (Task Frame)) → r.memory ≡ h.memory → entries' ≡ entries → (i : Inst)
          → inst_at f' (stands_at f' trail') ≡ Some i
          → AreInstsAlike m m' told told bound First Second Like Alone g f f' h r trail trail' entries entries' rest i
      level_inst h r entries entries' rest memory same i stands = record {
        other = i;
        stands = stands;
        taken = λ ops is. (
          ops,
          ap (λ ts. operands_of facts r.memory entries' ts) level_taken ∙ (ap₂ (λ y l. operands_of facts y l (item_taken f here)) memory same ∙ is),
          subst (λ e. AreEffectsAlike m m' told told bound First Second Like Alone g f f' trail trail' here there' ops.left ops.left rest
              (does m told g h.memory i ops.given) e) (sym (ap (λ y. does m told g y i ops.given) memory))
              (effect_alike (λ es es'. es' ≡ es) trail trail' here there' level_waits level_put level_taken ops.left ops.left refl rest
              (does m told g h.memory i ops.given)),
        );
      }

    -- ---- between the copy and the destroy

    module _ (trail trail' : List Item) (same_point : stands_at f' trail' ≡ stands_at f trail) (lags : Lags p c v last (stands_at f trail))
        (ne : stands_at f trail ≡ point_at p.block.0 last → ⊥) where
      abbrev here_lag : Item
      here_lag = item.Inst (stands_at f trail)

      abbrev there_lag : Item
      there_lag = item.Inst (stands_at f' trail')

      index_before : (stands_at f trail).index < last
      index_before = let next = (lags_behind s (stands_at f trail) lags ne).until in omega (arith, next)

      pub old_lag : stands_at f trail ≡ old_point p last (stands_at f' trail')
      old_lag = sym (ap (old_point p last) same_point ∙ old_before s (stands_at f trail) lags.block index_before)

      not_move_lag : there_lag ≡ item.Inst p → ⊥
      not_move_lag e =
          let q : stands_at f' trail' ≡ p = cc in
          let i : (stands_at f trail).index ≡ p.index = ap (λ (x : PointId). x.index) (sym same_point ∙ q) in
          let lt = lags.behind in
          omega (arith, i, lt)

      pub lag_taken : item_taken f' there_lag ≡ item_taken f here_lag
      lag_taken = same_taken s there_lag not_move_lag ∙ ap (λ q. item_taken f (item.Inst q)) (sym old_lag)

      lag_defined : item_defined f' there_lag ≡ item_defined f here_lag
      lag_defined = same_defined s there_lag not_move_lag ∙ ap (λ q. item_defined f (item.Inst q)) (sym old_lag)

      quiet_here : list_any (concerns c v) (marks_of facts f here_lag) ≡ false
      quiet_here =
          ap₂ (λ (F : ValueId → Option Facts) (q : PointId). list_any (concerns c v) (marks_of F f (item.Inst q))) facts_are_told
          (ap (λ b. point_at b (stands_at f trail).index) lags.block)
          ∙ quiet (stands_at f trail).index lags.behind index_before

      pub lag_put : (xs : List Datum) (es es' : List Entry) → IsCleared c v es es'
          → ArePutAlike Like g (here_lag ∷ trail) (there_lag ∷ trail') (puts told g f here_lag xs es) (puts told g f' there_lag xs es')
      lag_put xs es es' is behind put_is = (
        set behind v.0 Gone,
        ap₂ (λ vs l. results_put facts vs xs l) lag_defined is.cleared
            ∙ put_cleared facts v is.datum (item_defined f here_lag) xs es behind put_is is.copied,
        IsLike.here g_is (AreAt.lagging (ap point_behind same_point) (lags_behind s (stands_at f trail) lags ne) (record {
          datum = is.datum;
          copy = held_behind facts c is.datum (item_defined f here_lag) xs es behind put_is is.copy;
          copied = held_behind facts v is.datum (item_defined f here_lag) xs es behind put_is is.copied;
          cleared = refl;
        })),
      )

      lag_waits : (es es' : List Entry) → IsCleared c v es es' → Like g trail es trail' es'
      lag_waits es es' is = IsLike.here g_is (AreAt.lagging same_point lags is)

      pub lag_inst : (h r : HolderState) (entries entries' : List Entry) (rest : List (Task Frame)) → r.memory ≡ h.memory → IsCleared c v entries entries' → (i : Inst)
          → inst_at f' (stands_at f' trail') ≡ Some i
          → AreInstsAlike m m' told told bound First Second Like Alone g f f' h r trail trail' entries entries' rest i
      lag_inst h r entries entries' rest memory is i stands = record {
        other = i;
        stands = stands;
        taken = λ ops ops_is.
            let z = quiet_operands facts c v v_is_owned c_is_owned (item_taken f here_lag) (item_defined f here_lag) quiet_here in
            let t = taken_by facts h.memory entries (item_taken f here_lag) ops ops_is in
            let left_is : IsCleared c v ops.left (set ops.left v.0 Gone) = record {
              datum = is.datum;
              copy = left_kept facts c (item_taken f here_lag) entries ops.left z.1 t.left ∙ is.copy;
              copied = left_kept facts v (item_taken f here_lag) entries ops.left (others_end_not facts v (item_taken f here_lag) z.0) t.left ∙ is.copied;
              cleared = refl;
            } in (
              record { given = ops.given; left = set ops.left v.0 Gone },
              ap (λ ts. operands_of facts r.memory entries' ts) lag_taken
                  ∙ (ap₂ (λ y l. operands_of facts y l (item_taken f here_lag)) memory is.cleared
                  ∙ taken_cleared facts v h.memory entries (item_taken f here_lag) ops z.0 ops_is),
              subst (λ e. AreEffectsAlike m m' told told bound First Second Like Alone g f f' trail trail' here_lag there_lag ops.left (set ops.left v.0 Gone) rest
                  (does m told g h.memory i ops.given) e) (sym (ap (λ y. does m told g y i ops.given) memory))
                  (effect_alike (IsCleared c v) trail trail' here_lag there_lag lag_waits lag_put lag_taken ops.left (set ops.left v.0 Gone) left_is rest
                  (does m told g h.memory i ops.given)),
            );
      }
