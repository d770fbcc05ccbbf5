-- At the copy the first run makes a reference anew, and the second one takes over that of the copied value.
use Rattle.std.proofs.Common.{◌≡◌, ◌⊎◌, ℕ, ◌<◌, List, [], ◌∷◌, length, set, refl, sym, ap, ap₂, ◌∙◌, subst, arith, Bool, true, false, cond, Option, Some, Ok, Err}
use Rattle.std.specs.Prelude.{slice_get}
use Rattle.std.specs.List.{list_any}
use Rattle.std.proofs.lemmas.Option.{same_Some}
use Rattle.sil_verifier_runs.specs.sil_verifier_accepted.AcceptedModules.inner.Checked.{IsVerified}
use Rattle.holder_model_laws.specs.ownership_kinds_origins.Facts.{facts_in}
use Rattle.copy_pairing_acceptance.specs.copy_pairing_model.Removable.{concerns}
use Rattle.copy_pairing_acceptance.specs.copy_pairing_model.Rewritten.{moved, with_function}
use Rattle.instruction_table.specs.declared.entries.Role.TheVariants as role
use Rattle.sil_cfg_items.specs.Items.{item_defined, item_taken}
use Rattle.sil_cfg_items.specs.Parts.{inst_at}
use Rattle.sil_cfg_items.specs.Roles.{by_row, taken_as}
use Rattle.ownership_kinds_chains.specs.OwnershipChains.Facts.{facts_with, is_owned, known_or}
use Rattle.ownership_kinds_chains.specs.declared.ownership_chains.facts.Facts.{Facts}
use Rattle.ownership_kinds_chains.specs.OwnershipMarks.Marks.{marks_of}
use Rattle.holder_model_values.specs.RunValues.Memory.{Memory}
use Rattle.sil_ast.specs.declared.function.Function.{Function}
use Rattle.sil_ast.specs.declared.inst.Inst.{Inst}
use Rattle.sil_ast.specs.declared.module.Module.{Module}
use Rattle.sil_ast.specs.declared.place.FuncId.{FuncId}
use Rattle.sil_ast.specs.declared.place.PointId.{PointId}
use Rattle.sil_ast.specs.declared.place.ValueId.{ValueId}
use Rattle.sil_cfg.specs.Items.{point_at}
use Rattle.sil_cfg.specs.declared.item.Item.{Item}
use Rattle.sil_cfg.specs.declared.item.Item.TheVariants as item
use Rattle.sil_types_declarations.specs.TypeDefinitions.Declarations.{declarations_of}
use Rattle.sil_types_declarations.specs.declared.type_definitions.kind.Kind.TheVariants as kind
use Rattle.holder_model_laws.specs.holder_model.Data.{Datum, references_in}
use Rattle.holder_model_laws.specs.holder_model.Faults.{NamesDead}
use Rattle.holder_model_laws.specs.holder_model.Frames.{Entry, Frame, Gone, Held, entry_at, operands_of, results_put}
use Rattle.holder_model_laws.specs.holder_model.HolderStates.{HolderState}
use Rattle.holder_model_laws.specs.holder_model.ModuleFacts.{ModuleFacts, facts_of, facts_told}
use Rattle.holder_model_laws.specs.holder_model.ModuleShapes.{shapes_in}
use Rattle.holder_model_laws.specs.holder_model.Standing.{point_behind, stands_at}
use Rattle.holder_model_laws.specs.holder_model.States.{Task}
use Rattle.holder_model_laws.specs.LockstepRuns.inner.Frames.{AreDropsAlike, AreEffectsAlike, AreInstsAlike, does}
use Rattle.holder_model_laws.specs.LockstepRuns.inner.Lockstep.{ArePutAlike}
use Rattle.holder_model_laws.specs.LockstepRuns.inner.Parts.{puts}
use Rattle.copy_pairing_acceptance.proofs.MovedFunctions.Marks.{copy_takes, move_takes}
use Rattle.copy_pairing_acceptance.proofs.MovedFunctions.Places.{after}
use Rattle.copy_pairing_acceptance.proofs.MovedFunctions.Split.{IsSplit}
use Rattle.copy_pairing_runs.specs.MovedRuns.inner.MovedFrames.{AreAt, IsAlone, IsLike, Lags}
use Rattle.copy_pairing_runs.proofs.MovedRuns.ClearedEntries.{held_behind, put_cleared}
use Rattle.holder_model_laws.specs.holder_model.Frames.{any_dead, made_entry, unless_dead}
use Rattle.holder_model_laws.specs.holder_model.Effects.{Makes, unchanged}
use Rattle.sil_verifier_runs.proofs.sil_verifier_trails.HeldEntries.EntriesEnded.{entry_set_same}
use Rattle.copy_pairing_acceptance.proofs.MovedFunctions.Marks.{copy_defines, move_defines}
use Rattle.copy_pairing_acceptance.proofs.MovedFunctions.Places.{copy_stood, inst_there}
use Rattle.copy_pairing_acceptance.proofs.MovedFunctions.Split.{move_of}
use Rattle.copy_pairing_acceptance.proofs.MovedFunctions.TheCopy.{copy_op}
use Rattle.copy_pairing_runs.proofs.MovedRuns.ClearedEntries.{puts_first, same_ok}
use Rattle.copy_pairing_runs.proofs.MovedRuns.DoMoved as kinds
use Rattle.copy_pairing_runs.proofs.MovedRuns.MovedPoints.{lags_behind_copy}
use Rattle.copy_pairing_runs.proofs.MovedRuns.TheCopied.{consumed, copies_so, moves_so, used}

module _ (m : Module) (n : ℕ) (f : Function) (verified : IsVerified m) (in_module : slice_get m.functions n ≡ Some f) {p : PointId} {last : ℕ}
    {c v : ValueId} (s : IsSplit f p last c v)
    (owned : is_owned (known_or (facts_in (declarations_of m) f) v).kind ≡ true)
    (quiet : (k : ℕ) → p.index < k → k < last
    → list_any (concerns c v) (marks_of (facts_in (declarations_of m) f) f (item.Inst (point_at p.block.0 k))) ≡ false)
    (bound : ℕ) (First Second : HolderState → Type 0) where
  abbrev m' : Module
  m' = with_function n (moved p last) m

  abbrev told : ModuleFacts
  told = facts_of m

  abbrev f' : Function
  f' = after s

  abbrev Like : FuncId → List Item → List Entry → List Item → List Entry → Type 0
  Like = IsLike p c v last n f f'

  abbrev Alone : FuncId → List Item → Type 0
  Alone = IsAlone p c v last n f f'

  module _ (g : FuncId) (g_is : g.0 ≡ n) where
    abbrev facts : ValueId → Option Facts
    facts = facts_told told g

    v_is_owned : is_owned (known_or (facts_told told g) v).kind ≡ true
    v_is_owned = kinds.v_is_owned m n f verified in_module s owned quiet bound First Second g g_is

    c_is_owned : facts_told told g c ≡ Some (facts_with kind.Owned (c ∷ []))
    c_is_owned = kinds.c_is_owned m n f verified in_module s owned quiet bound First Second g g_is

    module _ (trail trail' : List Item) (at : stands_at f trail ≡ p) (at' : stands_at f' trail' ≡ p) where
      abbrev here : Item
      here = item.Inst (stands_at f trail)

      abbrev there : Item
      there = item.Inst (stands_at f' trail')

      here_takes : item_taken f here ≡ taken_as s.copies.operand (by_row role.Used) ∷ []
      here_takes = ap (λ q. item_taken f (item.Inst q)) at ∙ copy_takes s

      there_takes : item_taken f' there ≡ taken_as s.copies.operand (by_row role.Consumed) ∷ []
      there_takes = ap (λ q. item_taken f' (item.Inst q)) at' ∙ move_takes s

      here_defines : item_defined f here ≡ c ∷ []
      here_defines = ap (λ q. item_defined f (item.Inst q)) at ∙ copy_defines s

      there_defines : item_defined f' there ≡ c ∷ []
      there_defines = ap (λ q. item_defined f' (item.Inst q)) at' ∙ move_defines s

      c_kind : (known_or facts c).kind ≡ kind.Owned
      c_kind = ap (λ (o : Option Facts). (known_or (λ w. o) c).kind) c_is_owned

      -- behind the copy both values hold the datum
      copy_put : (y : Datum) (es : List Entry) → entry_at es v ≡ Held y → c.0 < length es
          → ArePutAlike Like g (here ∷ trail) (there ∷ trail') (puts told g f here (y ∷ []) es) (puts told g f' there (y ∷ []) (set es v.0 Gone))
      copy_put y es held within behind is =
          let put_is : results_put facts (c ∷ []) (y ∷ []) es ≡ Ok behind = ap (λ vs. results_put facts vs (y ∷ []) es) (sym here_defines) ∙ is in
          let one = puts_first facts c [] y [] es behind put_is in
          let entry : one.entry ≡ Held y = sym (same_ok (Held y) one.entry (sym (ap (λ k. made_entry k y) c_kind) ∙ one.made)) in
          let more : set es c.0 one.entry ≡ behind = same_ok (set es c.0 one.entry) behind one.more in (
            set behind v.0 Gone,
            ap (λ vs. results_put facts vs (y ∷ []) (set es v.0 Gone)) there_defines ∙ put_cleared facts v y (c ∷ []) (y ∷ []) es behind put_is held,
            IsLike.here g_is (AreAt.lagging (ap point_behind (at' ∙ sym at)) (subst (λ q. Lags p c v last (point_behind q)) (sym at) (lags_behind_copy s)) (record {
              datum = y;
              copy = ap (λ l. entry_at l c) (sym more) ∙ entry_set_same es c one.entry within ∙ entry;
              copied = held_behind facts v y (c ∷ []) (y ∷ []) es behind put_is held;
              cleared = refl;
            })),
          )

      pub copy_inst : (h r : HolderState) (entries entries' : List Entry) (rest : List (Task Frame)) → r.memory ≡ h.memory → entries' ≡ entries
          → (entry_at entries v ≡ Gone) ⊎ ((y : Datum) × (entry_at entries v ≡ Held y)) → c.0 < length entries → (i : Inst) → inst_at f (stands_at f trail) ≡ Some i
          → AreInstsAlike m m' told told bound First Second Like Alone g f f' h r trail trail' entries entries' rest i
      copy_inst h r entries entries' rest memory same entry within i stands = record {
        other = move_of s.copy;
        stands = ap (inst_at f') at' ∙ inst_there s;
        taken = λ ops is.
            let u = used facts v v_is_owned s.copies.operand s.copies.copied h.memory entries ops entry (ap (λ ts. operands_of facts h.memory entries ts) (sym here_takes) ∙ is) in
            let copy : i ≡ s.copy = same_Some i s.copy (sym stands ∙ ap (inst_at f) at ∙ copy_stood s) in (
              record { given = u.datum ∷ []; left = set entries v.0 Gone },
              ap (λ ts. operands_of facts r.memory entries' ts) there_takes
                  ∙ ap₂ (λ y l. operands_of facts y l (taken_as s.copies.operand (by_row role.Consumed) ∷ [])) memory same
                  ∙ consumed facts v v_is_owned s.copies.operand s.copies.copied h.memory entries u.datum false u.held (alive_so u.datum h.memory u.alive),
              subst (λ e. AreEffectsAlike m m' told told bound First Second Like Alone g f f' trail trail' here there ops.left (set entries v.0 Gone) rest e
                  (does m' told g r.memory (move_of s.copy) (u.datum ∷ [])))
                  (sym (ap (does m told g h.memory i) u.given ∙ copies_so (declarations_of m) told.shapes (shapes_in told.shapes g) h.memory i u.datum
                  (ap (λ (j : Inst). j.op) copy ∙ copy_op s)))
                  (subst (λ e. AreEffectsAlike m m' told told bound First Second Like Alone g f f' trail trail' here there ops.left (set entries v.0 Gone) rest
                  (Makes (record (unchanged h.memory) { results = u.datum ∷ []; retained = references_in u.datum })) e)
                  (sym (moves_so (declarations_of m) told.shapes (shapes_in told.shapes g) r.memory (move_of s.copy) u.datum refl))
                  (record {
                    memory = memory;
                    slots = refl;
                    retained = omega arith;
                    dropped = AreDropsAlike.both refl;
                    put = subst (λ l. ArePutAlike Like g (here ∷ trail) (there ∷ trail') (puts told g f here (u.datum ∷ []) l)
                        (puts told g f' there (u.datum ∷ []) (set entries v.0 Gone))) (sym u.left) (copy_put u.datum entries u.held within);
                  })),
            );
      }
        where
          alive_so : (y : Datum) (mem : Memory) → unless_dead mem y ≡ Ok y → any_dead mem (references_in y) ≡ false
          alive_so y mem e = by (any_dead mem (references_in y)) refl e
            where
              by : (b : Bool) → any_dead mem (references_in y) ≡ b → cond b (Err NamesDead) (Ok y) ≡ Ok y → any_dead mem (references_in y) ≡ false
              by true dead e = absurd (cc)
              by false dead e = dead
