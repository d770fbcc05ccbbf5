-- A deinitialiser is entered with its object lent: the finish that waits below keeps it, and it isn't dead.
use Rattle.std.proofs.Common.{◌≡◌, ℕ, ◌+◌, List, [], ◌∷◌, refl, sym, ap, ◌∙◌, subst, true, false, cond, ⊎_elim, Some, Ok, arith}
use Rattle.std.specs.Prelude.{◌==◌, slice_get}
use Rattle.std.proofs.lemmas.Bool.{cases_Bool, eqb-true, false≢true}
use Rattle.sil_cfg_items.specs.Items.{item_defined}
use Rattle.sil_ast.specs.declared.function.Function.{Function}
use Rattle.sil_ast.specs.declared.module.Module.{Module}
use Rattle.sil_ast.specs.declared.place.FuncId.{FuncId}
use Rattle.sil_ast.specs.declared.place.ObjectId.{ObjectId}
use Rattle.sil_ast.specs.declared.place.ValueId.{ValueId}
use Rattle.sil_cfg.specs.declared.item.Item.TheVariants as item
use Rattle.sil_types_declarations.specs.TypeDefinitions.Declarations.{Declarations, declarations_of}
use Rattle.holder_model_values.specs.declared.run_values.phase.Phase.{Phase}
use Rattle.holder_model_values.specs.declared.run_values.phase.Phase.TheVariants.{Dead, Deiniting, Live}
use Rattle.holder_model_values.specs.RunValues.Memory.{Memory, is_dead, is_dead_phase, phase_of}
use Rattle.holder_model_values.specs.RunValues.Values as value
use Rattle.sil_verifier_frames.specs.sil_verifier_trails.AcceptedTrails.inner.Bases.{IsBaseOf}
use Rattle.sil_verifier_frames.specs.ownership_kinds_origins.Facts.{facts_in}
use Rattle.sil_verifier_frames.specs.sil_verifier_values.inner.Known.{IsAcceptedBody, kind_at}
use Rattle.sil_verifier_frames.specs.holder_model.Calling.{value_count}
use Rattle.sil_verifier_frames.specs.holder_model.Data.{Datum, ValueOf, references_in}
use Rattle.sil_verifier_frames.specs.holder_model.Effects.{SameSlots}
use Rattle.sil_verifier_frames.specs.holder_model.Frames.{Entry, Frame, Lent, made_entry, no_entries, results_put}
use Rattle.sil_verifier_frames.specs.holder_model.Holders.{of_references, one_object}
use Rattle.sil_verifier_frames.specs.holder_model.Outcomes.{object_number}
use Rattle.sil_verifier_frames.specs.holder_model.StepParts.{new_frame}
use Rattle.sil_verifier_frames.specs.holder_model.States.{Finishes, Runs, Task}
use Rattle.sil_verifier_frames.specs.holder_model_laws.HolderLaws.inner.Counts.Naming.{HoldsNone, in_data, in_datum}
use Rattle.sil_verifier_frames.proofs.holder_model_laws.HolderLaws.Counts.Sums.{total_cons}
use Rattle.sil_verifier_runs.specs.inner.Guarded.Guards.{IsArgument, IsNamed}
use Rattle.sil_verifier_runs.specs.inner.Guarded.GuardedStates.{IsGuardedRun, Loans, finishes_of, is_deiniting_phase}
use Rattle.sil_verifier_runs.specs.inner.Guarded.Stepping.{AreArgumentsGuarded}
use Rattle.sil_verifier_runs.proofs.Guarded.Changing.{alive_other}
use Rattle.sil_verifier_runs.proofs.Guarded.GuardedItems.{none_in_memory}
use Rattle.sil_verifier_runs.proofs.Guarded.GuardedReturns.{one_only}
use Rattle.sil_verifier_runs.proofs.Guarded.LentArguments.{is_argument, lent_made, own_base}
use Rattle.sil_verifier_runs.proofs.Guarded.Named.{counts_itself}
use Rattle.sil_verifier_runs.proofs.Guarded.Stepping.{deinit_calls_guarded}

-- one reference names its object alone
one_named : (p o : ObjectId) → of_references (one_object p) (o ∷ []) ≡ one_object p o
one_named p o = let whole : of_references (one_object p) (o ∷ []) ≡ one_object p o + 0 = total_cons (one_object p) o [] in omega (arith, whole)

named_only : (p o : ObjectId) → IsNamed p (o ∷ []) → p ≡ o
named_only p o named = ⊎_elim (λ same. ap (λ n. object_number n) (eqb-true p.0 o.0 same)) (λ other. absurd (never other)) (cases_Bool (p.0 == o.0))
  where
    never : (p.0 == o.0) ≡ false → ⊥
    never other =
        let none : one_object p o ≡ 0 = ap (λ b. cond b 1 0) other in
        let one = one_named p o in
        omega (arith, named, none, one)

module _ (m : Module) (loans : Loans) (memory : Memory) (rest : List (Task Frame)) (g : FuncId) (gs : List FuncId) (o : ObjectId)
    (h : IsGuardedRun m loans memory (Finishes (g ∷ gs) o ∷ rest)) where
  abbrev d : Declarations
  d = declarations_of m

  ending : is_deiniting_phase (phase_of memory o) ≡ true
  ending = ⊎_elim (λ is. is) (λ other. absurd (never other)) (cases_Bool (is_deiniting_phase (phase_of memory o)))
    where
      never : is_deiniting_phase (phase_of memory o) ≡ false → ⊥
      never other =
          let count : one_object o o + finishes_of o rest ≡ 0 = h.finishes o ∙ ap (λ b. cond b 1 0) other in
          let one = counts_itself o in
          omega (arith, count, one)

  not_dead : is_dead memory o ≡ false
  not_dead = at (phase_of memory o) ending
    where
      at : (q : Phase) → is_deiniting_phase q ≡ true → is_dead_phase q ≡ false
      at Live e = absurd (false≢true e)
      at Deiniting e = refl
      at Dead e = absurd (false≢true e)

  none : (p : ObjectId) → is_dead memory p ≡ true
      → HoldsNone (one_object p) (record { results = ValueOf (value.Object o) ∷ []; dropped = []; retained = []; memory = memory; slots = SameSlots })
  none p dead =
      let other : one_object p o ≡ 0 = alive_other memory p o dead not_dead in
      let one = one_named p o in
      let whole : in_data (one_object p) (ValueOf (value.Object o) ∷ []) ≡ in_datum (one_object p) (ValueOf (value.Object o)) + 0 =
      total_cons (in_datum (one_object p)) (ValueOf (value.Object o)) [] in
      let same : in_datum (one_object p) (ValueOf (value.Object o)) ≡ of_references (one_object p) (o ∷ []) = refl in
      record { results = omega (arith, other, one, whole, same); dropped = refl; memory = none_in_memory m loans memory (Finishes (g ∷ gs) o ∷ rest) h p dead }

  module _ (callee : Function) (b : IsAcceptedBody m g.0 callee) where
    arguments : AreArgumentsGuarded m loans callee (ValueOf (value.Object o) ∷ []) (λ p. p ≡ o)
    arguments = record { own = λ k v x p defined at made named. one k v x p defined (one_only (ValueOf (value.Object o)) x k at) made named }
      where
        one : (k : ℕ) (v : ValueId) (x : Datum) (p : ObjectId) → slice_get (item_defined callee item.Entry) k ≡ Some v → ValueOf (value.Object o) ≡ x
            → made_entry (kind_at d callee v) x ≡ Ok (Lent x) → IsNamed p (references_in x)
            → IsArgument callee v × IsBaseOf d callee v v × (p ≡ o)
        one k v x p defined same made named = ⊎_elim
            (λ guaranteed. (
              is_argument m g.0 callee b k v defined,
              own_base m g.0 callee b k v defined guaranteed,
              named_only p o (subst (λ (y : Datum). IsNamed p (references_in y)) (sym same) named),
            ))
            (λ inside. let no = same ∙ inside.1.is in absurd (cc))
            (lent_made (kind_at d callee v) x made)

    pub deinit_entered : (entries : List Entry)
        → results_put (facts_in (declarations_of m) callee) (item_defined callee item.Entry) (ValueOf (value.Object o) ∷ []) (no_entries (value_count callee)) ≡ Ok entries
        → IsGuardedRun m loans memory (Runs (new_frame g entries) ∷ Finishes gs o ∷ rest)
    deinit_entered entries put =
        deinit_calls_guarded m loans memory rest g g gs o callee (ValueOf (value.Object o) ∷ []) entries h b.body.there put none arguments
