-- The operands of an item in typed entries: each is the datum of its entry, which was made as its kind asks.
use Rattle.std.proofs.Common.{◌≡◌, ◌⊎◌, inl, inr, List, [], ◌∷◌, map, refl, sym, ap, ◌∙◌, subst, false, Option, Some, Ok, Err}
use Rattle.std.specs.declared.result.Result.{Result}
use Rattle.std.specs.List.{AllZip}
use Rattle.std.proofs.lemmas.Option.{none-some}
use Rattle.numbered_form.specs.Lists.{Each}
use Rattle.sil_cfg_items.specs.declared.taken.Taken.{Taken}
use Rattle.sil_ast.specs.declared.function.Function.{Function}
use Rattle.sil_ast.specs.declared.module.Module.{Module}
use Rattle.sil_ast.specs.declared.place.ValueId.{ValueId}
use Rattle.ownership_kinds_chains.specs.declared.ownership_chains.facts.Facts.{Facts}
use Rattle.sil_types_declarations.specs.TypeDefinitions.Declarations.{declarations_of}
use Rattle.sil_types_declarations.specs.declared.type_definitions.kind.Kind.{Kind}
use Rattle.holder_model_values.specs.RunValues.Memory.{Memory}
use Rattle.sil_verifier_runs.specs.ownership_kinds_origins.Facts.{facts_in}
use Rattle.sil_verifier_runs.specs.sil_verifier_values.inner.Known.{kind_at}
use Rattle.sil_verifier_runs.specs.holder_model.RunTyping.CallForms.{IsOf}
use Rattle.sil_verifier_runs.specs.holder_model.RunTyping.Forms.{Form, form_of}
use Rattle.sil_verifier_runs.specs.holder_model.LoweredRun.LowStepParts.{taken_value}
use Rattle.sil_verifier_runs.specs.holder_model.Data.{Datum}
use Rattle.sil_verifier_runs.specs.holder_model.Faults.{HolderFault}
use Rattle.sil_verifier_runs.specs.holder_model.Frames.{Entry, Operands, and_more, datum_in, ends, entry_at, made_entry, operand, operand_data, operands_of}
use Rattle.sil_verifier_runs.proofs.holder_model_laws.HolderLaws.Counts.Entries.{IsLeftOf, left_of, ok_through, was_there}
use Rattle.ownership_lowering_laws.specs.holder_model_typing.TypedMemory.inner.Worlds.{World}
use Rattle.sil_verifier_runs.specs.sil_verifier_frames.inner.Typed.TypedStates.{EntriesAre, EntryIs}
use Rattle.sil_verifier_runs.proofs.sil_verifier_frames.Typed.Entries.{entry_fits}
use Rattle.sil_verifier_runs.proofs.sil_verifier_frames.Typed.Operands.{operand_there, operands_read}
use Rattle.ownership_lowering_runs.proofs.OwnedCounts.Taken.{IsTakenAs}

module _ (m : Module) (w : World) (f : Function) (entries : List Entry) (typed : EntriesAre m w f entries) where
  abbrev facts : ValueId → Option Facts
  facts = facts_in (declarations_of m) f

  made_there : (k : Kind) (form : Form) (e : Entry) (x : Datum) → EntryIs m w k form e → datum_in e ≡ Some x → (y : Datum) × (made_entry k y ≡ Ok e)
  made_there k form _ x EntryIs.gone there = absurd (none-some x there)
  made_there k form e x (EntryIs.made y _ made is) there = (y, made)

  taken_as : (t : Taken) (x : Datum) → IsOf f t.value → datum_in (entry_at entries t.value) ≡ Some x → IsTakenAs facts entries t x
  taken_as t x of there =
      let is = typed.each t.value of in
      let made = made_there (kind_at (declarations_of m) f t.value) (form_of (declarations_of m) f t.value) (entry_at entries t.value) x is there in
      record { datum = made.0; made = made.1; there = there; bare = (entry_fits m w f t.value is x there).bare }

  module _ (memory : Memory) where
    -- an operand is the datum of its entry before the item
    given_before : (left : List Entry) → IsLeftOf entries left → (t : Taken) (x : Datum) → operand facts memory entries left t ≡ Ok x → datum_in (entry_at entries t.value) ≡ Some x
    given_before left from t x is = at (operand_there facts memory entries left t x is)
      where
        at : (datum_in (entry_at entries t.value) ≡ Some x) ⊎ ((ends facts t ≡ false) × (datum_in (entry_at left t.value) ≡ Some x))
            → datum_in (entry_at entries t.value) ≡ Some x
        at (inl there) = there
        at (inr there) = ap datum_in (was_there entries left t.value from (λ gone. none-some x (sym (ap datum_in gone) ∙ there.1))) ∙ there.1

    more_data : (x : Datum) (r : Result (List Datum) HolderFault) (ys : List Datum) → and_more x r ≡ Ok ys → (xs : List Datum) × (r ≡ Ok xs) × (x ∷ xs ≡ ys)
    more_data x (Ok xs) ys e = (xs, refl, cc)
    more_data x (Err y) ys e = cc

    data_as : (left : List Entry) → IsLeftOf entries left → (ts : List Taken) (xs : List Datum) → Each (IsOf f) (map taken_value ts) → operand_data facts memory entries left ts ≡ Ok xs
        → AllZip (IsTakenAs facts entries) ts xs
    data_as left from [] xs of is = let same : [] ≡ xs = cc in subst (AllZip (IsTakenAs facts entries) []) same tt
    data_as left from (t ∷ ts) xs of is =
        let first = ok_through (λ x. and_more x (operand_data facts memory entries left ts)) (operand facts memory entries left t) xs is in
        let rest = more_data first.0 (operand_data facts memory entries left ts) xs first.2 in
        subst (AllZip (IsTakenAs facts entries) (t ∷ ts)) rest.2
        (taken_as t first.0 of.0 (given_before left from t first.0 first.1), data_as left from ts rest.0 of.1 rest.1)

    pub given_as : (ts : List Taken) (ops : Operands) → Each (IsOf f) (map taken_value ts) → operands_of facts memory entries ts ≡ Ok ops → AllZip (IsTakenAs facts entries) ts ops.given
    given_as ts ops of is =
        let read = operands_read facts memory ts entries ops is in
        data_as ops.left (left_of facts ts entries ops.left read.left) ts ops.given of read.given
