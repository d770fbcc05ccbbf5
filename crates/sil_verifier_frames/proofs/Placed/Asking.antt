-- A place that is as full as an operation's mark needs it is as the run asks it to be.
use Rattle.std.proofs.Common.{◌≡◌, Bool, true, false, is_some, Option, Some, None, refl, ap, ◌∙◌, subst}
use Rattle.std.proofs.lemmas.Bool.{false≢true, or_right}
use Rattle.std.proofs.lemmas.Option.{none-some}
use Rattle.holder_model_laws.specs.holder_model.MemoryEffects.{asked_before, holds}
use Rattle.holder_model_laws.specs.memory_rules_accesses.Operations.{load_operation, operation_by, store_operation}
use Rattle.holder_model_laws.specs.memory_rules_accesses.declared.access.Operation.{Operation}
use Rattle.holder_model_laws.specs.memory_rules_accesses.declared.access.Operation.TheVariants.{FirstWrite, Read, Lend, Write, TrivialStore, Handed, Take}
use Rattle.holder_model_laws.specs.memory_rules_accesses.declared.columns.AccessKind.{AccessKind}
use Rattle.holder_model_laws.specs.memory_rules_accesses.declared.columns.AccessKind.TheVariants as access
use Rattle.holder_model_laws.specs.memory_rules_parts.Contents.{operation_mark}
use Rattle.sil_verifier_trails.specs.RunTrails.inner.Switched.{finds}
use Rattle.argument_conventions.specs.declared.row.AddressRow.{AddressRow}
use Rattle.argument_conventions.specs.declared.row.Content.{Content}
use Rattle.argument_conventions.specs.declared.row.Content.TheVariants as content
use Rattle.holder_model_laws.specs.HolderLaws.inner.Cells.Cells.{IsPlace}
use Rattle.holder_model_laws.proofs.HolderLaws.Cells.PlaceCells.{empty_test, full_value}
use Rattle.holder_model_values.specs.RunValues.Memory.{Memory}
use Rattle.holder_model_values.specs.RunValues.Places.{Place, is_empty_at}
use Rattle.holder_model_values.specs.RunValues.Trivial.{is_trivial}
use Rattle.sil_ast.specs.declared.inst.Qualifier.{Qualifier}
use Rattle.sil_ast.specs.declared.inst.Qualifier.TheVariants as word

-- what is asked of a place is what it holds
abbrev pub IsAsked : Option Content → Bool → Type 0
IsAsked None on = Unit {0}
IsAsked (Some content.Empty) on = on ≡ false
IsAsked (Some content.Full) on = on ≡ true

pub holds_so : (m : Memory) (p : Place) (on : Bool) → IsPlace on m p → (c : Content) → IsAsked (Some c) on → holds m c p ≡ true
holds_so m p on h content.Empty e = or_right (is_trivial p.shape) (is_empty_at m p) (empty_test m p (subst (λ b. IsPlace b m p) e h))
holds_so m p on h content.Full e = ap is_some (full_value m p (subst (λ b. IsPlace b m p) e h)).1

-- ---- operations

off_where_found : (on : Bool) → finds (Some false) on ≡ true → on ≡ false
off_where_found true e = absurd (false≢true e)
off_where_found false e = refl

-- a trivial store to a part needs the place full: a place that counts as a part in the run is one by its location
pub asked_by : (trivial part : Bool) (o : Operation) (on in_run : Bool) → ((row : AddressRow) → o ≡ Handed row → ⊥) → finds (operation_mark trivial part o).needs on ≡ true
    → (in_run ≡ true → part ≡ true) → IsAsked (asked_before in_run o) on
asked_by trivial part FirstWrite on in_run own found parts = off_where_found on found
asked_by trivial part Read on in_run own found parts = found
asked_by trivial part Lend on in_run own found parts = found
asked_by trivial part Write on in_run own found parts = found
asked_by trivial part TrivialStore on false own found parts = tt
asked_by trivial true TrivialStore on true own found parts = found
asked_by trivial false TrivialStore on true own found parts = absurd (false≢true (parts refl))
asked_by trivial part (Handed row) on in_run own found parts = absurd (own row refl)
asked_by trivial part Take on in_run own found parts = found

-- a row by itself hands nothing over
pub never_handed : (k : AccessKind) (q : Qualifier) (o : Operation) → operation_by k q ≡ Some o → (row : AddressRow) → o ≡ Handed row → ⊥
never_handed k q o is row e = at k (is ∙ ap Some e)
  where
    loaded : (q : Qualifier) → Some (load_operation q) ≡ Some (Handed row) → ⊥
    loaded word.Plain e = cc
    loaded word.Copy e = cc
    loaded word.Take e = cc
    loaded word.Trivial e = cc
    loaded word.Init e = cc
    loaded word.Assign e = cc

    stored : (q : Qualifier) → Some (store_operation q) ≡ Some (Handed row) → ⊥
    stored word.Plain e = cc
    stored word.Copy e = cc
    stored word.Take e = cc
    stored word.Trivial e = cc
    stored word.Init e = cc
    stored word.Assign e = cc

    at : (k : AccessKind) → operation_by k q ≡ Some (Handed row) → ⊥
    at access.NoAccess e = none-some _ e
    at access.AllocatesSlot e = none-some _ e
    at access.AllocatesObject e = none-some _ e
    at access.DeallocatesSlot e = none-some _ e
    at access.LendsValue e = none-some _ e
    at access.Upcasts e = none-some _ e
    at access.LendsLocation e = cc
    at access.NamesField e = none-some _ e
    at access.NamesMember e = none-some _ e
    at access.NamesElement e = none-some _ e
    at access.Loads e = loaded q e
    at access.Stores e = stored q e
    at access.Destroys e = cc
    at access.Passes e = none-some _ e
