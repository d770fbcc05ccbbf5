-- What an accepted function's trails say of guards: operands are current where entries go along with the trail, what open scopes borrow doesn't end,
-- and neither an open scope nor an argument begins anew.
use Rattle.std.specs.Prelude.{◌≡◌, ℕ, List, ◌∷◌, true, false, Ok}
use Rattle.sil_cfg_items.specs.Items.{item_taken}
use Rattle.sil_cfg_items.specs.declared.taken.Taken.{Taken}
use Rattle.numbered_form.specs.Lists.{Each}
use Rattle.sil_ast.specs.declared.function.Function.{Function}
use Rattle.sil_ast.specs.declared.module.Module.{Module}
use Rattle.sil_ast.specs.declared.place.ValueId.{ValueId}
use Rattle.sil_cfg.specs.declared.item.Item.{Item}
use Rattle.sil_cfg.specs.declared.item.Item.TheVariants as item
use Rattle.sil_types_declarations.specs.TypeDefinitions.Declarations.{Declarations, declarations_of}
use Rattle.holder_model_values.specs.RunValues.Memory.{Memory}
use Rattle.numbered_form.specs.ValueTables.Borrows.{is_borrow}
use Rattle.sil_verifier_frames.specs.sil_verifier_trails.AcceptedTrails.inner.Defined.{IsDefinedOn, makes}
use Rattle.sil_verifier_frames.specs.sil_verifier_trails.AcceptedTrails.inner.Lives.{BorrowsFrom, IsOwnedIn}
use Rattle.sil_verifier_frames.specs.ownership_kinds_origins.Facts.{facts_in}
use Rattle.sil_verifier_frames.specs.sil_verifier_trails.RunTrails.inner.RunTrails.{IsTurnedTrail}
use Rattle.sil_verifier_frames.specs.sil_verifier_trails.HeldEntries.inner.Tracked.{AreTracked, IsOwnScope}
use Rattle.sil_verifier_frames.specs.sil_verifier_values.inner.Known.{IsAcceptedBody}
use Rattle.sil_verifier_frames.specs.holder_model.Data.{Datum}
use Rattle.sil_verifier_frames.specs.holder_model.Frames.{Entry, Lent, entry_at, without_ended}
use Rattle.sil_verifier_frames.specs.sil_verifier_trails.ScopedAddresses.inner.Addresses.{TakesAddressesInScopes}
use Rattle.sil_verifier_runs.specs.inner.Guarded.Guards.{IsArgument, IsCurrent, IsThere, Lending}

-- a value that is neither Owned nor a scope is there once the trail has made it
abbrev pub OthersAreThere : Declarations → Function → List Item → List Entry → Type 0
OthersAreThere d f t entries = (v : ValueId) → (IsOwnedIn d f v → ⊥) → (IsOwnScope d f v → ⊥) → IsDefinedOn f t v → IsThere (entry_at entries v)

-- the entries go along with the trail
pub record GoAlong (d : Declarations) (f : Function) (t : List Item) (entries : List Entry) : Type 0 where
  pub tracked : AreTracked d f t entries
  pub others : OthersAreThere d f t entries

-- each base of what the next item takes is there, and hasn't begun anew since
abbrev pub AreOperandsCurrent : Type 0
AreOperandsCurrent = (m : Module) (n : ℕ) (f : Function) → IsAcceptedBody m n f
    → (lends : Lending) (memory : Memory) (entries : List Entry) (t : List Item) (i : Item)
    → IsTurnedTrail f (i ∷ t) → GoAlong (declarations_of m) f t entries → TakesAddressesInScopes (declarations_of m) f t i
    → Each (λ (x : Taken). IsCurrent (declarations_of m) f lends memory entries t x.value) (item_taken f i)

-- what open scopes borrow is there behind the ends of the next item, where the scopes are
abbrev pub AreBorrowedKept : Type 0
AreBorrowedKept = (m : Module) (n : ℕ) (f : Function) → IsAcceptedBody m n f → (entries left : List Entry) (t : List Item) (i : Item)
    → IsTurnedTrail f (i ∷ t) → AreTracked (declarations_of m) f t entries → without_ended (facts_in (declarations_of m) f) (item_taken f i) entries ≡ Ok left
    → (s b : ValueId) (x : Datum) → is_borrow f s ≡ true → entry_at entries s ≡ Lent x → IsThere (entry_at left s) → BorrowsFrom (declarations_of m) f s b
    → IsThere (entry_at entries b) → IsThere (entry_at left b)

-- no scope that is open behind the ends of the next item begins with it
abbrev pub AreScopesNotRenewed : Type 0
AreScopesNotRenewed = (m : Module) (n : ℕ) (f : Function) → IsAcceptedBody m n f → (entries left : List Entry) (t : List Item) (i : Item)
    → IsTurnedTrail f (i ∷ t) → AreTracked (declarations_of m) f t entries → without_ended (facts_in (declarations_of m) f) (item_taken f i) entries ≡ Ok left
    → (s : ValueId) (x : Datum) → is_borrow f s ≡ true → entry_at left s ≡ Lent x → makes f s i ≡ false

-- the entry alone makes arguments
abbrev pub AreArgumentsOfEntry : Type 0
AreArgumentsOfEntry = (m : Module) (n : ℕ) (f : Function) → IsAcceptedBody m n f → (i : Item) → (i ≡ item.Entry → ⊥) → (v : ValueId) → IsArgument f v
    → makes f v i ≡ false
