-- While a scope is open what it borrows from neither ends nor begins: so it is in each accepted function.
use Rattle.std.specs.Prelude.{◌≡◌, List, true, Some}
use Rattle.sil_ast.specs.declared.function.Function.{Function}
use Rattle.sil_ast.specs.declared.place.ValueId.{ValueId}
use Rattle.sil_cfg.specs.declared.item.Item.{Item}
use Rattle.sil_verifier_trails.specs.AcceptedTrails.inner.Bases.{UsesBorrowed}
use Rattle.sil_verifier_trails.specs.AcceptedTrails.inner.Defined.{makes}
use Rattle.sil_verifier_trails.specs.AcceptedTrails.inner.Lives.{BorrowsFrom, IsOwnedIn, IsScopeIn, is_held, is_open}
use Rattle.sil_verifier_trails.specs.RunTrails.inner.RunTrails.{IsRunTrail, IsTurnedTrail}
use Rattle.sil_verifier_trails.specs.RunTrails.inner.Since.{is_none_since}
use Rattle.sil_verifier_values.specs.inner.Known.{InAccepted}

-- what opens a scope uses what the scope borrows from
abbrev pub AreBorrowedUsed : Type 0
AreBorrowedUsed = InAccepted (λ d f. UsesBorrowed d f)

-- it hasn't begun anew since the scope was opened
abbrev pub IsAsBorrowed : Function → List Item → ValueId → ValueId → Type 0
IsAsBorrowed f t b s = is_none_since (makes f b) (makes f s) t ≡ true

-- an Owned value that an open scope borrows is held, and is the one that was borrowed
abbrev pub AreHeldWhileBorrowed : Type 0
AreHeldWhileBorrowed = InAccepted (λ d f. (s b : ValueId) → IsScopeIn d f s → IsOwnedIn d f b → BorrowsFrom d f s b
    → (t : List Item) → IsTurnedTrail f t → is_open d f s t ≡ Some true → (is_held d f b t ≡ Some true) × IsAsBorrowed f t b s)

-- a scope from which an open one borrows is open, and is the one from which it borrowed
abbrev pub AreOpenWhileBorrowed : Type 0
AreOpenWhileBorrowed = InAccepted (λ d f. (s b : ValueId) → IsScopeIn d f s → IsScopeIn d f b → BorrowsFrom d f s b
    → (t : List Item) → IsTurnedTrail f t → is_open d f s t ≡ Some true → (is_open d f b t ≡ Some true) × IsAsBorrowed f t b s)

-- nothing from which an open scope borrows has begun anew since the scope was opened
abbrev pub AreBasesAsBorrowed : Type 0
AreBasesAsBorrowed = InAccepted (λ d f. (s b : ValueId) → IsScopeIn d f s → BorrowsFrom d f s b
    → (t : List Item) → IsRunTrail f t → is_open d f s t ≡ Some true → IsAsBorrowed f t b s)
